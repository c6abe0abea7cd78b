use Rattle.std.proofs.Common.{◌≡◌, map, take}
use Rattle.plan.specs.Sheets.{flow_figures}
use Rattle.plan.proofs.table.Plan.lines.Given as goal

abbrev pub invariant-loop-row : goal.invariant-loop-row
invariant-loop-row l = l.lines ≡ map (flow_figures l.window) (take l.row-index l.row-items)
