use Rattle.std.proofs.Common.{◌≡◌, ◌-◌}
use Rattle.plan.specs.Sheets.{channel_load, heaviest}
use Rattle.plan.specs.Tables.{load}
use Rattle.plan.proofs.table.Plan.busiest.Given as goal

abbrev pub invariant-loop-channel : goal.invariant-loop-channel
invariant-loop-channel l = l.most ≡ channel_load (load l.self.flows) (heaviest (load l.self.flows) (l.channel - 1))
