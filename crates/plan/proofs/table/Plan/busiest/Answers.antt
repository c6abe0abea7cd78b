use Rattle.std.proofs.Common.{rules}
use Rattle.plan.proofs.Figures.{heaviest_none, heaviest_takes, heaviest_keeps}
use Rattle.plan.proofs.table.Plan.busiest.Goals as goal

pub loop-channel-init : goal.loop-channel-init
loop-channel-init c = search (rules, heaviest_none)

pub loop-channel-preserved : goal.loop-channel-preserved
loop-channel-preserved c = search (rules, heaviest_takes, heaviest_keeps)
