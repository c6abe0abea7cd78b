use Rattle.std.proofs.Common.{rules}
use Rattle.plan.proofs.Reserving.{load_passes, load_refuses, load_end}
use Rattle.plan.proofs.table.Plan.check_load.Goals as goal

pub returns-then-load-slots : goal.returns-then-load-slots
returns-then-load-slots c = search (rules, load_refuses)

pub loop-channel-preserved : goal.loop-channel-preserved
loop-channel-preserved c = search (rules, load_passes)

pub returns : goal.returns
returns c = search (rules, load_end)
