use Rattle.std.proofs.Common.{rules}
use Rattle.folds.proofs.Filled.{filled_none, filled_more}
use Rattle.network.proofs.Starting.{marks_end}
use Rattle.network.proofs.fabric.holding.mark_channels.Goals as goal

pub loop-channel-init : goal.loop-channel-init
loop-channel-init c = search (rules, filled_none)

pub loop-channel-preserved : goal.loop-channel-preserved
loop-channel-preserved c = search (rules, filled_more)

pub returns : goal.returns
returns c = search (rules, marks_end)
