use Rattle.std.proofs.Common.{rules}
use Rattle.folds.proofs.Filled.{filled_none}
use Rattle.network.proofs.Requesting.{requesters_all, requester_in, requester_out}
use Rattle.network.proofs.floor.Floor.requesters.Goals as goal

pub loop-flow-init : goal.loop-flow-init
loop-flow-init c = search (rules, filled_none)

pub loop-flow-preserved : goal.loop-flow-preserved
loop-flow-preserved c = search (rules, requester_in, requester_out, c.flow_count-flow-end.ensures)

pub returns : goal.returns
returns c = search (rules, requesters_all, c.flow_count-flow-end.ensures)
