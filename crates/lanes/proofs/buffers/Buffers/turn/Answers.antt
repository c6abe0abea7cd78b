use Rattle.std.proofs.Common.{rules}
use Rattle.lanes.specs.Rings.{lane_of}
use Rattle.lanes.proofs.Rings.{queue_turned}
use Rattle.lanes.proofs.buffers.Buffers.turn.Goals as goal

pub returns-clause-state : goal.returns-clause-state
unfolding lane_of
returns-clause-state c = search (rules, queue_turned)
