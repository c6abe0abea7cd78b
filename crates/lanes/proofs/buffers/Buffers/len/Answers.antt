use Rattle.std.proofs.Common.{rules}
use Rattle.lanes.proofs.Held.{lane_none, lane_read}
use Rattle.lanes.proofs.buffers.Buffers.len.Goals as goal

pub returns-in_default-clause-value : goal.returns-in_default-clause-value
returns-in_default-clause-value c = search (rules, lane_none)

pub returns-clause-value : goal.returns-clause-value
returns-clause-value c = search (rules, lane_read)
