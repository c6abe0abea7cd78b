use Rattle.std.proofs.Common.{rules}
use Rattle.lanes.proofs.Held.{lane_none, lane_read}
use Rattle.lanes.proofs.buffers.Buffers.front.Goals as goal

pub returns-in_err-place : goal.returns-in_err-place
returns-in_err-place c = search (rules, lane_none)

pub returns : goal.returns
returns c = search (rules, lane_read)
