use Rattle.std.proofs.Common.{◌≤◌, length, refl, arith}
use Rattle.std.proofs.lemmas.List.Elements.{All-replicate}
use Rattle.lanes.proofs.Held.{lane_empty}
use Rattle.lanes.proofs.buffers.Buffers.new.Goals as goal

pub returns-clause-state : goal.returns-clause-state
returns-clause-state c = lane_empty _ _ c.new.ensures refl

pub invariant_of-result-clause-few : goal.invariant_of-result-clause-few
invariant_of-result-clause-few c = All-replicate (λ lane. length lane ≤ 8) 2560 c.new.result (rw c.new.ensures (omega arith))
