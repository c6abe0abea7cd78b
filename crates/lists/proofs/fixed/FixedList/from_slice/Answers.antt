use Rattle.std.proofs.Common.{arith, rules}
use Rattle.lists.proofs.Places.{filled-front}
use Rattle.lists.proofs.fixed.FixedList.from_slice.Goals as goal

-- the items stand in front of blanks
pub invariant_of-result : goal.invariant_of-result
invariant_of-result g c = rw c.blank-places.ensures (filled-front _ _ (search rules) (omega arith))
