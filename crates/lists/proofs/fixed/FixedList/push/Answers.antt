use Rattle.std.proofs.Common.{arith}
use Rattle.lists.proofs.Places.{filled-set}
use Rattle.lists.proofs.fixed.FixedList.push.Goals as goal

-- the item comes into the first blank place
pub invariant_of-self : goal.invariant_of-self
invariant_of-self g c = filled-set _ _ c.self.invariant (omega arith) (omega arith)
