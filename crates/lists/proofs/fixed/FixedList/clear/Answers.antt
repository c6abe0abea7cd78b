use Rattle.lists.proofs.Places.{filled-none}
use Rattle.lists.proofs.fixed.FixedList.clear.Goals as goal

-- every item's place is passed
pub invariant_of-self : goal.invariant_of-self
invariant_of-self g c = filled-none _ _ c.self.invariant c.loop-place.auto.place-items c.loop-place.auto.place-index-end c.loop-place-test.false c.loop-place.invariant
