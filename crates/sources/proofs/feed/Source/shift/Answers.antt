use Rattle.std.proofs.Common.{◌≡◌, arith, rules}
use Rattle.accounts.specs.Shifts.{shifted}
use Rattle.sources.proofs.Leaving.{shifted_sound}
use Rattle.sources.proofs.feed.Source.shift.Goals as goal

pub invariant_of-self-2 : goal.invariant_of-self-2
invariant_of-self-2 c =
    let m : c.shift.new.self ≡ shifted c.self.inside.account = search rules in
    shifted_sound c.self.invariant _ m c.shift.ensures.sound (omega arith) _ c.rotate_left.ensures.after

pub returns-clause-sound : goal.returns-clause-sound
returns-clause-sound c = invariant_of-self-2 c
