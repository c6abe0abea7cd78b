use Rattle.std.proofs.Common.{rules}
use Rattle.sources.proofs.Offering.{accepted_sound, refused_same, refused_sound}
use Rattle.sources.proofs.feed.Source.offer.Goals as goal

pub invariant_of-self : goal.invariant_of-self
invariant_of-self c =
    rw (c.from.ensures, c.from-in-Ok.ensures)
    (accepted_sound c.self.invariant c.args.size c.in-Ok.frame c.offer.new.self c.in-Ok.ensures.answer c.offer.ensures.leaves c.offer.ensures.sound c.head.result c.head.ensures.value)

pub returns-in-Ok-clause-sound : goal.returns-in-Ok-clause-sound
returns-in-Ok-clause-sound c = invariant_of-self c

pub invariant_of-self-in-Err-WindowSpent : goal.invariant_of-self-in-Err-WindowSpent
invariant_of-self-in-Err-WindowSpent c = refused_sound c.self.invariant c.args.size _ _ c.in-Err-WindowSpent.ensures.answer c.offer.ensures.leaves _

pub returns-in-Err-WindowSpent-clause-sound : goal.returns-in-Err-WindowSpent-clause-sound
returns-in-Err-WindowSpent-clause-sound c = invariant_of-self-in-Err-WindowSpent c

pub invariant_of-self-in-Err : goal.invariant_of-self-in-Err
invariant_of-self-in-Err c = refused_sound c.self.invariant c.args.size _ _ c.in-Err.ensures.answer c.offer.ensures.leaves _

pub returns-in-Err-clause-state : goal.returns-in-Err-clause-state
returns-in-Err-clause-state c =
    let same = refused_same c.self.inside.account c.offer.new.self c.args.size _ c.in-Err.ensures.answer c.offer.ensures.leaves in
    search rules

pub returns-in-Err-clause-sound : goal.returns-in-Err-clause-sound
returns-in-Err-clause-sound c = invariant_of-self-in-Err c
