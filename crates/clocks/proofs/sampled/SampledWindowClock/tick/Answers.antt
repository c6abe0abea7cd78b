use Rattle.std.proofs.Common.{refl, rules}
use Rattle.clocks.proofs.Same.{same_sampled}
use Rattle.clocks.proofs.sampled.SampledWindowClock.tick.Goals as goal

pub returns-then-self : goal.returns-then-self
returns-then-self g c = record { answer = search rules; state = same_sampled _ _ (search rules) refl (search rules) }

pub returns : goal.returns
returns g c = record { answer = search rules; state = same_sampled _ _ (search rules) refl (search rules) }
