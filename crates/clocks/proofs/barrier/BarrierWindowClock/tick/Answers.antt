use Rattle.std.proofs.Common.{rules}
use Rattle.clocks.proofs.Same.{same_barrier}
use Rattle.clocks.proofs.barrier.BarrierWindowClock.tick.Goals as goal

pub returns-then-not-empty : goal.returns-then-not-empty
returns-then-not-empty c = search (rules, same_barrier)

pub returns-then-self : goal.returns-then-self
returns-then-self c = search (rules, same_barrier)

pub returns : goal.returns
returns c = search (rules, same_barrier)
