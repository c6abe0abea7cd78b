use Rattle.std.proofs.Common.{rules}
use Rattle.clocks.proofs.Same.{same_timer}
use Rattle.clocks.proofs.timer.TimerWindowClock.tick.Goals as goal

pub returns-then-self : goal.returns-then-self
returns-then-self c = search (rules, same_timer)

pub returns-then-empty : goal.returns-then-empty
returns-then-empty c = search (rules, same_timer)

pub returns-else-empty : goal.returns-else-empty
returns-else-empty c = search (rules, same_timer)
