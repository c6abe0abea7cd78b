use Rattle.std.proofs.Common.{rules}
use Rattle.clocks.specs.Products.{product_small}
use Rattle.clocks.proofs.Liveness.{shifts_in_time}
use Rattle.clocks.proofs.sampled.Sampled.new.Goals as goal

pub overflow_mul-period : goal.overflow_mul-period
overflow_mul-period g c = search (rules, product_small)

pub returns-then-not-contains-clause-in_time : goal.returns-then-not-contains-clause-in_time
returns-then-not-contains-clause-in_time g c = let met = g.met.C.WindowClock in shifts_in_time g.C.WindowClock met.positive met.falls met.within

pub returns-then-period-lag-gt-LONGEST_LAG-clause-in_time : goal.returns-then-period-lag-gt-LONGEST_LAG-clause-in_time
returns-then-period-lag-gt-LONGEST_LAG-clause-in_time g c = let met = g.met.C.WindowClock in shifts_in_time g.C.WindowClock met.positive met.falls met.within

pub returns-clause-in_time : goal.returns-clause-in_time
returns-clause-in_time g c = let met = g.met.C.WindowClock in shifts_in_time g.C.WindowClock met.positive met.falls met.within
