use Rattle.std.proofs.Common.{rules}
use Rattle.clocks.specs.Products.{product_small, product_told}
use Rattle.clocks.proofs.sampled.SampledWindowClock.lag.Goals as goal

pub overflow_mul-from : goal.overflow_mul-from
overflow_mul-from g c = search (rules, product_small)

pub returns : goal.returns
returns g c = search (rules, product_told)
