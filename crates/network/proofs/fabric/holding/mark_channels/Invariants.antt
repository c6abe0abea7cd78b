use Rattle.std.proofs.Common.{◌≡◌, false, ltb}
use Rattle.folds.specs.Filled.{filled}
use Rattle.plan.specs.Tables.{load}
use Rattle.network.proofs.fabric.holding.mark_channels.Given as goal

abbrev pub invariant-loop-channel : goal.invariant-loop-channel
invariant-loop-channel l = l.used-items ≡ filled (λ c. ltb 0 (load l.plan.flows c)) false l.channel 320
