use Rattle.std.proofs.Common.{◌≡◌, None}
use Rattle.folds.specs.Filled.{filled}
use Rattle.running.specs.Grants.{grant_at, arbiter_at}
use Rattle.network.specs.Floors.{net_of}
use Rattle.network.proofs.granting.grant_all.Given as goal

abbrev pub invariant-loop-channel : goal.invariant-loop-channel
invariant-loop-channel g l =
    let n = net_of l.fabric.floor in
    let held = arbiter_at g.A.Arbiter n l.initial.arbiter in
    (l.grant-items ≡ filled (λ c. grant_at g.A.Arbiter n (held c) c) None l.channel 320) × (l.arbiter ≡ held l.channel)
