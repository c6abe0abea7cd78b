use mathlib.Core.HLevel.{is_prop→PathP, ×_prop}
use Rattle.std.proofs.Common.{◌≡◌, ◌<◌, ◌≤◌}
use native.Mathlib.Bridge.{le_prop}
use Rattle.clocks.specs.declared.barrier.Barrier.{Barrier}
use Rattle.clocks.specs.declared.sampled.Sampled.{Sampled}
use Rattle.clocks.specs.declared.timer.Timer.{Timer}

-- clocks with the same numbers are the same: what their ghost fields say has one proof
pub same_barrier : (a b : Barrier) → a.latency ≡ b.latency → a.run ≡ b.run → a ≡ b
same_barrier a b p q = λ i. record {
  latency = p i;
  run = q i;
  ok = is_prop→PathP (λ i. (p i ≤ 64) × (q i < p i)) (λ i. ×_prop le_prop le_prop) a.ok b.ok i;
}

pub same_timer : (a b : Timer) → a.period ≡ b.period → a.since ≡ b.since → a ≡ b
same_timer a b p q = λ i. record {
  period = p i;
  since = q i;
  ok = is_prop→PathP (λ i. q i < p i) (λ i. le_prop) a.ok b.ok i;
}

pub same_sampled : {C : Type 0} (a b : Sampled C) → a.below ≡ b.below → a.period ≡ b.period → a.since ≡ b.since → a ≡ b
same_sampled a b r p q = λ i. record {
  below = r i;
  period = p i;
  since = q i;
  ok = is_prop→PathP (λ i. (p i ≤ 64) × (q i < p i)) (λ i. ×_prop le_prop le_prop) a.ok b.ok i;
}
