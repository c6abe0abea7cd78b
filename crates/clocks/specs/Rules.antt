use Rattle.std.specs.Prelude.{◌≡◌, ℕ, ◌+◌, ◌-◌, Bool, true, false, List, [], ◌∷◌, ◌++◌, length, replicate}
use Rattle.clocks.specs.Barriers.{barrier_shifts, barrier_told}
use Rattle.clocks.specs.Runs.{answers, after, stays_then}
use Rattle.clocks.specs.Samples.{sampled_shifts, sampled_told}
use Rattle.clocks.specs.Timers.{timer_shifts, timer_told}
use Rattle.clocks.specs.declared.barrier.Barrier.{Barrier}
use Rattle.clocks.specs.declared.sampled.Sampled.{Sampled}
use Rattle.clocks.specs.declared.timer.Timer.{Timer}

-- the barrier: of S empty cycles running it shifts at the last, and a busy cycle or a shift restarts the count
pub record BarrierRule : Type 0 where
  pub runs : (b : Barrier) → b.run ≡ 0 → answers barrier_shifts barrier_told b (replicate b.latency true) ≡ stays_then (b.latency - 1) true
  pub busy : (b : Barrier) → (barrier_told b false).run ≡ 0
  pub shift : (b : Barrier) → barrier_shifts b true ≡ true → (barrier_told b true).run ≡ 0

-- the timer: after E − 1 cycles of any kind and any number of busy ones it shifts at the first empty one, and counts anew from there
pub record TimerRule : Type 0 where
  pub counts : (t : Timer) → t.since ≡ 0 → (early : List Bool) → length early + 1 ≡ t.period → (busy : ℕ) →
      answers timer_shifts timer_told t (early ++ stays_then busy true) ≡ stays_then (length early + busy) true
  pub shift : (t : Timer) → timer_shifts t true ≡ true → (timer_told t true).since ≡ 0

-- the sampled clock: of N cycles the clock below is told the last, and the answer is its answer; so on with the next N
pub record SampledRule {C : Type 0} (shifts : C → Bool → Bool) (told : C → Bool → C) : Type 0 where
  pub answer : (s : Sampled C) → s.since ≡ 0 → (skipped : List Bool) (last : Bool) → length skipped + 1 ≡ s.period →
      answers (sampled_shifts shifts) (sampled_told told) s (skipped ++ last ∷ []) ≡ stays_then (length skipped) (shifts s.below last)
  pub below : (s : Sampled C) → s.since ≡ 0 → (skipped : List Bool) (last : Bool) → length skipped + 1 ≡ s.period →
      (after (sampled_told told) s (skipped ++ last ∷ [])).below ≡ told s.below last
  pub again : (s : Sampled C) → s.since ≡ 0 → (skipped : List Bool) (last : Bool) → length skipped + 1 ≡ s.period →
      (after (sampled_told told) s (skipped ++ last ∷ [])).since ≡ 0
