use Rattle.std.specs.Prelude.{◌≡◌, ℕ, ◌+◌, ◌-◌, ◌*◌, Bool, cond, ◌&&◌, Some, None, Option, ◌==◌, nat_le}
use Rattle.clocks.specs.Making.{in_range}
use Rattle.clocks.specs.Turns.{turned, turned_below}
use Rattle.clocks.specs.declared.refusal.ClockRefusal.{ClockRefusal}
use Rattle.clocks.specs.declared.refusal.ClockRefusal.TheVariants.{OutOfRange, LagTooLong}
use Rattle.clocks.specs.declared.sampled.Sampled.{Sampled}

-- a period is from 1 to 64, and then the lag at most 4,194,304
abbrev pub sampled_refusal : ℕ → ℕ → Option ClockRefusal
sampled_refusal period lag = cond (in_range period 64) (cond (nat_le (period * lag) 4194304) None (Some LagTooLong)) (Some OutOfRange)

module _ {C : Type 0} where
  -- in every period-th cycle, counted from the making, the clock below is told
  abbrev pub sampled_due : Sampled C → Bool
  sampled_due s = s.since + 1 == s.period

  -- then its answer is the answer; in between it stays
  abbrev pub sampled_shifts : (C → Bool → Bool) → Sampled C → Bool → Bool
  sampled_shifts shifts s empty = sampled_due s && shifts s.below empty

  -- what it holds once it was told
  abbrev pub sampled_told : (C → Bool → C) → Sampled C → Bool → Sampled C
  sampled_told told s empty = record {
    below = cond (sampled_due s) (told s.below empty) s.below;
    period = s.period;
    since = turned s.period s.since;
    ok = (s.ok.0, turned_below s.period s.since s.ok.1);
  }

  -- its lag is the period times the one below
  abbrev pub sampled_lag : (C → ℕ) → Sampled C → ℕ
  sampled_lag lag s = s.period * lag s.below

  -- a turn for each that is left below, less the cycles of this turn so far
  abbrev pub sampled_left : (C → ℕ) → Sampled C → ℕ
  sampled_left left s = s.period * left s.below - s.since

  -- just made over that clock: no cycle so far
  abbrev pub FreshSampled : ℕ → C → Sampled C → Type 0
  FreshSampled period below s = (s.below ≡ below) × (s.period ≡ period) × (s.since ≡ 0)
