use Rattle.std.specs.Prelude.{◌≡◌, ℕ, ◌+◌, ◌-◌, ◌<◌, Bool, cond, ◌&&◌, Some, None, Option, nat_le}
use Rattle.std.proofs.Common.{arith}
use Rattle.std.proofs.lemmas.Bool.{cond_both, leb-false}
use Rattle.clocks.specs.Making.{in_range}
use Rattle.clocks.specs.declared.refusal.ClockRefusal.{ClockRefusal}
use Rattle.clocks.specs.declared.refusal.ClockRefusal.TheVariants.{OutOfRange}
use Rattle.clocks.specs.declared.timer.Timer.{Timer}

-- this cycle is the period-th since the last shift, or a later one
abbrev pub timer_due : Timer → Bool
timer_due t = nat_le t.period (t.since + 1)

-- shifts in the period-th cycle, or in the first empty one after it; told busy it stays
abbrev pub timer_shifts : Timer → Bool → Bool
timer_shifts t empty = timer_due t && empty

-- the cycles since the last shift, counted until the period-th is due
abbrev pub since_after : Timer → Bool → ℕ
since_after t empty = cond (timer_due t) (cond empty 0 t.since) (t.since + 1)

-- fewer than the period, as the ghost field asks
pub since_below : (t : Timer) (empty : Bool) → since_after t empty < t.period
since_below t empty =
    cond_both (timer_due t) (cond empty 0 t.since) (t.since + 1) (λ n. n < t.period)
    (λ _. cond_both empty 0 t.since (λ n. n < t.period) (λ _. omega arith) (λ _. t.ok))
    (λ e. omega (arith, leb-false t.period (t.since + 1) e))

-- what it holds once it was told
abbrev pub timer_told : Timer → Bool → Timer
timer_told t empty = record { period = t.period; since = since_after t empty; ok = since_below t empty }

-- its lag is the period
abbrev pub timer_lag : Timer → ℕ
timer_lag t = t.period

-- the cycles until one that may shift, that one among them
abbrev pub timer_left : Timer → ℕ
timer_left t = t.period - t.since

-- a period is from 1 to 65,535
abbrev pub timer_refusal : ℕ → Option ClockRefusal
timer_refusal period = cond (in_range period 65535) None (Some OutOfRange)

-- just made: no cycle so far
abbrev pub FreshTimer : ℕ → Timer → Type 0
FreshTimer period t = (t.period ≡ period) × (t.since ≡ 0)
