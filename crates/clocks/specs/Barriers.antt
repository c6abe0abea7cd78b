use Rattle.std.specs.Prelude.{◌≡◌, ℕ, ◌+◌, ◌-◌, ◌<◌, Bool, cond, ◌&&◌, Some, None, Option, ◌==◌}
use Rattle.std.proofs.Common.{arith}
use Rattle.std.proofs.lemmas.Bool.{cond_both}
use Rattle.clocks.specs.Making.{in_range}
use Rattle.clocks.specs.Turns.{turned, turned_below}
use Rattle.clocks.specs.declared.barrier.Barrier.{Barrier}
use Rattle.clocks.specs.declared.refusal.ClockRefusal.{ClockRefusal}
use Rattle.clocks.specs.declared.refusal.ClockRefusal.TheVariants.{OutOfRange}

-- shifts at the latency-th empty cycle running
abbrev pub barrier_shifts : Barrier → Bool → Bool
barrier_shifts b empty = empty && b.run + 1 == b.latency

-- the empty cycles running so far: a busy cycle or a shift restarts the count
abbrev pub run_after : Barrier → Bool → ℕ
run_after b empty = cond empty (turned b.latency b.run) 0

-- fewer than the latency, as the ghost field asks
pub run_below : (b : Barrier) (empty : Bool) → run_after b empty < b.latency
run_below b empty =
    cond_both empty (turned b.latency b.run) 0 (λ n. n < b.latency) (λ _. turned_below b.latency b.run b.ok.1) (λ _. omega arith)

-- what it holds once it was told
abbrev pub barrier_told : Barrier → Bool → Barrier
barrier_told b empty = record { latency = b.latency; run = run_after b empty; ok = (b.ok.0, run_below b empty) }

-- its lag is the latency
abbrev pub barrier_lag : Barrier → ℕ
barrier_lag b = b.latency

-- the empty cycles running that it still waits for
abbrev pub barrier_left : Barrier → ℕ
barrier_left b = b.latency - b.run

-- a latency is from 1 to 64
abbrev pub barrier_refusal : ℕ → Option ClockRefusal
barrier_refusal latency = cond (in_range latency 64) None (Some OutOfRange)

-- just made: no empty cycle so far
abbrev pub FreshBarrier : ℕ → Barrier → Type 0
FreshBarrier latency b = (b.latency ≡ latency) × (b.run ≡ 0)
