use Rattle.std.specs.Prelude.{◌≡◌, true, false, [], ◌∷◌}
use Rattle.clocks.specs.Barriers.{barrier_shifts, barrier_told, FreshBarrier}
use Rattle.clocks.specs.Runs.{answers}
use Rattle.clocks.specs.Samples.{sampled_shifts, sampled_told, FreshSampled}
use Rattle.clocks.specs.Timers.{timer_shifts, timer_told, FreshTimer}
use Rattle.clocks.specs.declared.barrier.Barrier.{Barrier}
use Rattle.clocks.specs.declared.sampled.Sampled.{Sampled}
use Rattle.clocks.specs.declared.timer.Timer.{Timer}

-- a barrier of latency 2, told busy, empty, empty, shifts at the third
abbrev pub BarrierOfTwo : Type 0
BarrierOfTwo = (b : Barrier) → FreshBarrier 2 b → answers barrier_shifts barrier_told b (false ∷ true ∷ true ∷ []) ≡ false ∷ false ∷ true ∷ []

-- a timer of period 3, told busy three times and then empty, shifts at the fourth
abbrev pub TimerOfThree : Type 0
TimerOfThree =
    (t : Timer) → FreshTimer 3 t → answers timer_shifts timer_told t (false ∷ false ∷ false ∷ true ∷ []) ≡ false ∷ false ∷ false ∷ true ∷ []

-- a clock of period 2 over a barrier of latency 2 shifts at the fourth empty cycle
abbrev pub TwoOverTwo : Type 0
TwoOverTwo =
    (b : Barrier) (s : Sampled Barrier) → FreshBarrier 2 b → FreshSampled 2 b s →
    answers (sampled_shifts barrier_shifts) (sampled_told barrier_told) s (true ∷ true ∷ true ∷ true ∷ []) ≡ false ∷ false ∷ false ∷ true ∷ []
