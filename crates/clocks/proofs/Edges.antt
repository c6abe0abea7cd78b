use Rattle.std.proofs.Common.{true, false, [], ◌∷◌, ap, ◌∙◌, lit<, lit≤}
use Rattle.clocks.specs.Barriers.{barrier_shifts, barrier_told}
use Rattle.clocks.specs.Edges.{BarrierOfTwo, TimerOfThree, TwoOverTwo}
use Rattle.clocks.specs.Runs.{answers}
use Rattle.clocks.specs.Samples.{sampled_shifts, sampled_told}
use Rattle.clocks.specs.Timers.{timer_shifts, timer_told}
use Rattle.clocks.specs.declared.barrier.Barrier.{Barrier}
use Rattle.clocks.specs.declared.sampled.Sampled.{Sampled}
use Rattle.clocks.specs.declared.timer.Timer.{Timer}
use Rattle.clocks.proofs.Same.{same_barrier, same_timer, same_sampled}

abbrev two : Barrier
two = record { latency = 2; run = 0; ok = (lit≤ tt, lit< tt) }

abbrev three : Timer
three = record { period = 3; since = 0; ok = lit< tt }

abbrev over_two : Sampled Barrier
over_two = record { below = two; period = 2; since = 0; ok = (lit≤ tt, lit< tt) }

pub barrier_of_two : BarrierOfTwo
barrier_of_two b fresh = ap (λ x. answers barrier_shifts barrier_told x (false ∷ true ∷ true ∷ [])) (same_barrier b two fresh.0 fresh.1)

pub timer_of_three : TimerOfThree
timer_of_three t fresh = ap (λ x. answers timer_shifts timer_told x (false ∷ false ∷ false ∷ true ∷ [])) (same_timer t three fresh.0 fresh.1)

pub two_over_two : TwoOverTwo
two_over_two b s fresh over =
    ap (λ x. answers (sampled_shifts barrier_shifts) (sampled_told barrier_told) x (true ∷ true ∷ true ∷ true ∷ []))
    (same_sampled s over_two (over.0 ∙ same_barrier b two fresh.0 fresh.1) over.1 over.2)
