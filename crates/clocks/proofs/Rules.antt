use Rattle.std.proofs.Common.{◌≡◌, ℕ, zero, suc, ◌+◌, ◌-◌, Bool, true, false, cond, ◌&&◌, eqb, leb, List, [], ◌∷◌, ◌++◌, length, replicate, refl, ap, ◌∙◌, arith}
use Rattle.std.proofs.lemmas.Bool.{eq-eqb, ne_eqb, le-leb, lt-leb, and_parts}
use Rattle.clocks.specs.Barriers.{barrier_shifts, barrier_told}
use Rattle.clocks.specs.Rules.{BarrierRule, TimerRule, SampledRule}
use Rattle.clocks.specs.Runs.{answers, after, stays_then}
use Rattle.clocks.specs.Samples.{sampled_shifts, sampled_told}
use Rattle.clocks.specs.Timers.{timer_due, timer_shifts, timer_told}
use Rattle.clocks.specs.declared.barrier.Barrier.{Barrier}
use Rattle.clocks.specs.declared.sampled.Sampled.{Sampled}
use Rattle.clocks.specs.declared.timer.Timer.{Timer}

barrier_runs : (n : ℕ) (b : Barrier) → b.run + suc n ≡ b.latency → answers barrier_shifts barrier_told b (replicate (suc n) true) ≡ stays_then n true
barrier_runs zero b h = ap (λ t. t ∷ []) (eq-eqb (b.run + 1) b.latency (omega arith))
barrier_runs (suc n) b h =
    let e : eqb (b.run + 1) b.latency ≡ false = ne_eqb (b.run + 1) b.latency (λ q. omega arith) in
    let r : (barrier_told b true).run ≡ b.run + 1 = ap (λ t. cond t 0 (b.run + 1)) e in
    let ih = barrier_runs n (barrier_told b true) (omega arith) in
    λ i. e i ∷ ih i

pub barrier_rule : BarrierRule
barrier_rule = record {
  runs = λ b h. let q : b.latency ≡ suc (b.latency - 1) = omega arith in ap (λ n. answers barrier_shifts barrier_told b (replicate n true)) q ∙ barrier_runs (b.latency - 1) b (omega arith);
  busy = λ b. refl;
  shift = λ b h. ap (λ t. cond t 0 (b.run + 1)) h;
}

-- once the period is due, the first empty cycle shifts
timer_late : (n : ℕ) (t : Timer) → t.since + 1 ≡ t.period → answers timer_shifts timer_told t (stays_then n true) ≡ stays_then n true
timer_late zero t h = ap (λ d. (d && true) ∷ []) (le-leb t.period (t.since + 1) (omega arith))
timer_late (suc n) t h =
    let e : leb t.period (t.since + 1) ≡ true = le-leb t.period (t.since + 1) (omega arith) in
    let s : (timer_told t false).since ≡ t.since = ap (λ d. cond d t.since (t.since + 1)) e in
    let ih = timer_late n (timer_told t false) (ap (λ k. k + 1) s ∙ h) in
    λ i. (e i && false) ∷ ih i

timer_counts : (early : List Bool) (n : ℕ) (t : Timer) → t.since + (length early + 1) ≡ t.period →
    answers timer_shifts timer_told t (early ++ stays_then n true) ≡ stays_then (length early + n) true
timer_counts [] n t h = timer_late n t (omega arith) ∙ ap (λ k. stays_then k true) (let q : n ≡ 0 + n = omega arith in q)
timer_counts (x ∷ early) n t h =
    let e : leb t.period (t.since + 1) ≡ false = lt-leb t.period (t.since + 1) (omega arith) in
    let s : (timer_told t x).since ≡ t.since + 1 = ap (λ d. cond d (cond x 0 t.since) (t.since + 1)) e in
    let ih = timer_counts early n (timer_told t x) (omega arith) in
    let q : suc (length early + n) ≡ suc (length early) + n = omega arith in
    (λ i. (e i && x) ∷ ih i) ∙ ap (λ k. stays_then k true) q

pub timer_rule : TimerRule
timer_rule = record {
  counts = λ t h early l busy. timer_counts early busy t (omega arith);
  shift = λ t h. ap (λ d. cond d 0 (t.since + 1)) (and_parts (timer_due t) true h).0;
}

module _ {C : Type 0} (shifts : C → Bool → Bool) (told : C → Bool → C) where
  abbrev AtLast : Sampled C → List Bool → Bool → Type 0
  AtLast s skipped last =
      (answers (sampled_shifts shifts) (sampled_told told) s (skipped ++ last ∷ []) ≡ stays_then (length skipped) (shifts s.below last))
      × ((after (sampled_told told) s (skipped ++ last ∷ [])).below ≡ told s.below last)
      × ((after (sampled_told told) s (skipped ++ last ∷ [])).since ≡ 0)

  at_last : (skipped : List Bool) (last : Bool) (s : Sampled C) → s.since + (length skipped + 1) ≡ s.period → AtLast s skipped last
  at_last [] last s h =
      let e : eqb (s.since + 1) s.period ≡ true = eq-eqb (s.since + 1) s.period (omega arith) in (
        ap (λ d. (d && shifts s.below last) ∷ []) e,
        ap (λ d. cond d (told s.below last) s.below) e,
        ap (λ d. cond d 0 (s.since + 1)) e,
      )
  at_last (x ∷ skipped) last s h =
      let e : eqb (s.since + 1) s.period ≡ false = ne_eqb (s.since + 1) s.period (λ q. omega arith) in
      let k : (sampled_told told s x).since ≡ s.since + 1 = ap (λ d. cond d 0 (s.since + 1)) e in
      let b : (sampled_told told s x).below ≡ s.below = ap (λ d. cond d (told s.below x) s.below) e in
      let ih = at_last skipped last (sampled_told told s x) (omega arith) in (
        (λ i. (e i && shifts s.below x) ∷ (ih.0 ∙ ap (λ c. stays_then (length skipped) (shifts c last)) b) i),
        ih.1 ∙ ap (λ c. told c last) b,
        ih.2,
      )

  pub sampled_rule : SampledRule shifts told
  sampled_rule = record {
    answer = λ s h skipped last l. (at_last skipped last s (omega arith)).0;
    below = λ s h skipped last l. (at_last skipped last s (omega arith)).1;
    again = λ s h skipped last l. (at_last skipped last s (omega arith)).2;
  }
