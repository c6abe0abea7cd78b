-- The turns of a bounded run.
use Rattle.std.proofs.Common.{◌≡◌, ℕ, zero, suc, ◌+◌, ◌-◌, ◌<◌, ◌≤◌, Bool, true, false, cond, ◌||◌, eqb, sym, refl, ap, ◌∙◌, subst, add-one, arith}
use Rattle.std.proofs.lemmas.Bool.{eq-eqb, ne_eqb, eqb-true, eqb-false, or_left, or_parts}
use Rattle.arbiters.specs.declared.arbiter.Arbiter as arbiter
use Rattle.clocks.specs.declared.clock.WindowClock as clock
use Rattle.running.specs.Cycles.{Run, cycled, run_over}
use Rattle.running.specs.Runs.{nothing_held, after_cycles, cycles_made, run_leaves, run_ending, run_answer, Ended, Ran}
use Rattle.running.specs.declared.ending.Ending.{Ending}
use Rattle.running.specs.declared.ending.Ending.TheVariants.{Empty, Spent, Over}

module _ {A C : Type 0} (arbiters : arbiter.Ghosts A) (clocks : clock.Ghosts C) where
  abbrev stops : Run A C → Bool
  stops r = nothing_held r.net || run_over r.net

  -- one cycle more at the end of so many
  after_suc : (k : ℕ) (r : Run A C) → after_cycles arbiters clocks (suc k) r ≡ cycled arbiters clocks (after_cycles arbiters clocks k r)
  unfolding after_cycles
  after_suc zero r = refl
  after_suc (suc k) r = after_suc k (cycled arbiters clocks r)

  after_more : (k : ℕ) (r : Run A C) → after_cycles arbiters clocks (k + 1) r ≡ cycled arbiters clocks (after_cycles arbiters clocks k r)
  after_more k r = ap (λ n. after_cycles arbiters clocks n r) (add-one k) ∙ after_suc k r

  made_none : (r : Run A C) → cycles_made arbiters clocks 0 r ≡ 0
  unfolding cycles_made
  made_none r = refl

  made_on : (n : ℕ) (r : Run A C) → stops r ≡ false → cycles_made arbiters clocks (suc n) r ≡ suc (cycles_made arbiters clocks n (cycled arbiters clocks r))
  unfolding cycles_made
  made_on n r h = ap (λ b. cond b 0 (suc (cycles_made arbiters clocks n (cycled arbiters clocks r)))) h

  made_stop : (n : ℕ) (r : Run A C) → stops r ≡ true → cycles_made arbiters clocks n r ≡ 0
  unfolding cycles_made
  made_stop zero r h = refl
  made_stop (suc n) r h = ap (λ b. cond b 0 (suc (cycles_made arbiters clocks n (cycled arbiters clocks r)))) h

  -- a run r with its allowance, of which k cycles are made so far and left s
  abbrev pub SoFar : Run A C → ℕ → ℕ → Run A C → Type 0
  SoFar r allowance k s =
      (s ≡ after_cycles arbiters clocks k r) × (cycles_made arbiters clocks allowance r ≡ k + cycles_made arbiters clocks (allowance - k) s) × (k ≤ allowance)

  pub none_made : (r : Run A C) (allowance : ℕ) → SoFar r allowance 0 r
  unfolding after_cycles
  none_made r allowance = (refl, sym (ap (λ n. 0 + cycles_made arbiters clocks n r) (let q : allowance - 0 ≡ allowance = omega arith in q) ∙ (omega arith)), omega arith)

  pub one_made : (r s s' : Run A C) (allowance k : ℕ) → SoFar r allowance k s → k < allowance → stops s ≡ false → s' ≡ cycled arbiters clocks s → SoFar r allowance (k + 1) s'
  one_made r s s' allowance k so l h e =
      let left : allowance - k ≡ suc (allowance - (k + 1)) = omega arith in
      let on : cycles_made arbiters clocks (allowance - k) s ≡ suc (cycles_made arbiters clocks (allowance - (k + 1)) s') =
      ap (λ n. cycles_made arbiters clocks n s) left ∙ made_on (allowance - (k + 1)) s h ∙ ap (λ t. suc (cycles_made arbiters clocks (allowance - (k + 1)) t)) (sym e) in (
        e ∙ ap (cycled arbiters clocks) so.0 ∙ sym (after_more k r),
        omega (arith, so.1, on),
        omega arith,
      )

  -- the end: nothing is held, the allowance is used up, or the run is over
  module _ (r s : Run A C) (allowance k : ℕ) (so : SoFar r allowance k s) where
    ended : (stops s ≡ true) → cycles_made arbiters clocks allowance r ≡ k
    ended h = omega (arith, so.1, made_stop (allowance - k) s h)

    used_up : allowance ≤ k → cycles_made arbiters clocks allowance r ≡ k
    used_up l = omega (arith, so.1, ap (λ n. cycles_made arbiters clocks n s) (let q : allowance - k ≡ 0 = omega arith in q) ∙ made_none s)

    left_by : cycles_made arbiters clocks allowance r ≡ k → s ≡ run_leaves arbiters clocks allowance r
    left_by e = so.0 ∙ ap (λ n. after_cycles arbiters clocks n r) (sym e)

    abbrev End : Ending → Type 0
    End x = ((k, x) ≡ run_answer arbiters clocks allowance r) × (s ≡ run_leaves arbiters clocks allowance r)

    answer_by : (e : cycles_made arbiters clocks allowance r ≡ k) (x : Ending) →
        x ≡ cond (nothing_held s.net) Empty (cond (eqb k allowance) Spent Over) → End x
    answer_by e x h =
        let at = left_by e in
        let is : x ≡ run_ending arbiters clocks allowance r = h
        ∙ ap (λ (t : Run A C). cond (nothing_held t.net) Empty (cond (eqb k allowance) Spent Over)) at
        ∙ ap (λ n. cond (nothing_held (run_leaves arbiters clocks allowance r).net) Empty (cond (eqb n allowance) Spent Over)) (sym e) in
        ((λ i. (sym e i, is i)), at)

    pub ends_empty : (nothing_held s.net ≡ true) → End Empty
    ends_empty h = answer_by (ended (or_left _ (run_over s.net) h)) Empty (sym (ap (λ b. cond b Empty (cond (eqb k allowance) Spent Over)) h))

    pub ends_spent : (nothing_held s.net ≡ false) → k ≡ allowance → End Spent
    ends_spent h q =
        answer_by (used_up (omega arith)) Spent
        (sym (ap (λ b. cond b Empty (cond (eqb k allowance) Spent Over)) h ∙ ap (λ b. cond b Spent Over) (eq-eqb k allowance q)))

    pub ends_over : (nothing_held s.net ≡ false) → (k ≡ allowance → ⊥) → stops s ≡ true → End Over
    ends_over h q w =
        answer_by (ended w) Over
        (sym (ap (λ b. cond b Empty (cond (eqb k allowance) Spent Over)) h ∙ ap (λ b. cond b Spent Over) (ne_eqb k allowance q)))

  -- the law of the answer
  made_most : (n : ℕ) (r : Run A C) → cycles_made arbiters clocks n r ≤ n
  made_most zero r = omega (arith, made_none r)
  made_most (suc n) r = by (stops r) refl (made_most n (cycled arbiters clocks r))
    where
      by : (b : Bool) → stops r ≡ b → cycles_made arbiters clocks n (cycled arbiters clocks r) ≤ n → cycles_made arbiters clocks (suc n) r ≤ suc n
      by true h ih = omega (arith, made_stop (suc n) r h)
      by false h ih = omega (arith, made_on n r h, ih)

  after_first : (k : ℕ) (r : Run A C) → after_cycles arbiters clocks (suc k) r ≡ after_cycles arbiters clocks k (cycled arbiters clocks r)
  unfolding after_cycles
  after_first k r = refl

  after_none : (r : Run A C) → after_cycles arbiters clocks 0 r ≡ r
  unfolding after_cycles
  after_none r = refl

  made_busy : (n : ℕ) (r : Run A C) (k : ℕ) → k < cycles_made arbiters clocks n r → stops (after_cycles arbiters clocks k r) ≡ false
  made_busy zero r k l = absurd (omega (arith, made_none r))
  made_busy (suc n) r k l = by (stops r) refl (made_busy n (cycled arbiters clocks r)) k l
    where
      by : (b : Bool) → stops r ≡ b →
          ((j : ℕ) → j < cycles_made arbiters clocks n (cycled arbiters clocks r) → stops (after_cycles arbiters clocks j (cycled arbiters clocks r)) ≡ false) →
          (j : ℕ) → j < cycles_made arbiters clocks (suc n) r → stops (after_cycles arbiters clocks j r) ≡ false
      by true h ih j m = absurd (omega (arith, made_stop (suc n) r h))
      by false h ih zero m = ap stops (after_none r) ∙ h
      by false h ih (suc j) m = ap stops (after_first j r) ∙ ih j (omega (arith, made_on n r h))

  -- where it stopped before the allowance was used up, it had to
  made_ends : (n : ℕ) (r : Run A C) → cycles_made arbiters clocks n r < n → stops (after_cycles arbiters clocks (cycles_made arbiters clocks n r) r) ≡ true
  made_ends zero r l = absurd (omega (arith, made_none r))
  made_ends (suc n) r l = by (stops r) refl (made_ends n (cycled arbiters clocks r))
    where
      by : (b : Bool) → stops r ≡ b →
          (cycles_made arbiters clocks n (cycled arbiters clocks r) < n → stops (after_cycles arbiters clocks (cycles_made arbiters clocks n (cycled arbiters clocks r)) (cycled arbiters clocks r)) ≡ true) →
          stops (after_cycles arbiters clocks (cycles_made arbiters clocks (suc n) r) r) ≡ true
      by true h ih = ap (λ k. stops (after_cycles arbiters clocks k r)) (made_stop (suc n) r h) ∙ ap stops (after_none r) ∙ h
      by false h ih =
          ap (λ k. stops (after_cycles arbiters clocks k r)) (made_on n r h)
          ∙ ap stops (after_first (cycles_made arbiters clocks n (cycled arbiters clocks r)) r)
          ∙ ih (omega (arith, made_on n r h))

  pub ran : (n : ℕ) (r : Run A C) → Ran arbiters clocks n r (run_answer arbiters clocks n r)
  ran n r = (
    made_most n r,
    (λ k l. or_parts (nothing_held (after_cycles arbiters clocks k r).net) (run_over (after_cycles arbiters clocks k r).net) (made_busy n r k l)),
    ended_by (nothing_held (run_leaves arbiters clocks n r).net) refl,
  )
    where
      over_by : (b : Bool) → eqb (cycles_made arbiters clocks n r) n ≡ b → nothing_held (run_leaves arbiters clocks n r).net ≡ false →
          Ended arbiters clocks n (cycles_made arbiters clocks n r) (run_leaves arbiters clocks n r).net (cond b Spent Over)
      over_by true e h = (h, eqb-true _ _ e)
      over_by false e h =
          let ne : cycles_made arbiters clocks n r ≡ n → ⊥ = eqb-false _ _ e in
          let less : cycles_made arbiters clocks n r < n = omega (arith, made_most n r) in
          (h, less, sym (ap (λ b. b || run_over (run_leaves arbiters clocks n r).net) h) ∙ made_ends n r less)

      ended_by : (b : Bool) → nothing_held (run_leaves arbiters clocks n r).net ≡ b →
          Ended arbiters clocks n (cycles_made arbiters clocks n r) (run_leaves arbiters clocks n r).net (cond b Empty (cond (eqb (cycles_made arbiters clocks n r) n) Spent Over))
      ended_by true h = h
      ended_by false h = over_by (eqb (cycles_made arbiters clocks n r) n) refl h

  pub ran_so : (n : ℕ) (r : Run A C) (answer : ℕ × Ending) → answer ≡ run_answer arbiters clocks n r → Ran arbiters clocks n r answer
  ran_so n r answer e = subst (Ran arbiters clocks n r) (sym e) (ran n r)
