-- Every list of calls comes to the same as a list of single steps, of which each gives one event.
use Rattle.std.proofs.Common.{◌≡◌, ℕ, zero, suc, Bool, true, false, cond, ◌||◌, List, [], ◌∷◌, ◌++◌, replicate, sym, refl, ap, ◌∙◌, append_assoc}
use Rattle.std.proofs.lemmas.Bool.{or_parts}
use Rattle.arbiters.specs.declared.arbiter.Arbiter as arbiter
use Rattle.clocks.specs.declared.clock.WindowClock as clock
use Rattle.running.specs.Cycles.{Run, run_over, cycled}
use Rattle.running.specs.Offers.{offer_answer}
use Rattle.running.specs.Runs.{nothing_held, after_cycles, cycles_made}
use Rattle.guarantee.specs.Calls.{Call, offer, cycle, run, Event, not_made, offer_event, cycle_event, cycle_events, events_of, leaves, events, after}
use Rattle.guarantee.proofs.Goods.{Step, offers, cycles, as_call, as_calls}

-- the calls of two lists of steps
pub as_calls_append : (ss ts : List Step) → as_calls (ss ++ ts) ≡ as_calls ss ++ as_calls ts
as_calls_append [] ts = refl
as_calls_append (s ∷ ss) ts = ap (λ cs. as_call s ∷ cs) (as_calls_append ss ts)

module _ {A C : Type 0} (arbiters : arbiter.Ghosts A) (clocks : clock.Ghosts C) where
  -- what comes of two lists of calls, one after the other
  pub events_append : (r : Run A C) (cs ds : List Call) →
      events arbiters clocks r (cs ++ ds) ≡ events arbiters clocks r cs ++ events arbiters clocks (after arbiters clocks r cs) ds
  events_append r [] ds = refl
  events_append r (c ∷ cs) ds =
      ap (λ es. events_of arbiters clocks r c ++ es) (events_append (leaves arbiters clocks r c) cs ds)
      ∙ sym (append_assoc (events_of arbiters clocks r c) (events arbiters clocks (leaves arbiters clocks r c) cs)
      (events arbiters clocks (after arbiters clocks (leaves arbiters clocks r c) cs) ds))

  pub after_append : (r : Run A C) (cs ds : List Call) → after arbiters clocks r (cs ++ ds) ≡ after arbiters clocks (after arbiters clocks r cs) ds
  after_append r [] ds = refl
  after_append r (c ∷ cs) ds = after_append (leaves arbiters clocks r c) cs ds

  -- and of two lists of steps
  pub steps_events_append : (r : Run A C) (ss ts : List Step) →
      events arbiters clocks r (as_calls (ss ++ ts))
      ≡ events arbiters clocks r (as_calls ss) ++ events arbiters clocks (after arbiters clocks r (as_calls ss)) (as_calls ts)
  steps_events_append r ss ts = ap (events arbiters clocks r) (as_calls_append ss ts) ∙ events_append r (as_calls ss) (as_calls ts)

  pub steps_after_append : (r : Run A C) (ss ts : List Step) →
      after arbiters clocks r (as_calls (ss ++ ts)) ≡ after arbiters clocks (after arbiters clocks r (as_calls ss)) (as_calls ts)
  steps_after_append r ss ts = ap (after arbiters clocks r) (as_calls_append ss ts) ∙ after_append r (as_calls ss) (as_calls ts)

  -- the event of a step
  abbrev pub step_event : Run A C → Step → Event
  step_event r (offers i size) = offer_event i size (offer_answer r.net i size)
  step_event r cycles = cond (run_over r.net) not_made (cycle_event arbiters clocks r)

  one_by : (r : Run A C) (b : Bool) →
      cond b (not_made ∷ []) (cycle_event arbiters clocks r ∷ []) ≡ cond b not_made (cycle_event arbiters clocks r) ∷ []
  one_by r true = refl
  one_by r false = refl

  pub one_event : (r : Run A C) (s : Step) → events_of arbiters clocks r (as_call s) ≡ step_event r s ∷ []
  one_event r (offers i size) = refl
  one_event r cycles = one_by r (run_over r.net)

  pub step_events : (r : Run A C) (s : Step) (ss : List Step) →
      events arbiters clocks r (as_calls (s ∷ ss)) ≡ step_event r s ∷ events arbiters clocks (leaves arbiters clocks r (as_call s)) (as_calls ss)
  step_events r s ss = ap (λ es. es ++ events arbiters clocks (leaves arbiters clocks r (as_call s)) (as_calls ss)) (one_event r s)

  -- the single steps that a list of calls comes to
  abbrev pub singles_of : Run A C → Call → List Step
  singles_of r (offer i size) = offers i size ∷ []
  singles_of r cycle = cycles ∷ []
  singles_of r (run n) = replicate (cycles_made arbiters clocks n r) cycles

  abbrev pub singles : Run A C → List Call → List Step
  singles r [] = []
  singles r (c ∷ cs) = singles_of r c ++ singles (leaves arbiters clocks r c) cs

  -- each cycle of a bounded run is made
  made_events : (r : Run A C) (ss : List Step) → run_over r.net ≡ false →
      events arbiters clocks r (as_calls (cycles ∷ ss)) ≡ cycle_event arbiters clocks r ∷ events arbiters clocks (cycled arbiters clocks r) (as_calls ss)
  made_events r ss e =
      ap (λ b. cond b (not_made ∷ []) (cycle_event arbiters clocks r ∷ []) ++ events arbiters clocks (cond b r (cycled arbiters clocks r)) (as_calls ss)) e

  made_after : (r : Run A C) (ss : List Step) → run_over r.net ≡ false →
      after arbiters clocks r (as_calls (cycles ∷ ss)) ≡ after arbiters clocks (cycled arbiters clocks r) (as_calls ss)
  made_after r ss e = ap (λ b. after arbiters clocks (cond b r (cycled arbiters clocks r)) (as_calls ss)) e

  run_events : (n : ℕ) (r : Run A C) →
      cycle_events arbiters clocks (cycles_made arbiters clocks n r) r
      ≡ events arbiters clocks r (as_calls (replicate (cycles_made arbiters clocks n r) cycles))
  unfolding cycles_made cycle_events
  run_events zero r = refl
  run_events (suc n) r = go (nothing_held r.net || run_over r.net) refl (run_events n (cycled arbiters clocks r))
    where
      go : (b : Bool) → (nothing_held r.net || run_over r.net) ≡ b →
          cycle_events arbiters clocks (cycles_made arbiters clocks n (cycled arbiters clocks r)) (cycled arbiters clocks r)
          ≡ events arbiters clocks (cycled arbiters clocks r) (as_calls (replicate (cycles_made arbiters clocks n (cycled arbiters clocks r)) cycles)) →
          cycle_events arbiters clocks (cond b 0 (suc (cycles_made arbiters clocks n (cycled arbiters clocks r)))) r
          ≡ events arbiters clocks r (as_calls (replicate (cond b 0 (suc (cycles_made arbiters clocks n (cycled arbiters clocks r)))) cycles))
      go true e ih = refl
      go false e ih =
          ap (λ es. cycle_event arbiters clocks r ∷ es) ih
          ∙ sym (made_events r (replicate (cycles_made arbiters clocks n (cycled arbiters clocks r)) cycles)
          (or_parts (nothing_held r.net) (run_over r.net) e).1)

  run_after : (n : ℕ) (r : Run A C) →
      after_cycles arbiters clocks (cycles_made arbiters clocks n r) r
      ≡ after arbiters clocks r (as_calls (replicate (cycles_made arbiters clocks n r) cycles))
  unfolding cycles_made after_cycles
  run_after zero r = refl
  run_after (suc n) r = go (nothing_held r.net || run_over r.net) refl (run_after n (cycled arbiters clocks r))
    where
      go : (b : Bool) → (nothing_held r.net || run_over r.net) ≡ b →
          after_cycles arbiters clocks (cycles_made arbiters clocks n (cycled arbiters clocks r)) (cycled arbiters clocks r)
          ≡ after arbiters clocks (cycled arbiters clocks r) (as_calls (replicate (cycles_made arbiters clocks n (cycled arbiters clocks r)) cycles)) →
          after_cycles arbiters clocks (cond b 0 (suc (cycles_made arbiters clocks n (cycled arbiters clocks r)))) r
          ≡ after arbiters clocks r (as_calls (replicate (cond b 0 (suc (cycles_made arbiters clocks n (cycled arbiters clocks r)))) cycles))
      go true e ih = refl
      go false e ih =
          ih
          ∙ sym (made_after r (replicate (cycles_made arbiters clocks n (cycled arbiters clocks r)) cycles)
          (or_parts (nothing_held r.net) (run_over r.net) e).1)

  -- one call
  call_events : (r : Run A C) (c : Call) → events_of arbiters clocks r c ≡ events arbiters clocks r (as_calls (singles_of r c))
  call_events r (offer i size) = refl
  call_events r cycle = one_event r cycles ∙ sym (step_events r cycles [])
  call_events r (run n) = run_events n r

  call_after : (r : Run A C) (c : Call) → leaves arbiters clocks r c ≡ after arbiters clocks r (as_calls (singles_of r c))
  call_after r (offer i size) = refl
  call_after r cycle = refl
  call_after r (run n) = run_after n r

  -- and a list of them
  pub single_events : (r : Run A C) (calls : List Call) → events arbiters clocks r calls ≡ events arbiters clocks r (as_calls (singles r calls))
  single_events r [] = refl
  single_events r (c ∷ cs) =
      let ss = singles (leaves arbiters clocks r c) cs in
      ap (λ es. events_of arbiters clocks r c ++ es) (single_events (leaves arbiters clocks r c) cs)
      ∙ ap (λ es. es ++ events arbiters clocks (leaves arbiters clocks r c) (as_calls ss)) (call_events r c)
      ∙ ap (λ q. events arbiters clocks r (as_calls (singles_of r c)) ++ events arbiters clocks q (as_calls ss)) (call_after r c)
      ∙ sym (steps_events_append r (singles_of r c) ss)

  pub single_after : (r : Run A C) (calls : List Call) → after arbiters clocks r calls ≡ after arbiters clocks r (as_calls (singles r calls))
  single_after r [] = refl
  single_after r (c ∷ cs) =
      let ss = singles (leaves arbiters clocks r c) cs in
      single_after (leaves arbiters clocks r c) cs
      ∙ ap (λ q. after arbiters clocks q (as_calls ss)) (call_after r c)
      ∙ sym (steps_after_append r (singles_of r c) ss)

  -- where the events part, the steps part
  split_more : (r : Run A C) (s : Step) (ss : List Step) (e : Event) (before later : List Event) → step_event r s ≡ e →
      ((ss1 : List Step) × (ss2 : List Step) × (ss ≡ ss1 ++ ss2)
      × (events arbiters clocks (leaves arbiters clocks r (as_call s)) (as_calls ss1) ≡ before)
      × (events arbiters clocks (after arbiters clocks (leaves arbiters clocks r (as_call s)) (as_calls ss1)) (as_calls ss2) ≡ later)) →
      (ss1 : List Step) × (ss2 : List Step) × (s ∷ ss ≡ ss1 ++ ss2)
      × (events arbiters clocks r (as_calls ss1) ≡ e ∷ before)
      × (events arbiters clocks (after arbiters clocks r (as_calls ss1)) (as_calls ss2) ≡ later)
  split_more r s ss e before later is (ss1, ss2, parts, came, comes) =
      (s ∷ ss1, ss2, ap (λ ts. s ∷ ts) parts, step_events r s ss1 ∙ ap (λ es. step_event r s ∷ es) came ∙ ap (λ f. f ∷ before) is, comes)

  pub split_events : (r : Run A C) (ss : List Step) (before later : List Event) → events arbiters clocks r (as_calls ss) ≡ before ++ later →
      (ss1 : List Step) × (ss2 : List Step) × (ss ≡ ss1 ++ ss2)
      × (events arbiters clocks r (as_calls ss1) ≡ before)
      × (events arbiters clocks (after arbiters clocks r (as_calls ss1)) (as_calls ss2) ≡ later)
  split_events r ss [] later h = ([], ss, refl, refl, h)
  split_events r [] (e ∷ before) later h = absurd cc
  split_events r (s ∷ ss) (e ∷ before) later h =
      let both : step_event r s ∷ events arbiters clocks (leaves arbiters clocks r (as_call s)) (as_calls ss) ≡ e ∷ (before ++ later) =
      sym (step_events r s ss) ∙ h in
      split_more r s ss e before later (cc both) (split_events (leaves arbiters clocks r (as_call s)) ss before later (cc both))
