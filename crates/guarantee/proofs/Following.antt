-- An accepted flit is held, in the frame it was accepted into, until it is delivered; and a frame that closed is delivered.
use Rattle.std.proofs.Common.{◌≡◌, ℕ, zero, suc, ◌+◌, ◌<◌, ◌≤◌, Bool, true, false, cond, eqb, ◌⊎◌, List, [], ◌∷◌, ◌++◌, map, get_or, Ok, Err, Result, sym, refl, ap, ◌∙◌, subst, inl, inr, ⊎_elim, arith}
use Rattle.std.proofs.lemmas.Bool.{both_ways, cases_eq, cases_lt, eqb-true, leb-false, ne_eqb}
use Rattle.arbiters.specs.declared.arbiter.Arbiter as arbiter
use Rattle.clocks.specs.declared.clock.WindowClock as clock
use Rattle.plan.specs.Tables.{Flow, Table}
use Rattle.running.specs.Cycles.{Run, opened_flow, started, head_empty, cycle_made, shifted_net, run_over, shifts_now, after_clock, grants_now, delivered_now, cycled}
use Rattle.running.specs.Nets.{Net, no_line, line, flows}
use Rattle.running.specs.Offers.{offer_answer, offer_leaves}
use Rattle.running.specs.Valid.{Routed}
use Rattle.running.specs.declared.refusal.RunRefusal.{RunRefusal}
use Rattle.running.proofs.Choosing.{Belongs, grants_valid, grants_length}
use Rattle.running.proofs.Emptying.{head_empty_tells}
use Rattle.running.proofs.Shifting.{counted_sound, counted_shifted_sound}
use Rattle.guarantee.specs.Calls.{Event, not_made, offer_event, cycle_event, events_of, leaves, events, after}
use Rattle.guarantee.specs.Counts.{accepted_by, shifts, deliveries, has_flit}
use Rattle.guarantee.specs.Promises.{flow_count}
use Rattle.guarantee.proofs.Accepting.{offer_holds, accepted_held}
use Rattle.guarantee.proofs.Carried.{move_holds}
use Rattle.guarantee.proofs.Events.{accepted_append, deliveries_append, offer_keeps_head, step_counts, head_shifts}
use Rattle.guarantee.proofs.Goods.{Good, Step, offers, cycles, as_call, as_calls}
use Rattle.guarantee.proofs.Holding.{Holds, has_left, has_right}
use Rattle.guarantee.proofs.Shifted.{shift_holds}

-- a clock that is told busy stays
abbrev pub Busy : {C : Type 0} → clock.Ghosts C → Type 0
Busy {C} clocks = (c : C) → clocks.shifts c false ≡ false

-- nothing was accepted before the start
none_accepted : (window : ℕ) (fs : List Flow) (i : ℕ) → (get_or (map (opened_flow window) fs) i no_line).accepted ≡ 0
none_accepted window [] i = refl
none_accepted window (f ∷ fs) zero = refl
none_accepted window (f ∷ fs) (suc i) = none_accepted window fs i

-- nothing is accepted in a cycle, nor where an offer is refused
none_in_cycle : {A C : Type 0} (arbiters : arbiter.Ghosts A) (clocks : clock.Ghosts C) (r : Run A C) (i : ℕ) (over : Bool) →
    accepted_by i (cond over (not_made ∷ []) (cycle_event arbiters clocks r ∷ [])) ≡ 0
none_in_cycle arbiters clocks r i true = refl
none_in_cycle arbiters clocks r i false = refl

-- a shift is told of an empty head frame only
only_empty : {C : Type 0} (clocks : clock.Ghosts C) → Busy clocks → (c : C) (b : Bool) → clocks.shifts c b ≡ true → b ≡ true
only_empty clocks busy c true e = refl
only_empty clocks busy c false e = absurd (both_ways (clocks.shifts c false) (busy c) e)

module _ {A C : Type 0} (arbiters : arbiter.Ghosts A) (clocks : clock.Ghosts C) (belongs : Belongs arbiters) (busy : Busy clocks) (t : Table) where
  -- a cycle that is made
  module _ (r : Run A C) (good : Good t r.net) (going : run_over r.net ≡ false) where
    counted : r.net.cycles < 16777216
    counted = leb-false 16777216 r.net.cycles going

    emptied : shifts_now arbiters clocks r ≡ true → head_empty r.net ≡ true
    emptied e = only_empty clocks busy r.clock (head_empty r.net) e

    routed_by : (b : Bool) → (b ≡ true → head_empty r.net ≡ true) → Routed (cond b (shifted_net (cycle_made r.net)) (cycle_made r.net))
    routed_by true e i l =
        let none : get_or good.held 0 0 ≡ 0 =
        eqb-true (get_or good.held 0 0) 0 (sym (head_empty_tells r.net good.held good.sound) ∙ e refl) in
        ((counted_shifted_sound r.net good.held good.sound none counted).1 i l).3
    routed_by false e i l = ((counted_sound r.net good.held good.sound counted).1 i l).3

    clock_holds : (b : Bool) → (b ≡ true → head_empty r.net ≡ true) → (i : ℕ) → i < flows r.net → (num f : ℕ) →
        Holds r.net i num f → Holds (cond b (shifted_net (cycle_made r.net)) (cycle_made r.net)) i num f
    clock_holds true e i l num f h = shift_holds t r.net good (e refl) i l num f h
    clock_holds false e i l num f h = h

    pub cycle_follows : (i : ℕ) → i < flows r.net → (num f : ℕ) → Holds r.net i num f →
        Holds (cycled arbiters clocks r).net i num f ⊎ (has_flit i num (delivered_now arbiters clocks r) ≡ true)
    cycle_follows i l num f h =
        move_holds (after_clock arbiters clocks r) (grants_now arbiters clocks r) (routed_by (shifts_now arbiters clocks r) emptied)
        (grants_valid arbiters (after_clock arbiters clocks r) r.arbiter belongs) i num f
        (omega (arith, grants_length arbiters (after_clock arbiters clocks r) r.arbiter))
        (clock_holds (shifts_now arbiters clocks r) emptied i l num f h)

  -- a single call
  module _ (r : Run A C) (good : Good t r.net) (i : ℕ) (among : i < flow_count t) (num : ℕ) where
    inside : i < flows r.net
    inside = omega (arith, good.flows)

    cycle_by : (f : ℕ) (over : Bool) → run_over r.net ≡ over → Holds r.net i num f →
        Holds (cond over r (cycled arbiters clocks r)).net i num f
        ⊎ (has_flit i num (deliveries (cond over (not_made ∷ []) (cycle_event arbiters clocks r ∷ []))) ≡ true)
    cycle_by f true e h = inl h
    cycle_by f false e h =
        ⊎_elim (λ q. inl q) (λ q. inr (has_left i num (delivered_now arbiters clocks r) [] q)) (cycle_follows r good e i inside num f h)

    step_follows : (s : Step) (f : ℕ) → Holds r.net i num f →
        Holds (leaves arbiters clocks r (as_call s)).net i num f
        ⊎ (has_flit i num (deliveries (events_of arbiters clocks r (as_call s))) ≡ true)
    step_follows (offers j size) f h = inl (offer_holds t r.net good j size i num f h)
    step_follows cycles f h = cycle_by f (run_over r.net) refl h

    -- a flit that it accepts is held in an open frame
    abbrev Fresh : Net → Type 0
    Fresh n = (f : ℕ) × (Holds n i num f) × (f < n.head + t.settings.window)

    taken_by : (j size f : ℕ) → offer_answer r.net j size ≡ Ok f → (line r.net i).accepted ≤ num →
        num < (line r.net i).accepted + (cond (eqb j i) size 0 + 0) → ((j ≡ i) ⊎ (j ≡ i → ⊥)) → Fresh (offer_leaves r.net j size)
    taken_by j size f e low high (inl q) =
        let high-i : num < (line r.net i).accepted + size = omega (arith, ap (λ b. cond (eqb b i) size 0) q, most (eqb i i)) in
        let a = accepted_held t r.net good j size f e in (
          f,
          subst (λ k. Holds (offer_leaves r.net j size) k num f) q
              (a.0 num (subst (λ k. (line r.net k).accepted ≤ num) (sym q) low) (subst (λ k. num < (line r.net k).accepted + size) (sym q) high-i)),
          omega (arith, a.1, offer_keeps_head r.net j size, good.window),
        )
      where
        most : (b : Bool) → cond b size 0 ≤ size
        most true = omega arith
        most false = omega arith
    taken_by j size f e low high (inr ne) = absurd (omega (arith, ap (λ b. cond b size 0) (ne_eqb j i ne)))

    offer_takes : (j size : ℕ) (a : Result ℕ RunRefusal) → offer_answer r.net j size ≡ a → (line r.net i).accepted ≤ num →
        num < (line r.net i).accepted + accepted_by i (offer_event j size a ∷ []) → Fresh (offer_leaves r.net j size)
    offer_takes j size (Ok f) e low high = taken_by j size f e low high (cases_eq j i)
    offer_takes j size (Err x) e low high = absurd (omega arith)

    step_takes : (s : Step) → (line r.net i).accepted ≤ num →
        num < (line r.net i).accepted + accepted_by i (events_of arbiters clocks r (as_call s)) →
        (f : ℕ) × (Holds (leaves arbiters clocks r (as_call s)).net i num f)
        × (f < (leaves arbiters clocks r (as_call s)).net.head + t.settings.window)
    step_takes (offers j size) low high = offer_takes j size (offer_answer r.net j size) refl low high
    step_takes cycles low high = absurd (omega (arith, none_in_cycle arbiters clocks r i (run_over r.net)))

  -- what the first call delivers, and what the later ones do
  module _ (r : Run A C) (s : Step) (ss : List Step) (i num : ℕ) where
    abbrev first : List Event
    first = events_of arbiters clocks r (as_call s)

    abbrev later : List Event
    later = events arbiters clocks (leaves arbiters clocks r (as_call s)) (as_calls ss)

    delivered_first : has_flit i num (deliveries first) ≡ true → has_flit i num (deliveries (first ++ later)) ≡ true
    delivered_first h = ap (has_flit i num) (deliveries_append first later) ∙ has_left i num (deliveries first) (deliveries later) h

    delivered_later : has_flit i num (deliveries later) ≡ true → has_flit i num (deliveries (first ++ later)) ≡ true
    delivered_later h = ap (has_flit i num) (deliveries_append first later) ∙ has_right i num (deliveries first) (deliveries later) h

  -- a flit that is held is delivered, or still held in its frame
  pub follow : (ss : List Step) (r : Run A C) → ((us : List Step) → Good t (after arbiters clocks r (as_calls us)).net) →
      (i : ℕ) → i < flow_count t → (num f : ℕ) → Holds r.net i num f →
      Holds (after arbiters clocks r (as_calls ss)).net i num f ⊎ (has_flit i num (deliveries (events arbiters clocks r (as_calls ss))) ≡ true)
  follow [] r good i among num f h = inl h
  follow (s ∷ ss) r good i among num f h =
      ⊎_elim
      (λ q. ⊎_elim (λ p. inl p) (λ p. inr (delivered_later r s ss i num p))
      (follow ss (leaves arbiters clocks r (as_call s)) (λ us. good (s ∷ us)) i among num f q))
      (λ q. inr (delivered_first r s ss i num q))
      (step_follows r (good []) i among num s f h)

  -- a flit that was accepted is delivered, or held in a frame that was open when it was accepted
  abbrev Here : ℕ → ℕ → List Event → Net → Type 0
  Here i num es n = (has_flit i num (deliveries es) ≡ true) ⊎ ((f : ℕ) × (Holds n i num f) × (f < n.head + t.settings.window))

  module _ (r : Run A C) (good : (us : List Step) → Good t (after arbiters clocks r (as_calls us)).net) (s : Step) (ss : List Step)
      (i : ℕ) (among : i < flow_count t) (num : ℕ) where
    abbrev next : Run A C
    next = leaves arbiters clocks r (as_call s)

    -- accepted by the first call
    from_first : (f : ℕ) × (Holds next.net i num f) × (f < next.net.head + t.settings.window) →
        Here i num (events arbiters clocks r (as_calls (s ∷ ss))) (after arbiters clocks r (as_calls (s ∷ ss))).net
    from_first (f, h, l) =
        ⊎_elim (λ q. inr (f, q, omega (arith, head_shifts arbiters clocks ss next)))
        (λ q. inl (delivered_later r s ss i num q))
        (follow ss next (λ us. good (s ∷ us)) i among num f h)

    -- or by a later one
    from_later : Here i num (events arbiters clocks next (as_calls ss)) (after arbiters clocks next (as_calls ss)).net →
        Here i num (events arbiters clocks r (as_calls (s ∷ ss))) (after arbiters clocks r (as_calls (s ∷ ss))).net
    from_later (inl h) = inl (delivered_later r s ss i num h)
    from_later (inr h) = inr h

    next_accepted : (line next.net i).accepted ≡ (line r.net i).accepted + accepted_by i (events_of arbiters clocks r (as_call s))
    next_accepted = step_counts arbiters clocks r s i

    all_accepted : accepted_by i (events arbiters clocks r (as_calls (s ∷ ss)))
        ≡ accepted_by i (events_of arbiters clocks r (as_call s)) + accepted_by i (events arbiters clocks next (as_calls ss))
    all_accepted = accepted_append i (events_of arbiters clocks r (as_call s)) (events arbiters clocks next (as_calls ss))

    by_cases : (line r.net i).accepted ≤ num → num < (line r.net i).accepted + accepted_by i (events arbiters clocks r (as_calls (s ∷ ss))) →
        ((line next.net i).accepted ≤ num → num < (line next.net i).accepted + accepted_by i (events arbiters clocks next (as_calls ss)) →
        Here i num (events arbiters clocks next (as_calls ss)) (after arbiters clocks next (as_calls ss)).net) →
        Here i num (events arbiters clocks r (as_calls (s ∷ ss))) (after arbiters clocks r (as_calls (s ∷ ss))).net
    by_cases low high later =
        ⊎_elim
        (λ l. from_first (step_takes r (good []) i among num s low l))
        (λ l. from_later (later (omega (arith, next_accepted)) (omega (arith, next_accepted, all_accepted))))
        (cases_lt num ((line r.net i).accepted + accepted_by i (events_of arbiters clocks r (as_call s))))

  here_from : (ss : List Step) (r : Run A C) → ((us : List Step) → Good t (after arbiters clocks r (as_calls us)).net) →
      (i : ℕ) → i < flow_count t → (num : ℕ) → (line r.net i).accepted ≤ num →
      num < (line r.net i).accepted + accepted_by i (events arbiters clocks r (as_calls ss)) →
      Here i num (events arbiters clocks r (as_calls ss)) (after arbiters clocks r (as_calls ss)).net
  here_from [] r good i among num low high = absurd (omega arith)
  here_from (s ∷ ss) r good i among num low high =
      by_cases r good s ss i among num low high (here_from ss (leaves arbiters clocks r (as_call s)) (λ us. good (s ∷ us)) i among num)

  -- two lists of calls, one after the other
  after_append : (ss us : List Step) (r : Run A C) →
      after arbiters clocks r (as_calls (ss ++ us)) ≡ after arbiters clocks (after arbiters clocks r (as_calls ss)) (as_calls us)
  after_append [] us r = refl
  after_append (s ∷ ss) us r = after_append ss us (leaves arbiters clocks r (as_call s))

  -- the network just started
  module _ (r : Run A C) (fresh : r.net ≡ started t) (good : (us : List Step) → Good t (after arbiters clocks r (as_calls us)).net)
      (i : ℕ) (among : i < flow_count t) (num : ℕ) where
    none : (line r.net i).accepted ≡ 0
    none = ap (λ n. (line n i).accepted) fresh ∙ none_accepted t.settings.window t.flows i

    pub here : (ss : List Step) → num < accepted_by i (events arbiters clocks r (as_calls ss)) →
        (has_flit i num (deliveries (events arbiters clocks r (as_calls ss))) ≡ true)
        ⊎ ((f : ℕ) × (Holds (after arbiters clocks r (as_calls ss)).net i num f)
        × (f < (after arbiters clocks r (as_calls ss)).net.head + t.settings.window))
    here ss l = here_from ss r good i among num (omega (arith, none)) (omega (arith, none))

    module _ (ss us : List Step) where
      abbrev before : List Event
      before = events arbiters clocks r (as_calls ss)

      abbrev middle : Run A C
      middle = after arbiters clocks r (as_calls ss)

      abbrev since : List Event
      since = events arbiters clocks middle (as_calls us)

      good_since : (vs : List Step) → Good t (after arbiters clocks middle (as_calls vs)).net
      good_since vs = subst (λ m. Good t m.net) (after_append ss vs r) (good (ss ++ vs))

      -- a flit of a frame that closed cannot be held
      closed : (f : ℕ) → f < middle.net.head + t.settings.window → t.settings.window ≤ shifts since →
          Holds (after arbiters clocks middle (as_calls us)).net i num f → ⊥
      closed f l w (k, e, h) = omega (arith, head_shifts arbiters clocks us middle)

      closed_by : t.settings.window ≤ shifts since →
          (has_flit i num (deliveries before) ≡ true) ⊎ ((f : ℕ) × (Holds middle.net i num f) × (f < middle.net.head + t.settings.window)) →
          has_flit i num (deliveries (before ++ since)) ≡ true
      closed_by w (inl h) = ap (has_flit i num) (deliveries_append before since) ∙ has_left i num (deliveries before) (deliveries since) h
      closed_by w (inr (f, h, l)) =
          ap (has_flit i num) (deliveries_append before since)
          ∙ has_right i num (deliveries before) (deliveries since)
          (⊎_elim (λ q. absurd (closed f l w q)) (λ q. q) (follow us middle good_since i among num f h))

      -- a flit has been delivered once the window has shifted over its frame
      pub closed_delivered : num < accepted_by i (events arbiters clocks r (as_calls ss)) →
          t.settings.window ≤ shifts (events arbiters clocks (after arbiters clocks r (as_calls ss)) (as_calls us)) →
          has_flit i num (deliveries (events arbiters clocks r (as_calls ss) ++ events arbiters clocks (after arbiters clocks r (as_calls ss)) (as_calls us))) ≡ true
      closed_delivered l w = closed_by w (here ss l)
