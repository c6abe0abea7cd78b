-- Every network that runs on a table stays good: from its start on, through offers and cycles.
use Rattle.std.proofs.Common.{◌≡◌, ℕ, ◌<◌, ◌≤◌, Bool, true, false, cond, ltb, ◌≢◌, ◌⊎◌, List, [], ◌∷◌, ◌++◌, length, get_or, drop, replicate, Option, sym, refl, ◌∙◌, subst, inl, inr, arith}
use Rattle.std.proofs.lemmas.List.{get_or-map, get_or-set_same, get_or-set_other, length-map, length-set}
use Rattle.std.proofs.lemmas.Bool.{both_ways, cases_eq, eqb-true, leb-false, ltb-true}
use Rattle.arbiters.specs.declared.arbiter.Arbiter as arbiter
use Rattle.clocks.specs.declared.clock.WindowClock as clock
use Rattle.plan.specs.Tables.{Table}
use Rattle.sources.specs.Lines.{Line, offered, moved_on}
use Rattle.running.specs.Cycles.{Run, opened_flow, started, head_empty, shifted_net, cycle_made, run_over, shifts_now, after_clock, grants_now, cycled}
use Rattle.running.specs.Moves.{moved}
use Rattle.running.specs.Nets.{Net, no_line, line, flows}
use Rattle.running.specs.Offers.{with_line, offer_leaves}
use Rattle.running.specs.Sounds.{Sound}
use Rattle.running.specs.Valid.{Valid, InWindow}
use Rattle.running.specs.declared.grant.Grant.{Grant}
use Rattle.running.proofs.Choosing.{grants_valid, grants_open}
use Rattle.running.proofs.Emptying.{head_empty_tells, no_head_waits}
use Rattle.running.proofs.Joining.{offered_sound}
use Rattle.running.proofs.Lines.{line_moved, moved_flows}
use Rattle.running.proofs.Moving.{moved_sound}
use Rattle.running.proofs.Shifting.{counted_sound, shifted_sound}
use Rattle.running.proofs.Starting.{started_sound}
use Rattle.guarantee.specs.Calls.{leaves, after}
use Rattle.guarantee.specs.Promises.{no_flow, flow_count}
use Rattle.guarantee.proofs.Fitting.{Fits, line_fits, fits_line, opened_fits, place_few, offered_fits, moved_on_fits, moved_fits}
use Rattle.guarantee.proofs.Goods.{TableOk, Good, Step, offers, cycles, as_call, as_calls}
use Rattle.guarantee.proofs.Meanings.{Meant}

-- a network just started
module _ (t : Table) (fine : TableOk t) where
  start_sound : Sound (started t) (replicate 8 0)
  start_sound = started_sound t no_flow fine.fit fine.few (λ i l. (fine.each i l).routed)

  start_fits : (i : ℕ) → i < flow_count t → Fits t i (line (started t) i)
  start_fits i l =
      subst (Fits t i) (sym (get_or-map (opened_flow t.settings.window) t.flows i no_flow no_line l))
      (opened_fits t i start_sound.0.0.0 (fine.each i l).largest.0)

  pub good_started : Good t (started t)
  good_started = record {
    window = refl;
    depth = refl;
    flows = length-map t.flows (opened_flow t.settings.window);
    lines = λ i l. fits_line t (started t) i (start_fits i l);
    held = replicate 8 0;
    sound = start_sound;
  }

-- what a good network has of each flow
module _ (t : Table) (n : Net) (good : Good t n) where
  pub good_two : 2 ≤ t.settings.window
  good_two = omega (arith, good.sound.0.0, good.window)

  pub good_eight : t.settings.window ≤ 8
  good_eight = omega (arith, good.sound.0.0, good.window)

  pub good_among : (i : ℕ) → i < flow_count t → i < flows n
  good_among i l = omega (arith, good.flows)

  pub good_fits : (i : ℕ) → i < flow_count t → Fits t i (line n i)
  good_fits i l = line_fits t n i (good.lines i l)

  pub good_long : (i : ℕ) → i < flow_count t → length (line n i).waiting ≡ 8
  good_long i l = (good.sound.1 i (good_among i l)).2

  -- an offer
  module _ (i size : ℕ) (among : i < flows n) where
    abbrev new : Line
    new = offered (line n i) size

    known : i < flow_count t
    known = omega (arith, good.flows)

    offer_fits : (j : ℕ) → j < flow_count t → ((j ≡ i) ⊎ (j ≡ i → ⊥)) → Fits t j (line (with_line n i new) j)
    offer_fits j l (inl e) = subst (λ k. Fits t k (line (with_line n i new) k)) (sym e)
        (subst (Fits t i) (sym (get_or-set_same n.lines i new no_line among))
        (offered_fits t i good_two good_eight (line n i) (good_fits i known) (good_long i known) size))
    offer_fits j l (inr d) =
        let ne : j ≢ i = d in
        subst (Fits t j) (sym (get_or-set_other n.lines i j new no_line ne)) (good_fits j l)

    good_new : Good t (with_line n i (offered (line n i) size))
    good_new = record {
      window = good.window;
      depth = good.depth;
      flows = length-set n.lines i new ∙ good.flows;
      lines = λ j l. fits_line t (with_line n i new) j (offer_fits j l (cases_eq j i));
      held = _;
      sound = offered_sound n good.held good.sound i size among
          (place_few t i good_two good_eight (line n i) (good_fits i known) (good_long i known));
    }

  offer_by : (i size : ℕ) (b : Bool) → ltb i (flows n) ≡ b → Good t (cond b (with_line n i (offered (line n i) size)) n)
  offer_by i size true e = good_new i size (ltb-true i (flows n) e)
  offer_by i size false e = good

  pub good_offer : (i size : ℕ) → Good t (offer_leaves n i size)
  good_offer i size = offer_by i size (ltb i (flows n)) refl

  -- a cycle is counted
  pub good_counted : run_over n ≡ false → Good t (cycle_made n)
  good_counted more = record {
    window = good.window;
    depth = good.depth;
    flows = good.flows;
    lines = λ i l. fits_line t (cycle_made n) i (good_fits i l);
    held = good.held;
    sound = counted_sound n good.held good.sound (leb-false 16777216 n.cycles more);
  }

  -- the window shifts where the head frame is empty
  module _ (empty : head_empty n ≡ true) where
    none_held : get_or good.held 0 0 ≡ 0
    none_held = eqb-true (get_or good.held 0 0) 0 (sym (head_empty_tells n good.held good.sound) ∙ empty)

    shift_fits : (i : ℕ) → i < flow_count t → Fits t i (line (shifted_net n) i)
    shift_fits i l =
        subst (Fits t i) (sym (get_or-map moved_on n.lines i no_line no_line (good_among i l)))
        (moved_on_fits t i good_two (line n i) (good_fits i l) (good_long i l)
        (no_head_waits n good.held good.sound none_held i (good_among i l)))

    pub good_shift : n.head < n.cycles → Good t (shifted_net n)
    good_shift less = record {
      window = good.window;
      depth = good.depth;
      flows = length-map n.lines moved_on ∙ good.flows;
      lines = λ i l. fits_line t (shifted_net n) i (shift_fits i l);
      held = drop 1 good.held ++ 0 ∷ [];
      sound = shifted_sound n good.held good.sound none_held less;
    }

  -- the granted flits move
  module _ (gs : List (Option Grant)) (valid : Valid n gs) (opened : InWindow n gs) where
    move_fits : (i : ℕ) → i < flow_count t → Fits t i (line (moved n gs) i)
    move_fits i l = subst (Fits t i) (sym (line_moved n gs i (good_among i l))) (moved_fits t i gs (line n i) (good_fits i l) (good_long i l))

    pub good_moved : Good t (moved n gs)
    good_moved = record {
      window = good.window;
      depth = good.depth;
      flows = moved_flows n gs ∙ good.flows;
      lines = λ i l. fits_line t (moved n gs) i (move_fits i l);
      held = (moved_sound n good.held good.sound gs valid opened).0;
      sound = (moved_sound n good.held good.sound gs valid opened).1;
    }

-- a cycle, and every step
module _ {A C : Type 0} (arbiters : arbiter.Ghosts A) (clocks : clock.Ghosts C) (meant : Meant arbiters clocks) where
  -- a clock that shifts was told that the head frame is empty
  pub shifts_empty : (c : C) (empty : Bool) → clocks.shifts c empty ≡ true → empty ≡ true
  shifts_empty c true h = refl
  shifts_empty c false h = absurd (both_ways (clocks.shifts c false) (meant.busy c) h)

  -- the channels grant what was requested, in open frames
  pub now_valid : (r : Run A C) → Valid (after_clock arbiters clocks r) (grants_now arbiters clocks r)
  now_valid r = grants_valid arbiters (after_clock arbiters clocks r) r.arbiter meant.belongs

  pub now_opened : (r : Run A C) → InWindow (after_clock arbiters clocks r) (grants_now arbiters clocks r)
  now_opened r = grants_open arbiters (after_clock arbiters clocks r) r.arbiter

  module _ (t : Table) where
    clocked_by : (r : Run A C) → Good t r.net → run_over r.net ≡ false → (b : Bool) → shifts_now arbiters clocks r ≡ b →
        Good t (cond b (shifted_net (cycle_made r.net)) (cycle_made r.net))
    clocked_by r good more true e =
        good_shift t (cycle_made r.net) (good_counted t r.net good more) (shifts_empty r.clock (head_empty r.net) e)
        (omega (arith, good.sound.0))
    clocked_by r good more false e = good_counted t r.net good more

    pub good_clocked : (r : Run A C) → Good t r.net → run_over r.net ≡ false → Good t (after_clock arbiters clocks r)
    good_clocked r good more = clocked_by r good more (shifts_now arbiters clocks r) refl

    pub good_cycled : (r : Run A C) → Good t r.net → run_over r.net ≡ false → Good t (cycled arbiters clocks r).net
    good_cycled r good more =
        good_moved t (after_clock arbiters clocks r) (good_clocked r good more) (grants_now arbiters clocks r) (now_valid r) (now_opened r)

    cycle_by : (r : Run A C) → Good t r.net → (b : Bool) → run_over r.net ≡ b → Good t (cond b r (cycled arbiters clocks r)).net
    cycle_by r good true e = good
    cycle_by r good false e = good_cycled r good e

    pub good_step : (r : Run A C) → Good t r.net → (s : Step) → Good t (leaves arbiters clocks r (as_call s)).net
    good_step r good (offers i size) = good_offer t r.net good i size
    good_step r good cycles = cycle_by r good (run_over r.net) refl

    pub good_steps : (r : Run A C) → Good t r.net → (ss : List Step) → Good t (after arbiters clocks r (as_calls ss)).net
    good_steps r good [] = good
    good_steps r good (s ∷ ss) = good_steps (leaves arbiters clocks r (as_call s)) (good_step r good s) ss
