-- So many longest epochs of cycles hold as many shifts: the wait for the next shift is bounded, and falls with every cycle.
use Rattle.std.proofs.Common.{◌≡◌, ℕ, ◌+◌, ◌-◌, ◌*◌, ◌<◌, ◌≤◌, Bool, true, false, cond, List, [], ◌∷◌, ◌++◌, Ok, Err, Result, sym, refl, ap, ◌∙◌, subst, add-mul, lt_of_mul-lt-mul_right, one-mul, zero-mul, arith}
use Rattle.std.proofs.lemmas.Bool.{both_ways, leb-false}
use Rattle.arbiters.specs.declared.arbiter.Arbiter as arbiter
use Rattle.clocks.specs.declared.clock.WindowClock as clock
use Rattle.plan.specs.Sheets.{crossings}
use Rattle.plan.specs.Tables.{Table}
use Rattle.running.specs.Cycles.{Run, offered_run, head_empty, shifted_net, cycle_made, run_over, shifts_now, cycled}
use Rattle.running.specs.Grants.{grants}
use Rattle.running.specs.Moves.{moved}
use Rattle.running.specs.Nets.{Net}
use Rattle.running.specs.Offers.{offer_answer, offer_leaves}
use Rattle.running.specs.Sounds.{Sound}
use Rattle.running.specs.Valid.{Valid}
use Rattle.running.specs.declared.refusal.RunRefusal.{RunRefusal}
use Rattle.running.proofs.Shifting.{counted_sound}
use Rattle.guarantee.specs.Calls.{Event, accepted, refused, cycled_once, not_made, offer_event, start, cycle_event, events_of, leaves, events, after}
use Rattle.guarantee.specs.Counts.{accepted_in, shifts}
use Rattle.guarantee.specs.Counts as counts
use Rattle.guarantee.specs.Promises.{flow, flow_count, longest_epoch}
use Rattle.guarantee.proofs.Events.{shifts_append, offer_shifts}
use Rattle.guarantee.proofs.Goods.{Good, Step, offers, cycles, as_call, as_calls, work}
use Rattle.guarantee.proofs.Owing.{work_bound}
use Rattle.guarantee.proofs.Singles.{steps_after_append}

-- the cycles of two lists of events
pub cycles_append : (es fs : List Event) → counts.cycles (es ++ fs) ≡ counts.cycles es + counts.cycles fs
cycles_append [] fs = omega arith
cycles_append (accepted j size frame ∷ es) fs = cycles_append es fs
cycles_append (refused j refusal ∷ es) fs = cycles_append es fs
cycles_append (cycled_once shifted flits ∷ es) fs = omega (arith, cycles_append es fs)
cycles_append (not_made ∷ es) fs = cycles_append es fs

-- an offer is no cycle
offer_cycles : (i size : ℕ) (answer : Result ℕ RunRefusal) → counts.cycles (offer_event i size answer ∷ []) ≡ 0
offer_cycles i size (Ok frame) = refl
offer_cycles i size (Err refusal) = refl

module _ {A C : Type 0} (arbiters : arbiter.Ghosts A) (clocks : clock.Ghosts C) where
  -- at most so many cycles are made until the next shift: those that the clock has left once the head frame is empty, and before that
  -- one for each crossing that its flits still need, and then the lag
  abbrev pub wait : Run A C → ℕ
  wait r = cond (head_empty r.net) (clocks.left r.clock) (work r.net 0 + clocks.lag r.clock)

  module _
      (positive : (c : C) → 1 ≤ clocks.left c) (within : (c : C) → clocks.left c ≤ clocks.lag c) where
    pub wait_some : (r : Run A C) → 1 ≤ wait r
    wait_some r = go (head_empty r.net)
      where
        go : (b : Bool) → 1 ≤ cond b (clocks.left r.clock) (work r.net 0 + clocks.lag r.clock)
        go true = positive r.clock
        go false = omega (arith, positive r.clock, within r.clock)

    pub wait_most : (r : Run A C) → wait r ≤ work r.net 0 + clocks.lag r.clock
    wait_most r = go (head_empty r.net)
      where
        go : (b : Bool) → cond b (clocks.left r.clock) (work r.net 0 + clocks.lag r.clock) ≤ work r.net 0 + clocks.lag r.clock
        go true = omega (arith, within r.clock)
        go false = omega arith

  wait_empty : (r : Run A C) → head_empty r.net ≡ true → wait r ≡ clocks.left r.clock
  wait_empty r e = ap (λ b. cond b (clocks.left r.clock) (work r.net 0 + clocks.lag r.clock)) e

  wait_busy : (r : Run A C) → head_empty r.net ≡ false → wait r ≡ work r.net 0 + clocks.lag r.clock
  wait_busy r e = ap (λ b. cond b (clocks.left r.clock) (work r.net 0 + clocks.lag r.clock)) e

  -- a step: what it adds to the cycles and to the wait is at most a longest epoch for each shift in it
  module _
      (t : Table)
      (positive : (c : C) → 1 ≤ clocks.left c)
      (within : (c : C) → clocks.left c ≤ clocks.lag c)
      (steady : (c : C) (empty : Bool) → clocks.lag (clocks.told c empty) ≡ clocks.lag c)
      (busy : (c : C) → clocks.shifts c false ≡ false)
      (falls : (c : C) → clocks.shifts c true ≡ false → clocks.left (clocks.told c true) < clocks.left c)
      (drains : (n : Net) (held : List ℕ) → Sound n held → (a : A) → head_empty n ≡ false → work (moved n (grants arbiters n a)) 0 + 1 ≤ work n 0)
      (settles : (n : Net) (held : List ℕ) → Sound n held → (a : A) → work (moved n (grants arbiters n a)) 0 ≤ work n 0)
      (empty-none : (n : Net) (held : List ℕ) → Sound n held → head_empty n ≡ true → work n 0 ≡ 0)
      (none-empty : (n : Net) (held : List ℕ) → Sound n held → work n 0 ≡ 0 → head_empty n ≡ true)
      (offer_work : (n : Net) (i size : ℕ) → Good t n → work (offer_leaves n i size) 0 ≡ work n 0) where
    -- networks with the same work in the head frame have it empty alike
    same_empty : (m n : Net) → Good t m → Good t n → work m 0 ≡ work n 0 → head_empty m ≡ head_empty n
    same_empty m n okm okn e = go (head_empty m) refl (head_empty n) refl
      where
        go : (a : Bool) → head_empty m ≡ a → (b : Bool) → head_empty n ≡ b → a ≡ b
        go true p true q = refl
        go true p false q =
            absurd (both_ways (head_empty n) q (none-empty n okn.held okn.sound (sym e ∙ empty-none m okm.held okm.sound p)))
        go false p true q =
            absurd (both_ways (head_empty m) p (none-empty m okm.held okm.sound (e ∙ empty-none n okn.held okn.sound q)))
        go false p false q = refl

    offer_wait : (r : Run A C) (i size : ℕ) → Good t r.net → Good t (offer_leaves r.net i size) →
        wait (offered_run r i size) ≡ wait r
    offer_wait r i size ok next =
        let e : work (offer_leaves r.net i size) 0 ≡ work r.net 0 = offer_work r.net i size ok in
        let same = same_empty (offer_leaves r.net i size) r.net next ok e in
        λ j. cond (same j) (clocks.left r.clock) (e j + clocks.lag r.clock)

    -- a cycle that is made, from a sound network
    module _ (r : Run A C) (ok : Good t r.net) (going : run_over r.net ≡ false) (next : Good t (cycled arbiters clocks r).net) where
      counted : Sound (cycle_made r.net) ok.held
      counted = counted_sound r.net ok.held ok.sound (leb-false 16777216 r.net.cycles going)

      abbrev stayed : Net
      stayed = moved (cycle_made r.net) (grants arbiters (cycle_made r.net) r.arbiter)

      -- without a shift
      stays : shifts_now arbiters clocks r ≡ false → (cycled arbiters clocks r).net ≡ stayed
      stays s = ap (λ b. let m : Net = cond b (shifted_net (cycle_made r.net)) (cycle_made r.net) in moved m (grants arbiters m r.arbiter)) s

      same_lag : clocks.lag (cycled arbiters clocks r).clock ≡ clocks.lag r.clock
      same_lag = steady r.clock (head_empty r.net)

      -- a flit of the head frame crosses
      busy_wait : head_empty r.net ≡ false → 1 + wait (cycled arbiters clocks r) ≤ wait r
      busy_wait e =
          let s : shifts_now arbiters clocks r ≡ false = ap (clocks.shifts r.clock) e ∙ busy r.clock in
          let fewer : work stayed 0 + 1 ≤ work r.net 0 = drains (cycle_made r.net) ok.held counted r.arbiter e in
          let is : work (cycled arbiters clocks r).net 0 ≡ work stayed 0 = ap (λ m. work m 0) (stays s) in
          omega (arith, wait_most positive within (cycled arbiters clocks r), same_lag, wait_busy r e)

      -- the head frame is empty and stays so, and the clock has less left
      empty_wait : head_empty r.net ≡ true → shifts_now arbiters clocks r ≡ false → 1 + wait (cycled arbiters clocks r) ≤ wait r
      empty_wait e s =
          let none : work r.net 0 ≡ 0 = empty-none r.net ok.held ok.sound e in
          let most : work stayed 0 ≤ work r.net 0 = settles (cycle_made r.net) ok.held counted r.arbiter in
          let is : work (cycled arbiters clocks r).net 0 ≡ work stayed 0 = ap (λ m. work m 0) (stays s) in
          let still : head_empty (cycled arbiters clocks r).net ≡ true =
          none-empty (cycled arbiters clocks r).net next.held next.sound (omega arith) in
          let told : clocks.left (cycled arbiters clocks r).clock ≡ clocks.left (clocks.told r.clock true) =
          ap (λ b. clocks.left (clocks.told r.clock b)) e in
          omega (
            arith,
            wait_empty r e,
            wait_empty (cycled arbiters clocks r) still,
            falls r.clock (sym (ap (clocks.shifts r.clock) e) ∙ s),
          )

      stay_wait : (b : Bool) → head_empty r.net ≡ b → shifts_now arbiters clocks r ≡ false → 1 + wait (cycled arbiters clocks r) ≤ wait r
      stay_wait true e s = empty_wait e s
      stay_wait false e s = busy_wait e

      cycle_by : (most : ℕ) → work (cycled arbiters clocks r).net 0 ≤ most → (b : Bool) → shifts_now arbiters clocks r ≡ b →
          1 + wait (cycled arbiters clocks r) ≤ wait r + cond b 1 0 * (most + clocks.lag r.clock)
      cycle_by most few true s =
          omega (arith, wait_some positive within r, wait_most positive within (cycled arbiters clocks r), same_lag, one-mul (most + clocks.lag r.clock))
      cycle_by most few false s = omega (arith, stay_wait (head_empty r.net) refl s, zero-mul (most + clocks.lag r.clock))

      cycle_wait : (most : ℕ) → work (cycled arbiters clocks r).net 0 ≤ most →
          1 + wait (cycled arbiters clocks r) ≤ wait r + cond (shifts_now arbiters clocks r) 1 0 * (most + clocks.lag r.clock)
      cycle_wait most few = cycle_by most few (shifts_now arbiters clocks r) refl

    -- one step: cycles made and the wait after them, against the wait before and a longest epoch for each shift
    step_wait : (r : Run A C) (s : Step) (most : ℕ) → Good t r.net → Good t (leaves arbiters clocks r (as_call s)).net →
        work (leaves arbiters clocks r (as_call s)).net 0 ≤ most →
        counts.cycles (events_of arbiters clocks r (as_call s)) + wait (leaves arbiters clocks r (as_call s))
        ≤ wait r + shifts (events_of arbiters clocks r (as_call s)) * (most + clocks.lag r.clock)
    step_wait r (offers i size) most ok next few =
        omega (
          arith,
          offer_cycles i size (offer_answer r.net i size),
          offer_wait r i size ok next,
          zero-mul (most + clocks.lag r.clock),
          ap (λ k. k * (most + clocks.lag r.clock)) (offer_shifts i size (offer_answer r.net i size)),
        )
    step_wait r cycles most ok next few = go (run_over r.net) refl next few
      where
        go : (b : Bool) → run_over r.net ≡ b →
            Good t (cond b r (cycled arbiters clocks r)).net → work (cond b r (cycled arbiters clocks r)).net 0 ≤ most →
            counts.cycles (cond b (not_made ∷ []) (cycle_event arbiters clocks r ∷ [])) + wait (cond b r (cycled arbiters clocks r))
            ≤ wait r + shifts (cond b (not_made ∷ []) (cycle_event arbiters clocks r ∷ [])) * (most + clocks.lag r.clock)
        go true e after_it small = omega (arith, zero-mul (most + clocks.lag r.clock))
        go false e after_it small =
            let once : cond (shifts_now arbiters clocks r) 1 0 + 0 ≡ cond (shifts_now arbiters clocks r) 1 0 = omega arith in
            omega (arith, cycle_wait r ok e after_it most small, ap (λ k. k * (most + clocks.lag r.clock)) once)

    -- the lag stays
    step_lag : (r : Run A C) (s : Step) → clocks.lag (leaves arbiters clocks r (as_call s)).clock ≡ clocks.lag r.clock
    step_lag r (offers i size) = refl
    step_lag r cycles = go (run_over r.net)
      where
        go : (b : Bool) → clocks.lag (cond b r (cycled arbiters clocks r)).clock ≡ clocks.lag r.clock
        go true = refl
        go false = steady r.clock (head_empty r.net)

    pub steps_lag : (ss : List Step) (r : Run A C) → clocks.lag (after arbiters clocks r (as_calls ss)).clock ≡ clocks.lag r.clock
    steps_lag [] r = refl
    steps_lag (s ∷ ss) r = steps_lag ss (leaves arbiters clocks r (as_call s)) ∙ step_lag r s

    -- every list of steps on the network that is started from the table
    module _
        (valid : (n : Net) (a : A) → Valid n (grants arbiters n a))
        (a : A) (c : C)
        (good : (ss : List Step) → Good t (after arbiters clocks (start arbiters clocks t a c) (as_calls ss)).net)
        (share : (ss : List Step) (i : ℕ) → i < flow_count t → (f : ℕ) →
        accepted_in i f (f + 1) (events arbiters clocks (start arbiters clocks t a c) (as_calls ss)) ≤ (flow t i).slots + (flow t i).largest - 1) where
      abbrev reached : List Step → Run A C
      reached ss = after arbiters clocks (start arbiters clocks t a c) (as_calls ss)

      abbrev epoch : ℕ
      epoch = longest_epoch t (clocks.lag c)

      bound : (ss : List Step) → work (reached ss).net 0 ≤ crossings t.flows
      bound ss = work_bound arbiters clocks t valid a c good share ss 0

      next_reached : (ss : List Step) (s : Step) → reached (ss ++ s ∷ []) ≡ leaves arbiters clocks (reached ss) (as_call s)
      next_reached ss s = steps_after_append arbiters clocks (start arbiters clocks t a c) ss (s ∷ [])

      -- the wait is from 1 to a longest epoch
      pub wait_epoch : (ss : List Step) →
          (1 ≤ wait (after arbiters clocks (start arbiters clocks t a c) (as_calls ss)))
          × (wait (after arbiters clocks (start arbiters clocks t a c) (as_calls ss)) ≤ longest_epoch t (clocks.lag c))
      wait_epoch ss = (
        wait_some positive within (reached ss),
        omega (arith, wait_most positive within (reached ss), bound ss, steps_lag ss (start arbiters clocks t a c)),
      )

      -- a step from where some steps led
      pub one_wait : (ss : List Step) (s : Step) →
          counts.cycles (events_of arbiters clocks (after arbiters clocks (start arbiters clocks t a c) (as_calls ss)) (as_call s))
          + wait (leaves arbiters clocks (after arbiters clocks (start arbiters clocks t a c) (as_calls ss)) (as_call s))
          ≤ wait (after arbiters clocks (start arbiters clocks t a c) (as_calls ss))
          + shifts (events_of arbiters clocks (after arbiters clocks (start arbiters clocks t a c) (as_calls ss)) (as_call s)) * longest_epoch t (clocks.lag c)
      one_wait ss s =
          subst (λ g. counts.cycles (events_of arbiters clocks (reached ss) (as_call s)) + wait (leaves arbiters clocks (reached ss) (as_call s))
          ≤ wait (reached ss) + shifts (events_of arbiters clocks (reached ss) (as_call s)) * (crossings t.flows + g)) (steps_lag ss (start arbiters clocks t a c))
          (step_wait (reached ss) s (crossings t.flows) (good ss)
          (subst (λ r. Good t r.net) (next_reached ss s) (good (ss ++ s ∷ [])))
          (subst (λ r. work r.net 0 ≤ crossings t.flows) (next_reached ss s) (bound (ss ++ s ∷ []))))

      -- a list of steps from there
      waits : (ts ss : List Step) (r : Run A C) → reached ss ≡ r →
          counts.cycles (events arbiters clocks r (as_calls ts)) + wait (after arbiters clocks r (as_calls ts))
          ≤ wait r + shifts (events arbiters clocks r (as_calls ts)) * epoch
      waits [] ss r e = omega (arith, zero-mul epoch)
      waits (s ∷ ts) ss r e =
          let q : Run A C = leaves arbiters clocks r (as_call s) in
          let es : List Event = events_of arbiters clocks r (as_call s) in
          let fs : List Event = events arbiters clocks q (as_calls ts) in
          let first : counts.cycles es + wait q ≤ wait r + shifts es * epoch =
          subst (λ p. counts.cycles (events_of arbiters clocks p (as_call s)) + wait (leaves arbiters clocks p (as_call s))
          ≤ wait p + shifts (events_of arbiters clocks p (as_call s)) * epoch) e (one_wait ss s) in
          let rest : counts.cycles fs + wait (after arbiters clocks q (as_calls ts)) ≤ wait q + shifts fs * epoch =
          waits ts (ss ++ s ∷ []) q (next_reached ss s ∙ ap (λ p. leaves arbiters clocks p (as_call s)) e) in
          omega (arith, cycles_append es fs, ap (λ k. k * epoch) (shifts_append es fs), add-mul (shifts es) (shifts fs) epoch)

      -- so many longest epochs of cycles have as many shifts
      pub many_shifts : (ss ts : List Step) (n : ℕ) →
          n * longest_epoch t (clocks.lag c)
          ≤ counts.cycles (events arbiters clocks (after arbiters clocks (start arbiters clocks t a c) (as_calls ss)) (as_calls ts)) →
          n ≤ shifts (events arbiters clocks (after arbiters clocks (start arbiters clocks t a c) (as_calls ss)) (as_calls ts))
      many_shifts ss ts n many =
          let made : ℕ = shifts (events arbiters clocks (reached ss) (as_calls ts)) in
          let below : n * epoch < (made + 1) * epoch =
          omega (
            arith,
            waits ts ss (reached ss) refl,
            wait_some positive within (after arbiters clocks (reached ss) (as_calls ts)),
            wait_epoch ss,
            add-mul made 1 epoch,
            one-mul epoch,
          ) in
          let fewer : n < made + 1 = lt_of_mul-lt-mul_right epoch below in
          omega arith
