-- What the events of two lists count together, and what a network's own counts say of them.
use Rattle.std.proofs.Common.{◌≡◌, ℕ, ◌+◌, ◌<◌, Bool, true, false, cond, eqb, ltb, ◌⊎◌, List, [], ◌∷◌, ◌++◌, Some, None, Ok, Err, Option, Result, sym, refl, ap, ◌∙◌, inl, inr, append_assoc, arith}
use Rattle.std.proofs.lemmas.Bool.{cases_eq, eq-eqb, ne_eqb, ltb-true}
use Rattle.accounts.specs.Offers.{ready, bad_size, paid}
use Rattle.arbiters.specs.declared.arbiter.Arbiter as arbiter
use Rattle.clocks.specs.declared.clock.WindowClock as clock
use Rattle.sources.specs.Lines.{Line, without_first, joined, turned_away}
use Rattle.sources.specs.declared.refusal.OfferRefusal.TheVariants.{PacketSize, WindowSpent}
use Rattle.running.specs.Cycles.{Run, cycle_made, shifted_net, run_over, shifts_now, after_clock, grants_now, cycled}
use Rattle.running.specs.Moves.{moved}
use Rattle.running.specs.Nets.{Net, line, flows}
use Rattle.running.specs.Offers.{from_source, offer_answer, with_line, offer_leaves}
use Rattle.running.specs.declared.grant.Grant.{Grant}
use Rattle.running.specs.declared.refusal.RunRefusal.{RunRefusal}
use Rattle.running.specs.declared.refusal.RunRefusal.TheVariants.{NoSuchFlow}
use Rattle.running.proofs.Answering.{offer_keeps}
use Rattle.running.proofs.Keeping.{kept_field, new_field, other_field}
use Rattle.running.proofs.Lines.{moved_keeps}
use Rattle.running.proofs.Shifting.{kept_on}
use Rattle.guarantee.specs.Calls.{Event, accepted, refused, cycled_once, not_made, offer_event, cycle_event, events_of, leaves, events, after}
use Rattle.guarantee.specs.Counts.{accepted_by, shifts, deliveries}
use Rattle.guarantee.proofs.Goods.{Step, offers, cycles, as_call, as_calls}

-- two lists, one after the other
pub accepted_append : (i : ℕ) (es fs : List Event) → accepted_by i (es ++ fs) ≡ accepted_by i es + accepted_by i fs
accepted_append i [] fs = omega arith
accepted_append i (accepted j size frame ∷ es) fs = omega (arith, accepted_append i es fs)
accepted_append i (refused j refusal ∷ es) fs = accepted_append i es fs
accepted_append i (cycled_once shifted flits ∷ es) fs = accepted_append i es fs
accepted_append i (not_made ∷ es) fs = accepted_append i es fs

pub shifts_append : (es fs : List Event) → shifts (es ++ fs) ≡ shifts es + shifts fs
shifts_append [] fs = omega arith
shifts_append (accepted j size frame ∷ es) fs = shifts_append es fs
shifts_append (refused j refusal ∷ es) fs = shifts_append es fs
shifts_append (cycled_once shifted flits ∷ es) fs = omega (arith, shifts_append es fs)
shifts_append (not_made ∷ es) fs = shifts_append es fs

pub deliveries_append : (es fs : List Event) → deliveries (es ++ fs) ≡ deliveries es ++ deliveries fs
deliveries_append [] fs = refl
deliveries_append (accepted j size frame ∷ es) fs = deliveries_append es fs
deliveries_append (refused j refusal ∷ es) fs = deliveries_append es fs
deliveries_append (cycled_once shifted flits ∷ es) fs =
    ap (λ xs. flits ++ xs) (deliveries_append es fs) ∙ sym (append_assoc flits (deliveries es) (deliveries fs))
deliveries_append (not_made ∷ es) fs = deliveries_append es fs

-- an offer shifts nothing
pub offer_shifts : (j size : ℕ) (a : Result ℕ RunRefusal) → shifts (offer_event j size a ∷ []) ≡ 0
offer_shifts j size (Ok f) = refl
offer_shifts j size (Err e) = refl

pub offer_keeps_head : (n : Net) (j size : ℕ) → (offer_leaves n j size).head ≡ n.head
offer_keeps_head n j size = offer_keeps (λ m. m.head) n j size (λ l. refl)

clock_head : (n : Net) (b : Bool) → (cond b (shifted_net (cycle_made n)) (cycle_made n)).head ≡ n.head + cond b 1 0
clock_head n true = refl
clock_head n false = omega arith

-- flits that leave or arrive, and a shift, change nothing in what was accepted
without_accepted : (l : Line) (o : Option ℕ) → (without_first l o).accepted ≡ l.accepted
without_accepted l None = refl
without_accepted l (Some k) = refl

moved_accepted : (n : Net) (gs : List (Option Grant)) (i : ℕ) → (line (moved n gs) i).accepted ≡ (line n i).accepted
moved_accepted = moved_keeps (λ l. l.accepted) without_accepted (λ l. refl)

clock_accepted : (n : Net) (i : ℕ) (b : Bool) → (line (cond b (shifted_net (cycle_made n)) (cycle_made n)) i).accepted ≡ (line n i).accepted
clock_accepted n i true = kept_on (λ l. l.accepted) (λ l. refl) n.lines i
clock_accepted n i false = refl

-- an accepted packet counts at its flow, and nowhere else
module _ (n : Net) (j size i : ℕ) where
  abbrev mine : Line
  mine = line n j

  joined_by : j < flows n → ((i ≡ j) ⊎ (i ≡ j → ⊥)) →
      (line (with_line n j (joined mine size)) i).accepted ≡ (line n i).accepted + (cond (eqb j i) size 0 + 0)
  joined_by l (inl e) =
      let at : (line (with_line n j (joined mine size)) i).accepted ≡ (line n j).accepted + size =
      ap (λ b. (line (with_line n j (joined mine size)) b).accepted) e ∙ new_field (λ m. m.accepted) n.lines j (joined mine size) l in
      let was : (line n i).accepted ≡ (line n j).accepted = ap (λ b. (line n b).accepted) e in
      let is : cond (eqb j i) size 0 ≡ size = ap (λ b. cond b size 0) (eq-eqb j i (sym e)) in
      omega arith
  joined_by l (inr d) =
      let at : (line (with_line n j (joined mine size)) i).accepted ≡ (line n i).accepted = other_field (λ m. m.accepted) n.lines j (joined mine size) l i d in
      let is : cond (eqb j i) size 0 ≡ 0 = ap (λ b. cond b size 0) (ne_eqb j i (λ q. d (sym q))) in
      omega arith

  offer_by : (there bad rich : Bool) (g : ℕ) → ltb j (flows n) ≡ there →
      (line (cond there (with_line n j (cond bad mine (cond rich (joined mine size) (turned_away mine)))) n) i).accepted
      ≡ (line n i).accepted
      + accepted_by i (offer_event j size (cond there (from_source (cond bad (Err PacketSize) (cond rich (Ok g) (Err WindowSpent)))) (Err NoSuchFlow)) ∷ [])
  offer_by false bad rich g e = omega arith
  offer_by true true rich g e =
      omega (arith, kept_field (λ m. m.accepted) n.lines j mine (ltb-true j (flows n) e) refl i)
  offer_by true false true g e = joined_by (ltb-true j (flows n) e) (cases_eq i j)
  offer_by true false false g e =
      omega (arith, kept_field (λ m. m.accepted) n.lines j (turned_away mine) (ltb-true j (flows n) e) refl i)

  pub offer_counts : (line (offer_leaves n j size) i).accepted
      ≡ (line n i).accepted + accepted_by i (offer_event j size (offer_answer n j size) ∷ [])
  offer_counts = offer_by (ltb j (flows n)) (bad_size mine.ledger size) (paid mine.ledger) (ready mine.ledger).frame refl

module _ {A C : Type 0} (arbiters : arbiter.Ghosts A) (clocks : clock.Ghosts C) where
  cycle_shifts : (r : Run A C) (over : Bool) →
      (cond over r (cycled arbiters clocks r)).net.head ≡ r.net.head + shifts (cond over (not_made ∷ []) (cycle_event arbiters clocks r ∷ []))
  cycle_shifts r true = omega arith
  cycle_shifts r false = omega (arith, clock_head r.net (shifts_now arbiters clocks r))

  step_shifts : (r : Run A C) (s : Step) →
      (leaves arbiters clocks r (as_call s)).net.head ≡ r.net.head + shifts (events_of arbiters clocks r (as_call s))
  step_shifts r (offers j size) = omega (arith, offer_keeps_head r.net j size, offer_shifts j size (offer_answer r.net j size))
  step_shifts r cycles = cycle_shifts r (run_over r.net)

  -- the head frame goes on by the shifts
  pub head_shifts : (ss : List Step) (r : Run A C) →
      (after arbiters clocks r (as_calls ss)).net.head ≡ r.net.head + shifts (events arbiters clocks r (as_calls ss))
  head_shifts [] r = omega arith
  head_shifts (s ∷ ss) r =
      omega (
        arith,
        head_shifts ss (leaves arbiters clocks r (as_call s)),
        step_shifts r s,
        shifts_append (events_of arbiters clocks r (as_call s)) (events arbiters clocks (leaves arbiters clocks r (as_call s)) (as_calls ss)),
      )

  cycle_counts : (r : Run A C) (i : ℕ) (over : Bool) →
      (line (cond over r (cycled arbiters clocks r)).net i).accepted
      ≡ (line r.net i).accepted + accepted_by i (cond over (not_made ∷ []) (cycle_event arbiters clocks r ∷ []))
  cycle_counts r i true = omega arith
  cycle_counts r i false =
      omega (
        arith,
        moved_accepted (after_clock arbiters clocks r) (grants_now arbiters clocks r) i,
        clock_accepted r.net i (shifts_now arbiters clocks r),
      )

  pub step_counts : (r : Run A C) (s : Step) (i : ℕ) →
      (line (leaves arbiters clocks r (as_call s)).net i).accepted
      ≡ (line r.net i).accepted + accepted_by i (events_of arbiters clocks r (as_call s))
  step_counts r (offers j size) i = offer_counts r.net j size i
  step_counts r cycles i = cycle_counts r i (run_over r.net)

  -- a flow's account of accepted flits is what the events count
  pub account_counts : (ss : List Step) (r : Run A C) (i : ℕ) →
      (line (after arbiters clocks r (as_calls ss)).net i).accepted
      ≡ (line r.net i).accepted + accepted_by i (events arbiters clocks r (as_calls ss))
  account_counts [] r i = omega arith
  account_counts (s ∷ ss) r i =
      omega (
        arith,
        account_counts ss (leaves arbiters clocks r (as_call s)) i,
        step_counts r s i,
        accepted_append i (events_of arbiters clocks r (as_call s)) (events arbiters clocks (leaves arbiters clocks r (as_call s)) (as_calls ss)),
      )
