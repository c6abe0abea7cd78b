-- The account of a flow follows what comes of the calls, so its laws hold of the network: shares of frames, of channels, and stretches.
use Rattle.std.proofs.Common.{◌≡◌, ℕ, zero, suc, ◌+◌, ◌-◌, ◌*◌, ◌<◌, ◌≤◌, Bool, true, false, cond, eqb, ltb, ◌≢◌, ◌⊎◌, List, [], ◌∷◌, ◌++◌, Some, None, Ok, Err, Option, Result, sym, refl, ap, ◌∙◌, subst, inl, inr, mul-le-mul_left, mul-add, arith}
use Rattle.std.proofs.lemmas.List.{length-map, get_or-map, length-set, get_or-set_same, get_or-set_other}
use Rattle.std.proofs.lemmas.Int.{ints}
use Rattle.std.proofs.lemmas.Bool.{cond_both, cases_eq, eq-eqb, ne_eqb, ltb-true}
use Rattle.accounts.proofs.Shares.{shares_follow}
use Rattle.accounts.proofs.Steps.{Happens, Follows, happens}
use Rattle.accounts.proofs.Stretches.{stretch_follows}
use Rattle.accounts.specs.Accounts.{fresh}
use Rattle.accounts.specs.Calls as account
use Rattle.accounts.specs.Counts as account_counts
use Rattle.accounts.specs.Laws.{InStep}
use Rattle.accounts.specs.Ledgers.{Ledger, Limits}
use Rattle.accounts.specs.Offers.{ready, taken, bad_size, paid}
use Rattle.accounts.specs.Shifts.{shifted}
use Rattle.accounts.specs.declared.refusal.AccountRefusal.TheVariants as account-refusal
use Rattle.arbiters.specs.declared.arbiter.Arbiter as arbiter
use Rattle.clocks.specs.declared.clock.WindowClock as clock
use Rattle.folds.proofs.Sums.{sumBy_total}
use Rattle.folds.specs.Sums.{total}
use Rattle.lanes.specs.declared.flits.Flit.{Flit}
use Rattle.plan.proofs.Ranges.{window_range}
use Rattle.plan.specs.Tables.{Table, slots_on, load}
use Rattle.routes.specs.Channels.{crosses}
use Rattle.running.proofs.Answering.{offer_keeps}
use Rattle.running.proofs.Lines.{moved_flows, moved_keeps}
use Rattle.running.specs.Cycles.{Run, opened_flow, started, cycle_made, shifted_net, run_over, shifts_now, after_clock, grants_now, delivered_now, cycled}
use Rattle.running.specs.Moves.{moved}
use Rattle.running.specs.Nets.{Net, no_line, flows, line}
use Rattle.running.specs.Offers.{from_source, offer_answer, with_line, offer_leaves}
use Rattle.running.specs.declared.grant.Grant.{Grant}
use Rattle.running.specs.declared.refusal.RunRefusal.{RunRefusal}
use Rattle.running.specs.declared.refusal.RunRefusal.TheVariants.{NoSuchFlow}
use Rattle.sources.specs.Lines as source
use Rattle.sources.specs.declared.refusal.OfferRefusal.TheVariants as source-refusal
use Rattle.guarantee.specs.Calls.{Call, Event, cycled_once, not_made, offer_event, cycle_event, start, leaves, events, after}
use Rattle.guarantee.specs.Counts.{spent, accepted_by, accepted_in}
use Rattle.guarantee.specs.Promises.{no_flow, flow, flow_count, over, share, Shared, ChannelsShared, KeptUp}
use Rattle.guarantee.proofs.Goods.{TableOk, Step, offers, cycles, as_call, as_calls}
use Rattle.guarantee.proofs.Seen.{seen_refusal, seen_of, with_seen, seen, seen_append, seen_spent, seen_held, seen_flits, seen_shifts, seen_pressed}
use Rattle.guarantee.proofs.Singles.{step_event, step_events, singles, single_events, single_after}

-- what an account saw of one event, with the account before and after it
abbrev pub Saw : Ledger → Option account.Event → Ledger → Type 0
Saw l None m = m ≡ l
Saw l (Some e) m = Happens l e m

saw_follows : (o : Option account.Event) (es : List account.Event) (l k m : Ledger) → Saw l o k → Follows k es m → Follows l (with_seen o es) m
saw_follows None es l k m s f = subst (λ n. Follows n es m) s f
saw_follows (Some e) es l k m s f = (k, s, f)

-- an offer to a flow is an offer to its account
own_saw : (i : ℕ) (o : Option account.Event) (l m : Ledger) → Saw l o m → Saw l (cond (eqb i i) o None) m
own_saw i o l m s = subst (λ b. Saw l (cond b o None) m) (sym (eq-eqb i i refl)) s

offer_saw : (i size : ℕ) (l : source.Line) →
    Saw l.ledger (seen_of i (offer_event i size (from_source (source.offer_answer l size)))) (source.offered l size).ledger
offer_saw i size l = go (bad_size l.ledger size) (paid l.ledger) (happens l.ledger (account.offer size))
  where
    go : (b p : Bool) →
        Happens l.ledger
        (account.offer_event size (cond b (Err account-refusal.SizeRange) (cond p (Ok (ready l.ledger).frame) (Err account-refusal.WindowSpent))))
        (cond b l.ledger (cond p (taken size l.ledger) l.ledger)) →
        Saw l.ledger
        (seen_of i (offer_event i size
        (from_source (cond b (Err source-refusal.PacketSize) (cond p (Ok (ready l.ledger).frame) (Err source-refusal.WindowSpent))))))
        (cond b l (cond p (source.joined l size) (source.turned_away l))).ledger
    go true p h = own_saw i None l.ledger l.ledger refl
    go false true h = own_saw i (Some (account.accepted size (ready l.ledger).frame)) l.ledger (taken size l.ledger) h
    go false false h = own_saw i (Some account.spent) l.ledger l.ledger h

-- an offer to another flow is not seen
other_seen : (i j size : ℕ) (r : Result ℕ RunRefusal) → eqb j i ≡ false → seen_of i (offer_event j size r) ≡ None
other_seen i j size (Ok frame) e = ap (λ b. cond b (Some (account.accepted size frame)) None) e
other_seen i j size (Err refusal) e = ap (λ b. cond b (seen_refusal refusal) None) e

-- no flow has the number
nobody_saw : (l : Ledger) (b : Bool) → Saw l (cond b (seen_refusal NoSuchFlow) None) l
nobody_saw l true = refl
nobody_saw l false = refl

-- an offer to any flow
among_saw : (n : Net) (i j size : ℕ) → j < flows n → ((j ≡ i) ⊎ (j ≡ i → ⊥)) →
    Saw (line n i).ledger (seen_of i (offer_event j size (from_source (source.offer_answer (line n j) size))))
    (line (with_line n j (source.offered (line n j) size)) i).ledger
among_saw n i j size l (inl e) =
    subst (λ k. Saw (line n k).ledger (seen_of k (offer_event j size (from_source (source.offer_answer (line n j) size))))
    (line (with_line n j (source.offered (line n j) size)) k).ledger) e
    (subst (λ m. Saw (line n j).ledger (seen_of j (offer_event j size (from_source (source.offer_answer (line n j) size)))) m.ledger)
    (sym (get_or-set_same n.lines j (source.offered (line n j) size) no_line l)) (offer_saw j size (line n j)))
among_saw n i j size l (inr d) =
    let ne : i ≢ j = (λ e. d (sym e)) in
    subst (λ o. Saw (line n i).ledger o (line (with_line n j (source.offered (line n j) size)) i).ledger)
    (sym (other_seen i j size (from_source (source.offer_answer (line n j) size)) (ne_eqb j i d)))
    (ap (λ (m : source.Line). m.ledger) (get_or-set_other n.lines j i (source.offered (line n j) size) no_line ne))

offers_saw : (n : Net) (i j size : ℕ) →
    Saw (line n i).ledger (seen_of i (offer_event j size (offer_answer n j size))) (line (offer_leaves n j size) i).ledger
offers_saw n i j size = go (ltb j (flows n)) refl
  where
    go : (b : Bool) → ltb j (flows n) ≡ b →
        Saw (line n i).ledger (seen_of i (offer_event j size (cond b (from_source (source.offer_answer (line n j) size)) (Err NoSuchFlow))))
        (line (cond b (with_line n j (source.offered (line n j) size)) n) i).ledger
    go true e = among_saw n i j size (ltb-true j (flows n) e) (cases_eq j i)
    go false e = nobody_saw (line n i).ledger (eqb j i)

-- and leaves as many flows
offers_flows : (n : Net) (j size : ℕ) → flows (offer_leaves n j size) ≡ flows n
offers_flows n j size = offer_keeps flows n j size (λ l. length-set n.lines j l)

-- moves keep the accounts
without_ledger : (l : source.Line) (o : Option ℕ) → (source.without_first l o).ledger ≡ l.ledger
without_ledger l None = refl
without_ledger l (Some k) = refl

pub moved_ledger : (n : Net) (gs : List (Option Grant)) (i : ℕ) → (line (moved n gs) i).ledger ≡ (line n i).ledger
moved_ledger = moved_keeps (λ l. l.ledger) without_ledger (λ l. refl)

-- a shift is one of every account
pub shifted_ledger : (n : Net) (i : ℕ) → i < flows n → (line (shifted_net n) i).ledger ≡ shifted (line n i).ledger
shifted_ledger n i l = ap (λ (m : source.Line). m.ledger) (get_or-map source.moved_on n.lines i no_line no_line l)

clock_saw : (n : Net) (i : ℕ) (b : Bool) (xs : List Flit) → i < flows n →
    Saw (line n i).ledger (seen_of i (cycled_once b xs)) (line (cond b (shifted_net (cycle_made n)) (cycle_made n)) i).ledger
clock_saw n i true xs l = shifted_ledger (cycle_made n) i l
clock_saw n i false xs l = refl

clock_flows : (n : Net) (b : Bool) → flows (cond b (shifted_net (cycle_made n)) (cycle_made n)) ≡ flows n
clock_flows n true = length-map n.lines source.moved_on
clock_flows n false = refl

module _ {A C : Type 0} (arbiters : arbiter.Ghosts A) (clocks : clock.Ghosts C) where
  -- a cycle that is made
  cycled_flows : (r : Run A C) → flows (cycled arbiters clocks r).net ≡ flows r.net
  cycled_flows r = moved_flows (after_clock arbiters clocks r) (grants_now arbiters clocks r) ∙ clock_flows r.net (shifts_now arbiters clocks r)

  cycled_saw : (r : Run A C) (i : ℕ) → i < flows r.net →
      Saw (line r.net i).ledger (seen_of i (cycle_event arbiters clocks r)) (line (cycled arbiters clocks r).net i).ledger
  cycled_saw r i l =
      subst (Saw (line r.net i).ledger (seen_of i (cycle_event arbiters clocks r)))
      (sym (moved_ledger (after_clock arbiters clocks r) (grants_now arbiters clocks r) i))
      (clock_saw r.net i (shifts_now arbiters clocks r) (delivered_now arbiters clocks r) l)

  -- any single step
  pub step_flows : (r : Run A C) (s : Step) → flows (leaves arbiters clocks r (as_call s)).net ≡ flows r.net
  step_flows r (offers j size) = offers_flows r.net j size
  step_flows r cycles =
      cond_both (run_over r.net) r (cycled arbiters clocks r) (λ q. flows q.net ≡ flows r.net) (λ e. refl) (λ e. cycled_flows r)

  pub step_saw : (r : Run A C) (s : Step) (i : ℕ) → i < flows r.net →
      Saw (line r.net i).ledger (seen_of i (step_event arbiters clocks r s)) (line (leaves arbiters clocks r (as_call s)).net i).ledger
  step_saw r (offers j size) i l = offers_saw r.net i j size
  step_saw r cycles i l = go (run_over r.net)
    where
      go : (b : Bool) →
          Saw (line r.net i).ledger (seen_of i (cond b not_made (cycle_event arbiters clocks r)))
          (line (cond b r (cycled arbiters clocks r)).net i).ledger
      go true = refl
      go false = cycled_saw r i l

  -- and any list of them
  pub steps_follow : (ss : List Step) (r : Run A C) (i : ℕ) → i < flows r.net →
      Follows (line r.net i).ledger (seen i (events arbiters clocks r (as_calls ss))) (line (after arbiters clocks r (as_calls ss)).net i).ledger
  steps_follow [] r i l = refl
  steps_follow (s ∷ ss) r i l =
      let q = leaves arbiters clocks r (as_call s) in
      subst (λ es. Follows (line r.net i).ledger (seen i es) (line (after arbiters clocks q (as_calls ss)).net i).ledger)
      (sym (step_events arbiters clocks r s ss))
      (saw_follows (seen_of i (step_event arbiters clocks r s)) (seen i (events arbiters clocks q (as_calls ss)))
      (line r.net i).ledger (line q.net i).ledger (line (after arbiters clocks q (as_calls ss)).net i).ledger
      (step_saw r s i l) (steps_follow ss q i (omega (arith, step_flows r s))))

-- a flow's account as the network starts, and its limits
abbrev pub opened : Table → ℕ → Ledger
opened t i = fresh (flow t i).slots (flow t i).largest t.settings.window

start_ledger : (t : Table) (i : ℕ) → i < flow_count t → (line (started t) i).ledger ≡ opened t i
start_ledger t i l = ap (λ (m : source.Line). m.ledger) (get_or-map (opened_flow t.settings.window) t.flows i no_flow no_line l)

two_frames : (t : Table) → TableOk t → 2 ≤ t.settings.window
two_frames t ok = (window_range t.settings ok.fit).0

pub fresh_limits : (t : Table) → TableOk t → (i : ℕ) → i < flow_count t → Limits (opened t i)
fresh_limits t ok i l =
    let two = two_frames t ok in
    let some = (ok.each i l).largest.0 in
    (omega (arith, ints), omega (arith, ints), omega arith, omega arith)

-- sums of values that are bounded one by one
total_bound : (f g h : ℕ → ℕ) (m n : ℕ) → ((k : ℕ) → k < n → f k ≤ m * g k + h k) → total f n ≤ m * total g n + total h n
unfolding total
total_bound f g h m zero each = omega arith
total_bound f g h m (suc n) each =
    omega (arith, total_bound f g h m n (λ k l. each k (omega arith)), each n (omega arith), mul-add m (total g n) (g n))

-- one flow's part, if it is routed over the channel
part_bound : (b : Bool) (most slots largest n : ℕ) → most ≤ n * slots + largest - 1 → 1 ≤ largest →
    cond b most 0 ≤ n * cond b slots 0 + cond b (largest - 1) 0
part_bound true most slots largest n h some = omega arith
part_bound false most slots largest n h some = omega arith

pub shared_channels : (t : Table) (es : List Event) → TableOk t → Shared t es → ChannelsShared t es
shared_channels t es ok fair c first n =
    omega (arith, bound, loaded, mul-le-mul_left n (ok.loads c))
  where
    bound : over t c (λ i. accepted_in i first (first + n) es)
        ≤ n * total (λ i. slots_on c (flow t i)) (flow_count t) + over t c (λ i. (flow t i).largest - 1)
    bound = total_bound
        (λ i. cond (crosses (flow t i).route c) (accepted_in i first (first + n) es) 0)
        (λ i. slots_on c (flow t i))
        (λ i. cond (crosses (flow t i).route c) ((flow t i).largest - 1) 0) n (flow_count t)
        (λ i l. part_bound (crosses (flow t i).route c) (accepted_in i first (first + n) es) (flow t i).slots (flow t i).largest n
        (fair i l first n) (ok.each i l).largest.0)

    loaded : n * load t.flows c ≡ n * total (λ i. slots_on c (flow t i)) (flow_count t)
    loaded = ap (λ k. n * k) (sumBy_total (slots_on c) no_flow t.flows)

-- what the account sees of a stretch between two refusals
seen_stretch : (i : ℕ) (before stretch later : List Event) →
    seen i (before ++ (spent i ∷ (stretch ++ (spent i ∷ later))))
    ≡ seen i before ++ (account.spent ∷ (seen i stretch ++ (account.spent ∷ seen i later)))
seen_stretch i before stretch later =
    seen_append i before (spent i ∷ (stretch ++ (spent i ∷ later)))
    ∙ ap (λ xs. seen i before ++ xs) (seen_first (stretch ++ (spent i ∷ later))
    ∙ ap (λ xs. account.spent ∷ xs) (seen_append i stretch (spent i ∷ later) ∙ ap (λ xs. seen i stretch ++ xs) (seen_first later)))
  where
    seen_first : (es : List Event) → seen i (spent i ∷ es) ≡ account.spent ∷ seen i es
    seen_first es = ap (λ o. with_seen o (seen i es)) (seen_spent i)

module _ {A C : Type 0} (arbiters : arbiter.Ghosts A) (clocks : clock.Ghosts C) (t : Table) (a : A) (c : C) where
  abbrev began : Run A C
  began = start arbiters clocks t a c

  -- the account of a flow follows the events of the flow
  pub account_follows : (i : ℕ) → i < flow_count t → (ss : List Step) →
      Follows (opened t i)
      (seen i (events arbiters clocks (start arbiters clocks t a c) (as_calls ss)))
      (line (after arbiters clocks (start arbiters clocks t a c) (as_calls ss)).net i).ledger
  account_follows i l ss =
      subst (λ m. Follows m (seen i (events arbiters clocks began (as_calls ss))) (line (after arbiters clocks began (as_calls ss)).net i).ledger)
      (start_ledger t i l)
      (steps_follow arbiters clocks ss began i (omega (arith, length-map t.flows (opened_flow t.settings.window))))

  -- over every list of calls
  pub calls_follow : (i : ℕ) → i < flow_count t → (calls : List Call) →
      Follows (opened t i)
      (seen i (events arbiters clocks (start arbiters clocks t a c) calls))
      (line (after arbiters clocks (start arbiters clocks t a c) calls).net i).ledger
  calls_follow i l calls =
      subst (λ es. Follows (opened t i) (seen i es) (line (after arbiters clocks began calls).net i).ledger)
      (sym (single_events arbiters clocks began calls))
      (subst (λ r. Follows (opened t i)
      (seen i (events arbiters clocks began (as_calls (singles arbiters clocks began calls)))) (line r.net i).ledger)
      (sym (single_after arbiters clocks began calls))
      (account_follows i l (singles arbiters clocks began calls)))

  module _ (ok : TableOk t) (calls : List Call) where
    pub shared : Shared t (events arbiters clocks (start arbiters clocks t a c) calls)
    shared i l first n =
        subst (λ k. k ≤ share (flow t i) n) (seen_held i first (first + n) (events arbiters clocks began calls))
        (shares_follow (flow t i).slots (flow t i).largest t.settings.window (seen i (events arbiters clocks began calls))
        (line (after arbiters clocks began calls).net i).ledger (two_frames t ok) (fresh_limits t ok i l) (calls_follow i l calls) first n)

    pub channels_shared : ChannelsShared t (events arbiters clocks (start arbiters clocks t a c) calls)
    channels_shared = shared_channels t (events arbiters clocks began calls) ok shared

    pub kept_up : KeptUp t (events arbiters clocks (start arbiters clocks t a c) calls)
    kept_up i l before stretch later is pressed =
        subst (λ (s : ℕ). (accepted_by i stretch ≤ s * (flow t i).slots + ((flow t i).largest - 1))
        × (s * (flow t i).slots ≤ accepted_by i stretch + ((flow t i).largest - 1)))
        (seen_shifts i stretch)
        (subst (λ (f : ℕ). (f ≤ account_counts.shifts (seen i stretch) * (flow t i).slots + ((flow t i).largest - 1))
        × (account_counts.shifts (seen i stretch) * (flow t i).slots ≤ f + ((flow t i).largest - 1)))
        (seen_flits i stretch) in_step)
      where
        left : Ledger
        left = (line (after arbiters clocks began calls).net i).ledger

        follows : Follows (opened t i) (seen i before ++ (account.spent ∷ (seen i stretch ++ (account.spent ∷ seen i later)))) left
        follows = subst (λ xs. Follows (opened t i) xs left) (ap (seen i) is ∙ seen_stretch i before stretch later) (calls_follow i l calls)

        in_step : InStep (opened t i) (seen i stretch)
        in_step =
            stretch_follows (opened t i) (seen i before) (seen i stretch) (seen i later) (opened t i) left (two_frames t ok)
            (record { slots = refl; largest = refl; window = refl; limits = fresh_limits t ok i l }) follows (seen_pressed i stretch pressed)
