-- Flits held in an open frame were accepted into it, and so the crossings that they still need are bounded.
use Rattle.std.proofs.Common.{◌≡◌, ℕ, zero, suc, ◌+◌, ◌-◌, ◌*◌, ◌<◌, ◌≤◌, Bool, true, false, cond, not, ◌&&◌, eqb, ltb, leb, ◌≢◌, ◌⊎◌, List, [], ◌∷◌, ◌++◌, length, get_or, take, set, is_some, Some, None, Ok, Err, Option, sym, refl, ap, ◌∙◌, subst, inl, inr, ⊎_elim, append_assoc, append-nil, mul-le-mul_right, add-mul, one-mul, zero-mul, add-one, arith}
use Rattle.std.proofs.lemmas.List.{get_or_past, get_or-set_same, get_or-set_other, get_or-map, length-map, length-set}
use Rattle.std.proofs.lemmas.Bool.{and_parts, and_from, cases_eq, cases_lt, eq-eqb, ne_eqb, le-leb, lt-ltb, ltb-true}
use Rattle.accounts.specs.Offers.{ready, bad_size, paid}
use Rattle.accounts.proofs.Ready.{ready_is}
use Rattle.arbiters.specs.declared.arbiter.Arbiter as arbiter
use Rattle.clocks.specs.declared.clock.WindowClock as clock
use Rattle.folds.specs.Sums.{total}
use Rattle.folds.proofs.Sums.{total_le, total_same, total_none, total_at, sumBy_total}
use Rattle.lanes.specs.declared.flits.Flit.{Flit}
use Rattle.routes.specs.Channels.{well_formed}
use Rattle.routes.specs.Crossings.{hop, crossing, next_channel}
use Rattle.routes.specs.declared.crossing.Crossing.{Crossing}
use Rattle.plan.specs.Sheets.{flow_crossings, crossings}
use Rattle.plan.specs.Tables.{Table}
use Rattle.sources.specs.Lines as source
use Rattle.sources.specs.Lines.{Line, first_place, without_first, joined, turned_away, offered, moved_on}
use Rattle.sources.proofs.Opening.{none_waiting}
use Rattle.sources.specs.declared.refusal.OfferRefusal.TheVariants.{PacketSize, WindowSpent}
use Rattle.running.specs.Crossed.{crossed_lane, crossed_line, crossed_by, crossed}
use Rattle.running.specs.Cycles.{Run, opened_flow, started, shifted_net, cycle_made, run_over, shifts_now, after_clock, cycled}
use Rattle.running.specs.Grants.{grants}
use Rattle.running.specs.Moves.{at_channel, moved}
use Rattle.running.specs.Nets.{Net, no_line, line, route, flows}
use Rattle.running.specs.Offers.{from_source, with_line, offer_answer, offer_leaves}
use Rattle.running.specs.Requests.{stands}
use Rattle.running.specs.Sounds.{goes_on, all_go_on, Placed, of_flow}
use Rattle.running.specs.Valid.{Valid, Routed}
use Rattle.running.specs.declared.grant.Grant.{Grant}
use Rattle.running.specs.declared.refusal.RunRefusal.TheVariants.{NoSuchFlow}
use Rattle.running.proofs.Carrying.{Carried, line_carried}
use Rattle.running.proofs.Fronts.{lane_elsewhere, flow_balance}
use Rattle.running.proofs.Joining.{packet_place}
use Rattle.running.proofs.Keeping.{kept_field, new_field, other_field}
use Rattle.running.proofs.Lines.{moved_keeps}
use Rattle.running.proofs.Ready.{requested}
use Rattle.running.proofs.Same.{moved_none, moved_skip, moved_all}
use Rattle.running.proofs.Shifting.{moved_place, moved_long as places-on}
use Rattle.running.proofs.Together.{moved_one, ready_one, ready_flow, ready_route}
use Rattle.guarantee.specs.Calls.{Event, accepted, refused, cycled_once, not_made, offer_event, start, cycle_event, events_of, leaves, events, after}
use Rattle.guarantee.specs.Counts.{accepted_in}
use Rattle.guarantee.specs.Promises.{no_flow, flow, flow_count}
use Rattle.guarantee.proofs.Events.{offer_keeps_head}
use Rattle.guarantee.proofs.Goods.{Good, Step, offers, cycles, as_call, as_calls, after_hop, all_to_go, work}
use Rattle.guarantee.proofs.Singles.{steps_events_append, steps_after_append}

-- sums over the numbers below n: of two values, of values with one factor, of smaller values, and of sums
pub total_both : (f g : ℕ → ℕ) (n : ℕ) → total (λ k. f k + g k) n ≡ total f n + total g n
unfolding total
total_both f g zero = refl
total_both f g (suc n) = omega (arith, total_both f g n)

pub total_times : (f : ℕ → ℕ) (m n : ℕ) → total (λ k. f k * m) n ≡ total f n * m
unfolding total
total_times f m zero = sym (zero-mul m)
total_times f m (suc n) = omega (arith, total_times f m n, add-mul (total f n) (f n) m)

pub total_turned : (f : ℕ → ℕ → ℕ) (m n : ℕ) → total (λ k. total (f k) m) n ≡ total (λ j. total (λ k. f k j) n) m
unfolding total
total_turned f m zero = sym (total_none (λ j. 0) m (λ j l. refl))
total_turned f m (suc n) = omega (arith, total_turned f m n, total_both (λ j. total (λ k. f k j) n) (f n) m)

-- the flits of flow i that are held in the k-th open frame: those that wait at its source and those in buffers
abbrev pub held_of : Net → ℕ → ℕ → ℕ
held_of n i k = get_or (line n i).waiting k 0 + total (λ c. of_flow i (n.lane c k)) 320

-- what a flit of flow j adds to those of flow i
abbrev mine : ℕ → ℕ → ℕ
mine j i = cond (eqb j i) 1 0

-- a flit leaves its source or a buffer, and goes to a buffer or is delivered: no more are held
no_more : (b last : Bool) (w u w' u' : ℕ) → w' + cond (not b) 1 0 ≡ w → u' + cond b 1 0 ≡ u + cond (not last) 1 0 → w' + u' ≤ w + u
no_more true true w u w' u' p q = omega arith
no_more true false w u w' u' p q = omega arith
no_more false true w u w' u' p q = omega arith
no_more false false w u w' u' p q = omega arith

no_more_apart : (b last : Bool) (w u w' u' : ℕ) → w' ≡ w → u' + cond b 0 0 ≡ u + cond (not last) 0 0 → w' + u' ≤ w + u
no_more_apart true true w u w' u' p q = omega arith
no_more_apart true false w u w' u' p q = omega arith
no_more_apart false true w u w' u' p q = omega arith
no_more_apart false false w u w' u' p q = omega arith

-- channel c grants flow g .flow, whose flit stands ready in the frame g .ahead, and the flit crosses
module _
    (n : Net) (c : ℕ) (g : Grant) (x : Crossing) (among : g.flow < flows n) (long : length (line n g.flow).waiting ≡ 8)
    (ok : well_formed (route n g.flow) ≡ true) (is : crossing (route n g.flow) c ≡ Some x)
    (stood : stands n g.ahead g.flow x.before ≡ true) where
  abbrev after_it : Net
  after_it = crossed_by n c g (Some x)

  abbrev line_then : Line
  line_then = crossed_line x (line n g.flow)

  carried : Carried g.ahead (not (is_some x.before)) x.last (line n g.flow) line_then
  carried = line_carried n g.ahead g.flow x stood long

  abbrev in_buffers : Net → ℕ → ℕ → ℕ
  in_buffers m i k = total (λ d. of_flow i (m.lane d k)) 320

  buffers_balance : (i : ℕ) →
      in_buffers after_it i g.ahead + cond (is_some x.before) (mine g.flow i) 0
      ≡ in_buffers n i g.ahead + cond (not x.last) (mine g.flow i) 0
  buffers_balance i = flow_balance n c g x ok is stood i

  -- in the granted frame
  here_by : (i : ℕ) → ((i ≡ g.flow) ⊎ (i ≡ g.flow → ⊥)) → held_of after_it i g.ahead ≤ held_of n i g.ahead
  here_by i (inl e) = subst (λ j. held_of after_it j g.ahead ≤ held_of n j g.ahead) (sym e)
      (no_more (is_some x.before) x.last (get_or (line n g.flow).waiting g.ahead 0) (in_buffers n g.flow g.ahead) _ _
      (ap (λ w. w + cond (not (is_some x.before)) 1 0) (new_field (λ l. get_or l.waiting g.ahead 0) n.lines g.flow line_then among) ∙ carried.here)
      (subst (λ e. in_buffers after_it g.flow g.ahead + cond (is_some x.before) e 0 ≡ in_buffers n g.flow g.ahead + cond (not x.last) e 0)
      (ap (λ b. cond {A = ℕ} b 1 0) (eq-eqb g.flow g.flow refl)) (buffers_balance g.flow)))
  here_by i (inr ne) =
      no_more_apart (is_some x.before) x.last (get_or (line n i).waiting g.ahead 0) (in_buffers n i g.ahead) _ _
      (other_field (λ l. get_or l.waiting g.ahead 0) n.lines g.flow line_then among i ne)
      (subst (λ e. in_buffers after_it i g.ahead + cond (is_some x.before) e 0 ≡ in_buffers n i g.ahead + cond (not x.last) e 0)
      (ap (λ b. cond {A = ℕ} b 1 0) (ne_eqb g.flow i (λ q. ne (sym q)))) (buffers_balance i))

  -- in the others nothing changes
  elsewhere : (i k : ℕ) → (k ≡ g.ahead → ⊥) → held_of after_it i k ≡ held_of n i k
  elsewhere i k ne = λ j. waits j + lies j
    where
      waits : get_or (line after_it i).waiting k 0 ≡ get_or (line n i).waiting k 0
      waits = ⊎_elim
          (λ e. subst (λ f. get_or (line after_it f).waiting k 0 ≡ get_or (line n f).waiting k 0) (sym e)
          (new_field (λ l. get_or l.waiting k 0) n.lines g.flow line_then among ∙ carried.elsewhere k ne))
          (λ d. other_field (λ l. get_or l.waiting k 0) n.lines g.flow line_then among i d)
          (cases_eq i g.flow)

      lies : in_buffers after_it i k ≡ in_buffers n i k
      lies = total_same (λ d. of_flow i (crossed_lane n c g x d k)) (λ d. of_flow i (n.lane d k)) 320
          (λ d l. ap (of_flow i) (lane_elsewhere n c g x d k ne))

  after_held : (i k : ℕ) → held_of after_it i k ≤ held_of n i k
  after_held i k = ⊎_elim
      (λ e. subst (λ j. held_of after_it i j ≤ held_of n i j) (sym e) (here_by i (cases_eq i g.flow)))
      (λ ne. omega (arith, elsewhere i k ne))
      (cases_eq k g.ahead)

  pub crossed_held_of : (i k : ℕ) → held_of (crossed n c g) i k ≤ held_of n i k
  crossed_held_of i k = subst (λ o. held_of (crossed_by n c g o) i k ≤ held_of n i k) (sym is) (after_held i k)

-- every flow has its 8 places and a route
abbrev pub Lined : Net → Type 0
Lined n = (i : ℕ) → i < flows n → (length (line n i).waiting ≡ 8) × (well_formed (route n i) ≡ true)

-- moves keep the places
without_long : (l : Line) (o : Option ℕ) → length (without_first l o).waiting ≡ length l.waiting
without_long l None = refl
without_long l (Some k) = length-set l.waiting k (get_or l.waiting k 0 - 1)

moved_long : (n : Net) (gs : List (Option Grant)) (i : ℕ) → length (line (moved n gs) i).waiting ≡ length (line n i).waiting
moved_long = moved_keeps (λ l. length l.waiting) without_long (λ l. refl)

-- the granted flits move, channel by channel: no flow has more flits in any frame
module _ (n : Net) (gs : List (Option Grant)) (lined : Lined n) (valid : Valid n gs) where
  routed : Routed n
  routed i l = (lined i l).1

  turn : (c : ℕ) (o : Option Grant) → at_channel gs c ≡ o → (i k : ℕ) → held_of (moved n (take (c + 1) gs)) i k ≤ held_of (moved n (take c gs)) i k
  turn c None e i k = omega (arith, ap (λ m. held_of m i k) (moved_skip n gs c e))
  turn c (Some g) e i k =
      let low : g.flow < flows n = (valid c g e).0 in
      let asks = requested (moved n (take c gs)) c g.ahead g.flow (ready_one n gs routed valid c g e) in
      subst (λ m. held_of m i k ≤ held_of (moved n (take c gs)) i k) (sym (moved_one n gs routed valid c g e))
      (crossed_held_of (moved n (take c gs)) c g asks.0 (ready_flow n gs routed valid c g e)
      (moved_long n (take c gs) g.flow ∙ (lined g.flow low).0) (ready_route n gs routed valid c g e) asks.1 asks.2 i k)

  turns : (c i k : ℕ) → held_of (moved n (take c gs)) i k ≤ held_of n i k
  turns zero i k = omega (arith, ap (λ m. held_of m i k) (moved_none n))
  turns (suc c) i k =
      let step : held_of (moved n (take (suc c) gs)) i k ≤ held_of (moved n (take c gs)) i k =
      subst (λ d. held_of (moved n (take d gs)) i k ≤ held_of (moved n (take c gs)) i k) (add-one c) (turn c (at_channel gs c) refl i k) in
      omega (arith, turns c i k)

  pub moved_held_of : (i k : ℕ) → held_of (moved n gs) i k ≤ held_of n i k
  moved_held_of i k =
      subst (λ m. held_of m i k ≤ held_of n i k) (moved_all n gs (length gs) (omega arith)) (turns (length gs) i k)

-- a shift of the window: each frame is one nearer to the head
shifted_line : (n : Net) (i : ℕ) → i < flows n → line (shifted_net n) i ≡ moved_on (line n i)
shifted_line n i l = get_or-map moved_on n.lines i no_line no_line l

shifted_flows : (n : Net) → flows (shifted_net n) ≡ flows n
shifted_flows n = length-map n.lines moved_on

pub shifted_held_of : (n : Net) (i k : ℕ) → i < flows n → held_of (shifted_net n) i k ≡ held_of n i (suc k)
shifted_held_of n i k l =
    ap (λ w. w + total (λ c. of_flow i (n.lane c (suc k))) 320)
    (ap (λ (m : Line). get_or m.waiting k 0) (shifted_line n i l) ∙ moved_place (line n i).waiting k)

pub shifted_lined : (n : Net) → Lined n → Lined (shifted_net n)
shifted_lined n lined i l =
    let inside : i < flows n = omega (arith, shifted_flows n) in
    let is = shifted_line n i inside in (
      ap (λ (m : Line). length m.waiting) is ∙ places-on (line n i).waiting (lined i inside).0,
      ap (λ (m : Line). well_formed m.route) is ∙ (lined i inside).1,
    )

-- a network that runs on a table has such lines
pub good_lined : (t : Table) (n : Net) → Good t n → Lined n
good_lined t n ok i l = let s = ok.sound.1 i l in (s.2, s.3)

-- an offer
set_most : (xs : List ℕ) (p v : ℕ) → get_or (set xs p v) p 0 ≤ v
set_most xs p v = ⊎_elim
    (λ l. omega (arith, get_or-set_same xs p v 0 l))
    (λ l. omega (arith, get_or_past (set xs p v) p 0 (omega (arith, length-set xs p v))))
    (cases_lt p (length xs))

module _ (t : Table) (n : Net) (ok : Good t n) (j size i k : ℕ) where
  -- the frame that a packet of flow j gets, and its place
  abbrev frame : ℕ
  frame = (ready (line n j).ledger).frame

  abbrev place : ℕ
  place = packet_place n j

  abbrev with_packet : Net
  with_packet = with_line n j (joined (line n j) size)

  abbrev here : Bool
  here = eqb j i && (leb (n.head + k) frame && ltb frame (n.head + k + 1))

  frame_is : j < flows n → frame ≡ n.head + place
  frame_is l =
      let gone = ready_is (line n j).ledger in
      let limits = (ok.lines j (omega (arith, ok.flows))).kept.limits in
      omega (arith, ap (λ m. m.frame) gone.is, (ok.sound.1 j l).0, limits.2)

  joined_mine : j < flows n → i ≡ j → ((k ≡ place) ⊎ (k ≡ place → ⊥)) → held_of with_packet i k ≤ held_of n i k + cond here size 0
  joined_mine l e (inl q) =
      let f = frame_is l in
      let yes : here ≡ true = and_from (eqb j i) (leb (n.head + k) frame && ltb frame (n.head + k + 1)) (eq-eqb j i (sym e))
      (and_from (leb (n.head + k) frame) (ltb frame (n.head + k + 1)) (le-leb (n.head + k) frame (omega arith)) (lt-ltb frame (n.head + k + 1) (omega arith))) in
      let counted : cond here size 0 ≡ size = ap (λ b. cond b size 0) yes in
      let new : get_or (line with_packet i).waiting k 0 ≡ get_or (joined (line n j) size).waiting k 0 =
      ap (λ m. get_or (line with_packet m).waiting k 0) e ∙ new_field (λ m. get_or m.waiting k 0) n.lines j (joined (line n j) size) l in
      let most : get_or (joined (line n j) size).waiting k 0 ≤ get_or (line n j).waiting place 0 + size =
      subst (λ p. get_or (joined (line n j) size).waiting p 0 ≤ get_or (line n j).waiting place 0 + size) (sym q)
      (set_most (line n j).waiting place (get_or (line n j).waiting place 0 + size)) in
      let was : get_or (line n i).waiting k 0 ≡ get_or (line n j).waiting place 0 = λ m. get_or (line n (e m)).waiting (q m) 0 in
      omega (arith, counted)
  joined_mine l e (inr d) =
      let ne : k ≢ place = d in
      let new : get_or (line with_packet i).waiting k 0 ≡ get_or (line n i).waiting k 0 =
      ap (λ m. get_or (line with_packet m).waiting k 0) e ∙ new_field (λ m. get_or m.waiting k 0) n.lines j (joined (line n j) size) l
      ∙ get_or-set_other (line n j).waiting place k (get_or (line n j).waiting place 0 + size) 0 ne ∙ ap (λ m. get_or (line n m).waiting k 0) (sym e) in
      omega arith

  joined_held : j < flows n → held_of with_packet i k ≤ held_of n i k + cond here size 0
  joined_held l = ⊎_elim
      (λ e. joined_mine l e (cases_eq k place))
      (λ ne. let same = other_field (λ m. get_or m.waiting k 0) n.lines j (joined (line n j) size) l i ne in omega arith)
      (cases_eq i j)

  -- a refused one changes nothing that waits
  same_held : (new : Line) → j < flows n → new.waiting ≡ (line n j).waiting → held_of (with_line n j new) i k ≡ held_of n i k
  same_held new l e = ap (λ w. w + total (λ c. of_flow i (n.lane c k)) 320)
      (kept_field (λ m. get_or m.waiting k 0) n.lines j new l (ap (λ w. get_or w k 0) e) i)

  offered_by : (bad good : Bool) → j < flows n →
      held_of (with_line n j (cond bad (line n j) (cond good (joined (line n j) size) (turned_away (line n j))))) i k
      ≤ held_of n i k + accepted_in i (n.head + k) (n.head + k + 1)
      (offer_event j size (from_source (cond bad (Err PacketSize) (cond good (Ok frame) (Err WindowSpent)))) ∷ [])
  offered_by true good l = omega (arith, same_held (line n j) l refl)
  offered_by false true l = omega (arith, joined_held l)
  offered_by false false l = omega (arith, same_held (turned_away (line n j)) l refl)

  offer_by : (b : Bool) → ltb j (flows n) ≡ b →
      held_of (cond b (with_line n j (offered (line n j) size)) n) i k
      ≤ held_of n i k + accepted_in i (n.head + k) (n.head + k + 1)
      (offer_event j size (cond b (from_source (source.offer_answer (line n j) size)) (Err NoSuchFlow)) ∷ [])
  offer_by true e = offered_by (bad_size (line n j).ledger size) (paid (line n j).ledger) (ltb-true j (flows n) e)
  offer_by false e = omega arith

  pub offer_held_of : held_of (offer_leaves n j size) i k
      ≤ held_of n i k + accepted_in i (n.head + k) (n.head + k + 1) (offer_event j size (offer_answer n j size) ∷ [])
  offer_held_of = offer_by (ltb j (flows n)) refl

-- a flit in a buffer still needs at most as many crossings as its route has hops
after_most : (cs : List ℕ) (o : Option ℕ) → after_hop cs o ≤ length cs
after_most cs None = omega arith
after_most cs (Some h) = omega arith

-- one flit's hops, as a sum over the flows
mine_hops : (hops : ℕ → ℕ) (j i : ℕ) → ((j ≡ i) ⊎ (j ≡ i → ⊥)) → mine j i * hops i ≡ cond (eqb j i) (hops j) 0
mine_hops hops j i (inl e) =
    ap (λ b. cond b 1 0 * hops i) (eq-eqb j i e) ∙ one-mul (hops i) ∙ ap hops (sym e) ∙ sym (ap (λ b. cond b (hops j) 0) (eq-eqb j i e))
mine_hops hops j i (inr ne) =
    ap (λ b. cond b 1 0 * hops i) (ne_eqb j i ne) ∙ zero-mul (hops i) ∙ sym (ap (λ b. cond b (hops j) 0) (ne_eqb j i ne))

one_flit : (hops : ℕ → ℕ) (j n : ℕ) → j < n → total (λ i. mine j i * hops i) n ≡ hops j
one_flit hops j n l =
    total_same (λ i. mine j i * hops i) (λ i. cond (eqb j i) (hops j) 0) n (λ i m. mine_hops hops j i (cases_eq j i)) ∙ total_at (hops j) j n l

module _ (n : Net) where
  abbrev hops : ℕ → ℕ
  hops i = length (route n i)

  queue_most : (c : ℕ) (q : List Flit) → all_go_on n c q ≡ true → all_to_go n c q ≤ total (λ i. of_flow i q * hops i) (flows n)
  queue_most c [] h = omega arith
  queue_most c (x ∷ xs) h =
      let p = and_parts (goes_on n c x) (all_go_on n c xs) h in
      let low = ltb-true x.flow (flows n) (and_parts (ltb x.flow (flows n)) (is_some (next_channel (route n x.flow) c)) p.0).0 in
      let parts : total (λ i. (mine x.flow i + of_flow i xs) * hops i) (flows n) ≡ total (λ i. mine x.flow i * hops i + of_flow i xs * hops i) (flows n) =
      total_same (λ i. (mine x.flow i + of_flow i xs) * hops i) (λ i. mine x.flow i * hops i + of_flow i xs * hops i) (flows n)
      (λ i l. add-mul (mine x.flow i) (of_flow i xs) (hops i)) in
      omega (
        arith,
        after_most (route n x.flow) (hop (route n x.flow) c),
        queue_most c xs p.1,
        parts,
        total_both (λ i. mine x.flow i * hops i) (λ i. of_flow i xs * hops i) (flows n),
        one_flit hops x.flow (flows n) low,
      )

  module _ (placed : Placed n) (k : ℕ) where
    buffers_most : total (λ c. all_to_go n c (n.lane c k)) 320 ≤ total (λ i. total (λ c. of_flow i (n.lane c k)) 320 * hops i) (flows n)
    buffers_most =
        omega (
          arith,
          total_le (λ c. all_to_go n c (n.lane c k)) (λ c. total (λ i. of_flow i (n.lane c k) * hops i) (flows n)) 320
              (λ c l. queue_most c (n.lane c k) (placed c k)),
          total_turned (λ c i. of_flow i (n.lane c k) * hops i) (flows n) 320,
          total_same (λ i. total (λ c. of_flow i (n.lane c k) * hops i) 320) (λ i. total (λ c. of_flow i (n.lane c k)) 320 * hops i) (flows n)
              (λ i l. total_times (λ c. of_flow i (n.lane c k)) (hops i) 320),
        )

    -- the crossings still needed are at most all hops of every flit that is held
    pub work_held : work n k ≤ total (λ i. held_of n i k * length (route n i)) (flows n)
    work_held =
        omega (
          arith,
          buffers_most,
          total_both (λ i. get_or (line n i).waiting k 0 * hops i) (λ i. total (λ c. of_flow i (n.lane c k)) 320 * hops i) (flows n),
          total_same (λ i. held_of n i k * hops i)
              (λ i. get_or (line n i).waiting k 0 * hops i + total (λ c. of_flow i (n.lane c k)) 320 * hops i) (flows n)
              (λ i l. add-mul (get_or (line n i).waiting k 0) (total (λ c. of_flow i (n.lane c k)) 320) (hops i)),
        )

-- and where each flow has at most R + L - 1 flits there, they are at most those of the sheet
pub work_most : (t : Table) (n : Net) → Good t n → (k : ℕ) →
    ((i : ℕ) → i < flow_count t → held_of n i k ≤ (flow t i).slots + (flow t i).largest - 1) → work n k ≤ crossings t.flows
work_most t n ok k few =
    omega (
      arith,
      work_held n ok.sound.2 k,
      ap (total (λ i. held_of n i k * length (route n i))) ok.flows,
      total_le (λ i. held_of n i k * length (route n i)) (λ i. flow_crossings (flow t i)) (flow_count t) each,
      sumBy_total flow_crossings no_flow t.flows,
    )
  where
    each : (i : ℕ) → i < flow_count t → held_of n i k * length (route n i) ≤ flow_crossings (flow t i)
    each i l = subst (λ cs. held_of n i k * length (route n i) ≤ ((flow t i).slots + (flow t i).largest - 1) * length cs) (ok.lines i l).routed
        (mul-le-mul_right (length (route n i)) (few i l))

on_from : (P : List Step → Type 0) → ((ss : List Step) (s : Step) → P ss → P (ss ++ s ∷ [])) → (ts ss : List Step) → P ss → P (ss ++ ts)
on_from P step [] ss p = subst P (sym (append-nil ss)) p
on_from P step (s ∷ ts) ss p = subst P (append_assoc ss (s ∷ []) ts) (on_from P step ts (ss ++ s ∷ []) (step ss s p))

-- what holds of no steps, and of one step more, holds of all lists
pub step_by_step : (P : List Step → Type 0) → P [] → ((ss : List Step) (s : Step) → P ss → P (ss ++ s ∷ [])) → (ss : List Step) → P ss
step_by_step P none step ss = on_from P step ss [] none

pub accepted_append : (i first end : ℕ) (es fs : List Event) →
    accepted_in i first end (es ++ fs) ≡ accepted_in i first end es + accepted_in i first end fs
accepted_append i first end [] fs = omega arith
accepted_append i first end (accepted j size frame ∷ es) fs = omega (arith, accepted_append i first end es fs)
accepted_append i first end (refused j refusal ∷ es) fs = accepted_append i first end es fs
accepted_append i first end (cycled_once shifted flits ∷ es) fs = accepted_append i first end es fs
accepted_append i first end (not_made ∷ es) fs = accepted_append i first end es fs

-- of every flow, no more is held in an open frame than was accepted into it
abbrev pub Owed : Table → Net → List Event → Type 0
Owed t n es = (i k : ℕ) → i < flow_count t → held_of n i k ≤ accepted_in i (n.head + k) (n.head + k + 1) es

module _ {A C : Type 0} (arbiters : arbiter.Ghosts A) (clocks : clock.Ghosts C) where
  -- a step keeps it: an accepted packet adds to both, a cycle adds nothing to what was accepted
  module _ (t : Table) (valid : (n : Net) (a : A) → Valid n (grants arbiters n a)) where
    owed_more : (n : Net) (es fs : List Event) → Owed t n es → ((i k : ℕ) → accepted_in i (n.head + k) (n.head + k + 1) fs ≡ 0) → Owed t n (es ++ fs)
    owed_more n es fs owed none i k l =
        omega (arith, owed i k l, accepted_append i (n.head + k) (n.head + k + 1) es fs)

    offer_owed : (n : Net) → Good t n → (j size : ℕ) (es : List Event) → Owed t n es →
        Owed t (offer_leaves n j size) (es ++ offer_event j size (offer_answer n j size) ∷ [])
    offer_owed n ok j size es owed i k l =
        subst (λ h. held_of (offer_leaves n j size) i k ≤ accepted_in i (h + k) (h + k + 1) (es ++ offer_event j size (offer_answer n j size) ∷ []))
        (sym (offer_keeps_head n j size))
        (omega (
          arith,
          owed i k l,
          offer_held_of t n ok j size i k,
          accepted_append i (n.head + k) (n.head + k + 1) es (offer_event j size (offer_answer n j size) ∷ []),
        ))

    -- the window shifts, or it does not
    clock_owed : (n : Net) → Good t n → (es : List Event) → Owed t n es → (b : Bool) →
        Owed t (cond b (shifted_net (cycle_made n)) (cycle_made n)) es × Lined (cond b (shifted_net (cycle_made n)) (cycle_made n))
    clock_owed n ok es owed false = (owed, good_lined t n ok)
    clock_owed n ok es owed true = (
      λ i k l.
          let on : n.head + suc k ≡ n.head + 1 + k = omega arith in
          subst (λ h. held_of (shifted_net (cycle_made n)) i k ≤ accepted_in i h (h + 1) es) on
          (omega (arith, owed i (suc k) l, shifted_held_of (cycle_made n) i k (omega (arith, ok.flows)))),
      shifted_lined (cycle_made n) (good_lined t n ok),
    )

    moved_owed : (m : Net) (a : A) (es : List Event) → Owed t m es × Lined m → Owed t (moved m (grants arbiters m a)) es
    moved_owed m a es p i k l = omega (arith, p.0 i k l, moved_held_of m (grants arbiters m a) p.1 (valid m a) i k)

    cycle_owed : (r : Run A C) → Good t r.net → (es : List Event) → Owed t r.net es → (b : Bool) →
        Owed t (cond b r (cycled arbiters clocks r)).net (es ++ cond b (not_made ∷ []) (cycle_event arbiters clocks r ∷ []))
    cycle_owed r ok es owed true = owed_more r.net es (not_made ∷ []) owed (λ i k. refl)
    cycle_owed r ok es owed false =
        owed_more (cycled arbiters clocks r).net es (cycle_event arbiters clocks r ∷ [])
        (moved_owed (after_clock arbiters clocks r) r.arbiter es (clock_owed r.net ok es owed (shifts_now arbiters clocks r))) (λ i k. refl)

    step_owed : (r : Run A C) → Good t r.net → (s : Step) (es : List Event) → Owed t r.net es →
        Owed t (leaves arbiters clocks r (as_call s)).net (es ++ events_of arbiters clocks r (as_call s))
    step_owed r ok (offers j size) es owed = offer_owed r.net ok j size es owed
    step_owed r ok cycles es owed = cycle_owed r ok es owed (run_over r.net)

    -- nothing is held at the start
    start_owed : Owed t (started t) []
    start_owed i k l =
        let is = get_or-map (opened_flow t.settings.window) t.flows i no_flow no_line l in
        omega (arith, ap (λ (m : Line). get_or m.waiting k 0) is, none_waiting k, total_none (λ c. 0) 320 (λ c m. refl))

    -- every list of steps on the network that is started from the table, each of which leaves it good
    module _ (a : A) (c : C) (good : (ss : List Step) → Good t (after arbiters clocks (start arbiters clocks t a c) (as_calls ss)).net) where
      abbrev begun : Run A C
      begun = start arbiters clocks t a c

      owed_next : (ss : List Step) (s : Step) →
          Owed t (after arbiters clocks begun (as_calls ss)).net (events arbiters clocks begun (as_calls ss)) →
          Owed t (after arbiters clocks begun (as_calls (ss ++ s ∷ []))).net (events arbiters clocks begun (as_calls (ss ++ s ∷ [])))
      owed_next ss s owed =
          let r : Run A C = after arbiters clocks begun (as_calls ss) in
          subst (λ q. Owed t q.net (events arbiters clocks begun (as_calls (ss ++ s ∷ [])))) (sym (steps_after_append arbiters clocks begun ss (s ∷ [])))
          (subst (Owed t (leaves arbiters clocks r (as_call s)).net)
          (sym (steps_events_append arbiters clocks begun ss (s ∷ [])
          ∙ ap (λ es. events arbiters clocks begun (as_calls ss) ++ es) (append-nil (events_of arbiters clocks r (as_call s)))))
          (step_owed r (good ss) s (events arbiters clocks begun (as_calls ss)) owed))

      pub owed : (ss : List Step) → Owed t (after arbiters clocks (start arbiters clocks t a c) (as_calls ss)).net
          (events arbiters clocks (start arbiters clocks t a c) (as_calls ss))
      owed = step_by_step
          (λ ss. Owed t (after arbiters clocks begun (as_calls ss)).net (events arbiters clocks begun (as_calls ss)))
          start_owed owed_next

      -- where at most R + L - 1 flits of a flow are accepted into one frame, the crossings that an open frame's flits still need
      -- are at most those of the sheet
      pub work_bound :
          ((ss : List Step) (i : ℕ) → i < flow_count t → (f : ℕ) →
          accepted_in i f (f + 1) (events arbiters clocks (start arbiters clocks t a c) (as_calls ss)) ≤ (flow t i).slots + (flow t i).largest - 1) →
          (ss : List Step) (k : ℕ) → work (after arbiters clocks (start arbiters clocks t a c) (as_calls ss)).net k ≤ crossings t.flows
      work_bound share ss k =
          let n : Net = (after arbiters clocks begun (as_calls ss)).net in
          work_most t n (good ss) k (λ i l. omega (arith, owed ss i k l, share ss i l (n.head + k)))
