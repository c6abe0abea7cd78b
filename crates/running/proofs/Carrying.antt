-- A granted flit that crosses its channel leaves the network sound.
use Rattle.std.proofs.Common.{◌≡◌, ℕ, ◌+◌, ◌-◌, ◌<◌, ◌≤◌, Bool, true, false, cond, not, ◌&&◌, eqb, ltb, ◌≢◌, ◌⊎◌, List, [], ◌∷◌, ◌++◌, length, get_or, set, is_some, Some, None, Option, sym, refl, ap, ◌∙◌, subst, inl, inr, ⊎_elim, append-nil, arith}
use Rattle.std.proofs.lemmas.List.{get_or-set_same, get_or-set_other, length-set, length_push}
use Rattle.std.proofs.lemmas.List.Sums.{sum_by-set}
use Rattle.std.proofs.lemmas.Bool.{and_parts, and_from, cases_eq, eqb-true, eqb-false, eq-eqb, ne_eqb, ltb-true, lt-ltb, true≢false, both_ways, not-true}
use Rattle.folds.specs.Sums.{total}
use Rattle.folds.proofs.Firsts.{first_passes}
use Rattle.folds.proofs.Sums.{total_balance, total_same, term_in_total, total_one}
use Rattle.folds.proofs.Ups.{first_within}
use Rattle.routes.proofs.Crossings.{hop_place, before_known}
use Rattle.lanes.specs.Lanes.{rest_of}
use Rattle.lanes.specs.declared.flits.Flit.{Flit}
use Rattle.routes.specs.Channels.{well_formed}
use Rattle.routes.specs.Crossings.{hop, crossing, crossing_at, next_channel, after_hop}
use Rattle.routes.specs.declared.crossing.Crossing.{Crossing}
use Rattle.sources.specs.Lines.{Line, first_place, without_first, deliver_answer}
use Rattle.running.specs.Crossed.{without_front, with_flit, crossed_lane, crossed_line, crossed_by, crossed}
use Rattle.running.specs.Moves.{ready_flit, left_if, arrived_if}
use Rattle.running.specs.Nets.{Net, no_line, line, route, flows}
use Rattle.running.specs.Requests.{leads, is_at, stands, has_space, requests}
use Rattle.running.specs.Sounds.{Ranges, InStep, goes_on, all_go_on, Placed, Shallow, Bounded, waiting_in, buffered_in, Tallied, of_flow, under_way, Accounted, Sound}
use Rattle.running.specs.declared.grant.Grant.{Grant}
use Rattle.running.proofs.Fronts.{is_at_some, stood_flow, asks_both, lane_here, lane_elsewhere, length_balance, flow_balance}
use Rattle.running.proofs.Keeping.{kept_field, new_field, other_field, all_alike, rest_goes_on, push_goes_on}

-- a crossing that is not the last has a channel after it
is_last : Option Crossing → Bool
is_last None = false
is_last (Some x) = x.last

after_by : (cs : List ℕ) (o : Option ℕ) (x : Crossing) → ((h : ℕ) → o ≡ Some h → h < length cs) → crossing_at cs o ≡ Some x → x.last ≡ false →
    is_some (after_hop cs o) ≡ true
unfolding is_last
after_by cs None x w e f = absurd cc
after_by cs (Some h) x w e f =
    let l : h < length cs = w h refl in
    let ne : h + 1 ≡ length cs → ⊥ = eqb-false (h + 1) (length cs) (ap is_last e ∙ f) in
    ap (λ b. is_some (cond b (Some (get_or cs (h + 1) 0)) None)) (lt-ltb (h + 1) (length cs) (omega arith))

pub goes_on_after : (cs : List ℕ) (c : ℕ) (x : Crossing) → crossing cs c ≡ Some x → x.last ≡ false → is_some (next_channel cs c) ≡ true
goes_on_after cs c x e f =
    after_by cs (hop cs c) x (λ h q. (hop_place cs c h q).0) e f

-- a buffer whose front is a flit has one
leads_some : (q : List Flit) (i : ℕ) → leads q i ≡ true → 0 < length q
leads_some [] i s = absurd (true≢false (sym s))
leads_some (x ∷ q) i s = omega arith

-- a flow's line after its flit crossed: one flit fewer waits if it left its source, and one more is delivered over the last channel
pub record Carried (k : ℕ) (left last : Bool) (l m : Line) : Type 0 where
  pub ledger : m.ledger ≡ l.ledger
  pub route : m.route ≡ l.route
  pub places : length m.waiting ≡ length l.waiting
  pub here : get_or m.waiting k 0 + cond left 1 0 ≡ get_or l.waiting k 0
  pub elsewhere : (j : ℕ) → (j ≡ k → ⊥) → get_or m.waiting j 0 ≡ get_or l.waiting j 0
  pub sent : m.sent ≡ l.sent + cond left 1 0
  pub delivered : m.delivered ≡ l.delivered + cond last 1 0

left_first : (k : ℕ) (l : Line) → k < length l.waiting → 0 < get_or l.waiting k 0 → Carried k true false l (without_first l (Some k))
left_first k l inside some = record {
  ledger = refl;
  route = refl;
  places = length-set l.waiting k (get_or l.waiting k 0 - 1);
  here = omega (arith, get_or-set_same l.waiting k (get_or l.waiting k 0 - 1) 0 inside);
  elsewhere = λ j d. let ne : j ≢ k = d in get_or-set_other l.waiting k j (get_or l.waiting k 0 - 1) 0 ne;
  sent = refl;
  delivered = omega arith;
}

left_carried : (n : Net) (k i : ℕ) (o : Option ℕ) → stands n k i o ≡ true → length (line n i).waiting ≡ 8 →
    Carried k (not (is_some o)) false (line n i) (left_if (not (is_some o)) (line n i))
left_carried n k i None s long =
    let place : first_place (line n i) ≡ Some k = is_at_some (first_place (line n i)) k s in
    let inside = first_within (λ j. ltb 0 (get_or (line n i).waiting j 0)) 0 8 k place in
    let some = ltb-true 0 (get_or (line n i).waiting k 0) (first_passes (λ j. ltb 0 (get_or (line n i).waiting j 0)) 0 8 k place) in
    subst (λ o. Carried k true false (line n i) (without_first (line n i) o)) (sym place) (left_first k (line n i) (omega arith) some)
left_carried n k i (Some d) s long = record {
  ledger = refl;
  route = refl;
  places = refl;
  here = omega arith;
  elsewhere = λ j d. refl;
  sent = omega arith;
  delivered = omega arith;
}

arrived_carried : (k : ℕ) (left last : Bool) (l m : Line) → Carried k left false l m → Carried k left last l (arrived_if last m)
arrived_carried k left true l m r = record {
  ledger = r.ledger;
  route = r.route;
  places = r.places;
  here = r.here;
  elsewhere = r.elsewhere;
  sent = r.sent;
  delivered = omega (arith, r.delivered);
}
arrived_carried k left false l m r = r

pub line_carried : (n : Net) (k i : ℕ) (x : Crossing) → stands n k i x.before ≡ true → length (line n i).waiting ≡ 8 →
    Carried k (not (is_some x.before)) x.last (line n i) (crossed_line x (line n i))
line_carried n k i x s long =
    arrived_carried k (not (is_some x.before)) x.last (line n i) (left_if (not (is_some x.before)) (line n i)) (left_carried n k i x.before s long)

-- the flits of a flow in a queue
of_flow_leads : (q : List Flit) (i : ℕ) → leads q i ≡ true → 0 < of_flow i q
of_flow_leads [] i s = absurd (true≢false (sym s))
of_flow_leads (x ∷ q) i s = omega (arith, ap (λ b. cond {A = ℕ} b 1 0) s)

-- sums that stay even
settled : (b last : Bool) (s d u s' d' u' : ℕ) → s ≡ d + u → s' ≡ s + cond (not b) 1 0 → d' ≡ d + cond last 1 0 →
    u' + cond b 1 0 ≡ u + cond (not last) 1 0 → s' ≡ d' + u'
settled true true s d u s' d' u' p q r t = omega arith
settled true false s d u s' d' u' p q r t = omega arith
settled false true s d u s' d' u' p q r t = omega arith
settled false false s d u s' d' u' p q r t = omega arith

settled_apart : (b p : Bool) (s d u s' d' u' : ℕ) → s ≡ d + u → s' ≡ s → d' ≡ d → u' + cond b 0 0 ≡ u + cond p 0 0 → s' ≡ d' + u'
settled_apart true true s d u s' d' u' p q r t = omega arith
settled_apart true false s d u s' d' u' p q r t = omega arith
settled_apart false true s d u s' d' u' p q r t = omega arith
settled_apart false false s d u s' d' u' p q r t = omega arith

counted : (b last : Bool) (h w u w' u' : ℕ) → h ≡ w + u → w' + cond (not b) 1 0 ≡ w → u' + cond b 1 0 ≡ u + cond (not last) 1 0 →
    cond last (h - 1) h ≡ w' + u'
counted true true h w u w' u' p q r = omega arith
counted true false h w u w' u' p q r = omega arith
counted false true h w u w' u' p q r = omega arith
counted false false h w u w' u' p q r = omega arith

-- the counts of held flits after a crossing: one fewer where the flit is delivered
held_here : (b : Bool) (held : List ℕ) (k v : ℕ) → k < length held → get_or (cond b (set held k v) held) k 0 ≡ cond b v (get_or held k 0)
held_here true held k v l = get_or-set_same held k v 0 l
held_here false held k v l = refl

held_elsewhere : (b : Bool) (held : List ℕ) (k v j : ℕ) → (j ≡ k → ⊥) → get_or (cond b (set held k v) held) j 0 ≡ get_or held j 0
held_elsewhere true held k v j d = let ne : j ≢ k = d in get_or-set_other held k j v 0 ne
held_elsewhere false held k v j d = refl

held_long : (b : Bool) (held : List ℕ) (k v : ℕ) → length (cond b (set held k v) held) ≡ length held
held_long true held k v = length-set held k v
held_long false held k v = refl

-- a queue without its front and with a flit more: its flits go on, it is not too deep, it is empty where it has to be
queue_goes_on : (n : Net) (d : ℕ) (q : List Flit) (y : Flit) (b p : Bool) → (p ≡ true → goes_on n d y ≡ true) → all_go_on n d q ≡ true →
    all_go_on n d (without_front b q ++ with_flit p y) ≡ true
queue_goes_on n d q y true true e h = push_goes_on n d (rest_of q) y (rest_goes_on n d q h) (e refl)
queue_goes_on n d q y true false e h = ap (all_go_on n d) (append-nil (rest_of q)) ∙ rest_goes_on n d q h
queue_goes_on n d q y false true e h = push_goes_on n d q y h (e refl)
queue_goes_on n d q y false false e h = ap (all_go_on n d) (append-nil q) ∙ h

rest_length : (q : List Flit) → length (rest_of q) ≤ length q
rest_length [] = omega arith
rest_length (z ∷ q) = omega arith

queue_depth : (depth : ℕ) (q : List Flit) (y : Flit) (b p : Bool) → (p ≡ true → length q < depth) → length q ≤ depth →
    length (without_front b q ++ with_flit p y) ≤ depth
queue_depth depth q y true true e h = omega (arith, length_push (rest_of q) y, rest_length q, e refl)
queue_depth depth q y true false e h = omega (arith, ap length (append-nil (rest_of q)), rest_length q)
queue_depth depth q y false true e h = omega (arith, length_push q y, e refl)
queue_depth depth q y false false e h = omega (arith, ap length (append-nil q))

queue_empty : (q : List Flit) (y : Flit) (b p : Bool) → (p ≡ true → ⊥) → length q ≡ 0 → length (without_front b q ++ with_flit p y) ≡ 0
queue_empty q y b true e h = absurd (e refl)
queue_empty q y true false e h = omega (arith, ap length (append-nil (rest_of q)), rest_length q)
queue_empty q y false false e h = omega (arith, ap length (append-nil q))

-- what a flit that comes to a buffer says of its channel and its crossing
enters : (d c : ℕ) (last : Bool) → (eqb d c && not last) ≡ true → (d ≡ c) × (last ≡ false)
enters d c last e = let p = and_parts (eqb d c) (not last) e in (eqb-true d c p.0, not-true last p.1)

-- channel c grants a flit of flow g .flow in an open frame, which requests it
module _
    (n : Net) (held : List ℕ) (c : ℕ) (g : Grant) (x : Crossing) (ok : Sound n held) (among : g.flow < flows n) (is : crossing (route n g.flow) c ≡ Some x)
    (asks : requests n c g.ahead g.flow ≡ true) (known : c < 320) (open-frame : g.ahead < n.window) where
  abbrev after : Net
  after = crossed_by n c g (Some x)

  abbrev carried_line : Line
  carried_line = crossed_line x (line n g.flow)

  abbrev flit : Flit
  flit = ready_flit n g.ahead g.flow x.before

  -- whether channel d's buffer loses its front, and whether it gets the flit
  abbrev loses : ℕ → Bool
  loses d = is_at x.before d

  abbrev gets : ℕ → Bool
  gets d = eqb d c && not x.last

  stood : stands n g.ahead g.flow x.before ≡ true
  stood = (asks_both n c g.ahead g.flow x is asks).0

  spared : has_space n c g.ahead x.last ≡ true
  spared = (asks_both n c g.ahead g.flow x is asks).1

  -- the flit at the front of the channel before
  led : (d : ℕ) → x.before ≡ Some d → leads (n.lane d g.ahead) g.flow ≡ true
  led d e = ap (stands n g.ahead g.flow) (sym e) ∙ stood

  before_there : (d : ℕ) → x.before ≡ Some d → d < 320
  before_there = before_known (route n g.flow) c x (ok.1 g.flow among).3 is

  in_eight : g.ahead < 8
  in_eight = omega (arith, ok.0)

  carried : Carried g.ahead (not (is_some x.before)) x.last (line n g.flow) carried_line
  carried = line_carried n g.ahead g.flow x stood (ok.1 g.flow among).2

  -- the flits in all buffers
  buffered_here : buffered_in after g.ahead + cond (is_some x.before) 1 0 ≡ buffered_in n g.ahead + cond (not x.last) 1 0
  buffered_here = length_balance n c g x (ok.1 g.flow among).3 is stood

  buffered_elsewhere : (k : ℕ) → (k ≡ g.ahead → ⊥) → buffered_in after k ≡ buffered_in n k
  buffered_elsewhere k ne = total_same (λ d. length (crossed_lane n c g x d k)) (λ d. length (n.lane d k)) 320 (λ d l. ap length (lane_elsewhere n c g x d k ne))

  -- and those of each flow
  abbrev mine : ℕ → ℕ
  mine j = cond (eqb g.flow j) 1 0

  flow_here : (j : ℕ) →
      total (λ d. of_flow j (crossed_lane n c g x d g.ahead)) 320 + cond (is_some x.before) (mine j) 0
      ≡ total (λ d. of_flow j (n.lane d g.ahead)) 320 + cond (not x.last) (mine j) 0
  flow_here j = flow_balance n c g x (ok.1 g.flow among).3 is stood j

  flow_by : (j k : ℕ) → ((k ≡ g.ahead) ⊎ (k ≡ g.ahead → ⊥)) →
      total (λ d. of_flow j (crossed_lane n c g x d k)) 320 + cond (eqb k g.ahead) (cond (is_some x.before) (mine j) 0) 0
      ≡ total (λ d. of_flow j (n.lane d k)) 320 + cond (eqb k g.ahead) (cond (not x.last) (mine j) 0) 0
  flow_by j k (inl e) =
      subst (λ i. total (λ d. of_flow j (crossed_lane n c g x d i)) 320 + cond (eqb i g.ahead) (cond (is_some x.before) (mine j) 0) 0
      ≡ total (λ d. of_flow j (n.lane d i)) 320 + cond (eqb i g.ahead) (cond (not x.last) (mine j) 0) 0) (sym e)
      (ap (λ b. total (λ d. of_flow j (crossed_lane n c g x d g.ahead)) 320 + cond b (cond (is_some x.before) (mine j) 0) 0) same
      ∙ flow_here j ∙ ap (λ b. total (λ d. of_flow j (n.lane d g.ahead)) 320 + cond b (cond (not x.last) (mine j) 0) 0) (sym same))
    where
      same : eqb g.ahead g.ahead ≡ true
      same = eq-eqb g.ahead g.ahead refl
  flow_by j k (inr ne) =
      (λ i. total (λ d. of_flow j (lane_elsewhere n c g x d k ne i)) 320 + cond (ne_eqb k g.ahead ne i) (cond (is_some x.before) (mine j) 0) 0)
      ∙ ap (λ b. total (λ d. of_flow j (n.lane d k)) 320 + cond b (cond (not x.last) (mine j) 0) 0) (sym (ne_eqb k g.ahead ne))

  under_way_balance : (j : ℕ) → under_way after j + cond (is_some x.before) (mine j) 0 ≡ under_way n j + cond (not x.last) (mine j) 0
  under_way_balance j =
      omega (
        arith,
        total_one (cond (is_some x.before) (mine j) 0) g.ahead 8 in_eight,
        total_one (cond (not x.last) (mine j) 0) g.ahead 8 in_eight,
        total_balance (λ k. total (λ d. of_flow j (crossed_lane n c g x d k)) 320) (λ k. cond (eqb k g.ahead) (cond (is_some x.before) (mine j) 0) 0)
            (λ k. total (λ d. of_flow j (n.lane d k)) 320) (λ k. cond (eqb k g.ahead) (cond (not x.last) (mine j) 0) 0) 8
            (λ k l. flow_by j k (cases_eq k g.ahead)),
      )

  -- the parts of soundness, one by one
  same_flows : flows after ≡ flows n
  same_flows = length-set n.lines g.flow carried_line

  same_route : (j : ℕ) → route after j ≡ route n j
  same_route j = kept_field (λ l. l.route) n.lines g.flow carried_line among carried.route j

  same_ledger : (j : ℕ) → (line after j).ledger ≡ (line n j).ledger
  same_ledger j = kept_field (λ l. l.ledger) n.lines g.flow carried_line among carried.ledger j

  same_places : (j : ℕ) → length (line after j).waiting ≡ length (line n j).waiting
  same_places j = kept_field (λ l. length l.waiting) n.lines g.flow carried_line among carried.places j

  ranges : Ranges after
  ranges = (ok.0.0, ok.0.1, ok.0.2, omega (arith, same_flows, ok.0.3))

  in_step : InStep after
  in_step j l =
      let s = ok.1 j (omega (arith, same_flows)) in
      (ap (λ a. a.head) (same_ledger j) ∙ s.0, ap (λ a. a.window) (same_ledger j) ∙ s.1, same_places j ∙ s.2, ap well_formed (same_route j) ∙ s.3)

  -- a flit that comes to channel c's buffer goes on from there
  comes_on : x.last ≡ false → goes_on n c flit ≡ true
  comes_on f =
      ap (λ i. ltb i (flows n) && is_some (next_channel (route n i) c)) (stood_flow n g.ahead g.flow x.before stood)
      ∙ and_from (ltb g.flow (flows n)) (is_some (next_channel (route n g.flow) c)) (lt-ltb g.flow (flows n) among) (goes_on_after (route n g.flow) c x is f)

  -- what holds of a buffer after the crossing, by frames
  in_frame : (P : ℕ → List Flit → Type 0) (d k : ℕ) →
      (P g.ahead (without_front (loses d) (n.lane d g.ahead) ++ with_flit (gets d) flit)) →
      P k (n.lane d k) → P k (crossed_lane n c g x d k)
  in_frame P d k h f = ⊎_elim
      (λ e. subst (λ i. P i (crossed_lane n c g x d i)) (sym e) (subst (P g.ahead) (sym (lane_here n c g x d)) h))
      (λ ne. subst (P k) (sym (lane_elsewhere n c g x d k ne)) f)
      (cases_eq k g.ahead)

  placed : Placed after
  placed d k =
      all_alike after n same_flows same_route d (crossed_lane n c g x d k)
      ∙ in_frame (λ i q. all_go_on n d q ≡ true) d k
      (queue_goes_on n d (n.lane d g.ahead) flit (loses d) (gets d) on (ok.2 d g.ahead))
      (ok.2 d k)
    where
      on : (gets d) ≡ true → goes_on n d flit ≡ true
      on e =
          let r = enters d c x.last e in
          subst (λ b. goes_on n b flit ≡ true) (sym r.0) (comes_on r.1)

  shallow : Shallow after
  shallow d k =
      in_frame (λ i q. length q ≤ n.depth) d k
      (queue_depth n.depth (n.lane d g.ahead) flit (loses d) (gets d) fits (ok.3 d g.ahead))
      (ok.3 d k)
    where
      fits : (gets d) ≡ true → length (n.lane d g.ahead) < n.depth
      fits e =
          let r = enters d c x.last e in
          subst (λ b. length (n.lane b g.ahead) < n.depth) (sym r.0)
          (ltb-true (length (n.lane c g.ahead)) n.depth (sym (ap (has_space n c g.ahead) r.1) ∙ spared))

  bounded : Bounded after
  bounded d k out =
      in_frame (λ i q. (ltb d 320 && ltb i n.window) ≡ false → length q ≡ 0) d k
      (λ h. queue_empty (n.lane d g.ahead) flit (loses d) (gets d) (no_flit_there h) (ok.4 d g.ahead h))
      (ok.4 d k) out
    where
      no_flit_there : (ltb d 320 && ltb g.ahead n.window) ≡ false → (gets d) ≡ true → ⊥
      no_flit_there h e =
          let r = enters d c x.last e in
          both_ways (ltb d 320 && ltb g.ahead n.window) h
          (and_from (ltb d 320) (ltb g.ahead n.window) (lt-ltb d 320 (omega arith)) (lt-ltb g.ahead n.window open-frame))

  -- the flits that wait for the granted frame, and for the others
  waiting_here : waiting_in after g.ahead + cond (not (is_some x.before)) 1 0 ≡ waiting_in n g.ahead
  waiting_here =
      omega (
        arith,
        carried.here,
        sum_by-set (λ l. get_or l.waiting g.ahead 0) n.lines g.flow carried_line no_line among,
      )

  waiting_elsewhere : (k : ℕ) → (k ≡ g.ahead → ⊥) → waiting_in after k ≡ waiting_in n k
  waiting_elsewhere k ne =
      omega (
        arith,
        carried.elsewhere k ne,
        sum_by-set (λ l. get_or l.waiting k 0) n.lines g.flow carried_line no_line among,
      )

  abbrev held_after : List ℕ
  held_after = cond x.last (set held g.ahead (get_or held g.ahead 0 - 1)) held

  tally_by : (k : ℕ) → ((k ≡ g.ahead) ⊎ (k ≡ g.ahead → ⊥)) → get_or held_after k 0 ≡ waiting_in after k + buffered_in after k
  tally_by k (inl e) = subst (λ i. get_or held_after i 0 ≡ waiting_in after i + buffered_in after i) (sym e)
      (held_here x.last held g.ahead (get_or held g.ahead 0 - 1) (omega (arith, in_eight, ok.5.0))
      ∙ counted (is_some x.before) x.last (get_or held g.ahead 0) (waiting_in n g.ahead) (buffered_in n g.ahead)
      (waiting_in after g.ahead) (buffered_in after g.ahead)
      (ok.5.1 g.ahead) waiting_here buffered_here)
  tally_by k (inr ne) =
      held_elsewhere x.last held g.ahead (get_or held g.ahead 0 - 1) k ne ∙ ok.5.1 k
      ∙ sym (λ i. waiting_elsewhere k ne i + buffered_elsewhere k ne i)

  tallied : Tallied after held_after
  tallied = (held_long x.last held g.ahead (get_or held g.ahead 0 - 1) ∙ ok.5.0, λ k. tally_by k (cases_eq k g.ahead))

  accounted_by : (j : ℕ) → j < flows n → ((j ≡ g.flow) ⊎ (j ≡ g.flow → ⊥)) → (line after j).sent ≡ (line after j).delivered + under_way after j
  accounted_by j l (inl e) = subst (λ i. (line after i).sent ≡ (line after i).delivered + under_way after i) (sym e)
      (settled (is_some x.before) x.last (line n g.flow).sent (line n g.flow).delivered (under_way n g.flow) _ _ _
      (ok.6 g.flow among)
      (new_field (λ l. l.sent) n.lines g.flow carried_line among ∙ carried.sent)
      (new_field (λ l. l.delivered) n.lines g.flow carried_line among ∙ carried.delivered)
      (subst (λ e. under_way after g.flow + cond (is_some x.before) e 0 ≡ under_way n g.flow + cond (not x.last) e 0)
      (ap (λ b. cond {A = ℕ} b 1 0) (eq-eqb g.flow g.flow refl)) (under_way_balance g.flow)))
  accounted_by j l (inr ne) =
      let s = other_field (λ l. l.sent) n.lines g.flow carried_line among j ne in
      let d = other_field (λ l. l.delivered) n.lines g.flow carried_line among j ne in
      let u = subst (λ e. under_way after j + cond (is_some x.before) e 0 ≡ under_way n j + cond (not x.last) e 0)
      (ap (λ b. cond {A = ℕ} b 1 0) (ne_eqb g.flow j (λ q. ne (sym q)))) (under_way_balance j) in
      settled_apart (is_some x.before) (not x.last) (line n j).sent (line n j).delivered (under_way n j) _ _ _ (ok.6 j l) s d u

  accounted : Accounted after
  accounted j l = accounted_by j (omega (arith, same_flows)) (cases_eq j g.flow)

  after_sound : Sound after held_after
  after_sound = (ranges, in_step, placed, shallow, bounded, tallied, accounted)

  pub crossed_sound : Sound (crossed n c g) (cond x.last (set held g.ahead (get_or held g.ahead 0 - 1)) held)
  crossed_sound = subst (λ o. Sound (crossed_by n c g o) held_after) (sym is) after_sound

  -- a flit that is delivered is held no longer, one that goes on still is
  pub crossed_sound_last : x.last ≡ true → Sound (crossed n c g) (set held g.ahead (get_or held g.ahead 0 - 1))
  crossed_sound_last e = subst (λ b. Sound (crossed n c g) (cond b (set held g.ahead (get_or held g.ahead 0 - 1)) held)) e crossed_sound

  pub crossed_sound_on : x.last ≡ false → Sound (crossed n c g) held
  crossed_sound_on e = subst (λ b. Sound (crossed n c g) (cond b (set held g.ahead (get_or held g.ahead 0 - 1)) held)) e crossed_sound

  -- the flit that crosses was counted
  held_by : (o : Option ℕ) → x.before ≡ o → 0 < waiting_in n g.ahead + buffered_in n g.ahead
  held_by None e = omega (arith, waiting_here, ap (λ o. cond {A = ℕ} (not (is_some o)) 1 0) e)
  held_by (Some d) e =
      omega (arith, term_in_total (λ b. length (n.lane b g.ahead)) d 320 (before_there d e), leads_some (n.lane d g.ahead) g.flow (led d e))

  pub crossed_held : 0 < get_or held g.ahead 0
  crossed_held = omega (arith, held_by x.before refl, ok.5.1 g.ahead)

  -- and if it arrives, it has left its source
  under_way_some : (d : ℕ) → x.before ≡ Some d → 0 < under_way n g.flow
  under_way_some d e =
      omega (
        arith,
        term_in_total (λ k. total (λ b. of_flow g.flow (n.lane b k)) 320) g.ahead 8 in_eight,
        term_in_total (λ b. of_flow g.flow (n.lane b g.ahead)) d 320 (before_there d e),
        of_flow_leads (n.lane d g.ahead) g.flow (led d e),
      )

  leaves : Carried g.ahead (not (is_some x.before)) false (line n g.flow) (left_if (not (is_some x.before)) (line n g.flow))
  leaves = left_carried n g.ahead g.flow x.before stood (ok.1 g.flow among).2

  delivers_by : (o : Option ℕ) → x.before ≡ o →
      (left_if (not (is_some x.before)) (line n g.flow)).delivered < (left_if (not (is_some x.before)) (line n g.flow)).sent
  delivers_by None e = omega (arith, leaves.sent, leaves.delivered, ok.6 g.flow among, ap (λ o. cond {A = ℕ} (not (is_some o)) 1 0) e)
  delivers_by (Some d) e = omega (arith, leaves.sent, leaves.delivered, ok.6 g.flow among, under_way_some d e)

  pub crossed_delivers : deliver_answer (left_if (not (is_some x.before)) (line n g.flow)) ≡ true
  crossed_delivers = lt-ltb _ _ (delivers_by x.before refl)
