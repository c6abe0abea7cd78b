-- To move the granted flits one channel at a time, in rising order, is to move them together.
use Rattle.std.proofs.Common.{◌≡◌, ℕ, ◌+◌, ◌<◌, ◌≤◌, Bool, true, false, cond, not, ◌&&◌, ◌||◌, eqb, List, [], ◌∷◌, ◌++◌, take, set, is_some, Some, None, Option, sym, refl, ap, ◌∙◌, subst, ⊎_elim, append_assoc, append-nil, arith}
use Rattle.std.proofs.lemmas.Bool.{and_left, and_right, both_ways, cases_eq, eq-eqb, ne_eqb, eqb-true, eqb-false}
use Rattle.folds.proofs.Ups.{up_same, up_set}
use Rattle.lanes.specs.Lanes.{rest_of}
use Rattle.lanes.specs.declared.flits.Flit.{Flit}
use Rattle.routes.specs.Channels.{well_formed}
use Rattle.routes.specs.Crossings.{crossing, next_channel, first_channel, last_channel}
use Rattle.routes.specs.declared.crossing.Crossing.{Crossing}
use Rattle.routes.proofs.Crossings.{before_next, next_before, first_tells, last_tells}
use Rattle.sources.specs.Lines.{Line}
use Rattle.running.specs.Crossed.{without_front, with_flit, crossed_lane, crossed_line, crossed_by, crossed}
use Rattle.running.specs.Moves.{at_channel, gives, gives_to, goes_to, ready_flit, stay, enter, enters_by, moved_lane, left_if, arrived_if, moved_line, moved, arrive}
use Rattle.running.specs.Nets.{Net, line, route, flows}
use Rattle.running.specs.Requests.{leads, is_at, stands, requests}
use Rattle.running.specs.Valid.{Valid, Routed}
use Rattle.running.specs.declared.grant.Grant.{Grant}
use Rattle.running.proofs.Fronts.{is_at_some, some_is_at}
use Rattle.running.proofs.Lines.{two_turns, moved_flows, line_moved, moved_route}
use Rattle.running.proofs.Ready.{Requested, requested, requesting, front_leads, front_kept, ready_kept, stands_kept, space_kept, crossing_kept, arrive_kept}
use Rattle.running.proofs.Same.{same_net}
use Rattle.running.proofs.Turns.{at_later, at_turn, at_other}

-- the front that goes is not of what comes behind
rest_more : (q r : List Flit) (i : ℕ) → leads q i ≡ true → rest_of (q ++ r) ≡ rest_of q ++ r
rest_more [] r i e = absurd (both_ways true (sym e) refl)
rest_more (y ∷ ys) r i e = refl

-- the turn of channel c, which grants g
module _ (n : Net) (gs : List (Option Grant)) (c : ℕ) (g : Grant) (x : Crossing) (low : g.flow < flows n)
    (ok : well_formed (route n g.flow) ≡ true) (q : crossing (route n g.flow) c ≡ Some x)
    (st : stands n g.ahead g.flow x.before ≡ true)
    (e : at_channel gs c ≡ Some g) where
  yet : at_channel (take c gs) c ≡ None
  yet = at_later gs c c (omega arith)

  now_given : at_channel (take (c + 1) gs) c ≡ Some g
  now_given = at_turn gs c ∙ e

  -- what a test of the grants says with g and without
  tested : (t : Option Grant → Bool) → t None ≡ t (Some g) → (d : ℕ) → t (at_channel (take (c + 1) gs) d) ≡ t (at_channel (take c gs) d)
  tested t h d =
      ⊎_elim
      (λ p. ap (λ k. t (at_channel (take (c + 1) gs) k)) p ∙ ap t now_given ∙ sym h ∙ sym (ap t yet)
      ∙ ap (λ k. t (at_channel (take c gs) k)) (sym p))
      (λ ne. ap t (at_other gs c d ne))
      (cases_eq d c)

  given_mine : (d : ℕ) → gives_to (at_channel (take (c + 1) gs) d) g.flow ≡ (eqb d c || gives_to (at_channel (take c gs) d) g.flow)
  given_mine d =
      ⊎_elim
      (λ p. ap (λ k. gives_to (at_channel (take (c + 1) gs) k) g.flow) p ∙ ap (λ t. gives_to t g.flow) now_given
      ∙ eq-eqb g.flow g.flow refl ∙ sym (ap (λ b. b || gives_to (at_channel (take c gs) d) g.flow) (eq-eqb d c p)))
      (λ ne. ap (λ t. gives_to t g.flow) (at_other gs c d ne)
      ∙ sym (ap (λ b. b || gives_to (at_channel (take c gs) d) g.flow) (ne_eqb d c ne)))
      (cases_eq d c)

  not_given_yet : (d : ℕ) → eqb d c ≡ true → gives_to (at_channel (take c gs) d) g.flow ≡ false
  not_given_yet d p = ap (λ k. gives_to (at_channel (take c gs) k) g.flow) (eqb-true d c p) ∙ ap (λ t. gives_to t g.flow) yet

  -- the flow at its source
  line_mine : moved_line (take (c + 1) gs) g.flow (line n g.flow) ≡ crossed_line x (moved_line (take c gs) g.flow (line n g.flow))
  line_mine =
      let l : Line = line n g.flow in
      let first : ℕ = first_channel l.route in
      let last : ℕ = last_channel l.route in
      let a : Bool = gives_to (at_channel (take c gs) last) g.flow in
      let b : Bool = gives_to (at_channel (take c gs) first) g.flow in
      let fs = first_tells l.route c x ok q in
      let ls = last_tells l.route c x ok q in
      ap (λ t. arrived_if t (left_if (gives_to (at_channel (take (c + 1) gs) first) g.flow) l)) (given_mine last ∙ ap (λ t. t || a) ls)
      ∙ ap (λ t. arrived_if (x.last || a) (left_if t l)) (given_mine first ∙ ap (λ t. t || b) fs)
      ∙ two_turns x.last (not (is_some x.before)) a b l (λ p. not_given_yet last (ls ∙ p)) (λ p. not_given_yet first (fs ∙ p))

  line_other : (i : ℕ) → eqb g.flow i ≡ false → moved_line (take (c + 1) gs) i (line n i) ≡ moved_line (take c gs) i (line n i)
  line_other i ne =
      let l : Line = line n i in
      let same = tested (λ t. gives_to t i) (sym ne) in
      ap (λ t. arrived_if t (left_if (gives_to (at_channel (take (c + 1) gs) (first_channel l.route)) i) l)) (same (last_channel l.route))
      ∙ ap (λ t. arrived_if (gives_to (at_channel (take c gs) (last_channel l.route)) i) (left_if t l)) (same (first_channel l.route))

  line_by : (i : ℕ) (b : Bool) → eqb i g.flow ≡ b →
      moved_line (take (c + 1) gs) i (line n i)
      ≡ cond b (crossed_line x (line (moved n (take c gs)) g.flow)) (moved_line (take c gs) i (line n i))
  line_by i true p =
      ap (λ (j : ℕ). moved_line (take (c + 1) gs) j (line n j)) (eqb-true i g.flow p)
      ∙ line_mine ∙ ap (crossed_line x) (sym (line_moved n (take c gs) g.flow low))
  line_by i false p = line_other i (ne_eqb g.flow i (λ r. eqb-false i g.flow p (sym r)))

  lines_turn : (moved n (take (c + 1) gs)).lines ≡ set (moved n (take c gs)).lines g.flow (crossed_line x (line (moved n (take c gs)) g.flow))
  lines_turn =
      let f : ℕ → Line = λ i. moved_line (take c gs) i (line n i) in
      let y : Line = crossed_line x (line (moved n (take c gs)) g.flow) in
      up_same (λ i. moved_line (take (c + 1) gs) i (line n i)) (λ i. cond (eqb i g.flow) y (f i)) (flows n)
      (λ i l. line_by i (eqb i g.flow) refl)
      ∙ sym (up_set f (flows n) g.flow y)

  -- the buffers of another frame
  goes_other : (k i : ℕ) (o : Option ℕ) → eqb g.ahead k ≡ false → goes_to (take (c + 1) gs) k i o ≡ goes_to (take c gs) k i o
  goes_other k i None ne = refl
  goes_other k i (Some d) ne = tested (λ t. gives t k i) (sym (and_left (eqb g.ahead k) (eqb g.flow i) ne)) d

  stay_other : (d k : ℕ) (r : List Flit) → eqb g.ahead k ≡ false → stay n (take (c + 1) gs) d k r ≡ stay n (take c gs) d k r
  stay_other d k [] ne = refl
  stay_other d k (y ∷ ys) ne = ap (λ (b : Bool). cond b ys (y ∷ ys)) (goes_other k y.flow (next_channel (route n y.flow) d) ne)

  enter_turn : (k : ℕ) → enter n c k (at_channel (take (c + 1) gs) c)
      ≡ cond (eqb g.ahead k && not x.last) (ready_flit n k g.flow x.before ∷ []) []
  enter_turn k = ap (enter n c k) now_given ∙ ap (enters_by n k g) q

  enter_yet : (k : ℕ) → enter n c k (at_channel (take c gs) c) ≡ []
  enter_yet k = ap (enter n c k) yet

  enter_other : (d k : ℕ) → eqb g.ahead k ≡ false → enter n d k (at_channel (take (c + 1) gs) d) ≡ enter n d k (at_channel (take c gs) d)
  enter_other d k ne =
      ⊎_elim
      (λ p. ap (λ (j : ℕ). enter n j k (at_channel (take (c + 1) gs) j)) p ∙ enter_turn k
      ∙ ap (λ (b : Bool). cond b (ready_flit n k g.flow x.before ∷ []) []) (and_left (eqb g.ahead k) (not x.last) ne)
      ∙ sym (ap (λ (j : ℕ). enter n j k (at_channel (take c gs) j)) p ∙ enter_yet k))
      (λ p. ap (enter n d k) (at_other gs c d p))
      (cases_eq d c)

  lane_other : (d k : ℕ) → eqb g.ahead k ≡ false → moved_lane n (take (c + 1) gs) d k ≡ moved_lane n (take c gs) d k
  lane_other d k ne =
      ap (λ (r : List Flit). r ++ enter n d k (at_channel (take (c + 1) gs) d)) (stay_other d k (n.lane d k) ne)
      ∙ ap (λ (r : List Flit). stay n (take c gs) d k (n.lane d k) ++ r) (enter_other d k ne)

  -- the buffers of the granted frame: the front of the channel before goes
  goes_now : (d : ℕ) (r : List Flit) → leads r g.flow ≡ true → next_channel (route n g.flow) d ≡ Some c →
      stay n (take (c + 1) gs) d g.ahead r ≡ rest_of r
  goes_now d [] h f = refl
  goes_now d (y ∷ ys) h f =
      let same = eqb-true y.flow g.flow h in
      ap (λ (b : Bool). cond b ys (y ∷ ys))
      (ap (λ (i : ℕ). goes_to (take (c + 1) gs) g.ahead i (next_channel (route n i) d)) same
      ∙ ap (goes_to (take (c + 1) gs) g.ahead g.flow) f
      ∙ ap (λ (t : Option Grant). gives t g.ahead g.flow) now_given
      ∙ ap (λ (b : Bool). b && eqb g.flow g.flow) (eq-eqb g.ahead g.ahead refl)
      ∙ eq-eqb g.flow g.flow refl)

  -- and no other one does
  not_mine : (d i : ℕ) (b : Bool) → eqb g.flow i ≡ b → is_at x.before d ≡ false → next_channel (route n i) d ≡ Some c → b ≡ false
  not_mine d i false p h f = refl
  not_mine d i true p h f =
      let same : next_channel (route n g.flow) d ≡ Some c = ap (λ (j : ℕ). next_channel (route n j) d) (eqb-true g.flow i p) ∙ f in
      absurd (both_ways (is_at x.before d) h (some_is_at x.before d (next_before (route n g.flow) d c ok same x q)))

  goes_not : (d i : ℕ) (o : Option ℕ) → is_at x.before d ≡ false → next_channel (route n i) d ≡ o →
      goes_to (take (c + 1) gs) g.ahead i o ≡ goes_to (take c gs) g.ahead i o
  goes_not d i None h f = refl
  goes_not d i (Some j) h f =
      ⊎_elim
      (λ p. tested (λ t. gives t g.ahead i)
      (sym (and_right (eqb g.ahead g.ahead) (eqb g.flow i) (not_mine d i (eqb g.flow i) refl h (f ∙ ap Some p)))) j)
      (λ ne. ap (λ (t : Option Grant). gives t g.ahead i) (at_other gs c j ne))
      (cases_eq j c)

  stay_not : (d : ℕ) (r : List Flit) → is_at x.before d ≡ false → stay n (take (c + 1) gs) d g.ahead r ≡ stay n (take c gs) d g.ahead r
  stay_not d [] h = refl
  stay_not d (y ∷ ys) h = ap (λ (b : Bool). cond b ys (y ∷ ys)) (goes_not d y.flow (next_channel (route n y.flow) d) h refl)

  -- what channel d's buffer keeps, with what came to it before its turn
  kept_by : (d : ℕ) (b : Bool) (r : List Flit) → is_at x.before d ≡ b →
      stay n (take (c + 1) gs) d g.ahead (n.lane d g.ahead) ++ r
      ≡ without_front b (stay n (take c gs) d g.ahead (n.lane d g.ahead) ++ r)
  kept_by d false r h = ap (λ (t : List Flit). t ++ r) (stay_not d (n.lane d g.ahead) h)
  kept_by d true r h =
      let here : x.before ≡ Some d = is_at_some x.before d h in
      let fronts = front_leads n gs c g x low ok q st d here in
      ap (λ (t : List Flit). t ++ r) (goes_now d (n.lane d g.ahead) fronts (before_next (route n g.flow) c x ok q d here).0)
      ∙ sym (rest_more (n.lane d g.ahead) r g.flow fronts)
      ∙ ap (λ (t : List Flit). rest_of (t ++ r)) (sym (front_kept n gs c g x low ok q st d here))

  -- the flit that comes to channel c's buffer
  enter_mine : (d : ℕ) → enter n d g.ahead (at_channel (take (c + 1) gs) d)
      ≡ enter n d g.ahead (at_channel (take c gs) d)
      ++ with_flit (eqb d c && not x.last) (ready_flit (moved n (take c gs)) g.ahead g.flow x.before)
  enter_mine d = ⊎_elim here there (cases_eq d c)
    where
      come : Flit
      come = ready_flit (moved n (take c gs)) g.ahead g.flow x.before

      here : d ≡ c → enter n d g.ahead (at_channel (take (c + 1) gs) d)
          ≡ enter n d g.ahead (at_channel (take c gs) d) ++ with_flit (eqb d c && not x.last) come
      here p =
          ap (λ (j : ℕ). enter n j g.ahead (at_channel (take (c + 1) gs) j)) p ∙ enter_turn g.ahead
          ∙ ap (λ (b : Bool). with_flit (b && not x.last) (ready_flit n g.ahead g.flow x.before))
          (eq-eqb g.ahead g.ahead refl ∙ sym (eq-eqb d c p))
          ∙ ap (with_flit (eqb d c && not x.last)) (sym (ready_kept n gs c g x low ok q st))
          ∙ ap (λ (t : List Flit). t ++ with_flit (eqb d c && not x.last) come)
          (sym (ap (λ (j : ℕ). enter n j g.ahead (at_channel (take c gs) j)) p ∙ enter_yet g.ahead))

      there : (d ≡ c → ⊥) → enter n d g.ahead (at_channel (take (c + 1) gs) d)
          ≡ enter n d g.ahead (at_channel (take c gs) d) ++ with_flit (eqb d c && not x.last) come
      there ne =
          ap (enter n d g.ahead) (at_other gs c d ne) ∙ sym (append-nil (enter n d g.ahead (at_channel (take c gs) d)))
          ∙ ap (λ (b : Bool). enter n d g.ahead (at_channel (take c gs) d) ++ with_flit (b && not x.last) come) (sym (ne_eqb d c ne))

  lane_mine : (d : ℕ) → moved_lane n (take (c + 1) gs) d g.ahead
      ≡ without_front (is_at x.before d) (moved_lane n (take c gs) d g.ahead)
      ++ with_flit (eqb d c && not x.last) (ready_flit (moved n (take c gs)) g.ahead g.flow x.before)
  lane_mine d =
      let come = with_flit (eqb d c && not x.last) (ready_flit (moved n (take c gs)) g.ahead g.flow x.before) in
      let kept = stay n (take (c + 1) gs) d g.ahead (n.lane d g.ahead) in
      let had = enter n d g.ahead (at_channel (take c gs) d) in
      ap (λ (t : List Flit). kept ++ t) (enter_mine d)
      ∙ sym (append_assoc kept had come)
      ∙ ap (λ (t : List Flit). t ++ come) (kept_by d (is_at x.before d) had refl)

  lane_by : (d k : ℕ) (b : Bool) → eqb k g.ahead ≡ b →
      moved_lane n (take (c + 1) gs) d k
      ≡ cond b
      (without_front (is_at x.before d) (moved_lane n (take c gs) d k)
      ++ with_flit (eqb d c && not x.last) (ready_flit (moved n (take c gs)) k g.flow x.before))
      (moved_lane n (take c gs) d k)
  lane_by d k true p =
      subst
      (λ (j : ℕ). moved_lane n (take (c + 1) gs) d j
      ≡ without_front (is_at x.before d) (moved_lane n (take c gs) d j)
      ++ with_flit (eqb d c && not x.last) (ready_flit (moved n (take c gs)) j g.flow x.before))
      (sym (eqb-true k g.ahead p)) (lane_mine d)
  lane_by d k false p = lane_other d k (ne_eqb g.ahead k (λ r. eqb-false k g.ahead p (sym r)))

  turn : moved n (take (c + 1) gs) ≡ crossed (moved n (take c gs)) c g
  turn =
      same_net n (moved n (take (c + 1) gs)).lines
      (set (moved n (take c gs)).lines g.flow (crossed_line x (line (moved n (take c gs)) g.flow)))
      (moved_lane n (take (c + 1) gs)) (crossed_lane (moved n (take c gs)) c g x)
      lines_turn (λ d k. lane_by d k (eqb k g.ahead) refl)
      ∙ sym (ap (crossed_by (moved n (take c gs)) c g) (crossing_kept n gs c g x low ok q st))

-- the turn of a channel that grants what was requested
module _ (n : Net) (gs : List (Option Grant)) (routed : Routed n) (valid : Valid n gs) (c : ℕ) (g : Grant) (e : at_channel gs c ≡ Some g) where
  low : g.flow < flows n
  low = (valid c g e).0

  ok : well_formed (route n g.flow) ≡ true
  ok = routed g.flow low

  asks : Requested n c g.ahead g.flow
  asks = requested n c g.ahead g.flow (valid c g e).1

  -- its flit crosses, and so all that was granted so far has moved
  pub moved_one : moved n (take (c + 1) gs) ≡ crossed (moved n (take c gs)) c g
  moved_one = turn n gs c g asks.0 low ok asks.1 asks.2 e

  -- the flit still stands ready, and the channel has space
  pub ready_one : requests (moved n (take c gs)) c g.ahead g.flow ≡ true
  ready_one =
      requesting (moved n (take c gs)) c g.ahead g.flow (
        asks.0,
        crossing_kept n gs c g asks.0 low ok asks.1 asks.2,
        stands_kept n gs c g asks.0 low ok asks.1 asks.2,
        space_kept n gs c g asks.0 low ok asks.1 asks.2 asks.3,
      )

  pub ready_flow : g.flow < flows (moved n (take c gs))
  ready_flow = subst (λ (i : ℕ). g.flow < i) (sym (moved_flows n (take c gs))) low

  pub ready_route : well_formed (route (moved n (take c gs)) g.flow) ≡ true
  ready_route = ap well_formed (moved_route n (take c gs) g.flow) ∙ ok

-- the flit that a channel delivers, read when its turn comes, is the flit that stood there before the moves
module _ (n : Net) (gs : List (Option Grant)) (routed : Routed n) (valid : Valid n gs) (c : ℕ) where
  arrivals_by : (o : Option Grant) → at_channel gs c ≡ o → arrive n c o ≡ arrive (moved n (take c gs)) c o
  arrivals_by None e = refl
  arrivals_by (Some g) e =
      let a = requested n c g.ahead g.flow (valid c g e).1 in
      let low = (valid c g e).0 in
      sym (arrive_kept n gs c g a.0 low (routed g.flow low) a.1 a.2)

  pub arrivals_one : arrive n c (at_channel gs c) ≡ arrive (moved n (take c gs)) c (at_channel gs c)
  arrivals_one = arrivals_by (at_channel gs c) refl

-- nothing is granted to a flow that is not there
given_no : (i : ℕ) (o : Option Grant) → ((g : Grant) → o ≡ Some g → g.flow < i) → (j : ℕ) → i ≤ j → gives_to o j ≡ false
given_no i None h j l = refl
given_no i (Some g) h j l = let low = h g refl in ne_eqb g.flow j (λ q. omega arith)

pub valid_flow : (n : Net) (gs : List (Option Grant)) → Valid n gs → (c i : ℕ) → flows n ≤ i → gives_to (at_channel gs c) i ≡ false
valid_flow n gs valid c i l = given_no (flows n) (at_channel gs c) (λ g e. (valid c g e).0) i l
