-- When the turn comes to channel c, the flit that it granted stands ready as it did before the moves.
use Rattle.std.proofs.Common.{◌≡◌, ℕ, ◌<◌, ◌≤◌, Bool, true, false, cond, List, [], ◌∷◌, ◌++◌, length, get_or, take, Some, None, Option, sym, refl, ap, ◌∙◌, subst, append-nil, arith}
use Rattle.std.proofs.lemmas.Bool.{and_parts, and_from, both_ways, eqb-true, ltb-true, lt-ltb}
use Rattle.lanes.specs.declared.flits.Flit.{Flit}
use Rattle.routes.specs.Channels.{well_formed}
use Rattle.routes.specs.Crossings.{crossing, next_channel, last_channel}
use Rattle.routes.specs.declared.crossing.Crossing.{Crossing}
use Rattle.routes.proofs.Crossings.{before_next, none_first}
use Rattle.sources.specs.Lines.{Line, first_place}
use Rattle.running.specs.Moves.{at_channel, gives, gives_to, goes_to, no_flit, ready_flit, stay, enter, left_if, arrived_if, moved, arrive, arrives_by}
use Rattle.running.specs.Nets.{Net, line, route, flows}
use Rattle.running.specs.Requests.{leads, is_at, stands, has_space, requests, requests_by}
use Rattle.running.specs.declared.grant.Grant.{Grant}
use Rattle.running.proofs.Lines.{arrived_sent, arrived_first, line_moved, moved_route}
use Rattle.running.proofs.Turns.{at_later}

-- a flow that requests a channel crosses it, has a flit that stands ready, and space
abbrev pub Requested : Net → ℕ → ℕ → ℕ → Type 0
Requested n c k i = (x : Crossing) × (crossing (route n i) c ≡ Some x) × (stands n k i x.before ≡ true) × (has_space n c k x.last ≡ true)

requested_by : (n : Net) (c k i : ℕ) (o : Option Crossing) → crossing (route n i) c ≡ o → requests_by n c k i o ≡ true → Requested n c k i
requested_by n c k i None q e = absurd (both_ways true (sym e) refl)
requested_by n c k i (Some x) q e = let p = and_parts (stands n k i x.before) (has_space n c k x.last) e in (x, q, p.0, p.1)

pub requested : (n : Net) (c k i : ℕ) → requests n c k i ≡ true → Requested n c k i
requested n c k i e = requested_by n c k i (crossing (route n i) c) refl e

pub requesting : (n : Net) (c k i : ℕ) → Requested n c k i → requests n c k i ≡ true
requesting n c k i r = ap (requests_by n c k i) r.1 ∙ and_from (stands n k i r.0.before) (has_space n c k r.0.last) r.2 r.3

-- a flit in front of others stays in front, and a buffer that flits leave gets shorter
leads_more : (q r : List Flit) (i : ℕ) → leads q i ≡ true → leads (q ++ r) i ≡ true
leads_more [] r i e = absurd (both_ways true (sym e) refl)
leads_more (y ∷ ys) r i e = e

front_more : (q r : List Flit) (i : ℕ) → leads q i ≡ true → get_or (q ++ r) 0 no_flit ≡ get_or q 0 no_flit
front_more [] r i e = absurd (both_ways true (sym e) refl)
front_more (y ∷ ys) r i e = refl

shorter_by : (y : Flit) (ys : List Flit) (b : Bool) → length (cond b ys (y ∷ ys)) ≤ length (y ∷ ys)
shorter_by y ys true = omega arith
shorter_by y ys false = omega arith

shorter : (n : Net) (gs : List (Option Grant)) (d k : ℕ) (q : List Flit) → length (stay n gs d k q) ≤ length q
shorter n gs d k [] = omega arith
shorter n gs d k (y ∷ ys) = shorter_by y ys (goes_to gs k y.flow (next_channel (route n y.flow) d))

module _ (n : Net) (gs : List (Option Grant)) (c : ℕ) (g : Grant) (x : Crossing) (low : g.flow < flows n)
    (ok : well_formed (route n g.flow) ≡ true) (q : crossing (route n g.flow) c ≡ Some x)
    (st : stands n g.ahead g.flow x.before ≡ true) where
  -- where the flow's route ends
  abbrev end : ℕ
  end = last_channel (route n g.flow)

  nothing_yet : at_channel (take c gs) c ≡ None
  nothing_yet = at_later gs c c (omega arith)

  -- behind the channel before: its flit goes to c and to no other
  front_by : (d : ℕ) (q : List Flit) → leads q g.flow ≡ true → next_channel (route n g.flow) d ≡ Some c → stay n (take c gs) d g.ahead q ≡ q
  front_by d [] e f = refl
  front_by d (y ∷ ys) e f =
      ap (λ (b : Bool). cond b ys (y ∷ ys))
      (ap (λ (i : ℕ). goes_to (take c gs) g.ahead y.flow (next_channel (route n i) d)) (eqb-true y.flow g.flow e)
      ∙ ap (goes_to (take c gs) g.ahead y.flow) f
      ∙ ap (λ (t : Option Grant). gives t g.ahead y.flow) nothing_yet)

  pub front_leads : (d : ℕ) → x.before ≡ Some d → leads (n.lane d g.ahead) g.flow ≡ true
  front_leads d b = ap (stands n g.ahead g.flow) (sym b) ∙ st

  pub front_kept : (d : ℕ) → x.before ≡ Some d → stay n (take c gs) d g.ahead (n.lane d g.ahead) ≡ n.lane d g.ahead
  front_kept d b = front_by d (n.lane d g.ahead) (front_leads d b) (before_next (route n g.flow) c x ok q d b).0

  -- at the source: its flit leaves over c and no other
  line_kept : x.before ≡ None →
      line (moved n (take c gs)) g.flow ≡ arrived_if (gives_to (at_channel (take c gs) end) g.flow) (line n g.flow)
  line_kept b =
      line_moved n (take c gs) g.flow low
      ∙ ap (λ (t : Option Grant). arrived_if (gives_to (at_channel (take c gs) end) g.flow)
      (left_if (gives_to t g.flow) (line n g.flow)))
      (ap (at_channel (take c gs)) (none_first (route n g.flow) c x ok q b) ∙ nothing_yet)

  ready_by : (o : Option ℕ) → x.before ≡ o → ready_flit (moved n (take c gs)) g.ahead g.flow o ≡ ready_flit n g.ahead g.flow o
  ready_by None b =
      ap (λ (s : ℕ). record { flow = g.flow; number = s })
      (ap (λ (l : Line). l.sent) (line_kept b) ∙ arrived_sent (gives_to (at_channel (take c gs) end) g.flow) (line n g.flow))
  ready_by (Some d) b =
      ap (λ (t : List Flit). get_or (t ++ enter n d g.ahead (at_channel (take c gs) d)) 0 no_flit) (front_kept d b)
      ∙ front_more (n.lane d g.ahead) (enter n d g.ahead (at_channel (take c gs) d)) g.flow (front_leads d b)

  pub ready_kept : ready_flit (moved n (take c gs)) g.ahead g.flow x.before ≡ ready_flit n g.ahead g.flow x.before
  ready_kept = ready_by x.before refl

  stands_by : (o : Option ℕ) → x.before ≡ o → stands (moved n (take c gs)) g.ahead g.flow o ≡ true
  stands_by None b =
      ap (λ (o : Option ℕ). is_at o g.ahead)
      (ap first_place (line_kept b) ∙ arrived_first (gives_to (at_channel (take c gs) end) g.flow) (line n g.flow))
      ∙ ap (stands n g.ahead g.flow) (sym b) ∙ st
  stands_by (Some d) b =
      ap (λ (t : List Flit). leads (t ++ enter n d g.ahead (at_channel (take c gs) d)) g.flow) (front_kept d b)
      ∙ leads_more (n.lane d g.ahead) (enter n d g.ahead (at_channel (take c gs) d)) g.flow (front_leads d b)

  pub stands_kept : stands (moved n (take c gs)) g.ahead g.flow x.before ≡ true
  stands_kept = stands_by x.before refl

  -- nothing came to channel c, and what left it made space
  lane_yet : (k : ℕ) → (moved n (take c gs)).lane c k ≡ stay n (take c gs) c k (n.lane c k)
  lane_yet k =
      ap (λ (t : Option Grant). stay n (take c gs) c k (n.lane c k) ++ enter n c k t) nothing_yet
      ∙ append-nil (stay n (take c gs) c k (n.lane c k))

  space_by : (k : ℕ) (last : Bool) → has_space n c k last ≡ true → has_space (moved n (take c gs)) c k last ≡ true
  space_by k true e = refl
  space_by k false e =
      let was : length (n.lane c k) < n.depth = ltb-true (length (n.lane c k)) n.depth e in
      let less = shorter n (take c gs) c k (n.lane c k) in
      lt-ltb (length ((moved n (take c gs)).lane c k)) n.depth (subst (λ (t : List Flit). length t < n.depth) (sym (lane_yet k)) (omega arith))

  pub space_kept : has_space n c g.ahead x.last ≡ true → has_space (moved n (take c gs)) c g.ahead x.last ≡ true
  space_kept e = space_by g.ahead x.last e

  pub crossing_kept : crossing (route (moved n (take c gs)) g.flow) c ≡ Some x
  crossing_kept = ap (λ (r : List ℕ). crossing r c) (moved_route n (take c gs) g.flow) ∙ q

  pub arrive_kept : arrive (moved n (take c gs)) c (Some g) ≡ arrive n c (Some g)
  arrive_kept =
      ap (arrives_by (moved n (take c gs)) g) crossing_kept
      ∙ ap (λ (y : Flit). cond x.last (y ∷ []) []) ready_kept
      ∙ sym (ap (arrives_by n g) q)
