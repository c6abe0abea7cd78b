-- The front of a buffer, and what a flit that crosses its channel changes in the buffers.
use Rattle.std.proofs.Common.{◌≡◌, ℕ, ◌+◌, ◌<◌, Bool, true, false, cond, not, ◌&&◌, eqb, ◌⊎◌, List, [], ◌∷◌, ◌++◌, length, get_or, is_some, Some, None, Option, sym, refl, ap, ◌∙◌, inl, inr, append-nil, arith}
use Rattle.std.proofs.lemmas.List.{length_push}
use Rattle.std.proofs.lemmas.Bool.{true≢false, and_parts, cases_eq, eqb-true, eq-eqb, ne_eqb}
use Rattle.folds.specs.Sums.{total}
use Rattle.folds.proofs.Sums.{total_balance, total_same, total_none, total_one, total_at}
use Rattle.lanes.specs.declared.flits.Flit.{Flit}
use Rattle.routes.specs.Channels.{well_formed}
use Rattle.routes.specs.Crossings.{crossing}
use Rattle.routes.proofs.Crossings.{crossing_known, before_known}
use Rattle.routes.specs.declared.crossing.Crossing.{Crossing}
use Rattle.running.specs.Crossed.{without_front, with_flit, crossed_lane}
use Rattle.running.specs.Moves.{ready_flit, no_flit}
use Rattle.running.specs.Nets.{Net, route}
use Rattle.running.specs.Requests.{leads, is_at, stands, has_space, requests, requests_by}
use Rattle.running.specs.Sounds.{of_flow}
use Rattle.running.specs.declared.grant.Grant.{Grant}

-- a number that may be there, and is k
pub is_at_some : (o : Option ℕ) (k : ℕ) → is_at o k ≡ true → o ≡ Some k
is_at_some None k h = cc
is_at_some (Some j) k h = ap Some (eqb-true j k h)

pub some_is_at : (o : Option ℕ) (k : ℕ) → o ≡ Some k → is_at o k ≡ true
some_is_at o k e = ap (λ (t : Option ℕ). is_at t k) e ∙ eq-eqb k k refl

-- the flit that stands ready is one of its flow, and a buffer loses its front only where that stands ready
pub lead_flow : (q : List Flit) (i : ℕ) → leads q i ≡ true → (get_or q 0 no_flit).flow ≡ i
lead_flow [] i s = absurd cc
lead_flow (y ∷ q) i s = eqb-true y.flow i s

pub stood_flow : (n : Net) (k i : ℕ) (o : Option ℕ) → stands n k i o ≡ true → (ready_flit n k i o).flow ≡ i
stood_flow n k i None s = refl
stood_flow n k i (Some d) s = lead_flow (n.lane d k) i s

pub stood_front : (n : Net) (k i : ℕ) (o : Option ℕ) → stands n k i o ≡ true → (d : ℕ) → is_at o d ≡ true → leads (n.lane d k) i ≡ true
stood_front n k i None s d h = absurd cc
stood_front n k i (Some b) s d h = ap (λ e. leads (n.lane e k) i) (sym (eqb-true b d h)) ∙ s

-- a flow that requests a channel that it crosses by x
pub asks_both : (n : Net) (c k i : ℕ) (x : Crossing) → crossing (route n i) c ≡ Some x → requests n c k i ≡ true →
    (stands n k i x.before ≡ true) × (has_space n c k x.last ≡ true)
asks_both n c k i x is asks = and_parts (stands n k i x.before) (has_space n c k x.last) (sym (ap (requests_by n c k i) is) ∙ asks)

-- what all buffers of a frame lose and gain, where a flit counts e d in channel d's buffer
module _ (e : ℕ → ℕ) where
  gained_at : (c d : ℕ) (b : Bool) → ((d ≡ c) ⊎ (d ≡ c → ⊥)) → cond (eqb d c && b) (e d) 0 ≡ cond (eqb d c) (cond b (e c) 0) 0
  gained_at c d b (inl p) =
      ap (λ t. cond (t && b) (e d) 0) (eq-eqb d c p) ∙ ap (λ j. cond b (e j) 0) p ∙ sym (ap (λ t. cond t (cond b (e c) 0) 0) (eq-eqb d c p))
  gained_at c d b (inr ne) = ap (λ t. cond (t && b) (e d) 0) (ne_eqb d c ne) ∙ sym (ap (λ t. cond t (cond b (e c) 0) 0) (ne_eqb d c ne))

  gained_each : (c : ℕ) (b : Bool) → c < 320 → total (λ d. cond (eqb d c && b) (e d) 0) 320 ≡ cond b (e c) 0
  gained_each c b l =
      total_same (λ d. cond (eqb d c && b) (e d) 0) (λ d. cond (eqb d c) (cond b (e c) 0) 0) 320 (λ d m. gained_at c d b (cases_eq d c))
      ∙ total_one (cond b (e c) 0) c 320 l

  lost_at : (b d : ℕ) → ((b ≡ d) ⊎ (b ≡ d → ⊥)) → cond (eqb b d) (e d) 0 ≡ cond (eqb b d) (e b) 0
  lost_at b d (inl p) = ap (λ j. cond (eqb b d) (e j) 0) (sym p)
  lost_at b d (inr ne) = ap (λ t. cond t (e d) 0) (ne_eqb b d ne) ∙ sym (ap (λ t. cond t (e b) 0) (ne_eqb b d ne))

  abbrev pub at_before : Option ℕ → ℕ
  at_before None = 0
  at_before (Some d) = e d

  lost_each : (o : Option ℕ) → ((d : ℕ) → o ≡ Some d → d < 320) → total (λ d. cond (is_at o d) (e d) 0) 320 ≡ at_before o
  lost_each None w = total_none (λ d. 0) 320 (λ d l. refl)
  lost_each (Some b) w =
      total_same (λ d. cond (eqb b d) (e d) 0) (λ d. cond (eqb b d) (e b) 0) 320 (λ d m. lost_at b d (cases_eq b d)) ∙ total_at (e b) b 320 (w b refl)

-- the buffers once channel c granted g and its flit crossed by x: the granted frame, and the others
module _ (n : Net) (c : ℕ) (g : Grant) (x : Crossing) where
  pub lane_here : (d : ℕ) → crossed_lane n c g x d g.ahead
      ≡ without_front (is_at x.before d) (n.lane d g.ahead) ++ with_flit (eqb d c && not x.last) (ready_flit n g.ahead g.flow x.before)
  lane_here d =
      ap (λ b. cond b
      (without_front (is_at x.before d) (n.lane d g.ahead) ++ with_flit (eqb d c && not x.last) (ready_flit n g.ahead g.flow x.before))
      (n.lane d g.ahead)) (eq-eqb g.ahead g.ahead refl)

  pub lane_elsewhere : (d k : ℕ) → (k ≡ g.ahead → ⊥) → crossed_lane n c g x d k ≡ n.lane d k
  lane_elsewhere d k ne =
      ap (λ b. cond b
      (without_front (is_at x.before d) (n.lane d k) ++ with_flit (eqb d c && not x.last) (ready_flit n k g.flow x.before))
      (n.lane d k)) (ne_eqb k g.ahead ne)

-- a measure of queues to which each flit of flow i adds e: a queue that loses its front and gets a flit at its back
module _
    (i e : ℕ) (m : List Flit → ℕ) (front : (y : Flit) (q : List Flit) → y.flow ≡ i → m (y ∷ q) ≡ e + m q)
    (back : (y : Flit) (q : List Flit) → y.flow ≡ i → m (q ++ y ∷ []) ≡ m q + e) where
  queue_balance : (q : List Flit) (y : Flit) (b p : Bool) → (b ≡ true → leads q i ≡ true) → y.flow ≡ i →
      m (without_front b q ++ with_flit p y) + cond b e 0 ≡ m q + cond p e 0
  queue_balance [] y true p s f = absurd (true≢false (sym (s refl)))
  queue_balance (z ∷ q) y true true s f = omega (arith, front z q (eqb-true z.flow i (s refl)), back y q f)
  queue_balance (z ∷ q) y true false s f = omega (arith, front z q (eqb-true z.flow i (s refl)), ap m (append-nil q))
  queue_balance q y false true s f = omega (arith, back y q f)
  queue_balance q y false false s f = ap (λ r. m r + 0) (append-nil q)

-- the flits of a flow in a queue
pub of_flow_push : (j : ℕ) (q : List Flit) (y : Flit) → of_flow j (q ++ y ∷ []) ≡ of_flow j q + cond (eqb y.flow j) 1 0
of_flow_push j [] y = omega arith
of_flow_push j (z ∷ q) y = omega (arith, of_flow_push j q y)

-- what the crossing leaves of measures of the granted frame's buffers
module _
    (n : Net) (c : ℕ) (g : Grant) (x : Crossing) (routed : well_formed (route n g.flow) ≡ true) (is : crossing (route n g.flow) c ≡ Some x)
    (stood : stands n g.ahead g.flow x.before ≡ true) where
  -- each flit of the flow adds e d to that of channel d's buffer
  pub frame_balance : (e : ℕ → ℕ) (m : ℕ → List Flit → ℕ) → ((d : ℕ) (y : Flit) (q : List Flit) → y.flow ≡ g.flow → m d (y ∷ q) ≡ e d + m d q) →
      ((d : ℕ) (y : Flit) (q : List Flit) → y.flow ≡ g.flow → m d (q ++ y ∷ []) ≡ m d q + e d) →
      total (λ d. m d (crossed_lane n c g x d g.ahead)) 320 + at_before e x.before ≡ total (λ d. m d (n.lane d g.ahead)) 320 + cond (not x.last) (e c) 0
  frame_balance e m front back =
      omega (
        arith,
        lost_each e x.before (before_known (route n g.flow) c x routed is),
        gained_each e c (not x.last) (crossing_known (route n g.flow) c x routed is),
        total_balance (λ d. m d (crossed_lane n c g x d g.ahead)) (λ d. cond (is_at x.before d) (e d) 0) (λ d. m d (n.lane d g.ahead))
            (λ d. cond (eqb d c && not x.last) (e d) 0) 320
            (λ d l. ap (λ q. m d q + cond (is_at x.before d) (e d) 0) (lane_here n c g x d)
            ∙ queue_balance g.flow (e d) (m d) (front d) (back d) (n.lane d g.ahead) (ready_flit n g.ahead g.flow x.before) (is_at x.before d)
            (eqb d c && not x.last) (stood_front n g.ahead g.flow x.before stood d) (stood_flow n g.ahead g.flow x.before stood)),
      )

  -- and it adds the same to each
  before_same : (e : ℕ) (o : Option ℕ) → at_before (λ d. e) o ≡ cond (is_some o) e 0
  before_same e None = refl
  before_same e (Some d) = refl

  even_balance : (e : ℕ) (m : List Flit → ℕ) → ((y : Flit) (q : List Flit) → y.flow ≡ g.flow → m (y ∷ q) ≡ e + m q) →
      ((y : Flit) (q : List Flit) → y.flow ≡ g.flow → m (q ++ y ∷ []) ≡ m q + e) →
      total (λ d. m (crossed_lane n c g x d g.ahead)) 320 + cond (is_some x.before) e 0 ≡ total (λ d. m (n.lane d g.ahead)) 320 + cond (not x.last) e 0
  even_balance e m front back =
      sym (ap (λ t. total (λ d. m (crossed_lane n c g x d g.ahead)) 320 + t) (before_same e x.before))
      ∙ frame_balance (λ d. e) (λ d. m) (λ d. front) (λ d. back)

  -- all flits, and those of flow j
  pub length_balance : total (λ d. length (crossed_lane n c g x d g.ahead)) 320 + cond (is_some x.before) 1 0
      ≡ total (λ d. length (n.lane d g.ahead)) 320 + cond (not x.last) 1 0
  length_balance = even_balance 1 length (λ y q f. omega arith) (λ y q f. length_push q y)

  pub flow_balance : (j : ℕ) →
      total (λ d. of_flow j (crossed_lane n c g x d g.ahead)) 320 + cond (is_some x.before) (cond (eqb g.flow j) 1 0) 0
      ≡ total (λ d. of_flow j (n.lane d g.ahead)) 320 + cond (not x.last) (cond (eqb g.flow j) 1 0) 0
  flow_balance j = even_balance (cond (eqb g.flow j) 1 0) (of_flow j) (λ y q f. ap (λ i. cond (eqb i j) 1 0 + of_flow j q) f)
      (λ y q f. of_flow_push j q y ∙ ap (λ i. of_flow j q + cond (eqb i j) 1 0) f)
