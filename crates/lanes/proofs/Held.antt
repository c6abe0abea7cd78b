-- What the lanes of all channels hold: what is read at a place, and what a flit in, a flit out and a turn leave.
use Rattle.std.proofs.Common.{◌≡◌, ℕ, zero, suc, ◌<◌, ◌≤◌, Bool, true, false, cond, ltb, ◌⊎◌, List, [], ◌∷◌, ◌++◌, length, get_or, set, replicate, Some, None, All, refl, ap, ◌∙◌, sym, inl, inr, arith}
use mathlib.Core.Path.{fun_ext}
use Rattle.std.proofs.lemmas.List.{get_or_past, get_or_default}
use Rattle.std.proofs.lemmas.Bool.{cases_lt}
use Rattle.std.proofs.lemmas.Bool.Decides.{nat_tests}
use Rattle.lists.specs.Lists.{rest_of, has_room, pushed}
use Rattle.lanes.specs.Rings.{Queues, place, queue_in, lane_of, empty_lanes, place_answer, with_lane, takes, after_push}
use Rattle.lanes.specs.declared.buffers.Buffers.{Buffers}
use Rattle.lanes.specs.declared.flits.Flit.{Flit}
use Rattle.lanes.proofs.Rings.{place_past, queue_set}

-- no lane has more than 8
queue_short : (qs : List (List Flit)) (p : ℕ) → All (λ q. length q ≤ 8) qs → length (get_or qs p []) ≤ 8
queue_short qs p few = by (cases_lt p (length qs))
  where
    by : (p < length qs) ⊎ (length qs ≤ p) → length (get_or qs p []) ≤ 8
    by (inl l) = few p [] l
    by (inr l) = rw (get_or_past qs p [] l) (omega arith)

both_short : (t : Bool) (q : List Flit) → length q ≤ 8 → length (cond t q []) ≤ 8
both_short true q l = l
both_short false q l = omega arith

pub lane_short : (b : Buffers) (c k : ℕ) → length (lane_of b c k) ≤ 8
unfolding lane_of
lane_short b c k = both_short (ltb k b.window) _ (queue_short b.lanes (place b.turn b.window c k) b.few)

-- one queue put among the others: it stands there, the others as they stood, and put where it stood it changes nothing
pub with_here : (f : Queues) (c k : ℕ) (q : List Flit) → with_lane f c k q c k ≡ q
with_here f c k q = grind (arith, nat_tests)

pub with_other : (f : Queues) (c k d j : ℕ) (q : List Flit) → (d ≡ c → j ≡ k → ⊥) → with_lane f c k q d j ≡ f d j
with_other f c k d j q apart = grind (arith, nat_tests)

pub with_same : (f : Queues) (c k : ℕ) (q : List Flit) → q ≡ f c k → with_lane f c k q ≡ f
with_same f c k q e = fun_ext (λ d. fun_ext (λ j. by d j))
  where
    by : (d j : ℕ) → with_lane f c k q d j ≡ f d j
    by d j = grind (arith, nat_tests)

module _ (b : Buffers) (c k : ℕ) where
  -- no flit waits where there is no lane, and none comes out
  pub lane_none : None ≡ place_answer b c k → lane_of b c k ≡ []
  unfolding lane_of
  lane_none e = grind (arith, nat_tests, get_or_past, place_past b.turn b.window c k, b.sized)

  pub pop_none : None ≡ place_answer b c k → lane_of b ≡ with_lane (lane_of b) c k (rest_of (lane_of b c k))
  pop_none e = let z = lane_none e in sym (with_same (lane_of b) c k (rest_of (lane_of b c k)) (ap rest_of z ∙ sym z))

  -- what waits where there is one
  module _ (p : ℕ) (e : Some p ≡ place_answer b c k) where
    pub lane_read : (d : List Flit) → p < 2560 → get_or b.lanes p d ≡ lane_of b c k
    unfolding lane_of
    lane_read d l = grind (arith, nat_tests, get_or_default, b.sized)

    known : (c < 320) × (k < b.window) × (p ≡ place b.turn b.window c k)
    known = grind (arith, nat_tests)

    pub lane_set : (a : Buffers) (q : List Flit) → a.window ≡ b.window → a.turn ≡ b.turn → a.lanes ≡ set b.lanes p q → lane_of a ≡ with_lane (lane_of b) c k q
    unfolding lane_of
    lane_set a q w t s = rw (w, t, s, known.2) (queue_set b.turn b.window c k b.ring.0 b.ring.1 known.1 known.0 b.lanes b.sized q)

    -- a flit in
    pub push_taken : has_room 8 (lane_of b c k) ≡ takes b c k
    push_taken = grind (arith, nat_tests)

    pub push_leaves : (a : Buffers) (x : Flit) (q : List Flit) → a.window ≡ b.window → a.turn ≡ b.turn → a.lanes ≡ set b.lanes p q →
        q ≡ pushed 8 (lane_of b c k) x → lane_of a ≡ after_push b c k x
    push_leaves a x q w t s e = rw (lane_set a q w t s, e) (by _ _ push_taken)
      where
        by : (u v : Bool) → u ≡ v →
            with_lane (lane_of b) c k (cond u (lane_of b c k ++ x ∷ []) (lane_of b c k)) ≡ cond v (with_lane (lane_of b) c k (lane_of b c k ++ x ∷ [])) (lane_of b)
        by true v h = rw (← h) refl
        by false v h = rw (← h) (with_same (lane_of b) c k (lane_of b c k) refl)

    -- a flit out
    pub pop_leaves : (a : Buffers) (q : List Flit) → a.window ≡ b.window → a.turn ≡ b.turn → a.lanes ≡ set b.lanes p q →
        q ≡ rest_of (lane_of b c k) → lane_of a ≡ with_lane (lane_of b) c k (rest_of (lane_of b c k))
    pop_leaves a q w t s e = rw (lane_set a q w t s, e) refl

-- empty lanes
none_held : (n p : ℕ) (q : List Flit) → q ≡ [] → get_or (replicate n q) p [] ≡ []
none_held zero p q e = refl
none_held (suc n) zero q e = e
none_held (suc n) (suc p) q e = none_held n p q e

pub lane_empty : (b : Buffers) (q : List Flit) → q ≡ [] → b.lanes ≡ replicate 2560 q → lane_of b ≡ empty_lanes
unfolding lane_of
lane_empty b q e s = fun_ext (λ c. fun_ext (λ k. by c k))
  where
    by : (c k : ℕ) → queue_in b.turn b.window b.lanes c k ≡ []
    by c k = rw s (grind (arith, nat_tests, none_held 2560 (place b.turn b.window c k) q e))
