-- Places in the ring of frames: no two lanes share one, and a change at one changes one queue.
use Rattle.std.proofs.Common.{◌≡◌, ℕ, suc, ◌+◌, ◌<◌, ◌≤◌, cond, ltb, List, length, set, arith}
use mathlib.Core.Path.{fun_ext}
use Rattle.std.proofs.lemmas.List.{get_or-set_same, get_or-set_other}
use Rattle.std.proofs.lemmas.Bool.Decides.{nat_tests}
use Rattle.lanes.specs.Rings.{ring, place, queue_in, with_lane, turned}
use Rattle.lanes.specs.declared.flits.Flit.{Flit}

pub ring_below : (t w k : ℕ) → t < w → k < w → ring t w k < w
ring_below t w k l h = grind (arith, nat_tests)

pub ring_apart : (t w k j : ℕ) → t < w → k < w → j < w → ring t w k ≡ ring t w j → k ≡ j
ring_apart t w k j l h m e = grind (arith, nat_tests)

pub place_below : (t w c k : ℕ) → w ≤ 8 → t < w → k < w → c < 320 → place t w c k < 2560
place_below t w c k f l h m = omega (arith, ring_below t w k l h)

pub place_past : (t w c k : ℕ) → 320 ≤ c → 2560 ≤ place t w c k
place_past t w c k m = omega arith

pub place_apart : (t w c d k j : ℕ) → w ≤ 8 → t < w → k < w → j < w → place t w c k ≡ place t w d j → (c ≡ d) × (k ≡ j)
place_apart t w c d k j f l h m e =
    let r = ring_below t w k l h in
    let s = ring_below t w j l m in
    let same : ring t w k ≡ ring t w j = omega (arith, e, r, s) in (
      omega (arith, e, r, s),
      ring_apart t w k j l h m same,
    )

-- the ring turned by one place: every frame comes one nearer to the head, and the head's place is that of the last
module _ (t u w : ℕ) (l : t < w) (next : u ≡ cond (ltb (t + 1) w) (t + 1) 0) where
  pub ring_nearer : (k : ℕ) → suc k < w → ring u w k ≡ ring t w (suc k)
  ring_nearer k h = grind (arith, nat_tests)

  pub ring_opened : (k : ℕ) → suc k ≡ w → ring u w k ≡ ring t w 0
  ring_opened k h = grind (arith, nat_tests)

  module _ (qs : List (List Flit)) where
    turned_at : (c k : ℕ) → queue_in u w qs c k ≡ turned w (queue_in t w qs) c k
    turned_at c k = grind (arith, nat_tests, ring_nearer k, ring_opened k)

    pub queue_turned : queue_in u w qs ≡ turned w (queue_in t w qs)
    queue_turned = fun_ext (λ c. fun_ext (λ k. turned_at c k))

-- another queue at a place is another queue of one channel for one frame
module _ (t w c k : ℕ) (f : w ≤ 8) (l : t < w) (h : k < w) (m : c < 320) (qs : List (List Flit)) (sized : length qs ≡ 2560) (q : List Flit) where
  queue_at : (d j : ℕ) → queue_in t w (set qs (place t w c k) q) d j ≡ with_lane (queue_in t w qs) c k q d j
  queue_at d j = grind (arith, nat_tests, get_or-set_same, get_or-set_other, place_apart t w d c j k f l, place_below t w c k f l h m)

  pub queue_set : queue_in t w (set qs (place t w c k) q) ≡ with_lane (queue_in t w qs) c k q
  queue_set = fun_ext (λ d. fun_ext (λ j. queue_at d j))
