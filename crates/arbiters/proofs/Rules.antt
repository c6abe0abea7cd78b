use Rattle.std.proofs.Common.{◌≡◌, ℕ, ◌<◌, ◌≤◌, Bool, true, false, cond, not, ◌&&◌, eqb, ltb, List, [], ◌∷◌, length, get_or, set, is_some, Some, None, Option, sym, refl, ap, ◌∙◌, ⊎_elim, arith}
use Rattle.std.proofs.ByRecursion.{kept_by_passes}
use Rattle.std.proofs.lemmas.List.{get_or-set_same, get_or-set_other, get_or-replicate}
use Rattle.std.proofs.lemmas.Bool.{lt-ltb, and_from, both_ways, false≢true, not-true, eq-eqb, ne_eqb, cases_eq}
use Rattle.folds.specs.Firsts.{first_of}
use Rattle.folds.specs.Orders.{count, without, moved_to_end}
use Rattle.folds.proofs.Firsts.{of_among, of_append}
use Rattle.folds.proofs.Orders.{count_other, in_order}
use Rattle.arbiters.specs.FlowSets.{has}
use Rattle.arbiters.specs.Recency.{rising_order, order_granted, order_of, recent_choice, recent_granted}
use Rattle.arbiters.specs.Rounds.{next_after, fresh_round, round_choice, round_granted}
use Rattle.arbiters.specs.Rules.{RoundRule, RecencyRule}
use Rattle.arbiters.specs.declared.least_recently_granted.LeastRecentlyGranted.{LeastRecentlyGranted}
use Rattle.arbiters.specs.declared.round_robin.RoundRobin.{RoundRobin}
use Rattle.arbiters.specs.Answering.{member_below}

-- a channel and a flow that there are
both_below : (c f : ℕ) → c < 320 → f < 64 → (ltb c 320 && ltb f 64) ≡ true
both_below c f l m = and_from (ltb c 320) (ltb f 64) (lt-ltb c 320 l) (lt-ltb f 64 m)

-- round robin: what it answers where that flow was the last one
pub round_from : (r : RoundRobin) (c l : ℕ) (s : List Bool) → c < 320 → get_or r.last c 0 ≡ l → round_choice r c s ≡ next_after l s
round_from r c l s h e = ap (λ b. cond b (next_after (get_or r.last c 0) s) None) (lt-ltb c 320 h) ∙ ap (λ k. next_after k s) e

pub round_told : (r : RoundRobin) (c f : ℕ) → c < 320 → f < 64 → round_granted r c f ≡ record { last = set r.last c f }
round_told r c f l m = ap (λ b. cond b (record { last = set r.last c f }) r) (both_below c f l m)

other_last : (r : RoundRobin) (c d f : ℕ) (b : Bool) → (d ≡ c → ⊥) → get_or (cond b (record { last = set r.last c f }) r).last d 0 ≡ get_or r.last d 0
other_last r c d f true ne = get_or-set_other r.last c d f 0 ne
other_last r c d f false ne = refl

pub round_rule : RoundRule
round_rule = record {
  fresh = λ c s l. round_from fresh_round c 63 s l (get_or-replicate 320 c 63 0 l);
  last = λ r c f s n l m. round_from (round_granted r c f) c f s l (ap (λ x. get_or x.last c 0) (round_told r c f l m) ∙ get_or-set_same r.last c f 0 (omega arith));
  others = λ r c d f s ne. ap (λ k. cond (ltb d 320) (next_after k s) None) (other_last r c d f (ltb c 320 && ltb f 64) ne);
}

-- least recently granted: the order of the channel, and of the others
pub recency_told : (a : LeastRecentlyGranted) (c f : ℕ) → c < 320 → f < 64 → recent_granted a c f ≡ record { orders = set a.orders c (order_granted (order_of a c) f) }
recency_told a c f l m = ap (λ b. cond b (record { orders = set a.orders c (order_granted (order_of a c) f) }) a) (both_below c f l m)

pub order_moved : (a : LeastRecentlyGranted) (c f : ℕ) → length a.orders ≡ 320 → c < 320 → f < 64 → order_of (recent_granted a c f) c ≡ order_granted (order_of a c) f
order_moved a c f n l m = ap (λ x. order_of x c) (recency_told a c f l m) ∙ get_or-set_same a.orders c (order_granted (order_of a c) f) rising_order (omega arith)

other_order : (a : LeastRecentlyGranted) (c d f : ℕ) (b : Bool) → (d ≡ c → ⊥) →
    order_of (cond b (record { orders = set a.orders c (order_granted (order_of a c) f) }) a) d ≡ order_of a d
other_order a c d f true ne = get_or-set_other a.orders c d (order_granted (order_of a c) f) rising_order ne
other_order a c d f false ne = refl

pub recency_from : (a : LeastRecentlyGranted) (c : ℕ) (order : List ℕ) (s : List Bool) → c < 320 → (order_of a c).flows ≡ order → recent_choice a c s ≡ first_of (has s) order
recency_from a c order s h e = ap (λ b. cond b (first_of (has s) (order_of a c).flows) None) (lt-ltb c 320 h) ∙ ap (first_of (has s)) e

-- some other flow of the set stands before the one that was moved to the end
last_alone_by : (p : ℕ → Bool) (f : ℕ) (order : List ℕ) (o : Option ℕ) → first_of p (without f order) ≡ o → is_some o ≡ true →
    first_of p (moved_to_end f order) ≡ Some f → ⊥
last_alone_by p f order None e h k = false≢true h
last_alone_by p f order (Some x) e h k =
    let same : Some x ≡ Some f = sym (of_append p (without f order) (f ∷ []) x e) ∙ k in
    let q : x ≡ f = cc in
    let kept : not (eqb x f) ≡ true = of_among p (λ g. not (eqb g f) ≡ true) (without f order) x (kept_by_passes (λ g. not (eqb g f)) order) e in
    both_ways (eqb x f) (not-true (eqb x f) kept) (eq-eqb x f q)

last_alone : (p : ℕ → Bool) (f g : ℕ) (order : List ℕ) → 1 ≤ count g order → p g ≡ true → first_of p (moved_to_end f order) ≡ Some f → g ≡ f
last_alone p f g order m h k =
    ⊎_elim (λ (e : g ≡ f). e)
    (λ ne. absurd (last_alone_by p f order (first_of p (without f order)) refl (in_order p g (without f order) (omega (arith, count_other f g order (ne_eqb f g (λ q. ne (sym q))))) h) k))
    (cases_eq g f)

pub recency_rule : RecencyRule
recency_rule = record {
  fresh = λ c l. ap (λ o. o.flows) (get_or-replicate 320 c rising_order rising_order l);
  moved = λ a c f n l m. ap (λ o. o.flows) (order_moved a c f n l m);
  others = λ a c d f ne. other_order a c d f (ltb c 320 && ltb f 64) ne;
  again = λ a c f g s n l m k h.
      let e = recency_from (recent_granted a c f) c (moved_to_end f (order_of a c).flows) s l (ap (λ o. o.flows) (order_moved a c f n l m)) in
      last_alone (has s) f g (order_of a c).flows (omega (arith, (order_of a c).ok g (member_below s g h))) h (sym e ∙ k);
}
