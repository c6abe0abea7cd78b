-- The values at the numbers below n, read one by one, and the place at which a search stops.
use Rattle.std.proofs.Common.{◌≡◌, ℕ, zero, suc, ◌+◌, ◌<◌, ◌≤◌, Bool, true, false, cond, eqb, List, length, get_or, set, Some, sym, refl, ap, ◌∙◌, ⊎_elim, arith}
use Rattle.std.proofs.lemmas.List.{length-set, get_or_past, get_or-set_same, get_or-set_other, same_lists, get_or_default}
use Rattle.std.proofs.lemmas.Bool.{both_ways, cases_eq, eq-eqb, ne_eqb}
use Rattle.folds.specs.Filled.{list_up}
use Rattle.folds.specs.Firsts.{first_up}
use Rattle.folds.proofs.Filled.{length_up}

module _ {X : Type 0} (f : ℕ → X) where
  up_from : (i n k : ℕ) (d : X) → k < n → get_or (list_up f i n) k d ≡ f (i + k)
  unfolding list_up
  up_from i zero k d l = absurd (omega arith)
  up_from i (suc n) zero d l = ap f (let q : i ≡ i + 0 = omega arith in q)
  up_from i (suc n) (suc k) d l = up_from (i + 1) n k d (omega arith) ∙ ap f (let q : (i + 1) + k ≡ i + suc k = omega arith in q)

  -- the value at a number below n, and none from n on
  pub getD_up : (n i : ℕ) (d : X) → i < n → get_or (list_up f 0 n) i d ≡ f i
  getD_up n i d l = up_from 0 n i d l ∙ ap f (let q : 0 + i ≡ i = omega arith in q)

  pub getD_up_past : (n i : ℕ) (d : X) → n ≤ i → get_or (list_up f 0 n) i d ≡ d
  getD_up_past n i d l = get_or_past (list_up f 0 n) i d (let e = length_up f 0 n in omega arith)

module _ {X : Type 0} where
  -- equal values below n
  pub up_same : (f g : ℕ → X) (n : ℕ) → ((i : ℕ) → i < n → f i ≡ g i) → list_up f 0 n ≡ list_up g 0 n
  up_same f g n h =
      same_lists (list_up f 0 n) (list_up g 0 n) (length_up f 0 n ∙ sym (length_up g 0 n))
      (λ k d l. let m : k < n = (let e = length_up f 0 n in omega arith) in getD_up f n k d m ∙ h k m ∙ sym (getD_up g n k d m))

  -- what is read from a list, and put in a row, is the list
  pub up_list : (xs : List X) (d : X) → list_up (λ i. get_or xs i d) 0 (length xs) ≡ xs
  up_list xs d =
      same_lists (list_up (λ i. get_or xs i d) 0 (length xs)) xs (length_up (λ i. get_or xs i d) 0 (length xs))
      (λ k e l.
      let m : k < length xs = (let q = length_up (λ i. get_or xs i d) 0 (length xs) in omega arith) in
      getD_up (λ i. get_or xs i d) (length xs) k e m ∙ get_or_default xs k d e m)

  -- one value set
  set_same : (f : ℕ → X) (n i k : ℕ) (x d : X) → k < n → k ≡ i → get_or (set (list_up f 0 n) i x) k d ≡ cond (eqb k i) x (f k)
  set_same f n i k x d l e =
      ap (λ j. get_or (set (list_up f 0 n) i x) j d) e
      ∙ get_or-set_same (list_up f 0 n) i x d (let q = length_up f 0 n in omega arith)
      ∙ sym (ap (λ b. cond b x (f k)) (eq-eqb k i e))

  set_other : (f : ℕ → X) (n i k : ℕ) (x d : X) → k < n → (k ≡ i → ⊥) → get_or (set (list_up f 0 n) i x) k d ≡ cond (eqb k i) x (f k)
  set_other f n i k x d l ne =
      get_or-set_other (list_up f 0 n) i k x d ne ∙ getD_up f n k d l ∙ sym (ap (λ b. cond b x (f k)) (ne_eqb k i ne))

  set_each : (f : ℕ → X) (n i k : ℕ) (x d : X) → k < n → get_or (set (list_up f 0 n) i x) k d ≡ cond (eqb k i) x (f k)
  set_each f n i k x d l = ⊎_elim (set_same f n i k x d l) (set_other f n i k x d l) (cases_eq k i)

  pub up_set : (f : ℕ → X) (n i : ℕ) (x : X) → set (list_up f 0 n) i x ≡ list_up (λ j. cond (eqb j i) x (f j)) 0 n
  up_set f n i x =
      let e = length-set (list_up f 0 n) i x ∙ length_up f 0 n in
      let g : ℕ → X = λ j. cond (eqb j i) x (f j) in
      same_lists (set (list_up f 0 n) i x) (list_up g 0 n) (e ∙ sym (length_up g 0 n))
      (λ k d l. let m : k < n = omega arith in set_each f n i k x d m ∙ sym (getD_up g n k d m))

-- where a search stops: among the n numbers, and at the first that passes
module _ (p : ℕ → Bool) where
  within_by : (i n k : ℕ) (b : Bool) → (first_up p (i + 1) n ≡ Some k → (i + 1 ≤ k) × (k < i + 1 + n)) → cond b (Some i) (first_up p (i + 1) n) ≡ Some k →
      (i ≤ k) × (k < i + suc n)
  within_by i n k true ih h = let q : i ≡ k = cc in (omega arith, omega arith)
  within_by i n k false ih h = let r = ih h in (omega arith, omega arith)

  pub first_within : (i n k : ℕ) → first_up p i n ≡ Some k → (i ≤ k) × (k < i + n)
  unfolding first_up
  first_within i zero k h = absurd cc
  first_within i (suc n) k h = within_by i n k (p i) (first_within (i + 1) n k) h

  stops_by : (i n k : ℕ) (b : Bool) → p i ≡ b → i ≤ k → p k ≡ true → ((j : ℕ) → i ≤ j → j < k → p j ≡ false) →
      (i + 1 ≤ k → first_up p (i + 1) n ≡ Some k) → cond b (Some i) (first_up p (i + 1) n) ≡ Some k
  stops_by i n k true e l h none ih =
      ⊎_elim (λ q. ap Some q) (λ ne. absurd (both_ways (p i) (none i (omega arith) (omega arith)) e)) (cases_eq i k)
  stops_by i n k false e l h none ih = ih (⊎_elim (λ q. absurd (both_ways (p i) e (ap p q ∙ h))) (λ ne. omega arith) (cases_eq i k))

  pub first_stops : (i n k : ℕ) → i ≤ k → k < i + n → p k ≡ true → ((j : ℕ) → i ≤ j → j < k → p j ≡ false) → first_up p i n ≡ Some k
  unfolding first_up
  first_stops i zero k l m h none = absurd (omega arith)
  first_stops i (suc n) k l m h none =
      stops_by i n k (p i) refl l h none (λ q. first_stops (i + 1) n k q (omega arith) h (λ j a b. none j (omega arith) b))
