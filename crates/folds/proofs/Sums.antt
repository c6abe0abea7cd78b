-- Sums over the numbers below n.
use Rattle.std.proofs.Common.{◌≡◌, ℕ, zero, suc, ◌+◌, ◌<◌, ◌≤◌, Bool, cond, not, eqb, ltb, ◌⊎◌, List, [], ◌∷◌, length, get_or, is_some, Some, None, sum_by, Option, sym, refl, ap, ◌∙◌, inl, inr, ⊎_elim, arith}
use Rattle.std.proofs.lemmas.List.Sums.{sum_by-cons}
use Rattle.std.proofs.lemmas.Bool.{both_ways, cases_eq, cases_lt, eq-eqb, ne_eqb, ltb-true, lt-ltb}
use Rattle.folds.specs.Firsts.{first_up}
use Rattle.folds.specs.Sums.{total}
use Rattle.folds.proofs.Firsts.{first_passes, first_finds}
use Rattle.folds.proofs.Ups.{first_within}

-- a sum of values that are no smaller is no smaller
pub total_le : (f g : ℕ → ℕ) (n : ℕ) → ((k : ℕ) → k < n → f k ≤ g k) → total f n ≤ total g n
unfolding total
total_le f g zero h = omega arith
total_le f g (suc n) h = omega (arith, total_le f g n (λ k l. h k (omega arith)), h n (omega arith))

-- where what is lost and what is gained make up for each other at every number, so they do in the sums
pub total_balance : (f lost g gained : ℕ → ℕ) (n : ℕ) → ((k : ℕ) → k < n → f k + lost k ≡ g k + gained k) →
    total f n + total lost n ≡ total g n + total gained n
unfolding total
total_balance f lost g gained zero h = refl
total_balance f lost g gained (suc n) h =
    omega (arith, total_balance f lost g gained n (λ k l. h k (omega arith)), h n (omega arith))

pub total_same : (f g : ℕ → ℕ) (n : ℕ) → ((k : ℕ) → k < n → f k ≡ g k) → total f n ≡ total g n
unfolding total
total_same f g zero h = refl
total_same f g (suc n) h = omega (arith, total_same f g n (λ k l. h k (omega arith)), h n (omega arith))

pub total_none : (f : ℕ → ℕ) (n : ℕ) → ((k : ℕ) → k < n → f k ≡ 0) → total f n ≡ 0
unfolding total
total_none f zero h = refl
total_none f (suc n) h = omega (arith, total_none f n (λ k l. h k (omega arith)), h n (omega arith))

-- each value is at most the sum
term_by : (f : ℕ → ℕ) (k n : ℕ) → (k < n → f k ≤ total f n) → k < suc n → ((k ≡ n) ⊎ (k ≡ n → ⊥)) → f k ≤ total f n + f n
term_by f k n ih l (inl e) = omega (arith, ap f e)
term_by f k n ih l (inr d) = omega (arith, ih (omega arith))

pub term_in_total : (f : ℕ → ℕ) (k n : ℕ) → k < n → f k ≤ total f n
unfolding total
term_in_total f k zero l = absurd (omega arith)
term_in_total f k (suc n) l = term_by f k n (term_in_total f k n) l (cases_eq k n)

-- a value at one number alone
one_by : (e j n : ℕ) → ((k : ℕ) → k < n → j ≡ k → ⊥) → total (λ k. cond (eqb k j) e 0) n ≡ 0
one_by e j n h = total_none (λ k. cond (eqb k j) e 0) n (λ k l. ap (λ b. cond b e 0) (ne_eqb k j (λ q. h k l (sym q))))

one_step : (e j n : ℕ) → (j < n → total (λ k. cond (eqb k j) e 0) n ≡ e) → j < suc n → ((j ≡ n) ⊎ (j ≡ n → ⊥)) →
    total (λ k. cond (eqb k j) e 0) n + cond (eqb n j) e 0 ≡ e
one_step e j n ih l (inl q) =
    let here : cond (eqb n j) e 0 ≡ e = ap (λ b. cond b e 0) (eq-eqb n j (sym q)) in
    omega (arith, one_by e j n (λ k m p. omega arith), here)
one_step e j n ih l (inr d) =
    let here : cond (eqb n j) e 0 ≡ 0 = ap (λ b. cond b e 0) (ne_eqb n j (λ p. d (sym p))) in
    omega (arith, ih (omega arith), here)

pub total_one : (e j n : ℕ) → j < n → total (λ k. cond (eqb k j) e 0) n ≡ e
unfolding total
total_one e j zero l = absurd (omega arith)
total_one e j (suc n) l = one_step e j n (total_one e j n) l (cases_eq j n)

flipped : (j k e : ℕ) → ((j ≡ k) ⊎ (j ≡ k → ⊥)) → cond (eqb j k) e 0 ≡ cond (eqb k j) e 0
flipped j k e (inl q) = ap (λ b. cond b e 0) (eq-eqb j k q ∙ sym (eq-eqb k j (sym q)))
flipped j k e (inr d) = ap (λ b. cond b e 0) (ne_eqb j k d ∙ sym (ne_eqb k j (λ q. d (sym q))))

pub total_at : (e j n : ℕ) → j < n → total (λ k. cond (eqb j k) e 0) n ≡ e
total_at e j n l =
    total_same (λ k. cond (eqb j k) e 0) (λ k. cond (eqb k j) e 0) n (λ k m. flipped j k e (cases_eq j k)) ∙ total_one e j n l

-- the numbers one further on: the first value falls away
pub total_first : (f : ℕ → ℕ) (n : ℕ) → total (λ k. f (suc k)) n + f 0 ≡ total f n + f n
unfolding total
total_first f zero = refl
total_first f (suc n) = omega (arith, total_first f n)

-- the sum over a list, by its places
pub sumBy_total : {X : Type 0} (f : X → ℕ) (d : X) (xs : List X) → sum_by f xs ≡ total (λ i. f (get_or xs i d)) (length xs)
unfolding total
sumBy_total f d [] = refl
sumBy_total f d (x ∷ xs) =
    omega (arith, sum_by-cons f x xs, sumBy_total f d xs, total_first (λ i. f (get_or (x ∷ xs) i d)) (length xs))

-- a search for a positive value finds none exactly where the sum is 0
module _ (f : ℕ → ℕ) (n : ℕ) where
  abbrev positive : ℕ → Bool
  positive k = ltb 0 (f k)

  none_by : (r : Option ℕ) → first_up positive 0 n ≡ r → not (is_some r) ≡ eqb (total f n) 0
  none_by None e = sym (eq-eqb (total f n) 0 (total_none f n zero_at))
    where
      zero_at : (k : ℕ) → k < n → f k ≡ 0
      zero_at k l = ⊎_elim
          (λ m. absurd (both_ways (is_some (first_up positive 0 n)) (ap is_some e) (first_finds positive 0 n k (omega arith) (omega arith) (lt-ltb 0 (f k) m))))
          (λ m. omega arith)
          (cases_lt 0 (f k))
  none_by (Some k) e =
      let r = first_within positive 0 n k e in
      let m = ltb-true 0 (f k) (first_passes positive 0 n k e) in
      sym (ne_eqb (total f n) 0 (λ z. omega (arith, term_in_total f k n (omega arith))))

  pub none_positive : not (is_some (first_up (λ k. ltb 0 (f k)) 0 n)) ≡ eqb (total f n) 0
  none_positive = none_by (first_up positive 0 n) refl
