use Rattle.std.proofs.Common.{◌≡◌, ℕ, zero, suc, ◌+◌, ◌<◌, ◌≤◌, Bool, true, false, cond, not, eqb, List, [], ◌∷◌, ◌++◌, length, get_or, take, is_some, Some, sym, refl, ap, ◌∙◌, subst, append-nil, arith}
use Rattle.std.proofs.lemmas.List.Elements.{filter_more}
use Rattle.std.proofs.lemmas.Bool.{both_ways, eqb-true, eqb-false, eq-eqb, ne_eqb}
use Rattle.folds.specs.Filled.{list_up}
use Rattle.folds.specs.Firsts.{first_of}
use Rattle.folds.specs.Orders.{count, EachOnce, rising, without, moved_to_end}

count_append : (k : ℕ) (xs ys : List ℕ) → count k (xs ++ ys) ≡ count k xs + count k ys
count_append k [] ys = omega arith
count_append k (x ∷ xs) ys = omega (arith, count_append k xs ys)

-- one element more: another number, or this one
count_miss : (k x : ℕ) (xs : List ℕ) → eqb x k ≡ false → count k (x ∷ xs) ≡ count k xs
count_miss k x xs e = ap (λ b. cond b 1 0 + count k xs) e ∙ (let q : 0 + count k xs ≡ count k xs = omega arith in q)

count_hit : (k x : ℕ) (xs : List ℕ) → eqb x k ≡ true → count k (x ∷ xs) ≡ 1 + count k xs
count_hit k x xs e = ap (λ b. cond b 1 0 + count k xs) e

-- without k: no k is left, the others stand there as often, and the rest of the length is k's
same_by : (k x : ℕ) (xs : List ℕ) (b : Bool) → eqb x k ≡ b → count k (without k xs) ≡ 0 → count k (cond (not b) (x ∷ without k xs) (without k xs)) ≡ 0
same_by k x xs true e h = h
same_by k x xs false e h = count_miss k x (without k xs) e ∙ h

count_same : (k : ℕ) (xs : List ℕ) → count k (without k xs) ≡ 0
count_same k [] = refl
count_same k (x ∷ xs) = same_by k x xs (eqb x k) refl (count_same k xs)

other_by : (k j x : ℕ) (xs : List ℕ) (b : Bool) → eqb x k ≡ b → eqb k j ≡ false → count j (without k xs) ≡ count j xs →
    count j (cond (not b) (x ∷ without k xs) (without k xs)) ≡ count j (x ∷ xs)
other_by k j x xs true e ne h = h ∙ sym (count_miss j x xs (ap (λ y. eqb y j) (eqb-true x k e) ∙ ne))
other_by k j x xs false e ne h = ap (λ n. cond (eqb x j) 1 0 + n) h

pub count_other : (k j : ℕ) (xs : List ℕ) → eqb k j ≡ false → count j (without k xs) ≡ count j xs
count_other k j [] ne = refl
count_other k j (x ∷ xs) ne = other_by k j x xs (eqb x k) refl ne (count_other k j xs ne)

length_by : (k x : ℕ) (xs : List ℕ) (b : Bool) → length (without k xs) + count k xs ≡ length xs →
    length (cond (not b) (x ∷ without k xs) (without k xs)) + (cond b 1 0 + count k xs) ≡ suc (length xs)
length_by k x xs true h = omega arith
length_by k x xs false h = omega arith

pub length_without : (k : ℕ) (xs : List ℕ) → length (without k xs) + count k xs ≡ length xs
length_without k [] = refl
length_without k (x ∷ xs) = length_by k x xs (eqb x k) (length_without k xs)

-- the turns of a loop that leaves k out
module _ (k : ℕ) (xs : List ℕ) (i : ℕ) where
  pub without_keeps : i < length xs → (get_or xs i 0 ≡ k → ⊥) → without k (take (i + 1) xs) ≡ without k (take i xs) ++ get_or xs i 0 ∷ []
  without_keeps l ne =
      filter_more (λ x. not (eqb x k)) xs i 0 l
      ∙ ap (λ b. without k (take i xs) ++ cond (not b) (get_or xs i 0 ∷ []) []) (ne_eqb (get_or xs i 0) k ne)

  pub without_drops : i < length xs → get_or xs i 0 ≡ k → without k (take (i + 1) xs) ≡ without k (take i xs)
  without_drops l e =
      filter_more (λ x. not (eqb x k)) xs i 0 l
      ∙ ap (λ b. without k (take i xs) ++ cond (not b) (get_or xs i 0 ∷ []) []) (eq-eqb (get_or xs i 0) k e)
      ∙ append-nil (without k (take i xs))

-- moved to the end, each number stands there once as before
moved_by : (k j : ℕ) (xs : List ℕ) (b : Bool) → eqb k j ≡ b → count j xs ≡ 1 → count j (moved_to_end k xs) ≡ 1
moved_by k j xs true e h =
    let s : count j (without k xs) ≡ 0 = subst (λ (y : ℕ). count y (without k xs) ≡ 0) (eqb-true k j e) (count_same k xs) in
    omega (arith, count_append j (without k xs) (k ∷ []), count_hit j k [] e)
moved_by k j xs false e h = omega (arith, count_append j (without k xs) (k ∷ []), count_miss j k [] e, count_other k j xs e)

pub moved_once : (n k : ℕ) (order : List ℕ) → EachOnce n order → EachOnce n (moved_to_end k order)
moved_once n k order once j l = moved_by k j order (eqb k j) refl (once j l)

-- and so it does where they rise
rising_none : (k i n : ℕ) → k < i → count k (list_up (λ j. j) i n) ≡ 0
unfolding list_up
rising_none k i zero l = refl
rising_none k i (suc n) l =
    count_miss k i (list_up (λ j. j) (i + 1) n) (ne_eqb i k (λ q. omega arith)) ∙ rising_none k (i + 1) n (omega arith)

rising_by : (k i n : ℕ) (b : Bool) → eqb i k ≡ b → i ≤ k → (i + 1 ≤ k → count k (list_up (λ j. j) (i + 1) n) ≡ 1) →
    count k (i ∷ list_up (λ j. j) (i + 1) n) ≡ 1
rising_by k i n true e l ih =
    omega (arith, count_hit k i (list_up (λ j. j) (i + 1) n) e, rising_none k (i + 1) n (omega (arith, eqb-true i k e)))
rising_by k i n false e l ih = let ne : i ≡ k → ⊥ = eqb-false i k e in count_miss k i (list_up (λ j. j) (i + 1) n) e ∙ ih (omega arith)

rising_one : (k i n : ℕ) → i ≤ k → k < i + n → count k (list_up (λ j. j) i n) ≡ 1
unfolding list_up
rising_one k i zero l m = absurd (omega arith)
rising_one k i (suc n) l m = rising_by k i n (eqb i k) refl l (λ q. rising_one k (i + 1) n q (omega arith))

pub rising_once : (n : ℕ) → EachOnce n (rising n)
rising_once n k l = rising_one k 0 n (omega arith) (omega arith)

-- a number that stands in an order and passes: a search along it finds one
module _ (p : ℕ → Bool) (k : ℕ) where
  in_order_by : (x : ℕ) (xs : List ℕ) (a b : Bool) → p x ≡ a → eqb x k ≡ b → p k ≡ true → (1 ≤ count k xs → is_some (first_of p xs) ≡ true) →
      1 ≤ cond b 1 0 + count k xs → is_some (cond a (Some x) (first_of p xs)) ≡ true
  in_order_by x xs true b e q h ih m = refl
  in_order_by x xs false true e q h ih m = absurd (both_ways (p x) e (ap p (eqb-true x k q) ∙ h))
  in_order_by x xs false false e q h ih m = ih (omega arith)

  pub in_order : (xs : List ℕ) → 1 ≤ count k xs → p k ≡ true → is_some (first_of p xs) ≡ true
  unfolding first_of
  in_order [] m h = absurd (omega arith)
  in_order (x ∷ xs) m h = in_order_by x xs (p x) (eqb x k) refl refl h (λ q. in_order xs q h) m
