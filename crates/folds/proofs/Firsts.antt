use Rattle.std.proofs.Common.{◌≡◌, ℕ, zero, suc, ◌+◌, ◌-◌, ◌<◌, ◌≤◌, Bool, true, false, cond, List, [], ◌∷◌, ◌++◌, length, get_or, drop, is_some, Some, None, sym, refl, ap, ◌∙◌, subst, ⊎_elim, arith}
use Rattle.std.proofs.lemmas.List.{at_drop_more, at_drop_all}
use Rattle.std.proofs.lemmas.Bool.{both_ways, cases_eq}
use Rattle.std.specs.List.{AllByRecursion as All}
use Rattle.folds.specs.Firsts.{first_up, first_of}
use Rattle.folds.proofs.Counts.{more_left, none_left}

-- the turns of a search that counts up from i to n
module _ (p : ℕ → Bool) (i n : ℕ) where
  pub first_hit : i < n → p i ≡ true → first_up p i (n - i) ≡ Some i
  unfolding first_up
  first_hit l h = ap (first_up p i) (more_left i n l) ∙ ap (λ b. cond b (Some i) (first_up p (i + 1) (n - (i + 1)))) h

  pub first_miss : i < n → p i ≡ false → first_up p i (n - i) ≡ first_up p (i + 1) (n - (i + 1))
  unfolding first_up
  first_miss l h = ap (first_up p i) (more_left i n l) ∙ ap (λ b. cond b (Some i) (first_up p (i + 1) (n - (i + 1)))) h

  pub first_end : n ≤ i → first_up p i (n - i) ≡ None
  unfolding first_up
  first_end l = ap (first_up p i) (none_left i n l)

-- the turns of a search along a list
module _ {X : Type 0} (p : X → Bool) (xs : List X) (k : ℕ) where
  pub of_hit : (d : X) → k < length xs → p (get_or xs k d) ≡ true → first_of p (drop k xs) ≡ Some (get_or xs k d)
  unfolding first_of
  of_hit d l h = at_drop_more (first_of p) xs k d l ∙ ap (λ b. cond b (Some (get_or xs k d)) (first_of p (drop (k + 1) xs))) h

  pub of_miss : (d : X) → k < length xs → p (get_or xs k d) ≡ false → first_of p (drop k xs) ≡ first_of p (drop (k + 1) xs)
  unfolding first_of
  of_miss d l h = at_drop_more (first_of p) xs k d l ∙ ap (λ b. cond b (Some (get_or xs k d)) (first_of p (drop (k + 1) xs))) h

  pub of_end : length xs ≤ k → first_of p (drop k xs) ≡ None
  unfolding first_of
  of_end l = at_drop_all (first_of p) xs k l

-- what such a search answers: a number that passes, and none only where none passes
module _ (p : ℕ → Bool) where
  passes_by : (i k n : ℕ) (b : Bool) → p i ≡ b → (first_up p (i + 1) n ≡ Some k → p k ≡ true) → cond b (Some i) (first_up p (i + 1) n) ≡ Some k → p k ≡ true
  passes_by i k n true e ih h = let q : i ≡ k = cc in ap p (sym q) ∙ e
  passes_by i k n false e ih h = ih h

  pub first_passes : (i n k : ℕ) → first_up p i n ≡ Some k → p k ≡ true
  unfolding first_up
  first_passes i zero k h = cc
  first_passes i (suc n) k h = passes_by i k n (p i) refl (first_passes (i + 1) n k) h

  finds_by : (i k n : ℕ) (b : Bool) → p i ≡ b → p k ≡ true → i ≤ k → k < i + suc n → (i + 1 ≤ k → is_some (first_up p (i + 1) n) ≡ true) →
      is_some (cond b (Some i) (first_up p (i + 1) n)) ≡ true
  finds_by i k n true e h l m ih = refl
  finds_by i k n false e h l m ih =
      ih (⊎_elim (λ q. absurd (both_ways (p i) e (ap p q ∙ h))) (λ ne. omega arith) (cases_eq i k))

  pub first_finds : (i n k : ℕ) → i ≤ k → k < i + n → p k ≡ true → is_some (first_up p i n) ≡ true
  unfolding first_up
  first_finds i zero k l m h = absurd (omega arith)
  first_finds i (suc n) k l m h = finds_by i k n (p i) refl h l m (λ q. first_finds (i + 1) n k q (omega arith) h)

module _ {X : Type 0} (p : X → Bool) where
  of_passes_by : (x y : X) (xs : List X) (b : Bool) → p x ≡ b → (first_of p xs ≡ Some y → p y ≡ true) → cond b (Some x) (first_of p xs) ≡ Some y → p y ≡ true
  of_passes_by x y xs true e ih h = let q : x ≡ y = cc in ap p (sym q) ∙ e
  of_passes_by x y xs false e ih h = ih h

  pub of_passes : (xs : List X) (y : X) → first_of p xs ≡ Some y → p y ≡ true
  unfolding first_of
  of_passes [] y h = cc
  of_passes (x ∷ xs) y h = of_passes_by x y xs (p x) refl (of_passes xs y) h

  -- and an element of the list: what holds of each holds of it, and what is put behind the list changes nothing
  of_among_by : (Q : X → Type 0) (x y : X) (xs : List X) (b : Bool) → Q x → (first_of p xs ≡ Some y → Q y) → cond b (Some x) (first_of p xs) ≡ Some y → Q y
  of_among_by Q x y xs true q ih h = let e : x ≡ y = cc in subst Q e q
  of_among_by Q x y xs false q ih h = ih h

  pub of_among : (Q : X → Type 0) (xs : List X) (y : X) → All Q xs → first_of p xs ≡ Some y → Q y
  unfolding first_of
  of_among Q [] y all h = cc
  of_among Q (x ∷ xs) y all h = of_among_by Q x y xs (p x) all.0 (of_among Q xs y all.1) h

  of_append_by : (x y : X) (xs ys : List X) (b : Bool) → (first_of p xs ≡ Some y → first_of p (xs ++ ys) ≡ Some y) → cond b (Some x) (first_of p xs) ≡ Some y →
      cond b (Some x) (first_of p (xs ++ ys)) ≡ Some y
  of_append_by x y xs ys true ih h = h
  of_append_by x y xs ys false ih h = ih h

  pub of_append : (xs ys : List X) (y : X) → first_of p xs ≡ Some y → first_of p (xs ++ ys) ≡ Some y
  unfolding first_of
  of_append [] ys y h = cc
  of_append (x ∷ xs) ys y h = of_append_by x y xs ys (p x) (of_append xs ys y) h

-- where nothing passes, nothing is found
none_by : (p : ℕ → Bool) (i n : ℕ) (b : Bool) → p i ≡ b → p i ≡ false → first_up p (i + 1) n ≡ None → cond b (Some i) (first_up p (i + 1) n) ≡ None
none_by p i n true e h ih = absurd (both_ways (p i) h e)
none_by p i n false e h ih = ih

pub first_none : (p : ℕ → Bool) (i n : ℕ) → ((k : ℕ) → p k ≡ false) → first_up p i n ≡ None
unfolding first_up
first_none p i zero all = refl
first_none p i (suc n) all = none_by p i n (p i) refl (all i) (first_none p (i + 1) n all)
