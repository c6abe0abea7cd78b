-- What `find` answers over a range and along a list is what the recursions find.
use Rattle.std.proofs.Common.{◌≡◌, ℕ, zero, suc, ◌-◌, ◌<◌, ◌≤◌, Bool, true, false, cond, List, [], ◌∷◌, length, get_or, Some, None, Option, sym, refl, ap, ◌∙◌, arith}
use Rattle.std.proofs.lemmas.Bool.{both_ways}
use Rattle.std.specs.List.{HoldsAt, AllWithin}
use Rattle.std.specs.Option.{MatchOption}
use Rattle.folds.specs.Firsts.{first_up, first_of}
use Rattle.folds.proofs.Firsts.{first_passes}
use Rattle.folds.proofs.Ups.{first_within, first_stops}

module _ (p : ℕ → Bool) (i n : ℕ) where
  none_up : (o : Option ℕ) → first_up p i (n - i) ≡ o → ((k : ℕ) → i ≤ k → k < n → p k ≡ false) → None ≡ o
  none_up None e none = refl
  none_up (Some k) e none =
      let within = first_within p i (n - i) k e in
      absurd (both_ways (p k) (none k (omega arith) (omega arith)) (first_passes p i (n - i) k e))

  pub found_up : (o : Option ℕ) →
      MatchOption o ((k : ℕ) → i ≤ k → k < n → p k ≡ false) (λ f. (i ≤ f) × (f < n) × (p f ≡ true) × ((k : ℕ) → i ≤ k → k < f → p k ≡ false)) →
      o ≡ first_up p i (n - i)
  found_up None none = none_up (first_up p i (n - i)) refl none
  found_up (Some f) hit = sym (first_stops p i (n - i) f hit.0 (omega arith) hit.2 hit.3)

module _ {X : Type 0} (p : X → Bool) where
  none_of : (xs : List X) → AllWithin (λ x. p x ≡ false) xs 0 (length xs) → first_of p xs ≡ None
  unfolding first_of
  none_of [] none = refl
  none_of (x ∷ xs) none =
      ap (λ b. cond b (Some x) (first_of p xs)) (none 0 x (omega arith) (omega arith))
      ∙ none_of xs (λ k d l m. none (suc k) d (omega arith) (omega arith))

  first_at : (xs : List X) (i : ℕ) (y : X) → i < length xs → get_or xs i y ≡ y → p y ≡ true → AllWithin (λ x. p x ≡ false) xs 0 i → first_of p xs ≡ Some y
  unfolding first_of
  first_at [] i y l e h none = absurd (omega arith)
  first_at (x ∷ xs) zero y l e h none = ap (λ b. cond b (Some x) (first_of p xs)) (ap p e ∙ h) ∙ ap Some e
  first_at (x ∷ xs) (suc i) y l e h none =
      ap (λ b. cond b (Some x) (first_of p xs)) (none 0 x (omega arith) (omega arith))
      ∙ first_at xs i y (omega arith) e h (λ k d a b. none (suc k) d (omega arith) (omega arith))

  pub found_in : (o : Option X) (xs : List X) →
      MatchOption o (AllWithin (λ x. p x ≡ false) xs 0 (length xs))
      (λ y. (p y ≡ true) × (i : ℕ) × (i < length xs) × HoldsAt (λ x. x ≡ y) xs i × AllWithin (λ x. p x ≡ false) xs 0 i) →
      o ≡ first_of p xs
  found_in None xs none = sym (none_of xs none)
  found_in (Some y) xs hit = sym (first_at xs hit.1 y hit.2 (hit.3 y) hit.0 hit.4)
