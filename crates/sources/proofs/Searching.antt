-- A search along a list, and the same search over its places.
use Rattle.std.proofs.Common.{◌≡◌, ℕ, suc, ◌+◌, ◌<◌, Bool, cond, List, [], ◌∷◌, length, get_or, Some, sym, refl, zero-add, ap, ◌∙◌, arith}
use Rattle.std.specs.Prelude.{position}
use Rattle.std.specs.List.{position_from}
use Rattle.std.proofs.lemmas.Iterator.Adapters.{position_from-zero}
use Rattle.folds.specs.Firsts.{first_up}

first_up-from : (p q : ℕ → Bool) (xs : List ℕ) (i : ℕ) → ((k : ℕ) → k < length xs → q (i + k) ≡ p (get_or xs k 0)) → position_from p i xs ≡ first_up q i (length xs)
unfolding first_up
first_up-from p q [] i h = refl
first_up-from p q (x ∷ xs) i h =
    ap (λ b. cond b (Some i) (position_from p (i + 1) xs)) (sym (h 0 (omega arith)) ∙ ap q (omega arith))
    ∙ ap (cond (q i) (Some i)) (first_up-from p q xs (i + 1) (λ k l. ap q (omega arith) ∙ h (suc k) (omega arith)))

-- the places are counted from the front
pub first_up-position : (p : ℕ → Bool) (xs : List ℕ) → position p xs ≡ first_up (λ k. p (get_or xs k 0)) 0 (length xs)
first_up-position p xs = position_from-zero p xs ∙ first_up-from p (λ k. p (get_or xs k 0)) xs 0 (λ k l. rw zero-add refl)
