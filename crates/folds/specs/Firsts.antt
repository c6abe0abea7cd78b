use Rattle.std.specs.Prelude.{ℕ, zero, suc, ◌+◌, Bool, cond, List, [], ◌∷◌, Some, None, Option}

-- the first of the n numbers from i on that passes
unfoldable pub first_up : (ℕ → Bool) → ℕ → ℕ → Option ℕ
first_up p i zero = None
first_up p i (suc n) = cond (p i) (Some i) (first_up p (i + 1) n)

-- the first element of a list that passes
unfoldable pub first_of : {X : Type 0} → (X → Bool) → List X → Option X
first_of p [] = None
first_of p (x ∷ xs) = cond (p x) (Some x) (first_of p xs)
