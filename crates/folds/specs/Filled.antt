use Rattle.std.specs.Prelude.{ℕ, zero, suc, ◌+◌, ◌-◌, List, [], ◌∷◌, ◌++◌, replicate}

module _ {X : Type 0} where
  -- the values at the n numbers from i on
  unfoldable pub list_up : (ℕ → X) → ℕ → ℕ → List X
  list_up f i zero = []
  list_up f i (suc n) = f i ∷ list_up f (i + 1) n

  -- the same n places from 0 on, of which the first i are filled and the others hold d
  unfoldable pub filled : (ℕ → X) → X → ℕ → ℕ → List X
  filled f d i n = list_up f 0 i ++ replicate (n - i) d
