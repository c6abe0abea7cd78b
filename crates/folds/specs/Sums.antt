use Rattle.std.specs.Prelude.{ℕ, zero, suc, ◌+◌}

-- the sum of the values at the numbers below n
unfoldable pub total : (ℕ → ℕ) → ℕ → ℕ
total f zero = 0
total f (suc n) = total f n + f n
