use Rattle.std.proofs.Common.{◌≡◌, ℕ, suc, ◌+◌, ◌-◌, ◌<◌, ◌≤◌, arith}

-- what is left of n at i: one step on, and at the end
pub more_left : (i n : ℕ) → i < n → n - i ≡ suc (n - (i + 1))
more_left i n l = omega arith

pub none_left : (i n : ℕ) → n ≤ i → n - i ≡ 0
none_left i n l = omega arith
