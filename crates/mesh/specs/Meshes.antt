-- What a mesh holds.
use Rattle.std.specs.Prelude.{ℕ, ◌≤◌}

-- a side of 1 to 8
pub record IsSide (k : ℕ) : Type 0 where
  pub some : 1 ≤ k
  pub few : k ≤ 8
