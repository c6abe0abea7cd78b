-- The turns of a search that only tells whether it found a number that passes.
use Rattle.std.proofs.Common.{◌≡◌, ℕ, ◌+◌, ◌-◌, ◌<◌, ◌≤◌, Bool, true, false, is_some, ap}
use Rattle.folds.specs.Firsts.{first_up}
use Rattle.folds.proofs.Firsts.{first_hit, first_miss, first_end}

module _ (p : ℕ → Bool) (i n : ℕ) where
  pub any_hit : i < n → p i ≡ true → is_some (first_up p i (n - i)) ≡ true
  any_hit l h = ap is_some (first_hit p i n l h)

  pub any_miss : i < n → p i ≡ false → is_some (first_up p i (n - i)) ≡ is_some (first_up p (i + 1) (n - (i + 1)))
  any_miss l h = ap is_some (first_miss p i n l h)

  pub any_end : n ≤ i → is_some (first_up p i (n - i)) ≡ false
  any_end l = ap is_some (first_end p i n l)
