use Rattle.std.specs.Prelude.{◌≡◌, ℕ, ◌+◌, ◌<◌, cond, ◌==◌}
use Rattle.std.proofs.Common.{arith}
use Rattle.std.proofs.lemmas.Bool.{eqb-false, cond_both}

-- one cycle more of a turn of so many cycles, and 0 again where that ends the turn
abbrev pub turned : ℕ → ℕ → ℕ
turned cycles count = cond (count + 1 == cycles) 0 (count + 1)

-- so that it stays below
pub turned_below : (cycles count : ℕ) → count < cycles → turned cycles count < cycles
turned_below cycles count h =
    cond_both (count + 1 == cycles) 0 (count + 1) (λ n. n < cycles) (λ e. omega arith)
    (λ e. let ne : count + 1 ≡ cycles → ⊥ = eqb-false (count + 1) cycles e in omega arith)
