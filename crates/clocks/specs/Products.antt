-- Lemmas for the laws of the sampled clock; no contract cites them.
use Rattle.std.specs.Prelude.{◌≡◌, ℕ, ◌+◌, ◌-◌, ◌*◌, ◌<◌, ◌≤◌, min, Bool, true, false, cond, ◌&&◌, ◌==◌}
use Rattle.std.proofs.Common.{mul-le-mul, mul-le-mul_left, mul-suc, mul_comm, ap, ⊎_elim, arith}
use Rattle.std.proofs.lemmas.Bool.{cases_lt}
use Rattle.std.proofs.lemmas.Bool.Decides.{nat_tests}

-- a product with a number of 1 or more
pub at_least : (n l : ℕ) → 1 ≤ l → n ≤ n * l
at_least n l h = omega (arith, mul-le-mul_left {m = 1} {n = l} n h, mul-suc n 0)

pub at_least_left : (n l : ℕ) → 1 ≤ n → l ≤ n * l
at_least_left n l h = omega (arith, at_least l n h, mul_comm n l)

-- a period times the lag below as it is answered
pub product_small : (n l r : ℕ) → n ≤ 64 → r ≡ min l 4194305 → n * r ≤ 268435520
product_small n l r h e = let k : r ≤ 4194305 = omega arith in mul-le-mul h k

-- passes the limit only where the period times the lag itself does, which a lag past it does too
pub product_long : (n l r : ℕ) → r ≡ min l 4194305 → 4194304 < n * r → 4194304 < n * l
product_long n l r e h = let k : r ≤ l = omega arith in omega (arith, mul-le-mul_left n k)

pub product_past : (n l r : ℕ) → 1 ≤ n → r ≡ min l 4194305 → 4194304 < r → r ≡ min (n * l) 4194305
product_past n l r some e h = omega (arith, at_least_left n l some)

-- and up to one past the limit it tells the lag itself
pub product_told : (n l r : ℕ) → 1 ≤ n → r ≡ min l 4194305 → min (n * r) 4194305 ≡ min (n * l) 4194305
product_told n l r some e =
    ⊎_elim
    (λ (q : l < 4194305). let same : r ≡ l = omega arith in ap (λ k. min (n * k) 4194305) same)
    (λ (q : 4194305 ≤ l). omega (arith, at_least_left n l some, at_least_left n r some))
    (cases_lt l 4194305)

-- the count left of a sampled clock that stays: one cycle nearer, or at the end of a turn and the clock below stays
pub sampled_falls : {C : Type 0} (left : C → ℕ) (told below : C) (n k : ℕ) (due shifts : Bool) → due ≡ (k + 1 == n) → k < n → 1 ≤ left below →
    (shifts ≡ false → left told < left below) → (due && shifts) ≡ false → n * left (cond due told below) - cond due 0 (k + 1) < n * left below - k
sampled_falls left told below n k false shifts e h p f g = omega (arith, at_least n (left below) p)
sampled_falls left told below n k true shifts e h p f g = grind (arith, nat_tests, mul-le-mul_left n (f g), mul-suc n (left told))
