-- The places of a list: its items, and blanks behind them.
use Rattle.std.specs.Prelude.{◌≡◌, ℕ, ◌-◌, ◌≤◌, List, ◌++◌, length, take, drop, replicate}
use Rattle.std.proofs.Common.{arith, length-take-le, take-append-drop, ap, sym, ◌∙◌}

-- the items, and blanks behind them up to n places
abbrev pub filled : {T : Type 0} → T → ℕ → List T → List T
filled blank n xs = xs ++ replicate (n - length xs) blank

-- the n places of a list of so many items
pub record Filled {T : Type 0} (blank : T) (n count : ℕ) (places : List T) : Type 0 where
  pub few : count ≤ n
  pub sized : length places ≡ n
  pub blanks : drop count places ≡ replicate (n - count) blank

-- as many items are taken from the places as are counted, and filled up again they are the places
module _ {T : Type 0} {blank : T} {n count : ℕ} {places : List T} (h : Filled blank n count places) where
  pub length-take-filled : length (take count places) ≡ count
  length-take-filled = length-take-le count places (omega (arith, h.sized, h.few))

  pub filled-take : filled blank n (take count places) ≡ places
  filled-take =
      ap (λ k. take count places ++ replicate (n - k) blank) length-take-filled
      ∙ ap (λ ys. take count places ++ ys) (sym h.blanks)
      ∙ take-append-drop count places
