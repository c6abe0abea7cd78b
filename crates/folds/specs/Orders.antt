use Rattle.std.specs.Prelude.{◌≡◌, ℕ, ◌+◌, ◌<◌, cond, not, List, [], ◌∷◌, ◌++◌, filter, ◌==◌}
use Rattle.folds.specs.Filled.{list_up}

-- how often k stands in an order
abbrev pub count : ℕ → List ℕ → ℕ
count k [] = 0
count k (x ∷ order) = cond (x == k) 1 0 + count k order

-- each number below n stands there exactly once
abbrev pub EachOnce : ℕ → List ℕ → Type 0
EachOnce n order = (k : ℕ) → k < n → count k order ≡ 1

-- the numbers below n, rising
abbrev pub rising : ℕ → List ℕ
rising n = list_up (λ k. k) 0 n

-- the order without k
abbrev pub without : ℕ → List ℕ → List ℕ
without k order = filter (λ x. not (x == k)) order

-- the order with k moved to its end
abbrev pub moved_to_end : ℕ → List ℕ → List ℕ
moved_to_end k order = without k order ++ k ∷ []
