-- Lists of channel numbers: what makes one a route, and whether it crosses a channel.
use Rattle.std.specs.Prelude.{ℕ, Bool, true, ◌&&◌, List, [], ◌∷◌, length, ◌==◌, nat_le, nat_lt}
use Rattle.std.specs.List.{list_all, list_any}

-- a number from `low` to `high`, both included
abbrev pub within : ℕ → ℕ → ℕ → Bool
within low high n = nat_le low n && nat_le n high

-- 1 to 16 channels
abbrev pub few_hops : List ℕ → Bool
few_hops cs = within 1 16 (length cs)

-- every channel is one of the 320
abbrev pub known : List ℕ → Bool
known cs = list_all (λ c. nat_lt c 320) cs

-- each number is above the one before it
abbrev pub rises : List ℕ → Bool
rises [] = true
rises (c ∷ []) = true
rises (c ∷ d ∷ cs) = nat_lt c d && rises (d ∷ cs)

-- what a route must be
abbrev pub well_formed : List ℕ → Bool
well_formed cs = few_hops cs && (known cs && rises cs)

-- whether the list has the channel
abbrev pub crosses : List ℕ → ℕ → Bool
crosses cs c = list_any (λ d. d == c) cs
