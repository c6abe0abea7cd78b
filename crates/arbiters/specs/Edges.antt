use Rattle.std.specs.Prelude.{◌≡◌, ℕ, ◌<◌, [], ◌∷◌, Some}
use Rattle.arbiters.specs.Recency.{fresh_recency, recent_choice, recent_granted}
use Rattle.arbiters.specs.Rounds.{fresh_round, round_choice, round_granted}
use Rattle.arbiters.specs.Servings.{flows_of, servings}

-- least recently granted, fresh, asked on any channel three times for the flows 0 and 1, each grant told: 0, 1, 0
abbrev pub RecencyOfTwo : Type 0
RecencyOfTwo = (c : ℕ) → c < 320 → servings recent_choice recent_granted fresh_recency c (flows_of (0 ∷ 1 ∷ [])) 3 ≡ Some 0 ∷ Some 1 ∷ Some 0 ∷ []

-- round robin, fresh, asked on any channel three times for the flows 0 and 5, each grant told: 0, 5, 0
abbrev pub RoundOfTwo : Type 0
RoundOfTwo = (c : ℕ) → c < 320 → servings round_choice round_granted fresh_round c (flows_of (0 ∷ 5 ∷ [])) 3 ≡ Some 0 ∷ Some 5 ∷ Some 0 ∷ []
