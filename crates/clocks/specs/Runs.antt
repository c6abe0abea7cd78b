use Rattle.std.specs.Prelude.{ℕ, Bool, false, List, [], ◌∷◌, ◌++◌, replicate}

module _ {C : Type 0} where
  -- what a clock answers, cycle by cycle: told true where the head frame is empty, it answers true for shift
  abbrev pub answers : (C → Bool → Bool) → (C → Bool → C) → C → List Bool → List Bool
  answers shifts told c [] = []
  answers shifts told c (empty ∷ rest) = shifts c empty ∷ answers shifts told (told c empty) rest

  -- what it holds after those cycles
  abbrev pub after : (C → Bool → C) → C → List Bool → C
  after told c [] = c
  after told c (empty ∷ rest) = after told (told c empty) rest

-- so many times stay, then this answer
abbrev pub stays_then : ℕ → Bool → List Bool
stays_then n last = replicate n false ++ last ∷ []
