-- What a list of events counts: accepted flits and shifts.
use Rattle.std.specs.Prelude.{◌≡◌, ℕ, suc, ◌+◌, cond, ◌&&◌, ◌⊎◌, List, [], ◌∷◌, ◌++◌, nat_le, nat_lt}
use Rattle.accounts.specs.Calls.{Event, accepted, refused, shift_made, spent}

-- the flits that an event puts into the frames from `first` up to, and without, `end`
abbrev pub flits_in : ℕ → ℕ → Event → ℕ
flits_in first end (accepted size frame) = cond (nat_le first frame && nat_lt frame end) size 0
flits_in first end (refused refusal) = 0
flits_in first end shift_made = 0

-- the accepted flits that those frames hold
abbrev pub held : ℕ → ℕ → List Event → ℕ
held first end [] = 0
held first end (e ∷ es) = flits_in first end e + held first end es

-- all accepted flits
abbrev pub flits : List Event → ℕ
flits [] = 0
flits (accepted size frame ∷ es) = size + flits es
flits (refused refusal ∷ es) = flits es
flits (shift_made ∷ es) = flits es

-- the shifts
abbrev pub shifts : List Event → ℕ
shifts [] = 0
shifts (accepted size frame ∷ es) = shifts es
shifts (refused refusal ∷ es) = shifts es
shifts (shift_made ∷ es) = suc (shifts es)

-- an offer was refused for a spent window
abbrev pub Refusing : List Event → Type 0
Refusing [] = ⊥
Refusing (e ∷ es) = (e ≡ spent) ⊎ Refusing es

-- between any two neighbouring shifts an offer was refused for a spent window
abbrev pub Pressed : List Event → Type 0
Pressed es =
    (before between later : List Event) → es ≡ before ++ (shift_made ∷ (between ++ (shift_made ∷ later))) → shifts between ≡ 0 → Refusing between
