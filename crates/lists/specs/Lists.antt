-- A list in a fixed number of places: in at the back, out at the front.
use Rattle.std.specs.Prelude.{ℕ, Bool, cond, List, [], ◌∷◌, ◌++◌, length, Some, None, Ok, Err, Option, Result, nat_le, nat_lt}

-- the items, where they find a place each
abbrev pub placed : {T : Type 0} → ℕ → List T → Option (List T)
placed n xs = cond (nat_le (length xs) n) (Some xs) None

-- the item at the front
abbrev pub first_of : {T : Type 0} → List T → Option T
first_of [] = None
first_of (x ∷ xs) = Some x

-- the items behind it
abbrev pub rest_of : {T : Type 0} → List T → List T
rest_of [] = []
rest_of (x ∷ xs) = xs

-- there is a place left of the n
abbrev pub has_room : {T : Type 0} → ℕ → List T → Bool
has_room n xs = nat_lt (length xs) n

-- an item comes in behind the others where there is a place, and is handed back where there is none
abbrev pub push_answer : {T : Type 0} → ℕ → List T → T → Result (Unit {0}) T
push_answer n xs x = cond (has_room n xs) (Ok tt) (Err x)

abbrev pub pushed : {T : Type 0} → ℕ → List T → T → List T
pushed n xs x = cond (has_room n xs) (xs ++ x ∷ []) xs
