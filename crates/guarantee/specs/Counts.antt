-- What a list of events counts: accepted flits, cycles, shifts, deliveries.
use Rattle.std.specs.Prelude.{◌≡◌, ℕ, ◌+◌, Bool, true, false, cond, ◌&&◌, ◌||◌, ◌⊎◌, List, [], ◌∷◌, ◌++◌, ◌==◌, nat_le, nat_lt}
use Rattle.lanes.specs.declared.flits.Flit.{Flit}
use Rattle.running.specs.declared.refusal.RunRefusal.TheVariants.{WindowSpent}
use Rattle.guarantee.specs.Calls.{Event, accepted, refused, cycled_once, not_made}

-- a flow's packet refused for a spent window
abbrev pub spent : ℕ → Event
spent i = refused i WindowSpent

-- flow i's accepted flits, all of them and those that belong to the frames from `first` up to, and without, `end`
abbrev pub accepted_by : ℕ → List Event → ℕ
accepted_by i [] = 0
accepted_by i (accepted j size frame ∷ es) = cond (j == i) size 0 + accepted_by i es
accepted_by i (refused j refusal ∷ es) = accepted_by i es
accepted_by i (cycled_once shifted flits ∷ es) = accepted_by i es
accepted_by i (not_made ∷ es) = accepted_by i es

abbrev pub accepted_in : ℕ → ℕ → ℕ → List Event → ℕ
accepted_in i first end [] = 0
accepted_in i first end (accepted j size frame ∷ es) = cond (j == i && (nat_le first frame && nat_lt frame end)) size 0 + accepted_in i first end es
accepted_in i first end (refused j refusal ∷ es) = accepted_in i first end es
accepted_in i first end (cycled_once shifted flits ∷ es) = accepted_in i first end es
accepted_in i first end (not_made ∷ es) = accepted_in i first end es

-- the cycles that were made, and the shifts in them
abbrev pub cycles : List Event → ℕ
cycles [] = 0
cycles (accepted j size frame ∷ es) = cycles es
cycles (refused j refusal ∷ es) = cycles es
cycles (cycled_once shifted flits ∷ es) = 1 + cycles es
cycles (not_made ∷ es) = cycles es

abbrev pub shifts : List Event → ℕ
shifts [] = 0
shifts (accepted j size frame ∷ es) = shifts es
shifts (refused j refusal ∷ es) = shifts es
shifts (cycled_once shifted flits ∷ es) = cond shifted 1 0 + shifts es
shifts (not_made ∷ es) = shifts es

-- the flits that were delivered
abbrev pub deliveries : List Event → List Flit
deliveries [] = []
deliveries (accepted j size frame ∷ es) = deliveries es
deliveries (refused j refusal ∷ es) = deliveries es
deliveries (cycled_once shifted flits ∷ es) = flits ++ deliveries es
deliveries (not_made ∷ es) = deliveries es

-- flow i's flit of that number is among them
abbrev pub has_flit : ℕ → ℕ → List Flit → Bool
has_flit i number [] = false
has_flit i number (x ∷ xs) = (x.flow == i && x.number == number) || has_flit i number xs

-- flow i was refused for a spent window
abbrev pub Refusing : ℕ → List Event → Type 0
Refusing i [] = ⊥
Refusing i (e ∷ es) = (e ≡ spent i) ⊎ Refusing i es

-- between any two neighbouring shifts it was
abbrev pub Pressed : ℕ → List Event → Type 0
Pressed i es =
    (before between later : List Event) (xs ys : List Flit) →
    es ≡ before ++ (cycled_once true xs ∷ (between ++ (cycled_once true ys ∷ later))) → shifts between ≡ 0 → Refusing i between
