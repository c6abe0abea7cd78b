-- What an account promises of every list of calls made on it.
use Rattle.std.specs.Prelude.{◌≡◌, ℕ, ◌+◌, ◌-◌, ◌*◌, ◌≤◌, List, ◌∷◌, ◌++◌}
use Rattle.accounts.specs.Ledgers.{Ledger}
use Rattle.accounts.specs.Calls.{Call, Event, spent, events, after}
use Rattle.accounts.specs.Counts.{held, flits, shifts, Pressed}

-- so it is after every list of calls
abbrev pub ForEver : (Ledger → Type 0) → Ledger → Type 0
ForEver Law l = (cs : List Call) → Law (after l cs)

-- any n successive frames hold at most so many accepted flits, in every list of calls
abbrev pub HoldAtMost : Ledger → ℕ → ℕ → Type 0
HoldAtMost l n most = (cs : List Call) (first : ℕ) → held first (first + n) (events l cs) ≤ most

-- the share of n frames: n × R + L - 1
abbrev pub share_of : Ledger → ℕ → ℕ
share_of l n = n * l.slots + l.largest - 1

-- no n successive frames hold more than their share
abbrev pub Shares : Ledger → Type 0
Shares l = (n : ℕ) → HoldAtMost l n (share_of l n)

-- a stretch: what comes, in some list of calls, between two offers refused for a spent window, where another such refusal stands
-- between any two neighbouring shifts
pub record Stretch (l : Ledger) (es : List Event) : Type 0 where
  pub calls : List Call
  pub before : List Event
  pub later : List Event
  pub seen : events l calls ≡ before ++ (spent ∷ (es ++ (spent ∷ later)))
  pub pressed : Pressed es

-- s shifts come with s × R accepted flits, give or take L - 1
abbrev pub InStep : Ledger → List Event → Type 0
InStep l es = (flits es ≤ shifts es * l.slots + (l.largest - 1)) × (shifts es * l.slots ≤ flits es + (l.largest - 1))

-- the flits of every stretch keep in step with its shifts
abbrev pub Stretches : Ledger → Type 0
Stretches l = (es : List Event) → Stretch l es → InStep l es

-- the same in figures: the least flits that s shifts bring
abbrev pub stretch_least : Ledger → ℕ → ℕ
stretch_least l s = s * l.slots - (l.largest - 1)

-- and the most
abbrev pub stretch_most : Ledger → ℕ → ℕ
stretch_most l s = s * l.slots + (l.largest - 1)

-- every stretch of s shifts has at least and at most so many accepted flits
abbrev pub Bring : Ledger → ℕ → ℕ → ℕ → Type 0
Bring l s least most = (es : List Event) → Stretch l es → shifts es ≡ s → (least ≤ flits es) × (flits es ≤ most)
