-- What a network takes from its plan when it starts.
use Rattle.std.specs.Prelude.{ℕ, ◌≤◌}
use Rattle.plan.specs.Tables.{Flow}

-- a row within the ranges of accounts
abbrev pub Reserved : Flow → ℕ → Type 0
Reserved r window = ((1 ≤ r.slots) × (r.slots ≤ 4096)) × ((1 ≤ r.largest) × (r.largest ≤ 64)) × ((2 ≤ window) × (window ≤ 8))
