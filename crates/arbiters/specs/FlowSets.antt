use Rattle.std.specs.Prelude.{ℕ, ◌-◌, Bool, true, false, ◌&&◌, List, replicate, Option, nat_lt, slice_index_or, slice_set}
use Rattle.folds.specs.Firsts.{first_up}

-- a set says of each of the 64 flows whether it is a member; no other number is one
abbrev pub has : List Bool → ℕ → Bool
has s f = nat_lt f 64 && slice_index_or s f false

-- the first member from start on, below end
abbrev pub first_between : List Bool → ℕ → ℕ → Option ℕ
first_between s start end = first_up (has s) start (end - start)

-- the empty set
abbrev pub no_flows : List Bool
no_flows = replicate 64 false

-- one member more; there are 64 places, so a number above 63 changes nothing
abbrev pub with_flow : List Bool → ℕ → List Bool
with_flow s f = slice_set s f true
