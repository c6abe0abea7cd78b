use Rattle.std.specs.Prelude.{ℕ, ◌+◌, Bool, cond, ◌&&◌, List, replicate, None, Option, nat_lt, slice_index, slice_set}
use Rattle.std.specs.Option.{option_or}
use Rattle.arbiters.specs.FlowSets.{first_between}
use Rattle.arbiters.specs.declared.round_robin.RoundRobin.{RoundRobin}

-- the first flow of the set after the last one: up to 63, and then from 0 up to the last one itself
abbrev pub next_after : ℕ → List Bool → Option ℕ
next_after last s = option_or (first_between s (last + 1) 64) (first_between s 0 (last + 1))

-- what it answers for a channel and a set
abbrev pub round_choice : RoundRobin → ℕ → List Bool → Option ℕ
round_choice r c s = cond (nat_lt c 320) (next_after (slice_index r.last c) s) None

-- after a grant that flow is the last one granted on that channel
abbrev pub round_granted : RoundRobin → ℕ → ℕ → RoundRobin
round_granted r c f = cond (nat_lt c 320 && nat_lt f 64) (record { last = slice_set r.last c f }) r

-- as after a grant to 63 on each channel
abbrev pub fresh_round : RoundRobin
fresh_round = record { last = replicate 320 63 }
