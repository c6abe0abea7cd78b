-- Where a channel stands on a route: at which hop, behind which channel, before which.
use Rattle.std.specs.Prelude.{ℕ, ◌+◌, ◌-◌, ◌<◌, cond, List, length, Some, None, Option, ◌==◌, nat_lt, position, slice_index}
use Rattle.routes.specs.declared.crossing.Crossing.{Crossing}

-- the hop at which the route crosses the channel, counted from 0
abbrev pub hop : List ℕ → ℕ → Option ℕ
hop cs c = position (λ d. d == c) cs

-- a hop that is told is one of the n
abbrev pub Below : ℕ → Option ℕ → Type 0
Below n None = Unit {0}
Below n (Some h) = h < n

-- the channel before that hop, and whether the hop is the last
abbrev pub before_hop : List ℕ → ℕ → Option ℕ
before_hop cs h = cond (h == 0) None (Some (slice_index cs (h - 1)))

abbrev pub crossing_at : List ℕ → Option ℕ → Option Crossing
crossing_at cs None = None
crossing_at cs (Some h) = Some (record { before = before_hop cs h; last = (h + 1 == length cs) })

-- how the route crosses the channel, if it does
abbrev pub crossing : List ℕ → ℕ → Option Crossing
crossing cs c = crossing_at cs (hop cs c)

-- the channel after a hop, and the channel after another
abbrev pub after_hop : List ℕ → Option ℕ → Option ℕ
after_hop cs None = None
after_hop cs (Some h) = cond (nat_lt (h + 1) (length cs)) (Some (slice_index cs (h + 1))) None

abbrev pub next_channel : List ℕ → ℕ → Option ℕ
next_channel cs c = after_hop cs (hop cs c)

-- the first channel and the last one
abbrev pub first_channel : List ℕ → ℕ
first_channel cs = slice_index cs 0

abbrev pub last_channel : List ℕ → ℕ
last_channel cs = slice_index cs (length cs - 1)
