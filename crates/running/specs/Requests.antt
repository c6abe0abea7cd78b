-- Which flows request a channel, and which open frame it serves.
use Rattle.std.specs.Prelude.{ℕ, Bool, false, ◌&&◌, ◌||◌, List, [], ◌∷◌, length, is_some, Some, None, Option, ◌==◌, nat_lt}
use Rattle.folds.specs.Filled.{list_up}
use Rattle.folds.specs.Firsts.{first_up}
use Rattle.lanes.specs.declared.flits.Flit.{Flit}
use Rattle.routes.specs.Crossings.{crossing}
use Rattle.routes.specs.declared.crossing.Crossing.{Crossing}
use Rattle.sources.specs.Lines.{first_place}
use Rattle.running.specs.Nets.{Net, line, route, flows}

-- the flit at the front is one of flow i
abbrev pub leads : List Flit → ℕ → Bool
leads [] i = false
leads (x ∷ xs) i = x.flow == i

abbrev pub is_at : Option ℕ → ℕ → Bool
is_at None k = false
is_at (Some j) k = j == k

-- a flit of flow i stands ready in the k-th open frame: it is the earliest that waits at the source, or at the front of the
-- buffer of the channel before
abbrev pub stands : Net → ℕ → ℕ → Option ℕ → Bool
stands n k i None = is_at (first_place (line n i)) k
stands n k i (Some d) = leads (n.lane d k) i

-- channel c has space in that frame, which a flow's last channel always has
abbrev pub has_space : Net → ℕ → ℕ → Bool → Bool
has_space n c k last = last || nat_lt (length (n.lane c k)) n.depth

abbrev pub requests_by : Net → ℕ → ℕ → ℕ → Option Crossing → Bool
requests_by n c k i None = false
requests_by n c k i (Some x) = stands n k i x.before && has_space n c k x.last

-- flow i requests channel c in the k-th open frame
abbrev pub requests : Net → ℕ → ℕ → ℕ → Bool
requests n c k i = requests_by n c k i (crossing (route n i) c)

-- some flow does
abbrev pub asked : Net → ℕ → ℕ → Bool
asked n c k = is_some (first_up (requests n c k) 0 (flows n))

-- the first open frame that has a requester
abbrev pub served : Net → ℕ → Option ℕ
served n c = first_up (asked n c) 0 n.window

-- all requesters of a frame, as the set that an arbiter is asked about
abbrev pub requesters : Net → ℕ → ℕ → List Bool
requesters n c k = list_up (requests n c k) 0 64
