-- All granted flits move together: on to the channel's buffer, or to delivery.
use Rattle.std.specs.Prelude.{ℕ, zero, suc, Bool, false, cond, not, ◌&&◌, List, [], ◌∷◌, ◌++◌, Some, None, Option, ◌==◌, slice_index_or}
use Rattle.folds.specs.Filled.{list_up}
use Rattle.lanes.specs.declared.flits.Flit.{Flit}
use Rattle.routes.specs.Crossings.{crossing, next_channel, first_channel, last_channel}
use Rattle.routes.specs.declared.crossing.Crossing.{Crossing}
use Rattle.sources.specs.Lines.{Line, left_by, arrived}
use Rattle.running.specs.Nets.{Net, line, route, flows}
use Rattle.running.specs.declared.grant.Grant.{Grant}

-- what channel c grants
abbrev pub at_channel : List (Option Grant) → ℕ → Option Grant
at_channel gs c = slice_index_or gs c None

-- it grants flow i, in the k-th open frame, or in any
abbrev pub gives : Option Grant → ℕ → ℕ → Bool
gives None k i = false
gives (Some g) k i = g.ahead == k && g.flow == i

abbrev pub gives_to : Option Grant → ℕ → Bool
gives_to None i = false
gives_to (Some g) i = g.flow == i

-- what would be read of an empty buffer; no granted flit is
abbrev pub no_flit : Flit
no_flit = record { flow = 0; number = 0 }

-- the flit of flow i that stands ready, behind the channel before or at the source
abbrev pub ready_flit : Net → ℕ → ℕ → Option ℕ → Flit
ready_flit n k i None = record { flow = i; number = (line n i).sent }
ready_flit n k i (Some d) = slice_index_or (n.lane d k) 0 no_flit

-- the flit at the front of a buffer goes where the channel after grants its flow
abbrev pub goes_to : List (Option Grant) → ℕ → ℕ → Option ℕ → Bool
goes_to gs k i None = false
goes_to gs k i (Some c) = gives (at_channel gs c) k i

abbrev pub stay : Net → List (Option Grant) → ℕ → ℕ → List Flit → List Flit
stay n gs c k [] = []
stay n gs c k (x ∷ xs) = cond (goes_to gs k x.flow (next_channel (route n x.flow) c)) xs (x ∷ xs)

-- the flit that comes to channel c's buffer for the k-th open frame, if one does
abbrev pub enters_by : Net → ℕ → Grant → Option Crossing → List Flit
enters_by n k g None = []
enters_by n k g (Some x) = cond (g.ahead == k && not x.last) (ready_flit n k g.flow x.before ∷ []) []

abbrev pub enter : Net → ℕ → ℕ → Option Grant → List Flit
enter n c k None = []
enter n c k (Some g) = enters_by n k g (crossing (route n g.flow) c)

-- a buffer after the moves
abbrev pub moved_lane : Net → List (Option Grant) → ℕ → ℕ → List Flit
moved_lane n gs c k = stay n gs c k (n.lane c k) ++ enter n c k (at_channel gs c)

-- a flow at its source after the moves: a flit left to its first channel, a flit arrived over its last
abbrev pub left_if : Bool → Line → Line
left_if b l = cond b (left_by l) l

abbrev pub arrived_if : Bool → Line → Line
arrived_if b l = cond b (arrived l) l

abbrev pub moved_line : List (Option Grant) → ℕ → Line → Line
moved_line gs i l =
    arrived_if (gives_to (at_channel gs (last_channel l.route)) i) (left_if (gives_to (at_channel gs (first_channel l.route)) i) l)

-- the network after the moves
abbrev pub moved : Net → List (Option Grant) → Net
moved n gs = record {
  window = n.window;
  depth = n.depth;
  head = n.head;
  cycles = n.cycles;
  lines = list_up (λ i. moved_line gs i (line n i)) 0 (flows n);
  lane = moved_lane n gs;
}

-- the flits that the moves deliver, in the order of the channels
abbrev pub arrives_by : Net → Grant → Option Crossing → List Flit
arrives_by n g None = []
arrives_by n g (Some x) = cond x.last (ready_flit n g.ahead g.flow x.before ∷ []) []

abbrev pub arrive : Net → ℕ → Option Grant → List Flit
arrive n c None = []
arrive n c (Some g) = arrives_by n g (crossing (route n g.flow) c)

unfoldable pub arrivals : Net → List (Option Grant) → ℕ → List Flit
arrivals n gs zero = []
arrivals n gs (suc c) = arrivals n gs c ++ arrive n c (at_channel gs c)
