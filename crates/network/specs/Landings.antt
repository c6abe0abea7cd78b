-- The two halves of a single move, as private code makes them: a granted flit leaves the place where it stands ready, and lands
-- behind its channel.
use Rattle.std.specs.Prelude.{◌≡◌, ℕ, ◌<◌, Bool, true, false, cond, ◌&&◌, List, [], ◌∷◌, ◌++◌, length, Some, None, Option, nat_lt}
use Rattle.lanes.specs.Lanes.{first_of, rest_of}
use Rattle.lanes.specs.declared.flits.Flit.{Flit}
use Rattle.routes.specs.declared.crossing.Crossing.{Crossing}
use Rattle.sources.specs.Lines.{left_by, leave_answer, delivering}
use Rattle.running.specs.Crossed.{crossed}
use Rattle.running.specs.Nets.{Net, flows, line}
use Rattle.running.specs.Requests.{requests}
use Rattle.running.specs.Offers.{with_line}
use Rattle.running.specs.declared.grant.Grant.{Grant}
use Rattle.lanes.specs.Rings.{with_lane}

-- the network with other buffers
abbrev pub with_lanes : Net → (ℕ → ℕ → List Flit) → Net
with_lanes n lane = record { window = n.window; depth = n.depth; head = n.head; cycles = n.cycles; lines = n.lines; lane = lane }

-- the flit that leaves: a flow's next number from its source, or the front of the buffer before
abbrev pub numbered : ℕ → Option ℕ → Option Flit
numbered i None = None
numbered i (Some number) = Some (record { flow = i; number = number })

abbrev pub departing : Net → Grant → Option ℕ → Option Flit
departing n g None = numbered g.flow (leave_answer (line n g.flow))
departing n g (Some d) = first_of (n.lane d g.ahead)

abbrev pub departed : Net → Grant → Option ℕ → Net
departed n g None = with_line n g.flow (left_by (line n g.flow))
departed n g (Some d) = with_lanes n (with_lane n.lane d g.ahead (rest_of (n.lane d g.ahead)))

-- it lands at the back of the channel's buffer, or is delivered
abbrev pub takes_flit : Net → ℕ → ℕ → Bool
takes_flit n c k = nat_lt c 320 && (nat_lt k n.window && nat_lt (length (n.lane c k)) 8)

abbrev pub landed : Net → ℕ → Grant → Flit → Bool → Net
landed n c g x true = with_line n g.flow (delivering (line n g.flow))
landed n c g x false =
    with_lanes n (cond (takes_flit n c g.ahead) (with_lane n.lane c g.ahead (n.lane c g.ahead ++ x ∷ [])) n.lane)

-- the flit is delivered
abbrev pub ends : Option Crossing → Bool
ends None = false
ends (Some x) = x.last

-- what a channel grants, if anything, crosses it
abbrev pub carried : Net → ℕ → Option Grant → Net
carried n c None = n
carried n c (Some g) = crossed n c g

-- and can cross it
abbrev pub Granted : Net → ℕ → Option Grant → Type 0
Granted n c None = Unit {0}
Granted n c (Some g) = (g.flow < flows n) × (requests n c g.ahead g.flow ≡ true) × (g.ahead < n.window)
