-- One granted flit crosses its channel: a single move, as private code makes it. The rule is `moved`, all moves together; that
-- single moves in rising order come to the same is proved (proofs/Together.antt).
use Rattle.std.specs.Prelude.{ℕ, Bool, cond, not, ◌&&◌, List, [], ◌∷◌, ◌++◌, is_some, Some, None, Option, ◌==◌, slice_set}
use Rattle.lanes.specs.Lanes.{rest_of}
use Rattle.lanes.specs.declared.flits.Flit.{Flit}
use Rattle.routes.specs.Crossings.{crossing}
use Rattle.routes.specs.declared.crossing.Crossing.{Crossing}
use Rattle.sources.specs.Lines.{Line}
use Rattle.running.specs.Moves.{ready_flit, left_if, arrived_if}
use Rattle.running.specs.Nets.{Net, line, route}
use Rattle.running.specs.Requests.{is_at}
use Rattle.running.specs.declared.grant.Grant.{Grant}

abbrev pub without_front : Bool → List Flit → List Flit
without_front b q = cond b (rest_of q) q

abbrev pub with_flit : Bool → Flit → List Flit
with_flit b x = cond b (x ∷ []) []

-- the buffers of the granted frame: one loses its front, one gets a flit at its back, the others stay
abbrev pub crossed_lane : Net → ℕ → Grant → Crossing → ℕ → ℕ → List Flit
crossed_lane n c g x d k =
    cond (k == g.ahead)
    (without_front (is_at x.before d) (n.lane d k) ++ with_flit (d == c && not x.last) (ready_flit n k g.flow x.before))
    (n.lane d k)

abbrev pub crossed_line : Crossing → Line → Line
crossed_line x l = arrived_if x.last (left_if (not (is_some x.before)) l)

abbrev pub crossed_by : Net → ℕ → Grant → Option Crossing → Net
crossed_by n c g None = n
crossed_by n c g (Some x) = record {
  window = n.window;
  depth = n.depth;
  head = n.head;
  cycles = n.cycles;
  lines = slice_set n.lines g.flow (crossed_line x (line n g.flow));
  lane = crossed_lane n c g x;
}

abbrev pub crossed : Net → ℕ → Grant → Net
crossed n c g = crossed_by n c g (crossing (route n g.flow) c)
