-- What it is for channels to join end to end, and to lead from one node to another.
use Rattle.std.specs.Prelude.{◌≡◌, ℕ, ◌+◌, ◌-◌, ◌<◌, true, List, length, Some, Ok, slice_index}
use Rattle.routes.specs.Routes.{route_checked}
use Rattle.mesh.specs.Numbering.{inside, channel_of}
use Rattle.mesh.specs.Routes.{hops}
use Rattle.mesh.specs.declared.node.Node.{Node}
use Rattle.mesh.specs.declared.node.Heading.{Heading}
use Rattle.mesh.specs.declared.node.Heading.TheVariants.{RisingX, FallingX, RisingY, FallingY, Out}

-- one step in the heading leads from node a to node b; out leads to no node
abbrev pub Step : Heading → Node → Node → Type 0
Step RisingX a b = (b.x ≡ a.x + 1) × (b.y ≡ a.y)
Step FallingX a b = (a.x ≡ b.x + 1) × (b.y ≡ a.y)
Step RisingY a b = (b.x ≡ a.x) × (b.y ≡ a.y + 1)
Step FallingY a b = (b.x ≡ a.x) × (a.y ≡ b.y + 1)
Step Out a b = ⊥

-- channel c leaves node a, for another node of the mesh or out
pub record Leaves (k c : ℕ) (a : Node) : Type 0 where
  pub heading : Heading
  pub number : channel_of k a heading ≡ Some c

-- channel c runs from node a to node b of the mesh
pub record Runs (k c : ℕ) (a b : Node) : Type 0 where
  pub heading : Heading
  pub number : channel_of k a heading ≡ Some c
  pub step : Step heading a b
  pub arrives : inside k b ≡ true

-- channel d leaves the node that channel c runs to
pub record Joins (k c d : ℕ) : Type 0 where
  pub source : Node
  pub meeting : Node
  pub runs : Runs k c source meeting
  pub leaves : Leaves k d meeting

-- the channels lead from node a to node b and out, and pass the checks of a reservation
pub record Travels (k : ℕ) (a b : Node) (cs : List ℕ) : Type 0 where
  pub count : length cs ≡ hops a b
  pub reservable : route_checked cs ≡ Ok tt
  pub joined : (i : ℕ) → i + 1 < length cs → Joins k (slice_index cs i) (slice_index cs (i + 1))
  pub first : Leaves k (slice_index cs 0) a
  pub last : channel_of k b Out ≡ Some (slice_index cs (length cs - 1))
