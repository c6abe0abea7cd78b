-- The nodes of the mesh of side k, and the numbers of the channels that leave them.
use Rattle.std.specs.Prelude.{◌≡◌, ℕ, ◌+◌, ◌-◌, ◌*◌, Bool, true, cond, ◌&&◌, Some, None, Option, nat_lt}
use Rattle.mesh.specs.declared.node.Node.{Node}
use Rattle.mesh.specs.declared.node.Heading.{Heading}
use Rattle.mesh.specs.declared.node.Heading.TheVariants.{RisingX, FallingX, RisingY, FallingY, Out}

-- the node in column x and row y
abbrev pub at : ℕ → ℕ → Node
at x y = record { x = x; y = y }

-- a node of the mesh
abbrev pub inside : ℕ → Node → Bool
inside k a = nat_lt a.x k && nat_lt a.y k

-- how many channels there are in each of the four headings between nodes
abbrev pub per_heading : ℕ → ℕ
per_heading k = k * (k - 1)

-- the number of the channel that leaves node a in a heading
abbrev pub leaving : ℕ → Node → Heading → ℕ
leaving k a RisingX = a.y * (k - 1) + a.x
leaving k a FallingX = per_heading k + a.y * (k - 1) + (k - 1 - a.x)
leaving k a RisingY = 2 * per_heading k + a.x * (k - 1) + a.y
leaving k a FallingY = 3 * per_heading k + a.x * (k - 1) + (k - 1 - a.y)
leaving k a Out = 4 * per_heading k + a.y * k + a.x

-- the heading leads from node a to another node of the mesh, or out
abbrev pub leads : ℕ → Node → Heading → Bool
leads k a RisingX = nat_lt (a.x + 1) k
leads k a FallingX = nat_lt 0 a.x
leads k a RisingY = nat_lt (a.y + 1) k
leads k a FallingY = nat_lt 0 a.y
leads k a Out = true

-- the channel of the mesh that leaves node a in a heading, if there is one
abbrev pub channel_of : ℕ → Node → Heading → Option ℕ
channel_of k a h = cond (inside k a && leads k a h) (Some (leaving k a h)) None

-- no number stands for two channels of the mesh
abbrev pub Unambiguous : ℕ → Type 0
Unambiguous k =
    (a b : Node) (g h : Heading) (c : ℕ) →
    channel_of k a g ≡ Some c → channel_of k b h ≡ Some c → (a ≡ b) × (g ≡ h)
