-- The route between two nodes: the leg along x, the leg along y, then out.
use Rattle.std.specs.Prelude.{ℕ, zero, suc, ◌+◌, ◌-◌, cond, ◌&&◌, List, [], ◌∷◌, ◌++◌, map, length, drop, Ok, Err, Result, nat_le}
use Rattle.std.specs.List.{range_with_len}
use Rattle.mesh.specs.Numbering.{at, inside, leaving}
use Rattle.mesh.specs.declared.node.Node.{Node}
use Rattle.mesh.specs.declared.node.Heading.TheVariants.{RisingX, FallingX, RisingY, FallingY, Out}
use Rattle.mesh.specs.declared.refusal.MeshRefusal.{MeshRefusal}
use Rattle.mesh.specs.declared.refusal.MeshRefusal.TheVariants.{OutOfRange, ListTooShort}

-- n numbers from a downwards
abbrev pub counting_down : ℕ → ℕ → List ℕ
counting_down a zero = []
counting_down a (suc n) = a ∷ counting_down (a - 1) n

-- a, a + 1 and so on, below b: none unless a is below b
abbrev pub up_to : ℕ → ℕ → List ℕ
up_to a b = range_with_len a (b - a)

-- a, a - 1 and so on, above b: none unless a is above b
abbrev pub down_to : ℕ → ℕ → List ℕ
down_to a b = counting_down a (a - b)

-- the leg along x, in the row of a: the channels leaving the nodes before the column of b
abbrev pub leg_x : ℕ → Node → Node → List ℕ
leg_x k a b =
    map (λ x. leaving k (at x a.y) RisingX) (up_to a.x b.x) ++
    map (λ x. leaving k (at x a.y) FallingX) (down_to a.x b.x)

-- the leg along y, in the column of b: the channels leaving the nodes before the row of b
abbrev pub leg_y : ℕ → Node → Node → List ℕ
leg_y k a b =
    map (λ y. leaving k (at b.x y) RisingY) (up_to a.y b.y) ++
    map (λ y. leaving k (at b.x y) FallingY) (down_to a.y b.y)

-- the route from node a to node b
unfoldable pub route : ℕ → Node → Node → List ℕ
route k a b = leg_x k a b ++ (leg_y k a b ++ (leaving k b Out ∷ []))

-- how far two numbers lie apart
abbrev pub apart : ℕ → ℕ → ℕ
apart m n = (m - n) + (n - m)

-- how many channels a route from a to b has
abbrev pub hops : Node → Node → ℕ
hops a b = apart a.x b.x + apart a.y b.y + 1

-- a side of 1 to 8 makes a mesh
abbrev pub mesh_answer : ℕ → Result ℕ MeshRefusal
mesh_answer k = cond (nat_le 1 k && nat_le k 8) (Ok k) (Err OutOfRange)

-- the answer of counting the hops
abbrev pub hops_answer : ℕ → Node → Node → Result ℕ MeshRefusal
hops_answer k a b = cond (inside k a && inside k b) (Ok (hops a b)) (Err OutOfRange)

-- the answer where a list of n places is lent for the route
abbrev pub route_answer : ℕ → Node → Node → ℕ → Result ℕ MeshRefusal
route_answer k a b n =
    cond (inside k a && inside k b)
    (cond (nat_le (length (route k a b)) n) (Ok (length (route k a b))) (Err ListTooShort))
    (Err OutOfRange)

-- the lent list after an answer: the route and what lay behind it, or as it was
abbrev pub list_after : ℕ → Node → Node → List ℕ → Result ℕ MeshRefusal → List ℕ
list_after k a b cs (Ok n) = route k a b ++ drop n cs
list_after k a b cs (Err e) = cs
