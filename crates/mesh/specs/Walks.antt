-- One step of a walk along x first, then along y, then out.
use Rattle.std.specs.Prelude.{◌+◌, ◌-◌, cond, nat_lt}
use Rattle.mesh.specs.Numbering.{at}
use Rattle.mesh.specs.declared.node.Node.{Node}
use Rattle.mesh.specs.declared.node.Heading.{Heading}
use Rattle.mesh.specs.declared.node.Heading.TheVariants.{RisingX, FallingX, RisingY, FallingY, Out}

-- the heading in which node a is left on the way to node b
abbrev pub towards : Node → Node → Heading
towards a b =
    cond (nat_lt a.x b.x) RisingX
    (cond (nat_lt b.x a.x) FallingX
    (cond (nat_lt a.y b.y) RisingY
    (cond (nat_lt b.y a.y) FallingY Out)))

-- the node that this heading leads to, and b at b
abbrev pub onward : Node → Node → Node
onward a b =
    cond (nat_lt a.x b.x) (at (a.x + 1) a.y)
    (cond (nat_lt b.x a.x) (at (a.x - 1) a.y)
    (cond (nat_lt a.y b.y) (at a.x (a.y + 1))
    (cond (nat_lt b.y a.y) (at a.x (a.y - 1)) a)))
