-- How a node is written.
use Rattle.std.specs.Prelude.{ℕ, List, ◌++◌, codes, decimal}
use Rattle.mesh.specs.declared.node.Node.{Node}

-- a node as (x, y)
abbrev pub node_text : Node → List ℕ
node_text a = codes "(" ++ (decimal a.x ++ (codes ", " ++ (decimal a.y ++ codes ")")))
