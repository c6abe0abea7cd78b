-- The refusals: the number under which callers know each, and its text.
use Rattle.std.specs.Prelude.{ℕ, List, codes}
use Rattle.mesh.specs.declared.refusal.MeshRefusal.{MeshRefusal}
use Rattle.mesh.specs.declared.refusal.MeshRefusal.TheVariants.{OutOfRange, ListTooShort}

-- the number under which callers know a refusal
abbrev pub refusal_number : MeshRefusal → ℕ
refusal_number OutOfRange = 15
refusal_number ListTooShort = 18

-- the text of a refusal
abbrev pub refusal_text : MeshRefusal → List ℕ
refusal_text OutOfRange = codes "side or node out of range"
refusal_text ListTooShort = codes "list too short for the route"
