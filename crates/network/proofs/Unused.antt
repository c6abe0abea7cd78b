-- A channel that is not marked as used grants nothing.
use Rattle.std.proofs.Common.{◌≡◌, ℕ, ◌<◌, Bool, false, List, get_or, None, sym}
use Rattle.arbiters.specs.declared.arbiter.Arbiter as arbiter
use Rattle.running.specs.Grants.{grant_at}
use Rattle.running.specs.Nets.{Net}
use Rattle.running.proofs.Granting.{none_granted}
use Rattle.network.specs.Marks.{Marked}

pub unused : {A : Type 0} (m : arbiter.Ghosts A) (a : A) (n : Net) (used : List Bool) (c : ℕ) → Marked n used → c < 320 → false ≡ get_or used c false → grant_at m n a c ≡ None
unused m a n used c marks l h = none_granted n c (λ i. marks.1 c i (l, sym h)) m a
