-- A cycle adds no work to a frame, and while the head frame holds a flit it takes some of the head frame's.
use Rattle.std.proofs.Common.{◌≡◌, ℕ, ◌+◌, ◌<◌, ◌≤◌, false, List, Some}
use Rattle.arbiters.specs.declared.arbiter.Arbiter as arbiter
use Rattle.running.specs.Cycles.{head_empty}
use Rattle.running.specs.Grants.{grants}
use Rattle.running.specs.Moves.{at_channel, moved}
use Rattle.running.specs.Nets.{Net}
use Rattle.running.specs.Requests.{served}
use Rattle.running.specs.Sounds.{Sound}
use Rattle.running.specs.declared.grant.Grant.{Grant}
use Rattle.running.proofs.Choosing.{Belongs, Chooses, grants_valid, grants_open, grants_length, served_grants}
use Rattle.guarantee.proofs.Goods.{work}
use Rattle.guarantee.proofs.Moved.{moved_work, moved_work_head}
use Rattle.guarantee.proofs.Progress.{progress}

-- what the channels grant where the arbiter answers only members of the set
module _ {A : Type 0} (m : arbiter.Ghosts A) (belongs : Belongs m) (n : Net) (held : List ℕ) (ok : Sound n held) (a : A) where
  pub granted_work : (k : ℕ) → work (moved n (grants m n a)) k ≤ work n k
  granted_work k = moved_work n held ok (grants m n a) (grants_valid m n a belongs) (grants_open m n a) (grants_length m n a) k

  -- and answers where there is one
  module _ (chooses : Chooses m) where
    granted_head : (g : Grant) (c : ℕ) → at_channel (grants m n a) c ≡ Some g → g.ahead ≡ 0 → work (moved n (grants m n a)) 0 + 1 ≤ work n 0
    granted_head g c e z = moved_work_head n held ok (grants m n a) (grants_valid m n a belongs) (grants_open m n a) (grants_length m n a) c g e z

    served_head : (c : ℕ) × (c < 320) × (served n c ≡ Some 0) → work (moved n (grants m n a)) 0 + 1 ≤ work n 0
    served_head (c, l, s) = let r = served_grants m n a chooses c 0 l s ok.0.3 in granted_head r.0 c r.1 r.2

    pub busy_works : head_empty n ≡ false → work (moved n (grants m n a)) 0 + 1 ≤ work n 0
    busy_works busy = served_head (progress n held ok busy)
