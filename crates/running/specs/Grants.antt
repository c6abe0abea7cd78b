-- What each channel grants, asked in rising order of one arbiter that is told of every grant.
use Rattle.std.specs.Prelude.{ℕ, zero, suc, List, Some, None, Option}
use Rattle.arbiters.specs.declared.arbiter.Arbiter as arbiter
use Rattle.folds.specs.Filled.{list_up}
use Rattle.running.specs.Nets.{Net}
use Rattle.running.specs.Requests.{served, requesters}
use Rattle.running.specs.declared.grant.Grant.{Grant}

-- the flow is granted in the k-th open frame
abbrev pub granted_in : ℕ → Option ℕ → Option Grant
granted_in k None = None
granted_in k (Some i) = Some (record { ahead = k; flow = i })

module _ {A : Type 0} (meaning : arbiter.Ghosts A) where
  -- the arbiter picks among the requesters of the frame that is served
  abbrev pub grant_in : Net → A → ℕ → Option ℕ → Option Grant
  grant_in n a c None = None
  grant_in n a c (Some k) = granted_in k (meaning.choice a c (requesters n c k))

  abbrev pub grant_at : Net → A → ℕ → Option Grant
  grant_at n a c = grant_in n a c (served n c)

  -- and is told of the grant
  abbrev pub told_of : A → ℕ → Option Grant → A
  told_of a c None = a
  told_of a c (Some g) = meaning.granted a c g.flow

  -- what it holds when the turn comes to channel c
  unfoldable pub arbiter_at : Net → A → ℕ → A
  arbiter_at n a zero = a
  arbiter_at n a (suc c) = told_of (arbiter_at n a c) c (grant_at n (arbiter_at n a c) c)

  -- what the 320 channels grant
  abbrev pub grants : Net → A → List (Option Grant)
  grants n a = list_up (λ c. grant_at n (arbiter_at n a c) c) 0 320
