-- The turns of the channels: what each grants, and what the arbiter holds then.
use Rattle.std.proofs.Common.{◌≡◌, ℕ, ◌+◌, ◌<◌, ◌≤◌, false, List, set, replicate, is_some, Some, None, Option, sym, refl, ap, ◌∙◌, add-one, arith}
use Rattle.std.proofs.lemmas.Bool.{true≢false}
use Rattle.arbiters.specs.declared.arbiter.Arbiter as arbiter
use Rattle.folds.specs.Filled.{filled}
use Rattle.folds.proofs.Filled.{filled_none, filled_more, filled_all}
use Rattle.folds.proofs.Firsts.{first_none}
use Rattle.routes.specs.Crossings.{crossing}
use Rattle.routes.specs.declared.crossing.Crossing.{Crossing}
use Rattle.running.specs.Grants.{grant_in, grant_at, told_of, arbiter_at, grants}
use Rattle.running.specs.Nets.{Net, route, flows}
use Rattle.running.specs.Requests.{requests, requests_by, asked, served}
use Rattle.running.specs.declared.grant.Grant.{Grant}

module _ {A : Type 0} (m : arbiter.Ghosts A) (n : Net) (a : A) where
  abbrev held : ℕ → A
  held c = arbiter_at m n a c

  abbrev given : ℕ → Option Grant
  given c = grant_at m n (held c) c

  held_none : arbiter_at m n a 0 ≡ a
  unfolding arbiter_at
  held_none = refl

  held_more : (c : ℕ) → arbiter_at m n a (c + 1) ≡ told_of m (arbiter_at m n a c) c (grant_at m n (arbiter_at m n a c) c)
  unfolding arbiter_at
  held_more c = ap (arbiter_at m n a) (add-one c)

  pub grants_start : (replicate 320 None ≡ filled given None 0 320) × (a ≡ held 0)
  grants_start = (sym (filled_none given None 320), sym held_none)

  module _ (c : ℕ) (gs : List (Option Grant)) (b : A) (ge : gs ≡ filled given None c 320) (be : b ≡ held c) where
    pub grants_more : (r : Option Grant) (b' : A) → c < 320 → r ≡ grant_at m n b c → b' ≡ told_of m b c (grant_at m n b c) →
        (set gs c r ≡ filled given None (c + 1) 320) × (b' ≡ held (c + 1))
    grants_more r b' l re te = (
      ap (λ xs. set xs c r) ge ∙ filled_more given None c 320 r l (ap (λ x. grant_at m n x c) (sym be) ∙ sym re),
      te ∙ ap (λ x. told_of m x c (grant_at m n x c)) be ∙ sym (held_more c),
    )

    pub grants_end : 320 ≤ c → c ≤ 320 → (gs ≡ grants m n a) × (b ≡ held 320)
    grants_end l u = let q : c ≡ 320 = omega arith in (ge ∙ filled_all given None c 320 l u, be ∙ ap held q)

-- a channel that no flow crosses grants nothing
module _ (n : Net) (c : ℕ) (off : (i : ℕ) → is_some (crossing (route n i) c) ≡ false) where
  off_by : (k i : ℕ) (x : Option Crossing) → is_some x ≡ false → requests_by n c k i x ≡ false
  off_by k i None h = refl
  off_by k i (Some x) h = absurd (true≢false h)

  pub none_served : served n c ≡ None
  none_served = first_none (asked n c) 0 n.window (λ k. ap is_some (first_none (requests n c k) 0 (flows n) (λ i. off_by k i _ (off i))))

  pub none_granted : {A : Type 0} (m : arbiter.Ghosts A) (a : A) → grant_at m n a c ≡ None
  none_granted m a = ap (grant_in m n a c) none_served
