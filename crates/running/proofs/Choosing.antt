-- What the channels grant where the arbiter keeps its laws: only what was requested, and something wherever something was.
use Rattle.std.proofs.Common.{◌≡◌, ℕ, ◌<◌, ◌≤◌, Bool, true, false, ltb, List, length, get_or, is_some, Some, None, Option, sym, refl, ap, ◌∙◌, ⊎_elim, arith}
use Rattle.std.proofs.lemmas.Bool.{and_parts, and_from, both_ways, cases_lt, ltb-true, lt-ltb, true≢false}
use Rattle.arbiters.specs.FlowSets.{has}
use Rattle.arbiters.specs.declared.arbiter.Arbiter as arbiter
use Rattle.folds.specs.Firsts.{first_up}
use Rattle.folds.proofs.Filled.{length_up}
use Rattle.folds.proofs.Firsts.{first_passes}
use Rattle.folds.proofs.Ups.{getD_up, getD_up_past, first_within}
use Rattle.running.specs.Grants.{granted_in, grant_in, grant_at, arbiter_at, grants}
use Rattle.running.specs.Moves.{at_channel}
use Rattle.running.specs.Nets.{Net, flows}
use Rattle.running.specs.Requests.{requests, asked, served, requesters}
use Rattle.running.specs.Valid.{Valid}
use Rattle.running.specs.declared.grant.Grant.{Grant}
use Rattle.running.proofs.Asking.{no_flow_requests}

-- two laws of an arbiter: the flow that it answers belongs to the set, and there is one for each channel and each set with a member
abbrev pub Belongs : {A : Type 0} → arbiter.Ghosts A → Type 0
Belongs {A} m = (a : A) (c : ℕ) (s : List Bool) (f : ℕ) → m.choice a c s ≡ Some f → has s f ≡ true

abbrev pub Chooses : {A : Type 0} → arbiter.Ghosts A → Type 0
Chooses {A} m = (a : A) (c : ℕ) (s : List Bool) (f : ℕ) → c < 320 → has s f ≡ true → is_some (m.choice a c s) ≡ true

-- the members of the set that the arbiter is asked about are the flows that request
pub member_requests : (n : Net) (c k i : ℕ) → has (requesters n c k) i ≡ true → requests n c k i ≡ true
member_requests n c k i h =
    let p = and_parts (ltb i 64) (get_or (requesters n c k) i false) h in
    sym (getD_up (requests n c k) 64 i false (ltb-true i 64 p.0)) ∙ p.1

pub requests_member : (n : Net) (c k i : ℕ) → i < 64 → requests n c k i ≡ true → has (requesters n c k) i ≡ true
requests_member n c k i l h =
    and_from (ltb i 64) (get_or (requesters n c k) i false) (lt-ltb i 64 l) (getD_up (requests n c k) 64 i false l ∙ h)

-- a flow that requests is one of the network's
pub requests_low : (n : Net) (c k i : ℕ) → requests n c k i ≡ true → i < flows n
requests_low n c k i h =
    ⊎_elim (λ l. l) (λ l. absurd (both_ways (requests n c k i) (no_flow_requests n c k i l) h)) (cases_lt i (flows n))

-- a frame that is served has a requester
asks_by : (n : Net) (c k : ℕ) (o : Option ℕ) → first_up (requests n c k) 0 (flows n) ≡ o → is_some o ≡ true →
    (i : ℕ) × (i < flows n) × (requests n c k i ≡ true)
asks_by n c k None e h = absurd (true≢false (sym h))
asks_by n c k (Some i) e h =
    let w = first_within (requests n c k) 0 (flows n) i e in
    (i, omega arith, first_passes (requests n c k) 0 (flows n) i e)

pub asked_by : (n : Net) (c k : ℕ) → asked n c k ≡ true → (i : ℕ) × (i < flows n) × (requests n c k i ≡ true)
asked_by n c k h = asks_by n c k (first_up (requests n c k) 0 (flows n)) refl h

pub served_asked : (n : Net) (c k : ℕ) → served n c ≡ Some k → asked n c k ≡ true
served_asked n c k e = first_passes (asked n c) 0 n.window k e

pub served_open : (n : Net) (c k : ℕ) → served n c ≡ Some k → k < n.window
served_open n c k e = let w = first_within (asked n c) 0 n.window k e in omega arith

-- a grant tells the frame that is served and the flow that was chosen
in_by : (k : ℕ) (o : Option ℕ) (g : Grant) → granted_in k o ≡ Some g → (k ≡ g.ahead) × (o ≡ Some g.flow)
in_by k None g e = absurd cc
in_by k (Some i) g e =
    let is : record { ahead = k; flow = i } ≡ g = cc in
    (ap (λ (h : Grant). h.ahead) is, ap (λ (h : Grant). Some h.flow) is)

module _ {A : Type 0} (m : arbiter.Ghosts A) (n : Net) (a : A) where
  abbrev held : ℕ → A
  held c = arbiter_at m n a c

  grant_by : (c : ℕ) (o : Option ℕ) (g : Grant) → grant_in m n (held c) c o ≡ Some g →
      (o ≡ Some g.ahead) × (m.choice (held c) c (requesters n c g.ahead) ≡ Some g.flow)
  grant_by c None g e = absurd cc
  grant_by c (Some k) g e =
      let p = in_by k (m.choice (held c) c (requesters n c k)) g e in
      (ap Some p.0, ap (λ (j : ℕ). m.choice (held c) c (requesters n c j)) (sym p.0) ∙ p.1)

  pub grants_at : (c : ℕ) → c < 320 → at_channel (grants m n a) c ≡ grant_at m n (arbiter_at m n a c) c
  grants_at c l = getD_up (λ d. grant_at m n (arbiter_at m n a d) d) 320 c None l

  -- only channels below 320 grant
  low_by : (c : ℕ) (g : Grant) → at_channel (grants m n a) c ≡ Some g → 320 ≤ c → ⊥
  low_by c g e l =
      let none : at_channel (grants m n a) c ≡ None = getD_up_past (λ d. grant_at m n (arbiter_at m n a d) d) 320 c None l in
      cc

  pub grants_low : (c : ℕ) (g : Grant) → at_channel (grants m n a) c ≡ Some g → c < 320
  grants_low c g e = ⊎_elim (λ l. l) (λ l. absurd (low_by c g e l)) (cases_lt c 320)

  chosen : (c : ℕ) (g : Grant) → at_channel (grants m n a) c ≡ Some g →
      (served n c ≡ Some g.ahead) × (m.choice (held c) c (requesters n c g.ahead) ≡ Some g.flow)
  chosen c g e = grant_by c (served n c) g (sym (grants_at c (grants_low c g e)) ∙ e)

  -- the frame is the first that has a requester
  pub grants_first : (c : ℕ) (g : Grant) → at_channel (grants m n a) c ≡ Some g → served n c ≡ Some g.ahead
  grants_first c g e = (chosen c g e).0

  -- and it is open
  pub grants_open : (c : ℕ) (g : Grant) → at_channel (grants m n a) c ≡ Some g → (g.ahead < n.window) × (c < 320)
  grants_open c g e = (served_open n c g.ahead (grants_first c g e), grants_low c g e)

  -- what is granted was requested
  pub grants_requested : Belongs m → (c : ℕ) (g : Grant) → at_channel (grants m n a) c ≡ Some g → requests n c g.ahead g.flow ≡ true
  grants_requested belongs c g e =
      member_requests n c g.ahead g.flow (belongs (held c) c (requesters n c g.ahead) g.flow (chosen c g e).1)

  pub grants_valid : Belongs m → Valid n (grants m n a)
  grants_valid belongs c g e =
      let r = grants_requested belongs c g e in
      (requests_low n c g.ahead g.flow r, r)

  -- a channel that has a requester grants
  given_by : (k : ℕ) (o : Option ℕ) → is_some o ≡ true → (g : Grant) × (granted_in k o ≡ Some g) × (g.ahead ≡ k)
  given_by k None h = absurd (true≢false (sym h))
  given_by k (Some i) h = (record { ahead = k; flow = i }, refl, refl)

  pub served_grants : Chooses m → (c k : ℕ) → c < 320 → served n c ≡ Some k → flows n ≤ 64 →
      (g : Grant) × (at_channel (grants m n a) c ≡ Some g) × (g.ahead ≡ k)
  served_grants chooses c k l e few =
      let r = asked_by n c k (served_asked n c k e) in
      let some = chooses (held c) c (requesters n c k) r.0 l (requests_member n c k r.0 (omega (arith, r.1)) r.2) in
      let q = given_by k (m.choice (held c) c (requesters n c k)) some in
      (q.0, grants_at c l ∙ ap (grant_in m n (held c) c) e ∙ q.1, q.2)

  -- where no frame is served, nothing is granted
  pub unserved_none : (c : ℕ) → c < 320 → served n c ≡ None → at_channel (grants m n a) c ≡ None
  unserved_none c l e = grants_at c l ∙ ap (grant_in m n (held c) c) e

  pub grants_length : length (grants m n a) ≡ 320
  grants_length = length_up (λ d. grant_at m n (arbiter_at m n a d) d) 0 320
