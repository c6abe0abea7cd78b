-- The search for the requesters of a channel, flow by flow.
use Rattle.std.proofs.Common.{◌≡◌, ℕ, ◌+◌, ◌-◌, ◌<◌, ◌≤◌, true, false, set, is_some, sym, ap, arith}
use Rattle.folds.specs.Filled.{filled}
use Rattle.folds.specs.Firsts.{first_up}
use Rattle.folds.proofs.Filled.{filled_more, filled_skip, filled_rest}
use Rattle.running.specs.Nets.{Net, flows}
use Rattle.running.specs.Requests.{requests, asked, requesters}
use Rattle.running.proofs.Asking.{no_flow_requests}

module _ (n : Net) (c k : ℕ) where
  -- whether one requests it
  pub asked_from : is_some (first_up (requests n c k) 0 (flows n - 0)) ≡ asked n c k
  asked_from = ap (λ m. is_some (first_up (requests n c k) 0 m)) (omega arith)

  -- and all that do
  pub requesters_all : (i : ℕ) → flows n ≤ i → i ≤ 64 → filled (requests n c k) false i 64 ≡ requesters n c k
  requesters_all i l m = filled_rest (requests n c k) false i 64 (λ j h. no_flow_requests n c k j (omega arith)) m

  pub requester_in : (i : ℕ) → i < 64 → true ≡ requests n c k i → set (filled (requests n c k) false i 64) i true ≡ filled (requests n c k) false (i + 1) 64
  requester_in i l h = filled_more (requests n c k) false i 64 true l (sym h)

  pub requester_out : (i : ℕ) → i < 64 → false ≡ requests n c k i → filled (requests n c k) false i 64 ≡ filled (requests n c k) false (i + 1) 64
  requester_out i l h = filled_skip (requests n c k) false i 64 l (sym h)
