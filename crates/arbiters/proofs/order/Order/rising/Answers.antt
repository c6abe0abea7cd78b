use Rattle.std.proofs.Common.{◌≡◌, ℕ, List, sym, subst, rules}
use Rattle.folds.specs.Orders.{EachOnce, rising}
use Rattle.folds.proofs.Orders.{rising_once}
use Rattle.arbiters.proofs.Orders.{same_order, rising_is}
use Rattle.arbiters.proofs.order.Order.rising.Goals as goal
use Rattle.arbiters.proofs.order.Order.rising.Goals.{After-from_fn}

rises : (c : After-from_fn) → c.from_fn.result ≡ rising 64
rises c = rising_is _ 64 c.from_fn.ensures.items.long (λ k d l. let call = c.from_fn.ensures.items.at k d l in search rules)

pub invariant_of-result : goal.invariant_of-result
invariant_of-result c = record { ok = subst (λ (fs : List ℕ). EachOnce 64 fs) (sym (rises c)) (rising_once 64) }

pub returns : goal.returns
returns c = same_order _ _ (rises (goal.at.returns c).After-from_fn)
