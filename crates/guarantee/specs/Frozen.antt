-- The figures that the promise lets a planner freeze.
use Rattle.std.specs.Prelude.{ℕ, cond, Some, None, Option, nat_le, nat_lt}
use Rattle.plan.specs.Tables.{Table}
use Rattle.guarantee.specs.Promises.{flow, flow_count, share, longest_epoch, longest_delivery}
use Rattle.guarantee.specs.declared.bounding.Bounds.{Bounds}

-- for a lag that clocks tell as it is, the bounds of the promise; none for a longer one
abbrev pub figures_for : Table → ℕ → Option Bounds
figures_for t lag = cond (nat_le lag 4194304) (Some (record { epoch = longest_epoch t lag; delivery = longest_delivery t lag })) None

-- flow i's share of n frames, where there is such a flow
abbrev pub share_for : Table → ℕ → ℕ → Option ℕ
share_for t i n = cond (nat_lt i (flow_count t)) (Some (share (flow t i) n)) None
