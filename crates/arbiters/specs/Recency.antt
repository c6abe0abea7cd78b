use Rattle.std.specs.Prelude.{ℕ, Bool, cond, ◌&&◌, List, replicate, None, Option, nat_lt, slice_index_or, slice_set}
use Rattle.folds.specs.Firsts.{first_of}
use Rattle.folds.specs.Orders.{rising, moved_to_end}
use Rattle.folds.proofs.Orders.{moved_once, rising_once}
use Rattle.arbiters.specs.FlowSets.{has}
use Rattle.arbiters.specs.declared.least_recently_granted.LeastRecentlyGranted.{LeastRecentlyGranted}
use Rattle.arbiters.specs.declared.order.Order.{Order}

-- the order 0 to 63
abbrev pub rising_order : Order
rising_order = record { flows = rising 64; ok = rising_once 64 }

-- an order with the flow moved to the end
abbrev pub order_granted : Order → ℕ → Order
order_granted o f = record { flows = moved_to_end f o.flows; ok = moved_once 64 f o.flows o.ok }

-- the order of a channel
abbrev pub order_of : LeastRecentlyGranted → ℕ → Order
order_of a c = slice_index_or a.orders c rising_order

-- what it answers: the first flow of the channel's order that is in the set
abbrev pub recent_choice : LeastRecentlyGranted → ℕ → List Bool → Option ℕ
recent_choice a c s = cond (nat_lt c 320) (first_of (has s) (order_of a c).flows) None

-- a grant moves the flow to the end of that channel's order
abbrev pub recent_granted : LeastRecentlyGranted → ℕ → ℕ → LeastRecentlyGranted
recent_granted a c f = cond (nat_lt c 320 && nat_lt f 64) (record { orders = slice_set a.orders c (order_granted (order_of a c) f) }) a

-- each channel with the order 0 to 63
abbrev pub fresh_recency : LeastRecentlyGranted
fresh_recency = record { orders = replicate 320 rising_order }
