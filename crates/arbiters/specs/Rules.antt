use Rattle.std.specs.Prelude.{◌≡◌, ℕ, ◌<◌, Bool, true, List, length, Some, ◌≢◌}
use Rattle.folds.specs.Orders.{rising, moved_to_end}
use Rattle.arbiters.specs.FlowSets.{has}
use Rattle.arbiters.specs.Recency.{order_of, fresh_recency, recent_choice, recent_granted}
use Rattle.arbiters.specs.Rounds.{next_after, fresh_round, round_choice, round_granted}
use Rattle.arbiters.specs.declared.least_recently_granted.LeastRecentlyGranted.{LeastRecentlyGranted}
use Rattle.arbiters.specs.declared.round_robin.RoundRobin.{RoundRobin}

-- round robin goes on from the last flow granted on that channel, and at first from 63; grants on other channels are nothing to it
pub record RoundRule : Type 0 where
  pub fresh : (c : ℕ) (s : List Bool) → c < 320 → round_choice fresh_round c s ≡ next_after 63 s
  pub last : (r : RoundRobin) (c f : ℕ) (s : List Bool) → length r.last ≡ 320 → c < 320 → f < 64 → round_choice (round_granted r c f) c s ≡ next_after f s
  pub others : (r : RoundRobin) (c d f : ℕ) (s : List Bool) → (d ≢ c) → round_choice (round_granted r c f) d s ≡ round_choice r d s

-- least recently granted moves the flow to the end of that channel's order, and answers it again only where no other flow asks
pub record RecencyRule : Type 0 where
  pub fresh : (c : ℕ) → c < 320 → (order_of fresh_recency c).flows ≡ rising 64
  pub moved : (a : LeastRecentlyGranted) (c f : ℕ) → length a.orders ≡ 320 → c < 320 → f < 64 →
      (order_of (recent_granted a c f) c).flows ≡ moved_to_end f (order_of a c).flows
  pub others : (a : LeastRecentlyGranted) (c d f : ℕ) → (d ≢ c) → order_of (recent_granted a c f) d ≡ order_of a d
  pub again : (a : LeastRecentlyGranted) (c f g : ℕ) (s : List Bool) → length a.orders ≡ 320 → c < 320 → f < 64 →
      recent_choice (recent_granted a c f) c s ≡ Some f → has s g ≡ true → g ≡ f
