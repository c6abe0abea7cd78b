-- Both arbiters answer flows of the set, and so none for the empty set: two laws, which no contract cites.
use Rattle.std.specs.Prelude.{◌≡◌, ℕ, Bool, true, false, List, Some, None, slice_index}
use Rattle.folds.specs.Firsts.{first_of}
use Rattle.folds.proofs.Firsts.{of_passes}
use Rattle.arbiters.specs.Answering.{within_belongs, none_of_empty}
use Rattle.arbiters.specs.FlowSets.{has}
use Rattle.arbiters.specs.Recency.{recent_choice, order_of}
use Rattle.arbiters.specs.Rounds.{next_after, round_choice}
use Rattle.arbiters.specs.RoundsLemmas.{next_belongs}
use Rattle.arbiters.specs.declared.least_recently_granted.LeastRecentlyGranted.{LeastRecentlyGranted}
use Rattle.arbiters.specs.declared.round_robin.RoundRobin.{RoundRobin}

pub round_belongs : (a : RoundRobin) (c : ℕ) (s : List Bool) (f : ℕ) → round_choice a c s ≡ Some f → has s f ≡ true
round_belongs a c s f h = within_belongs c (next_after (slice_index a.last c) s) f _ (next_belongs (slice_index a.last c) s f) h

pub round_nobody : (a : RoundRobin) (c : ℕ) (s : List Bool) → ((f : ℕ) → has s f ≡ false) → round_choice a c s ≡ None
round_nobody a c s h = none_of_empty s (round_choice a c s) (λ f k. round_belongs a c s f k) h

pub recent_belongs : (a : LeastRecentlyGranted) (c : ℕ) (s : List Bool) (f : ℕ) → recent_choice a c s ≡ Some f → has s f ≡ true
recent_belongs a c s f h = within_belongs c (first_of (has s) (order_of a c).flows) f _ (of_passes (has s) (order_of a c).flows f) h

pub recent_nobody : (a : LeastRecentlyGranted) (c : ℕ) (s : List Bool) → ((f : ℕ) → has s f ≡ false) → recent_choice a c s ≡ None
recent_nobody a c s h = none_of_empty s (recent_choice a c s) (λ f k. recent_belongs a c s f k) h
