-- The values of the rules at their edges: those of clocks and arbiters are proved in their crates, the others are computed.
use Rattle.std.proofs.Common.{refl}
use Rattle.accounts.proofs.Worked.{two_frames_filled, overdraft_paid_back, nothing_carried_over}
use Rattle.arbiters.proofs.Edges.{recency_of_two, round_of_two}
use Rattle.clocks.proofs.Edges.{barrier_of_two, timer_of_three, two_over_two}
use Rattle.guarantee.specs.Edges.{EdgeValues}

pub edge_values : EdgeValues
edge_values = record {
  two_frames_filled = two_frames_filled;
  overdraft_paid_back = overdraft_paid_back;
  nothing_carried_over = nothing_carried_over;
  barrier_of_two = barrier_of_two;
  timer_of_three = timer_of_three;
  two_over_two = two_over_two;
  recency_of_two = recency_of_two;
  round_of_two = round_of_two;
  three_loaded = refl;
  last_slot_reserved = refl;
  one_slot_too_many = refl;
}
