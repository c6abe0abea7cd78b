-- The values of the rules at their edges.
use Rattle.std.specs.Prelude.{◌≡◌, [], ◌∷◌, Ok, Err}
use Rattle.accounts.specs.Examples.{TwoFramesFilled, OverdraftPaidBack, NothingCarriedOver}
use Rattle.arbiters.specs.Edges.{RecencyOfTwo, RoundOfTwo}
use Rattle.clocks.specs.Edges.{BarrierOfTwo, TimerOfThree, TwoOverTwo}
use Rattle.plan.specs.Reserving.{reserve_answer}
use Rattle.plan.specs.Tables.{Table, load}
use Rattle.plan.specs.declared.refusal.PlanRefusal.TheVariants.{Overload}
use Rattle.guarantee.specs.Calls.{set, reserve, planned}

-- a plan with 4 slots to a frame and one flow, which takes 3 of them on channel 0
abbrev pub three_of_four : Table
three_of_four = planned (set (record { window = 2; frame = 4; depth = 1 }) ∷ reserve 3 1 (0 ∷ []) ∷ [])

pub record EdgeValues : Type 0 where
  -- an account with W = 3, R = 2, L = 1: five offers of 1 get the frames 1, 1, 2, 2 and the refusal for a spent window
  pub two_frames_filled : TwoFramesFilled
  -- an account with W = 3, R = 2, L = 4: an offer of 4 gets frame 1, then an offer of 1 is refused for a spent window; after one shift an
  -- offer of 1 gets frame 3
  pub overdraft_paid_back : OverdraftPaidBack
  -- an account with W = 2, R = 3, L = 1: an offer of 1 gets frame 1, and after a shift four offers of 1 get the frames 2, 2, 2 and the
  -- refusal for a spent window
  pub nothing_carried_over : NothingCarriedOver
  -- a new barrier of latency 2, told busy, empty, empty: it shifts at the third
  pub barrier_of_two : BarrierOfTwo
  -- a new timer of period 3, told busy three times and then empty: it shifts at the fourth
  pub timer_of_three : TimerOfThree
  -- a new sampled clock of period 2 over a new barrier of latency 2, told empty: it shifts at the fourth cycle
  pub two_over_two : TwoOverTwo
  -- least recently granted, new, asked three times on a channel about the flows 0 and 1 and told of each grant: 0, 1, 0
  pub recency_of_two : RecencyOfTwo
  -- round robin, new, asked three times on a channel about the flows 0 and 5 and told of each grant: 0, 5, 0
  pub round_of_two : RoundOfTwo
  -- a plan with F = 4: the reserved flow of R = 3 makes a load of 3 on channel 0
  pub three_loaded : load three_of_four.flows 0 ≡ 3
  -- a flow of R = 1 over that channel is admitted, as flow 1
  pub last_slot_reserved : reserve_answer three_of_four 1 1 (0 ∷ []) ≡ Ok 1
  -- a flow of R = 2 over it is refused for its load, and told that channel
  pub one_slot_too_many : reserve_answer three_of_four 2 1 (0 ∷ []) ≡ Err (Overload 0)
