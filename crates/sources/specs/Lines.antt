-- A flow at its source, as plain numbers: what each call answers and leaves.
use Rattle.std.specs.Prelude.{ℕ, ◌+◌, ◌-◌, ◌<◌, min, Bool, cond, ◌&&◌, ltb, List, [], ◌∷◌, ◌++◌, drop, replicate, Some, None, Ok, Err, Option, Result, ◌==◌, nat_lt, slice_index, slice_set}
use Rattle.accounts.specs.Ledgers.{Ledger}
use Rattle.accounts.specs.Offers.{ready, bad_size, paid, taken}
use Rattle.accounts.specs.Shifts.{in_run, shifted}
use Rattle.accounts.specs.declared.refusal.AccountRefusal.{AccountRefusal}
use Rattle.folds.specs.Firsts.{first_up}
use Rattle.sources.specs.declared.refusal.OfferRefusal.{OfferRefusal}
use Rattle.sources.specs.declared.refusal.OfferRefusal.TheVariants.{PacketSize, WindowSpent}
use Rattle.sources.specs.declared.refusal.ShiftRefusal.{ShiftRefusal}
use Rattle.sources.specs.declared.refusal.ShiftRefusal.TheVariants.{HeadFrameWaits, RunOver}

-- `waiting` says how many flits wait for each open frame, from the head frame on; `sent` how many have left, which
-- is the number of the next one to leave
pub record Line : Type 0 where
  pub ledger : Ledger
  pub route : List ℕ
  pub waiting : List ℕ
  pub sent : ℕ
  pub accepted : ℕ
  pub delivered : ℕ
  pub refused : ℕ

-- so many more at a place of a list
abbrev pub added : List ℕ → ℕ → ℕ → List ℕ
added ns k n = slice_set ns k (slice_index ns k + n)

-- a packet gets its frame: its flits wait for that frame, and are accepted
abbrev pub joined : Line → ℕ → Line
joined l size = record {
  ledger = taken size l.ledger;
  route = l.route;
  waiting = added l.waiting ((ready l.ledger).frame - l.ledger.head) size;
  sent = l.sent;
  accepted = l.accepted + size;
  delivered = l.delivered;
  refused = l.refused;
}

-- a refusal for a spent window more, counted up to 4,294,967,295
abbrev pub turned_away : Line → Line
turned_away l = record {
  ledger = l.ledger;
  route = l.route;
  waiting = l.waiting;
  sent = l.sent;
  accepted = l.accepted;
  delivered = l.delivered;
  refused = min (l.refused + 1) 4294967295;
}

-- the frame that a packet gets, or why it gets none
abbrev pub offer_answer : Line → ℕ → Result ℕ OfferRefusal
offer_answer l size = cond (bad_size l.ledger size) (Err PacketSize) (cond (paid l.ledger) (Ok (ready l.ledger).frame) (Err WindowSpent))

-- what the offer leaves
abbrev pub offered : Line → ℕ → Line
offered l size = cond (bad_size l.ledger size) l (cond (paid l.ledger) (joined l size) (turned_away l))

-- a new flow: nothing waits, nothing is counted
abbrev pub fresh_line : Ledger → List ℕ → Line
fresh_line l route = record { ledger = l; route = route; waiting = replicate 8 0; sent = 0; accepted = 0; delivered = 0; refused = 0 }

-- the flow of an account just opened
abbrev pub opened_line : Result Ledger AccountRefusal → List ℕ → Result Line AccountRefusal
opened_line (Ok l) route = Ok (fresh_line l route)
opened_line (Err e) route = Err e

-- the place of the earliest flit that waits, counted from the head frame
abbrev pub first_place : Line → Option ℕ
first_place l = first_up (λ k. ltb 0 (slice_index l.waiting k)) 0 8

-- a place that is told is one of the 8, and flits wait there
abbrev pub Waits : List ℕ → Option ℕ → Type 0
Waits waiting None = Unit {0}
Waits waiting (Some k) = (k < 8) × (0 < slice_index waiting k)

-- the frame at a place
abbrev pub frame_at : Line → Option ℕ → Option ℕ
frame_at l None = None
frame_at l (Some k) = Some (l.ledger.head + k)

-- the frame of the earliest flit that waits
abbrev pub first_frame : Line → Option ℕ
first_frame l = frame_at l (first_place l)

-- the flit at a place leaves the source
abbrev pub without_first : Line → Option ℕ → Line
without_first l None = l
without_first l (Some k) = record {
  ledger = l.ledger;
  route = l.route;
  waiting = slice_set l.waiting k (slice_index l.waiting k - 1);
  sent = l.sent + 1;
  accepted = l.accepted;
  delivered = l.delivered;
  refused = l.refused;
}

-- the earliest flit leaves
abbrev pub left_by : Line → Line
left_by l = without_first l (first_place l)

-- the number of the flit that leaves
abbrev pub number_at : Line → Option ℕ → Option ℕ
number_at l None = None
number_at l (Some k) = Some l.sent

-- the number of the earliest flit
abbrev pub leave_answer : Line → Option ℕ
leave_answer l = number_at l (first_place l)

-- a flit that has left and not arrived is delivered
abbrev pub deliver_answer : Line → Bool
deliver_answer l = nat_lt l.delivered l.sent

-- how many were delivered before it
abbrev pub delivered_before : Line → Option ℕ
delivered_before l = cond (deliver_answer l) (Some l.delivered) None

-- what a delivery leaves where it happens
abbrev pub arrived : Line → Line
arrived l = record {
  ledger = l.ledger;
  route = l.route;
  waiting = l.waiting;
  sent = l.sent;
  accepted = l.accepted;
  delivered = l.delivered + 1;
  refused = l.refused;
}

-- what a shift leaves where it happens
abbrev pub moved_on : Line → Line
moved_on l = record {
  ledger = shifted l.ledger;
  route = l.route;
  waiting = drop 1 l.waiting ++ 0 ∷ [];
  sent = l.sent;
  accepted = l.accepted;
  delivered = l.delivered;
  refused = l.refused;
}

-- what a delivery leaves: nothing changes where all that left have arrived
abbrev pub delivering : Line → Line
delivering l = cond (deliver_answer l) (arrived l) l

-- the window may shift where no flit waits for the head frame and the run has a shift left
abbrev pub shift_allowed : Line → Bool
shift_allowed l = slice_index l.waiting 0 == 0 && in_run l.ledger

-- else it is refused: a flit waits for the head frame, or the run is over
abbrev pub shift_refusal : Line → ShiftRefusal
shift_refusal l = cond (slice_index l.waiting 0 == 0) RunOver HeadFrameWaits

abbrev pub shift_answer : Line → Result (Unit {0}) ShiftRefusal
shift_answer l = cond (shift_allowed l) (Ok tt) (Err (shift_refusal l))

-- what a shift leaves: a refused one leaves all as it was
abbrev pub shifted_line : Line → Line
shifted_line l = cond (shift_allowed l) (moved_on l) l
