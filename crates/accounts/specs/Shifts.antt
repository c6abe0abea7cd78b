-- What a shift of the window leaves in the account.
use Rattle.std.specs.Prelude.{◌+◌, Bool, cond, ℤ, pos, ◌+ℤ◌, Ok, Err, Result, ◌==◌, nat_lt}
use Rattle.std.specs.Int.{int_min}
use Rattle.accounts.specs.Ledgers.{Ledger, run_shifts}
use Rattle.accounts.specs.declared.refusal.AccountRefusal.{AccountRefusal}
use Rattle.accounts.specs.declared.refusal.AccountRefusal.TheVariants.{RunOver}

-- the next frame is the head frame
abbrev pub next_head : Ledger → Ledger
next_head l =
    record {
      slots = l.slots;
      largest = l.largest;
      window = l.window;
      head = l.head + 1;
      frame = l.frame;
      balance = l.balance;
    }

-- the balance with the slots of one more frame, and with no more than those
abbrev pub capped : Ledger → ℤ
capped l = int_min (pos l.slots) (l.balance +ℤ pos l.slots)

-- on to the next frame with its slots, and with no more than those
abbrev pub pushed_on : Ledger → Ledger
pushed_on l =
    record {
      slots = l.slots;
      largest = l.largest;
      window = l.window;
      head = l.head;
      frame = l.frame + 1;
      balance = capped l;
    }

-- a shift of the window: an account whose injection frame is now the head frame is pushed on
abbrev pub shifted : Ledger → Ledger
shifted l = cond (l.frame == l.head + 1) (pushed_on (next_head l)) (next_head l)

-- the run has a shift left
abbrev pub in_run : Ledger → Bool
in_run l = nat_lt l.head run_shifts

-- the answer to a shift
abbrev pub shift_answer : Ledger → Result (Unit {0}) AccountRefusal
shift_answer l = cond (in_run l) (Ok tt) (Err RunOver)

-- what the shift leaves: a refused one leaves all as it was
abbrev pub shift_leaves : Ledger → Ledger
shift_leaves l = cond (in_run l) (shifted l) l
