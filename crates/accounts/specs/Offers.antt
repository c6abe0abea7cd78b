-- Which frame an offered packet gets, and what the offer leaves in the account.
use Rattle.std.specs.Prelude.{ℕ, zero, suc, ◌+◌, ◌-◌, Bool, cond, ◌||◌, pos, ◌+ℤ◌, ◌-ℤ◌, Ok, Err, Result, ◌==◌, int_lt, nat_lt}
use Rattle.accounts.specs.Ledgers.{Ledger}
use Rattle.accounts.specs.declared.refusal.AccountRefusal.{AccountRefusal}
use Rattle.accounts.specs.declared.refusal.AccountRefusal.TheVariants.{SizeRange, WindowSpent}

-- on to the next frame, with its slots
abbrev pub gone_on : Ledger → Ledger
gone_on l =
    record {
      slots = l.slots;
      largest = l.largest;
      window = l.window;
      head = l.head;
      frame = l.frame + 1;
      balance = l.balance +ℤ pos l.slots;
    }

-- on from frame to frame, at most k times, while the balance is 0 or below
unfoldable pub refilled : ℕ → Ledger → Ledger
refilled zero l = l
refilled (suc k) l = cond (int_lt (pos 0) l.balance) l (refilled k (gone_on l))

-- on from frame to frame while the balance is 0 or below, at most to the last open frame
abbrev pub ready : Ledger → Ledger
ready l = refilled (l.head + l.window - 1 - l.frame) l

-- a packet of `size` flits is taken from the balance of the frame found
abbrev pub taken : ℕ → Ledger → Ledger
taken size l =
    record {
      slots = l.slots;
      largest = l.largest;
      window = l.window;
      head = l.head;
      frame = (ready l).frame;
      balance = (ready l).balance -ℤ pos size;
    }

-- no packet has this size
abbrev pub bad_size : Ledger → ℕ → Bool
bad_size l size = size == 0 || nat_lt l.largest size

-- there is something left once the offer has gone on as far as it may
abbrev pub paid : Ledger → Bool
paid l = int_lt (pos 0) (ready l).balance

-- the answer to an offer of `size` flits: the frame of the packet, or a refusal
abbrev pub offer_answer : Ledger → ℕ → Result ℕ AccountRefusal
offer_answer l size = cond (bad_size l size) (Err SizeRange) (cond (paid l) (Ok (ready l).frame) (Err WindowSpent))

-- what the offer leaves: a refused one leaves all as it was
abbrev pub offer_leaves : Ledger → ℕ → Ledger
offer_leaves l size = cond (bad_size l size) l (cond (paid l) (taken size l) l)
