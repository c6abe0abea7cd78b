-- What stands in an account, and what opening one gives.
use Rattle.std.specs.Prelude.{ℕ, Bool, cond, ◌||◌, pos, Ok, Err, Result, nat_lt}
use Rattle.accounts.specs.Ledgers.{Ledger}
use Rattle.accounts.specs.declared.refusal.AccountRefusal.{AccountRefusal}
use Rattle.accounts.specs.declared.refusal.AccountRefusal.TheVariants.{WindowRange, SlotsRange, LargestRange}

-- a fresh account: head frame 0, injection frame 1 and the slots of that frame
abbrev pub fresh : ℕ → ℕ → ℕ → Ledger
fresh slots largest window = record { slots = slots; largest = largest; window = window; head = 0; frame = 1; balance = pos slots }

-- an account of the same terms as it was opened
abbrev pub opening : Ledger → Ledger
opening l = fresh l.slots l.largest l.window

-- outside low to high
abbrev pub outside : ℕ → ℕ → ℕ → Bool
outside low high n = nat_lt n low || nat_lt high n

-- the answer to opening an account on these terms: window, slots and largest packet are looked at in this order
abbrev pub opened : ℕ → ℕ → ℕ → Result Ledger AccountRefusal
opened slots largest window =
    cond (outside 2 8 window) (Err WindowRange)
    (cond (outside 1 4096 slots) (Err SlotsRange) (cond (outside 1 64 largest) (Err LargestRange) (Ok (fresh slots largest window))))
