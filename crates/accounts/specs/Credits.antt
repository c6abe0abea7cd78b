-- The credit of an account: when the window is spent, and which frame a packet gets.
use Rattle.std.specs.Prelude.{◌≡◌, ℕ, suc, ◌+◌, ◌-◌, ◌*◌, ◌/◌, ◌≤◌, cond, ℤ, pos, negsuc, ◌+ℤ◌, ◌-ℤ◌, ◌≤ℤ◌, ◌<ℤ◌, Ok, Err, int_lt}
use Rattle.accounts.specs.Ledgers.{Ledger}
use Rattle.accounts.specs.Offers.{offer_answer, offer_leaves}
use Rattle.accounts.specs.declared.refusal.AccountRefusal.TheVariants.{WindowSpent}

-- the balance with the slots of all frames that the window still opens to the account: C + R × (HF + W - 1 - IF)
abbrev pub credit : Ledger → ℤ
credit l = l.balance +ℤ pos (l.slots * (l.head + l.window - 1 - l.frame))

-- how far a balance is overdrawn
abbrev pub overdrawn : ℤ → ℕ
overdrawn (pos n) = 0
overdrawn (negsuc n) = suc n

-- the frames that an offer goes on: none with a balance above 0, else one more than the frames whose slots the overdraft takes whole
abbrev pub steps : Ledger → ℕ
steps l = cond (int_lt (pos 0) l.balance) 0 (overdrawn l.balance / l.slots + 1)

-- a packet of any size is refused for a spent window exactly when the credit is 0 or below
abbrev pub SpentExactly : Ledger → Type 0
SpentExactly l =
    (size : ℕ) → 1 ≤ size → size ≤ l.largest →
    (offer_answer l size ≡ Err WindowSpent → credit l ≤ℤ pos 0) × (credit l ≤ℤ pos 0 → offer_answer l size ≡ Err WindowSpent)

-- else it gets the frame IF + `steps`, and is paid from the balance with the slots of the frames gone on
abbrev pub FrameGiven : Ledger → Type 0
FrameGiven l =
    (size : ℕ) → 1 ≤ size → size ≤ l.largest → pos 0 <ℤ credit l →
    (offer_answer l size ≡ Ok (l.frame + steps l))
    × ((offer_leaves l size).frame ≡ l.frame + steps l)
    × ((offer_leaves l size).balance ≡ (l.balance +ℤ pos (steps l * l.slots)) -ℤ pos size)
