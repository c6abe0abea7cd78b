-- What stands in the account of a flow, and the limits that it keeps.
use Rattle.std.specs.Prelude.{ℕ, ◌+◌, ◌-◌, ◌≤◌, ℤ, pos, ◌-ℤ◌, ◌≤ℤ◌}

-- the account of a flow, as plain numbers: `slots` a frame, packets of at most `largest` flits, `window` open frames from `head` on,
-- the injection `frame`, and the `balance` there
pub record Ledger : Type 0 where
  pub slots : ℕ
  pub largest : ℕ
  pub window : ℕ
  pub head : ℕ
  pub frame : ℕ
  pub balance : ℤ

-- the shifts of one run
abbrev pub run_shifts : ℕ
run_shifts = 16777216

-- the terms that an account may be opened on: R from 1 to 4,096, L from 1 to 64 and W from 2 to 8
abbrev pub Terms : Ledger → Type 0
Terms l =
    ((1 ≤ l.slots) × (l.slots ≤ 4096)) × ((1 ≤ l.largest) × (l.largest ≤ 64)) × ((2 ≤ l.window) × (l.window ≤ 8))

-- the limits of the balance and of the injection frame: 1 - L ≤ C ≤ R and HF + 1 ≤ IF ≤ HF + W - 1
abbrev pub Limits : Ledger → Type 0
Limits l =
    ((pos 1 -ℤ pos l.largest) ≤ℤ l.balance) × (l.balance ≤ℤ pos l.slots) × (l.head + 1 ≤ l.frame) × (l.frame ≤ l.head + l.window - 1)

-- within its terms, its limits and its run
abbrev pub Sound : Ledger → Type 0
Sound l = Terms l × Limits l × (l.head ≤ run_shifts)
