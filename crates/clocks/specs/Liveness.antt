use Rattle.std.specs.Prelude.{◌≡◌, ℕ, zero, suc, ◌<◌, true}
use Rattle.clocks.specs.declared.clock.WindowClock as clock

module _ {C : Type 0} (k : clock.Ghosts C) where
  -- the clock after n empty cycles
  abbrev pub emptied : C → ℕ → C
  emptied c zero = c
  emptied c (suc n) = emptied (k.told c true) n

  -- whatever it holds, of as many empty cycles running as its lag one shifts
  abbrev pub ShiftsInTime : Type 0
  ShiftsInTime = (c : C) → (n : ℕ) × (n < k.lag c) × (k.shifts (emptied c n) true ≡ true)
