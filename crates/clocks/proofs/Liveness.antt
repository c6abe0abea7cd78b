-- The count left falls with each empty cycle that does not shift, so one of them shifts within the lag.
use Rattle.std.proofs.Common.{◌≡◌, ℕ, zero, suc, ◌<◌, ◌≤◌, Bool, true, false, refl, arith}
use Rattle.clocks.specs.Liveness.{emptied, ShiftsInTime}
use Rattle.clocks.specs.declared.clock.WindowClock as clock

module _ {C : Type 0} (k : clock.Ghosts C) (positive : (c : C) → 1 ≤ k.left c) (falls : (c : C) → k.shifts c true ≡ false → k.left (k.told c true) < k.left c) where
  abbrev Soon : C → Type 0
  Soon c = (n : ℕ) × (n < k.left c) × (k.shifts (emptied k c n) true ≡ true)

  by_answer : (m : ℕ) (c : C) (b : Bool) → k.shifts c true ≡ b → k.left c ≤ suc m → ((d : C) → k.left d ≤ m → Soon d) → Soon c
  by_answer m c true e h ih = (0, omega (arith, positive c), e)
  by_answer m c false e h ih = let r = ih (k.told c true) (omega (arith, falls c e)) in (suc r.0, omega (arith, r.1, falls c e), r.2)

  within : (m : ℕ) (c : C) → k.left c ≤ m → Soon c
  within zero c h = absurd (omega (arith, positive c))
  within (suc m) c h = by_answer m c (k.shifts c true) refl h (within m)

  pub shifts_soon : (c : C) → Soon c
  shifts_soon c = within (k.left c) c (omega arith)

  -- and the count left is within the lag
  pub shifts_in_time : ((c : C) → k.left c ≤ k.lag c) → ShiftsInTime k
  shifts_in_time small c = let r = shifts_soon c in (r.0, omega (arith, r.1, small c), r.2)
