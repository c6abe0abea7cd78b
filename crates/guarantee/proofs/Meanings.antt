-- The laws of an arbiter and of a clock that every promise of a network rests on.
use Rattle.std.proofs.Common.{◌≡◌, ◌<◌, ◌≤◌, Bool, true, false}
use Rattle.arbiters.specs.declared.arbiter.Arbiter as arbiter
use Rattle.clocks.specs.declared.clock.WindowClock as clock
use Rattle.running.proofs.Choosing.{Belongs, Chooses}

pub record Meant {A C : Type 0} (arbiters : arbiter.Ghosts A) (clocks : clock.Ghosts C) : Type 0 where
  -- the arbiter: the flow that it answers belongs to the set; there is one for each channel and each set with a member
  pub belongs : Belongs arbiters
  pub chooses : Chooses arbiters
  -- the clock: the count left is from 1 to the lag, which never changes; told busy it stays; told empty it shifts, or the count falls
  pub positive : (c : C) → 1 ≤ clocks.left c
  pub within : (c : C) → clocks.left c ≤ clocks.lag c
  pub steady : (c : C) (empty : Bool) → clocks.lag (clocks.told c empty) ≡ clocks.lag c
  pub busy : (c : C) → clocks.shifts c false ≡ false
  pub falls : (c : C) → clocks.shifts c true ≡ false → clocks.left (clocks.told c true) < clocks.left c
