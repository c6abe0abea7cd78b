-- A bounded run: cycles until no flit is held, the allowance is used up, or the run is over.
use Rattle.std.specs.Prelude.{◌≡◌, ℕ, zero, suc, ◌<◌, ◌≤◌, Bool, true, false, cond, ◌||◌, ◌==◌}
use Rattle.arbiters.specs.declared.arbiter.Arbiter as arbiter
use Rattle.clocks.specs.declared.clock.WindowClock as clock
use Rattle.running.specs.Cycles.{Run, cycled, run_over}
use Rattle.running.specs.Nets.{Net}
use Rattle.running.specs.Sounds.{held_flits}
use Rattle.running.specs.declared.ending.Ending.{Ending}
use Rattle.running.specs.declared.ending.Ending.TheVariants.{Empty, Spent, Over}

-- no flit waits at a source or lies in a buffer
abbrev pub nothing_held : Net → Bool
nothing_held n = held_flits n == 0

module _ {A C : Type 0} (arbiters : arbiter.Ghosts A) (clocks : clock.Ghosts C) where
  -- so many cycles made, one after the other
  unfoldable pub after_cycles : ℕ → Run A C → Run A C
  after_cycles zero r = r
  after_cycles (suc n) r = after_cycles n (cycled arbiters clocks r)

  -- how many cycles a run with this allowance makes
  unfoldable pub cycles_made : ℕ → Run A C → ℕ
  cycles_made zero r = 0
  cycles_made (suc n) r = cond (nothing_held r.net || run_over r.net) 0 (suc (cycles_made n (cycled arbiters clocks r)))

  -- what the run leaves
  abbrev pub run_leaves : ℕ → Run A C → Run A C
  run_leaves n r = after_cycles (cycles_made n r) r

  -- why it ended there
  abbrev pub run_ending : ℕ → Run A C → Ending
  run_ending n r = cond (nothing_held (run_leaves n r).net) Empty (cond (cycles_made n r == n) Spent Over)

  -- the answer
  abbrev pub run_answer : ℕ → Run A C → ℕ × Ending
  run_answer n r = (cycles_made n r, run_ending n r)

  -- the law of the answer: before each cycle that was made a flit was held and the run not over, and the ending is true of what is left
  abbrev pub Ended : ℕ → ℕ → Net → Ending → Type 0
  Ended n made net Empty = nothing_held net ≡ true
  Ended n made net Spent = (nothing_held net ≡ false) × (made ≡ n)
  Ended n made net Over = (nothing_held net ≡ false) × (made < n) × (run_over net ≡ true)

  abbrev pub Ran : ℕ → Run A C → ℕ × Ending → Type 0
  Ran n r (made, ending) =
      (made ≤ n)
      × ((k : ℕ) → k < made → (nothing_held (after_cycles k r).net ≡ false) × (run_over (after_cycles k r).net ≡ false))
      × Ended n made (after_cycles made r).net ending
