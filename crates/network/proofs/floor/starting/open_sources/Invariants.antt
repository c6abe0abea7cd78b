use Rattle.std.proofs.Common.{◌≡◌, length, map, take}
use Rattle.running.specs.Cycles.{opened_flow}
use Rattle.network.specs.Lines.{SoundLines}
use Rattle.network.proofs.floor.starting.open_sources.Given as goal

-- the first of the sources are opened
abbrev pub invariant-loop-flow : goal.invariant-loop-flow
invariant-loop-flow l =
    (length l.sources ≡ 64)
    × (take l.flow l.sources ≡ map (opened_flow l.window) (take l.flow l.row-items))
    × SoundLines (take l.flow l.sources)
