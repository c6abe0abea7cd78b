use Rattle.std.proofs.Common.{◌≡◌}
use Rattle.running.specs.Offers.{with_lines}
use Rattle.network.specs.Floors.{net_of}
use Rattle.network.proofs.Turning.{shifted_up_to}
use Rattle.network.proofs.floor.Floor.shift_sources.Given as goal

-- the first of the lines have shifted
abbrev pub invariant-loop-row : goal.invariant-loop-row
invariant-loop-row l =
    let n = net_of l.initial.self in
    net_of l.self ≡ with_lines n (shifted_up_to n.lines l.row)
