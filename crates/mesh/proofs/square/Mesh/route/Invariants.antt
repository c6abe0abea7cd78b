use Rattle.std.proofs.Common.{◌≡◌, ◌-◌, true, ◌++◌, take}
use Rattle.mesh.specs.Numbering.{inside}
use Rattle.mesh.proofs.Walking.{walk}
use Rattle.mesh.proofs.square.Mesh.route.Given as goal

-- the nodes on the way are in the mesh; what is written and the walk that is left give the whole walk
abbrev pub invariant-loop-channel : goal.invariant-loop-channel
invariant-loop-channel l = record {
  on_the_mesh : inside l.self l.here ≡ true;
  written : take l.channel-index l.channel-items ++ walk l.self l.here l.to (l.hops - l.channel-index) ≡ walk l.self l.initial.here l.to l.hops;
}
