use Rattle.std.proofs.Common.{◌≡◌, ◌≤◌, length, take}
use Rattle.running.specs.Moves.{moved, arrivals}
use Rattle.network.specs.Floors.{net_of}
use Rattle.network.proofs.fabric.Fabric.move_all.Given as goal

abbrev pub invariant-loop-channel : goal.invariant-loop-channel
invariant-loop-channel l =
    let n = net_of l.initial.self.floor in
    (net_of l.self.floor ≡ moved n (take l.channel l.grants)) × (l.delivered ≡ length (arrivals n l.grants l.channel)) × (l.delivered ≤ l.channel)
