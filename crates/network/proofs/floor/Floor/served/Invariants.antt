use Rattle.std.proofs.Common.{◌≡◌, ◌-◌, is_some, None}
use Rattle.folds.specs.Firsts.{first_up}
use Rattle.running.specs.Nets.{flows}
use Rattle.running.specs.Requests.{requests, asked, served}
use Rattle.network.specs.Floors.{net_of}
use Rattle.network.proofs.floor.Floor.served.Given as goal

abbrev pub invariant-search : goal.invariant-search
invariant-search l =
    let n = net_of l.self in
    (l.found ≡ None) × (first_up (asked n l.channel) l.ahead (l.self.window - l.ahead) ≡ served n l.channel)

abbrev pub invariant-loop-flow : goal.invariant-loop-flow
invariant-loop-flow l =
    let n = net_of l.self in
    (l.found ≡ None)
    × (first_up (asked n l.channel) l.ahead (l.self.window - l.ahead) ≡ served n l.channel)
    × (is_some (first_up (requests n l.channel l.ahead) l.flow (flows n - l.flow)) ≡ asked n l.channel l.ahead)
