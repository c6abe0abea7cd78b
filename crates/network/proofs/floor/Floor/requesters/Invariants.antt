use Rattle.std.proofs.Common.{◌≡◌, false}
use Rattle.folds.specs.Filled.{filled}
use Rattle.running.specs.Requests.{requests}
use Rattle.network.specs.Floors.{net_of}
use Rattle.network.proofs.floor.Floor.requesters.Given as goal

abbrev pub invariant-loop-flow : goal.invariant-loop-flow
invariant-loop-flow l = l.flows ≡ filled (requests (net_of l.self) l.channel l.ahead) false l.flow 64
