use Rattle.std.proofs.Common.{sym}
use Rattle.running.proofs.Emptying.{head_empty_tells}
use Rattle.network.specs.Floors.{net_of}
use Rattle.network.proofs.fabric.Fabric.head_empty.Goals as goal

pub returns : goal.returns
returns c = let f = c.args.self.now in sym (head_empty_tells (net_of f.floor) f.held f.sound)
