use Rattle.network.specs.Floors.{net_of}
use Rattle.network.proofs.Starting.{marked, started_is_sound}
use Rattle.network.proofs.fabric.Fabric.new.Goals as goal

pub invariant_of-result : goal.invariant_of-result
invariant_of-result c =
    let t = c.args.plan.now in
    let f = c.new.ensures in
    record {
      marked = marked t f.planned (net_of c.new.result) f.state c.mark_channels.result c.mark_channels.ensures;
      sound = started_is_sound t f.planned (net_of c.new.result) f.state;
    }
