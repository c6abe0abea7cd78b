use Rattle.network.specs.Floors.{net_of}
use Rattle.network.proofs.Turning.{shifted, marked, sound}
use Rattle.network.proofs.fabric.Fabric.shift.Goals as goal

pub invariant_of-self : goal.invariant_of-self
invariant_of-self c =
    let f = c.args.self.now in
    record {
      marked = marked (net_of f.floor) f.held f.sound c.requires.empty c.requires.made (net_of c.shift.new.self) c.shift.ensures f.used f.marked;
      sound = sound (net_of f.floor) f.held f.sound c.requires.empty c.requires.made (net_of c.shift.new.self) c.shift.ensures _ c.rotate_left.ensures.after;
    }

pub returns : goal.returns
returns c =
    let f = c.args.self.now in
    shifted (net_of f.floor) f.held f.sound c.requires.empty c.requires.made (net_of c.shift.new.self) c.shift.ensures
