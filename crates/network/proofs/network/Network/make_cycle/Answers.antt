use Rattle.std.proofs.Common.{sym, subst}
use Rattle.running.specs.Valid.{Valid, InWindow}
use Rattle.running.proofs.Choosing.{grants_valid, grants_open}
use Rattle.network.specs.Floors.{net_of}
use Rattle.network.proofs.network.Network.make_cycle.Goals as goal

pub move_all-delivered-requires : goal.move_all-delivered-requires
move_all-delivered-requires g c =
    let m = g.A.Arbiter in
    let n = net_of c.tell_clock-shifted.new.fabric.floor in
    let a = c.args.self.now.arbiter in
    let is = sym c.grant_all-grants.ensures.answer in
    record { valid = subst (Valid n) is (grants_valid m n a g.met.A.Arbiter.belongs); in_window = subst (InWindow n) is (grants_open m n a) }
