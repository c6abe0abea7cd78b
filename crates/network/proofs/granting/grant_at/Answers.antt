use Rattle.std.proofs.Common.{sym, ap}
use Rattle.running.specs.Grants.{told_of}
use Rattle.network.specs.Floors.{net_of}
use Rattle.network.proofs.Unused.{unused}
use Rattle.network.proofs.granting.grant_at.Goals as goal

pub returns-then-not-is_used : goal.returns-then-not-is_used
returns-then-not-is_used g c =
    let f = c.args.fabric.now in
    let none = unused g.A.Arbiter c.args.arbiter.now (net_of f.floor) f.used c.args.channel f.marked c.requires c.if-not-is_used.ensures in
    record { answer = sym none; state = sym (ap (told_of g.A.Arbiter c.args.arbiter.now c.args.channel) none) }
