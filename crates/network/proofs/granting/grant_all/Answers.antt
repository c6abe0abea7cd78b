use Rattle.running.proofs.Granting.{grants_start, grants_more, grants_end}
use Rattle.network.specs.Floors.{net_of}
use Rattle.network.proofs.granting.grant_all.Goals as goal

pub loop-channel-init : goal.loop-channel-init
loop-channel-init g c = grants_start g.A.Arbiter (net_of c.args.fabric.now.floor) c.args.arbiter.now

pub loop-channel-preserved : goal.loop-channel-preserved
loop-channel-preserved g c =
    let l = c.loop-channel in
    let e = c.grant_at.ensures in
    grants_more g.A.Arbiter (net_of c.args.fabric.now.floor) c.args.arbiter.now l.channel l.grant-items l.arbiter l.invariant.0 l.invariant.1 c.grant_at.result c.grant_at.new.arbiter c.loop-channel-test.true e.answer e.state

pub returns : goal.returns
returns g c =
    let l = c.loop-channel in
    let r = grants_end g.A.Arbiter (net_of c.args.fabric.now.floor) c.args.arbiter.now l.channel l.grant-items l.arbiter l.invariant.0 l.invariant.1 c.loop-channel-test.false l.auto.channel-end in
    record { answer = r.0; state = r.1 }
