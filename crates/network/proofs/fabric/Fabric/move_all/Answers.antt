use Rattle.std.proofs.Common.{arith}
use Rattle.network.specs.Floors.{net_of}
use Rattle.network.proofs.Walking.{none_moved, granted_now, carried_on, counted_on, all_moved}
use Rattle.network.proofs.fabric.Fabric.move_all.Goals as goal

pub loop-channel-init : goal.loop-channel-init
loop-channel-init c =
    let s = none_moved (net_of c.args.self.now.floor) c.args.grants.now in
    (s.0, s.1, omega arith)

pub carry-delivered-requires : goal.carry-delivered-requires
carry-delivered-requires c =
    let f = c.args.self.now in
    let p = c.requires in
    let l = c.loop-channel in
    granted_now (net_of f.floor) c.args.grants.now (λ i h. (f.sound.1 i h).3) p.valid p.in_window (net_of l.self.floor) l.channel l.invariant.0

pub loop-channel-preserved : goal.loop-channel-preserved
loop-channel-preserved c =
    let f = c.args.self.now in
    let p = c.requires in
    let l = c.loop-channel in
    let n = net_of f.floor in
    let gs = c.args.grants.now in
    let e = c.carry-delivered.ensures in (
      carried_on n gs (λ i h. (f.sound.1 i h).3) p.valid p.in_window (net_of l.self.floor) l.channel l.invariant.0 (net_of c.carry-delivered.new.self.floor) e.state,
      counted_on n gs (λ i h. (f.sound.1 i h).3) p.valid p.in_window (net_of l.self.floor) l.channel l.invariant.0 l.delivered c.carry-delivered.result l.invariant.1 e.answer,
      omega (arith, l.invariant.2, e.few),
    )

pub returns : goal.returns
returns c =
    let l = c.loop-channel in
    let r = all_moved (net_of c.args.self.now.floor) (net_of l.self.floor) c.args.grants.now l.channel l.delivered c.told-grants c.loop-channel-test.false l.auto.channel-end l.invariant.0 l.invariant.1 in
    record { answer = r.0; state = r.1 }
