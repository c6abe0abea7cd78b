use Rattle.std.proofs.Common.{◌≡◌, ◌-◌, ◌<◌, ◌≤◌, ◌++◌, length, drop, ap, length-take-le, arith, rules}
use Rattle.mesh.specs.Numbering.{leaving}
use Rattle.mesh.specs.Routes.{route}
use Rattle.mesh.specs.Walks.{towards, onward}
use Rattle.mesh.proofs.Walking.{walk}
use Rattle.mesh.proofs.Writing.{Counted, counted, too_short, long_enough, next_inside, written_more, written_all, travelled}
use Rattle.mesh.proofs.square.Mesh.route.Goals as goal
use Rattle.mesh.proofs.square.Mesh.route.Goals.{In_ok-hops}

-- the hops were counted
nodes : (c : In_ok-hops) → Counted c.args.self.now c.args.from c.args.to c.in_ok-hops.field-0
nodes c = counted _ c.args.from c.args.to _ c.in_ok-hops.ensures.answer

pub returns-then-channels-hops-clause-answer : goal.returns-then-channels-hops-clause-answer
returns-then-channels-hops-clause-answer c =
    let short : length c.args.channels.now < c.in_ok-hops.field-0 = omega arith in
    too_short _ _ _ _ _ (nodes (goal.at.returns-then-channels-hops-clause-answer c).In_ok-hops) short

pub loop-channel-init : goal.loop-channel-init
loop-channel-init c =
    let all : c.in_ok-hops.field-0 - 0 ≡ c.in_ok-hops.field-0 = omega arith in
    record {
      on_the_mesh = (nodes (goal.at.loop-channel-init c).In_ok-hops).starts;
      written = ap (walk c.args.self.now c.args.from c.args.to) all;
    }

pub loop-channel-preserved : goal.loop-channel-preserved
loop-channel-preserved c =
    let k = c.args.self.now in
    let here = c.loop-channel.here in
    let to = c.args.to in
    let on : c.way_on-heading.result.1 ≡ onward here to = search rules in
    let number : c.leaving.result ≡ leaving k here (towards here to) = search rules in
    let room : c.in_ok-hops.field-0 ≤ length c.args.channels.now = omega arith in
    let lent = length-take-le _ _ room in
    record {
      on_the_mesh = next_inside k here to _ on c.loop-channel.invariant.on_the_mesh (nodes (goal.at.loop-channel-preserved c).In_ok-hops).ends;
      written = written_more k c.in_ok-hops.field-0 _ _ here to _ _ _ on number (omega arith) (omega arith) c.loop-channel.invariant.written;
    }

pub returns : goal.returns
returns c =
    let k = c.args.self.now in
    let from = c.args.from in
    let to = c.args.to in
    let hops = c.in_ok-hops.field-0 in
    let n = nodes (goal.at.returns c).In_ok-hops in
    let room : hops ≤ length c.args.channels.now = omega arith in
    let lent = length-take-le _ _ room in
    let written = written_all k hops from to _ _ _ n (omega arith) (omega arith) c.loop-channel.invariant.written in
    let list : c.loop-channel.channel-items ++ drop hops c.args.channels.now ≡ route k from to ++ drop hops c.args.channels.now =
    ap (λ cs. cs ++ drop hops c.args.channels.now) written in
    record {
      answer = long_enough k from to _ hops n room;
      list = list;
      travels = travelled k hops from to _ _ c.in_ok-hops.ensures.within.few n list;
      within = c.in_ok-hops.ensures.within;
    }
