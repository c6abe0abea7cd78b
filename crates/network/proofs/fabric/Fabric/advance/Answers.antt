use Rattle.network.specs.Floors.{net_of}
use Rattle.network.proofs.Advancing.{Advanced, departs, some_held, moved_on}
use Rattle.network.proofs.fabric.Fabric.advance.Goals as goal
use Rattle.network.proofs.fabric.Fabric.advance.Goals.{After-land}

-- the flit has departed and landed
advanced : (c : After-land) → Advanced (net_of c.args.self.now.floor) c.args.self.now.held c.args.self.now.used c.args.channel c.args.grant c.in-Some.crossing (net_of c.land.new.self)
advanced c =
    let f = c.args.self.now in
    moved_on (net_of f.floor) f.held f.used c.args.channel c.args.grant c.in-Some.crossing f.sound f.marked c.requires.asked c.requires.in_window c.in-Some.ensures
    (net_of c.depart.new.self) (net_of c.land.new.self) c.in-Some-depart.flit c.depart.ensures.state c.in-Some-depart.ensures.answer c.land.ensures

pub overflow_sub-self : goal.overflow_sub-self
overflow_sub-self c =
    let f = c.args.self.now in
    some_held (net_of f.floor) f.held f.used c.args.channel c.args.grant c.in-Some.crossing f.sound f.marked c.requires.asked c.requires.in_window c.in-Some.ensures

pub invariant_of-self-then-crossing : goal.invariant_of-self-then-crossing
invariant_of-self-then-crossing c =
    let a = advanced (goal.at.invariant_of-self-then-crossing c).After-land in
    record { marked = a.marked; sound = a.last c.if-crossing.true }

pub invariant_of-self-else-crossing : goal.invariant_of-self-else-crossing
invariant_of-self-else-crossing c =
    let a = advanced (goal.at.invariant_of-self-else-crossing c).After-land in
    record { marked = a.marked; sound = a.on c.if-crossing.false }

pub returns-then-crossing-clause-state : goal.returns-then-crossing-clause-state
returns-then-crossing-clause-state c = (advanced (goal.at.returns-then-crossing-clause-state c).After-land).after

pub returns-else-crossing-clause-state : goal.returns-else-crossing-clause-state
returns-else-crossing-clause-state c = (advanced (goal.at.returns-else-crossing-clause-state c).After-land).after

-- the flit that asked stands there, so one departs
pub invariant_of-self : goal.invariant_of-self
invariant_of-self c =
    let f = c.args.self.now in
    let there = departs (net_of f.floor) f.held f.used c.args.channel c.args.grant c.in-Some.crossing f.sound f.marked c.requires.asked c.requires.in_window c.in-Some.ensures in
    let none = c.in_default-depart.ensures.answer in
    absurd cc
