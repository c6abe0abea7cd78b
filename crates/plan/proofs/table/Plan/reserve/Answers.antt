use Rattle.std.proofs.Common.{rules}
use Rattle.plan.proofs.Admitted.{flows_pushed, reserved_sound}
use Rattle.plan.proofs.table.Plan.reserve.Goals as goal

pub invariant_of-self : goal.invariant_of-self
invariant_of-self c =
    let a = c.args in
    let p = c.self in
    search (rules, c.push.ensures.state, reserved_sound p.inside.settings p.inside.rows a.slots a.largest a.route.now c.in_ok-row.row p.view_is c.in_ok-row.ensures.answer p.invariant)

pub returns-clause-state : goal.returns-clause-state
returns-clause-state c = search (rules, flows_pushed)

pub returns-clause-sound : goal.returns-clause-sound
returns-clause-sound c =
    let a = c.args in
    let p = c.self in
    search (rules, c.push.ensures.state, reserved_sound p.inside.settings p.inside.rows a.slots a.largest a.route.now c.in_ok-row.row p.view_is c.in_ok-row.ensures.answer p.invariant)
