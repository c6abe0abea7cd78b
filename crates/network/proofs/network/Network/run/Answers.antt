use Rattle.std.proofs.Common.{◌≡◌, ◌||◌, sym, ap, ◌∙◌, arith}
use Rattle.std.proofs.lemmas.Bool.{or_right}
use Rattle.running.proofs.Bounded.{none_made, one_made, ends_empty, ends_spent, ends_over, ran_so}
use Rattle.running.specs.Cycles.{run_over}
use Rattle.running.specs.declared.ending.Ending.TheVariants.{Empty, Spent}
use Rattle.network.specs.Floors.{net_of}
use Rattle.network.specs.Networks.{run_of}
use Rattle.network.proofs.network.Network.run.Goals as goal

pub loop-made-init : goal.loop-made-init
loop-made-init g c = none_made g.A.Arbiter g.C.WindowClock (run_of c.args.self.now) c.args.allowance

pub loop-made-preserved : goal.loop-made-preserved
loop-made-preserved g c =
    let l = c.loop-made in
    one_made g.A.Arbiter g.C.WindowClock (run_of c.args.self.now) (run_of l.self) (run_of c.make_cycle.new.self) c.args.allowance l.made l.invariant
    c.loop-made-test.true (ap (λ b. b || run_over (run_of l.self).net) (sym c.if-nothing_held.ensures) ∙ ap (λ f. run_over (net_of f)) (sym c.floor.ensures) ∙ sym c.if-is_over.ensures) c.make_cycle.ensures.state

pub returns-then-nothing_held : goal.returns-then-nothing_held
returns-then-nothing_held g c =
    let l = c.loop-made in
    let e = ends_empty g.A.Arbiter g.C.WindowClock (run_of c.args.self.now) (run_of l.self) c.args.allowance l.made l.invariant (sym c.if-nothing_held.ensures) in
    record { answer = e.0; state = e.1; ran = ran_so g.A.Arbiter g.C.WindowClock c.args.allowance (run_of c.args.self.now) _ e.0 }

pub returns-then-is_over : goal.returns-then-is_over
returns-then-is_over g c =
    let l = c.loop-made in
    let e = ends_over g.A.Arbiter g.C.WindowClock (run_of c.args.self.now) (run_of l.self) c.args.allowance l.made l.invariant (sym c.if-nothing_held.ensures) (λ q. omega (arith, q, c.loop-made-test.true)) (or_right _ _ (ap (λ f. run_over (net_of f)) (sym c.floor.ensures) ∙ sym c.if-is_over.ensures)) in
    record { answer = e.0; state = e.1; ran = ran_so g.A.Arbiter g.C.WindowClock c.args.allowance (run_of c.args.self.now) _ e.0 }

pub returns-then-nothing_held-2 : goal.returns-then-nothing_held-2
returns-then-nothing_held-2 g c =
    let l = c.loop-made in
    let all : l.made ≡ c.args.allowance = omega (arith, c.loop-made-test.false, l.auto.made-end) in
    let e = ends_empty g.A.Arbiter g.C.WindowClock (run_of c.args.self.now) (run_of l.self) c.args.allowance l.made l.invariant (sym c.if-nothing_held-2.ensures) in
    let answer = ap (λ k. (k, Empty)) (sym all) ∙ e.0 in
    record { answer = answer; state = e.1; ran = ran_so g.A.Arbiter g.C.WindowClock c.args.allowance (run_of c.args.self.now) _ answer }

pub returns : goal.returns
returns g c =
    let l = c.loop-made in
    let all : l.made ≡ c.args.allowance = omega (arith, c.loop-made-test.false, l.auto.made-end) in
    let e = ends_spent g.A.Arbiter g.C.WindowClock (run_of c.args.self.now) (run_of l.self) c.args.allowance l.made l.invariant (sym c.if-nothing_held-2.ensures) all in
    let answer = ap (λ k. (k, Spent)) (sym all) ∙ e.0 in
    record { answer = answer; state = e.1; ran = ran_so g.A.Arbiter g.C.WindowClock c.args.allowance (run_of c.args.self.now) _ answer }
