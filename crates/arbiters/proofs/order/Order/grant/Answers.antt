use Rattle.std.proofs.Common.{◌≡◌, ℕ, ◌-◌, List, set, sym, subst, arith, rules}
use Rattle.std.proofs.lemmas.Iterator.{YieldsList-from_slice, IsFirst-from_position}
use Rattle.folds.specs.Orders.{EachOnce, moved_to_end}
use Rattle.folds.proofs.Orders.{moved_once, length_without}
use Rattle.arbiters.proofs.Orders.{same_order, turned_is, last_again, count_none}
use Rattle.arbiters.proofs.order.Order.grant.Goals as goal
use Rattle.arbiters.proofs.order.Order.grant.Goals.{After-rotate_left}
use borrow.Rule.Slice.PartMut.{put_mid}

-- what stands at the place is the flow, so the turn moves it to the end
turned : (c : After-rotate_left) → put_mid c.in-Some.place (64 - c.in-Some.place) c.args.self.now.flows c.rotate_left.new.self ≡ moved_to_end c.args.flow c.args.self.now.flows
turned c =
    let f = c.args.flow in
    let o = c.args.self.now in
    let hit = IsFirst-from_position _ _ _ (λ x. x ≡ f) (λ x. x ≡ f → ⊥) c.in-Some.ensures.ran (YieldsList-from_slice o.flows (search rules)) (λ x q k. search rules) (λ x q k. search rules) in
    turned_is f o.flows _ _ _ (o.ok f c.requires) hit.0 (hit.1 0) (omega arith) c.rotate_left.ensures.after

-- and it is the last one then: so code that writes another one there is refused for that one
stays : (c : After-rotate_left) → set (moved_to_end c.args.flow c.args.self.now.flows) 63 c.args.flow ≡ moved_to_end c.args.flow c.args.self.now.flows
stays c =
    let f = c.args.flow in
    let o = c.args.self.now in
    last_again f 63 o.flows (omega (arith, length_without f o.flows, o.ok f c.requires))

pub invariant_of-self : goal.invariant_of-self
invariant_of-self c =
    let o = c.args.self.now in
    record { ok = subst (λ (fs : List ℕ). EachOnce 64 fs) (sym (search (turned c, stays c, rules))) (moved_once 64 c.args.flow o.flows o.ok) }

pub returns-in-Some : goal.returns-in-Some
returns-in-Some c =
    let r = (goal.at.returns-in-Some c).After-rotate_left in
    same_order _ _ (search (turned r, stays r, rules))

pub returns-in_default : goal.returns-in_default
returns-in_default c =
    let f = c.args.flow in
    let o = c.args.self.now in
    let none = IsFirst-from_position _ _ _ (λ x. x ≡ f) (λ x. x ≡ f → ⊥) c.in_default.ensures.ran (YieldsList-from_slice o.flows (search rules)) (λ x q k. search rules) (λ x q k. search rules) in
    absurd (omega (arith, o.ok f c.requires, count_none f o.flows none))
