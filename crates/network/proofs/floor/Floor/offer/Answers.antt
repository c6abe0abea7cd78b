use Rattle.std.proofs.Common.{sym, ap, ◌∙◌, arith}
use Rattle.std.proofs.lemmas.List.{length-set}
use Rattle.sources.specs.Lines.{Line, offer_answer}
use Rattle.running.specs.Nets.{line}
use Rattle.network.specs.Floors.{net_of}
use Rattle.network.proofs.Lines.{offer_reaches}
use Rattle.network.proofs.Rows.{flow_count, line_at, row_offered, row_sound}
use Rattle.network.proofs.floor.Floor.offer.Goals as goal

pub invariant_of-self : goal.invariant_of-self
invariant_of-self c =
    let f = c.args.self.now in
    record { ring = f.ring; few = f.few; sized = length-set f.sources _ _ ∙ f.sized; lines = row_sound f _ _ c.offer.ensures.sound }

pub returns-in_err-offer-clause-state : goal.returns-in_err-offer-clause-state
returns-in_err-offer-clause-state c = row_offered c.args.self.now c.args.flow c.args.size _ _ c.if-flow-self.false c.offer.ensures.state

pub returns-clause-state : goal.returns-clause-state
returns-clause-state c = row_offered c.args.self.now c.args.flow c.args.size _ _ c.if-flow-self.false c.offer.ensures.state

-- the source is the flow's line
pub returns-clause-reach : goal.returns-clause-reach
returns-clause-reach c =
    let f = c.args.self.now in
    offer_reaches (line (net_of f) c.args.flow) c.args.size _ (f.lines c.args.flow (omega (arith, flow_count f, c.if-flow-self.false)))
    (sym c.in_ok-offer.was ∙ c.offer.ensures.answer ∙ ap (λ (l : Line). offer_answer l c.args.size) (sym (line_at f c.args.flow _ c.if-flow-self.false)))
