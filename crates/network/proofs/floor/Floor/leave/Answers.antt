use Rattle.std.proofs.Common.{◌<◌, sym, ap, ◌∙◌, arith}
use Rattle.std.proofs.lemmas.List.{length-set}
use Rattle.sources.specs.Lines.{leave_answer, left_by}
use Rattle.network.proofs.Lines.{no_leaving}
use Rattle.network.proofs.Rows.{flow_count, line_at, row_changed, row_sound}
use Rattle.network.specs.Floors.{net_of}
use Rattle.network.proofs.floor.Floor.leave.Goals as goal

pub returns-then-flow-self-clause-answer : goal.returns-then-flow-self-clause-answer
returns-then-flow-self-clause-answer c = no_leaving (net_of c.args.self.now) c.args.flow (omega (arith, flow_count c.args.self.now, c.if-flow-self.true))

pub invariant_of-self : goal.invariant_of-self
invariant_of-self c =
    let f = c.args.self.now in
    record { ring = f.ring; few = f.few; sized = length-set f.sources _ _ ∙ f.sized; lines = row_sound f _ _ c.leave.ensures.sound }

pub returns : goal.returns
returns c =
    let f = c.args.self.now in
    let low : c.args.flow < f.count = omega (arith, c.if-flow-self.false) in
    record {
      answer = c.leave.ensures.answer ∙ ap leave_answer (sym (line_at f c.args.flow _ low));
      state = row_changed f c.args.flow _ _ left_by low c.leave.ensures.state;
    }
