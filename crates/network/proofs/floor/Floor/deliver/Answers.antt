use Rattle.std.proofs.Common.{◌∙◌}
use Rattle.std.proofs.lemmas.List.{length-set}
use Rattle.sources.specs.Lines.{delivering}
use Rattle.network.proofs.Rows.{row_changed, row_sound}
use Rattle.network.proofs.floor.Floor.deliver.Goals as goal

pub invariant_of-self : goal.invariant_of-self
invariant_of-self c =
    let f = c.args.self.now in
    record { ring = f.ring; few = f.few; sized = length-set f.sources _ _ ∙ f.sized; lines = row_sound f _ _ c.deliver.ensures.sound }

pub returns-then-flow-self : goal.returns-then-flow-self
returns-then-flow-self c = row_changed c.args.self.now c.args.flow _ _ delivering c.if-flow-self.true c.deliver.ensures.state
