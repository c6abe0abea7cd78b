use Rattle.std.proofs.Common.{ltb, ap, ◌∙◌}
use Rattle.folds.specs.Firsts.{first_up}
use Rattle.sources.proofs.Searching.{first_up-position}
use Rattle.sources.proofs.feed.Source.first_place.Goals as goal

pub returns-clause-answer : goal.returns-clause-answer
returns-clause-answer c =
    rw (← c.self.view_is) (c.first_filled.ensures ∙ first_up-position (λ n. ltb 0 n) c.self.inside.waiting ∙ ap (first_up _ 0) c.self.invariant.sized)
