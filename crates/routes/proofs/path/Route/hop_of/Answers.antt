use Rattle.std.proofs.Common.{rules, sym, ◌∙◌}
use Rattle.routes.proofs.Crossings.{hop_past, hop_met, well_formed_rises}
use Rattle.routes.proofs.path.Route.hop_of.Goals as goal

pub returns-in_err-hop-clause-answer : goal.returns-in_err-hop-clause-answer
returns-in_err-hop-clause-answer c = c.from_residual.ensures ∙ sym (hop_past c.args.self.now c.args.channel (search (rules, c.in_err-hop.ensures.answer)))

pub returns-clause-answer : goal.returns-clause-answer
returns-clause-answer c = search (rules, hop_met, well_formed_rises)
