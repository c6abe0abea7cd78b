use Rattle.std.proofs.Common.{arith, rules}
use Rattle.std.proofs.lemmas.Iterator.{YieldsList-from_slice, YieldsList-from_map}
use Rattle.std.proofs.lemmas.Iterator.Consumers.{fits_by_from_yields_list}
use Rattle.plan.specs.Tables.{slots_on}
use Rattle.plan.proofs.Ranges.{load_below}
use Rattle.plan.proofs.table.Plan.load.Goals as goal

pub sum-requires-clause-fits : goal.sum-requires-clause-fits
sum-requires-clause-fits c =
    let k = c.args.channel in
    let t = c.args.self.now in
    fits_by_from_yields_list (slots_on k) t.flows c.map.result _ (YieldsList-from_map _ (slots_on k) (YieldsList-from_slice t.flows (cc)) c.map.ensures.closure (λ x r q k. search rules)) (omega (arith, load_below t k c.rows.ensures.sound))
