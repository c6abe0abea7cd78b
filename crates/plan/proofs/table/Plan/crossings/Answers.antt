use Rattle.std.proofs.Common.{arith, rules}
use Rattle.std.proofs.lemmas.Iterator.{YieldsList-from_slice, YieldsList-from_map}
use Rattle.std.proofs.lemmas.Iterator.Adapters.{serves_from_places}
use Rattle.std.proofs.lemmas.Iterator.Consumers.{fits_by_from_yields_list}
use Rattle.plan.specs.Sheets.{flow_crossings}
use Rattle.plan.proofs.Figures.{crossings_bounded}
use Rattle.plan.proofs.Ranges.{ranged_at, frame_range}
use Rattle.plan.proofs.table.Plan.crossings.Goals as goal

pub sum-requires-clause-can : goal.sum-requires-clause-can
sum-requires-clause-can c =
    let t = c.args.self.now in
    let s = c.rows.ensures.sound in
    (tt, serves_from_places (YieldsList-from_slice t.flows (cc)) (λ x q k. search rules) (λ x i l e. search (rules, ranged_at t.settings.frame t.flows i x.now s.ranges l e, frame_range t.settings s.set)))

pub sum-requires-clause-fits : goal.sum-requires-clause-fits
sum-requires-clause-fits c =
    let t = c.args.self.now in
    fits_by_from_yields_list flow_crossings t.flows c.map.result _ (YieldsList-from_map _ flow_crossings (YieldsList-from_slice t.flows (cc)) c.map.ensures.closure (λ x r q k. search rules)) (omega (arith, crossings_bounded t c.rows.ensures.sound))
