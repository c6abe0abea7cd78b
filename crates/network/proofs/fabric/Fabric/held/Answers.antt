use Rattle.std.proofs.Common.{◌∙◌, arith}
use Rattle.std.proofs.lemmas.Iterator.{YieldsList-from_slice}
use Rattle.std.proofs.lemmas.Iterator.Consumers.{fits_from_yields_list, sum_from_yields_List}
use Rattle.running.proofs.Tallying.{held_sum}
use Rattle.network.proofs.Offering.{few_together}
use Rattle.network.specs.Floors.{net_of}
use Rattle.network.proofs.fabric.Fabric.held.Goals as goal

pub sum-requires-clause-fits : goal.sum-requires-clause-fits
sum-requires-clause-fits c =
    let f = c.args.self.now in
    fits_from_yields_list c.iter.result _ (YieldsList-from_slice f.held (cc)) (omega (arith, few_together (net_of f.floor) f.held f.sound f.floor.lines))

pub returns : goal.returns
returns c =
    let f = c.args.self.now in
    sum_from_yields_List c.iter.result _ c.sum.ensures.ran (YieldsList-from_slice f.held (cc)) ∙ held_sum (net_of f.floor) f.held f.sound
