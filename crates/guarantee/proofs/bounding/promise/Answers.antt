use Rattle.guarantee.proofs.Edges.{edge_values}
use Rattle.guarantee.proofs.Frozen.{table_ok}
use Rattle.guarantee.proofs.Meanings.{Meant}
use Rattle.guarantee.proofs.Promising.{promise, promised}
use Rattle.guarantee.proofs.bounding.promise.Goals as goal

pub returns : goal.returns
returns g c =
    let a = g.met.A.Arbiter in
    let k = g.met.C.WindowClock in
    let meant : Meant g.A.Arbiter g.C.WindowClock = record {
      belongs = a.belongs;
      chooses = a.chooses;
      positive = k.positive;
      within = k.within;
      steady = k.steady;
      busy = k.busy;
      falls = k.falls;
    } in
    let t = c.args.plan.now in
    record {
      here = λ b calls. promise g.A.Arbiter g.C.WindowClock meant t (table_ok t c.requires) b c.args.clock.now calls;
      promised = promised g.A.Arbiter g.C.WindowClock meant;
      edges = edge_values;
    }
