use Rattle.std.proofs.Common.{sym, subst}
use Rattle.plan.specs.Sheets.{MostLoaded}
use Rattle.plan.proofs.Busiest.{busiest_most_loaded}
use Rattle.plan.proofs.table.Plan.sheet.Goals as goal

pub returns-clause-most : goal.returns-clause-most
returns-clause-most c = let fs = c.args.self.now.flows in subst (MostLoaded fs) (sym c.busiest.ensures) (busiest_most_loaded fs)
