use Rattle.std.proofs.Common.{length, ap, ◌∙◌, arith}
use Rattle.network.proofs.Lines.{no_first}
use Rattle.network.specs.Floors.{net_of}
use Rattle.network.proofs.floor.Floor.earliest.Goals as goal

pub returns-in_err-get : goal.returns-in_err-get
returns-in_err-get c = c.from_residual.ensures ∙ no_first (net_of c.args.self.now) c.args.flow (omega (arith, c.in_err-get.ensures.lookup.3, ap length c.flows.ensures))
