use Rattle.running.proofs.Bounded.{SoFar}
use Rattle.network.specs.Networks.{run_of}
use Rattle.network.proofs.network.Network.run.Given as goal

abbrev pub invariant-loop-made : goal.invariant-loop-made
invariant-loop-made g l = SoFar g.A.Arbiter g.C.WindowClock (run_of l.initial.self) l.allowance l.made (run_of l.self)
