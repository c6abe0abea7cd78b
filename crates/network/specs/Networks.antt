-- The run that a network stands for.
use Rattle.running.specs.Cycles.{Run}
use Rattle.network.specs.Floors.{net_of}
use Rattle.network.specs.declared.network.Network.{Network}

module _ {A C : Type 0} where
  abbrev pub run_of : Network A C → Run A C
  run_of w = record { net = net_of w.fabric.floor; arbiter = w.arbiter; clock = w.clock }
