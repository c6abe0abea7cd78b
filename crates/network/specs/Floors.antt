-- The network that a floor stands for.
use Rattle.std.specs.Prelude.{◌+◌, map, take}
use Rattle.lanes.specs.Rings.{lane_of, turned}
use Rattle.running.specs.Nets.{Net}
use Rattle.sources.specs.Lines.{shifted_line}
use Rattle.network.specs.declared.floor.Floor.{Floor}

abbrev pub net_of : Floor → Net
net_of f = record {
  window = f.window;
  depth = f.depth;
  head = f.head;
  cycles = f.cycles;
  lines = take f.count f.sources;
  lane = lane_of f.buffers;
}

-- the network once every flow that may shift has done so, and the buffers have turned: the shift, as private code makes it
abbrev pub turned_net : Net → Net
turned_net n = record {
  window = n.window;
  depth = n.depth;
  head = n.head + 1;
  cycles = n.cycles;
  lines = map shifted_line n.lines;
  lane = turned n.window n.lane;
}
