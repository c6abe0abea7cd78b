use Rattle.std.proofs.Common.{◌<◌, ap, ◌∙◌, arith}
use Rattle.std.proofs.lemmas.List.{length-set}
use Rattle.sources.specs.Lines.{shifted_line}
use Rattle.running.specs.Nets.{flows}
use Rattle.network.specs.Floors.{net_of}
use Rattle.network.proofs.Rows.{flow_count, row_changed, row_sound}
use Rattle.network.proofs.Turning.{one_shifted, all_shifted, same_many}
use Rattle.network.proofs.floor.Floor.shift_sources.Goals as goal

pub invariant_of-self : goal.invariant_of-self
invariant_of-self c =
    let f = c.loop-row.self in
    record { ring = f.ring; few = f.few; sized = length-set f.sources _ _ ∙ f.sized; lines = row_sound f _ _ c.shift.ensures.sound }

pub loop-row-preserved : goal.loop-row-preserved
loop-row-preserved c =
    let f = c.args.self.now in
    let l = c.loop-row in
    let n = net_of f in
    let many = ap flows l.invariant in
    let low : l.row < l.self.count = omega (arith, flow_count f, flow_count l.self, many, same_many n.lines l.row, c.loop-row-test.true) in
    one_shifted n (net_of l.self) _ l.row (omega (arith, flow_count f, c.loop-row-test.true)) l.invariant (row_changed l.self l.row _ _ shifted_line low c.shift.ensures.state)

pub returns : goal.returns
returns c =
    let f = c.args.self.now in
    c.loop-row.invariant ∙ all_shifted (net_of f) c.loop-row.row (omega (arith, flow_count f, c.loop-row-test.false))
