use Rattle.std.proofs.Common.{◌+◌, ◌-◌, get_or, set, sym, subst, ◌∙◌, arith}
use Rattle.running.specs.Sounds.{Sound}
use Rattle.network.proofs.Offering.{few_held, marked, refused_sound, accepted_sound}
use Rattle.network.specs.Floors.{net_of}
use Rattle.network.proofs.fabric.Fabric.offer.Goals as goal

pub invariant_of-self : goal.invariant_of-self
invariant_of-self c =
    let f = c.args.self.now in
    let n = net_of f.floor in
    let m = net_of c.offer.new.self in
    record {
      marked = marked n f.held f.sound f.floor.lines c.args.flow c.args.size m c.offer.ensures.state f.used f.marked;
      sound = refused_sound n f.held f.sound f.floor.lines c.args.flow c.args.size m c.offer.ensures.state _ (sym c.in_err-frame.was ∙ c.offer.ensures.answer);
    }

pub overflow_add-self : goal.overflow_add-self
overflow_add-self c =
    let f = c.args.self.now in
    omega (arith, c.ranges.size.fits, few_held (net_of f.floor) f.held (c.in_ok-frame.frame - c.head.result) f.sound f.floor.lines)

pub invariant_of-self-2 : goal.invariant_of-self-2
invariant_of-self-2 c =
    let f = c.args.self.now in
    let n = net_of f.floor in
    let m = net_of c.offer.new.self in
    record {
      marked = marked n f.held f.sound f.floor.lines c.args.flow c.args.size m c.offer.ensures.state f.used f.marked;
      sound =
          subst (λ k. Sound m (set f.held (c.in_ok-frame.frame - c.head.result) (get_or f.held (c.in_ok-frame.frame - c.head.result) 0 + k))) (sym c.from.ensures)
          (accepted_sound n f.held f.sound f.floor.lines c.args.flow c.args.size m c.offer.ensures.state c.in_ok-frame.frame c.head.result (sym c.in_ok-frame.was ∙ c.offer.ensures.answer) c.head.ensures);
    }
