use Rattle.std.proofs.Common.{take, sym, ap, ◌∙◌, subst, arith}
use Rattle.plan.proofs.Ranges.{window_range}
use Rattle.plan.specs.declared.setting.Settings.{Settings}
use Rattle.network.specs.Lines.{SoundLines}
use Rattle.network.proofs.Starting.{not_clamped}
use Rattle.network.proofs.floor.Floor.new.Goals as goal

pub invariant_of-result : goal.invariant_of-result
invariant_of-result c =
    let s = c.settings-settings.ensures in
    let v = window_range c.args.plan.now.settings s.sound.set in
    let w = ap (λ (x : Settings). x.window) s.value in
    let o = c.open_sources in
    record {
      ring = c.new.ensures.frames ∙ not_clamped c.settings-settings.result.window (omega (arith, w, v)) (omega (arith, w, v));
      few = omega (arith, c.flow_count.ensures.value, s.sound.few);
      sized = o.ensures.sized;
      lines = subst (λ k. SoundLines (take k o.result)) (sym c.flow_count.ensures.value) o.ensures.sound;
    }
