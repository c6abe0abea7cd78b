use Rattle.std.proofs.Common.{◌≡◌, ◌<◌, length, take, sym, refl, ap, ◌∙◌, subst, arith}
use Rattle.std.proofs.lemmas.List.{length-set, take_more_set}
use Rattle.plan.specs.declared.setting.Settings.{Settings}
use Rattle.network.specs.Lines.{SoundLines}
use Rattle.network.proofs.Lines.{sound_none, sound_push}
use Rattle.network.proofs.Starting.{reserved_at, one_opened, all_opened}
use Rattle.network.proofs.floor.starting.open_sources.Goals as goal

pub loop-flow-init : goal.loop-flow-init
loop-flow-init c = (refl, refl, sound_none)

pub open_source-requires : goal.open_source-requires
open_source-requires c =
    let p = c.rows-row-items.ensures in
    reserved_at c.args.plan.now p.sound _ _ _ _ p.value (ap (λ (s : Settings). s.window) c.settings-window.ensures.value) c.loop-flow-test.true c.row-item.is

pub loop-flow-preserved : goal.loop-flow-preserved
loop-flow-preserved c =
    let p = c.rows-row-items.ensures in
    let l = c.loop-flow in
    let low : l.flow < length l.sources = omega (arith, c.loop-flow-test.true, l.invariant.0, ap length p.value, p.sound.few) in
    let more = take_more_set l.sources l.flow c.open_source.result low in (
      length-set l.sources _ _ ∙ l.invariant.0,
      one_opened c.rows-row-items.result.now c.settings-window.result.window l.flow (take l.flow l.sources) _ c.open_source.result c.row-item.result c.loop-flow-test.true c.row-item.is l.invariant.1 c.open_source.ensures.value more,
      subst SoundLines (sym more) (sound_push (take l.flow l.sources) c.open_source.result l.invariant.2 c.open_source.ensures.sound),
    )

pub returns : goal.returns
returns c =
    let p = c.rows-row-items.ensures in
    let l = c.loop-flow in
    let all : length c.args.plan.now.flows ≡ l.flow = omega (arith, ap length p.value, c.loop-flow-test.false, l.auto.flow-end) in
    record {
      sized = l.invariant.0;
      lines =
          ap (λ k. take k l.sources) all
          ∙ all_opened c.args.plan.now c.rows-row-items.result.now c.settings-window.result.window l.flow (take l.flow l.sources) p.value (ap (λ (s : Settings). s.window) c.settings-window.ensures.value) c.loop-flow-test.false l.invariant.1;
      sound = subst (λ k. SoundLines (take k l.sources)) (sym all) l.invariant.2;
    }
