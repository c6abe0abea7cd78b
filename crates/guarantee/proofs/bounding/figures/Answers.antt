use Rattle.std.proofs.Common.{ap, ◌∙◌, arith}
use Rattle.plan.specs.declared.setting.Settings.{Settings}
use Rattle.plan.specs.declared.sheets.Sheet.{Sheet}
use Rattle.guarantee.proofs.Frozen.{short_delivery}
use Rattle.guarantee.proofs.bounding.figures.Goals as goal

-- the longest way to delivery fits its type
pub overflow_mul-result : goal.overflow_mul-result
overflow_mul-result g c =
    let s = c.settings-window.ensures in
    omega (arith, short_delivery c.args.plan.now s.sound c.from-3.result c.from.result c.from-2.result (c.from-3.ensures ∙ ap (λ (x : Settings). x.window) s.value) (c.from.ensures ∙ ap (λ (x : Sheet). x.crossings) c.sheet.ensures.figures) (omega (arith, c.from-2.ensures, c.if-lag-gt-LONGEST_LAG.false)))
