-- A network just started is sound, and holds nothing.
use Rattle.std.proofs.Common.{◌≡◌, ℕ, ◌<◌, ◌≤◌, true, ◌&&◌, List, [], ◌∷◌, map, length, get_or, replicate, sum_by, refl, ap, ◌∙◌, arith}
use Rattle.std.proofs.lemmas.List.{length-map, get_or-map}
use Rattle.std.proofs.lemmas.List.Sums.{sum_by-cons}
use Rattle.std.proofs.lemmas.Bool.{and_parts}
use Rattle.folds.specs.Sums.{total}
use Rattle.folds.proofs.Sums.{total_none}
use Rattle.plan.proofs.Ranges.{within_parts}
use Rattle.plan.specs.Settings.{settings_fit}
use Rattle.plan.specs.Tables.{Flow, Table}
use Rattle.routes.specs.Channels.{within, well_formed}
use Rattle.sources.proofs.Opening.{none_waiting}
use Rattle.running.specs.Cycles.{opened_flow, started}
use Rattle.running.specs.Nets.{no_line, line, flows}
use Rattle.running.specs.Sounds.{Ranges, InStep, Tallied, Accounted, Sound}

none_wait : (k window : ℕ) (fs : List Flow) → sum_by (λ l. get_or l.waiting k 0) (map (opened_flow window) fs) ≡ 0
none_wait k window [] = refl
none_wait k window (f ∷ fs) =
    omega (arith, sum_by-cons (λ l. get_or l.waiting k 0) (opened_flow window f) (map (opened_flow window) fs), none_wait k window fs, none_waiting k)

module _
    (t : Table) (d : Flow) (fit : settings_fit t.settings ≡ true) (few : length t.flows ≤ 64)
    (routed : (i : ℕ) → i < length t.flows → well_formed (get_or t.flows i d).route ≡ true) where
  same_flows : flows (started t) ≡ length t.flows
  same_flows = length-map t.flows (opened_flow t.settings.window)

  ranges : Ranges (started t)
  ranges =
      let p = and_parts (within 2 8 t.settings.window) (within 1 4096 t.settings.frame && within 1 8 t.settings.depth) fit in
      let q = and_parts (within 1 4096 t.settings.frame) (within 1 8 t.settings.depth) p.1 in
      (within_parts 2 8 t.settings.window p.0, within_parts 1 8 t.settings.depth q.1, (omega arith, omega arith), omega (arith, same_flows))

  in_step : InStep (started t)
  in_step i l =
      let among : i < length t.flows = omega (arith, same_flows) in
      let is : line (started t) i ≡ opened_flow t.settings.window (get_or t.flows i d) =
      get_or-map (opened_flow t.settings.window) t.flows i d no_line among in
      (ap (λ m. m.ledger.head) is, ap (λ m. m.ledger.window) is, ap (λ m. length m.waiting) is, ap (λ m. well_formed m.route) is ∙ routed i among)

  tallied : Tallied (started t) (replicate 8 0)
  tallied = (refl, λ k. omega (arith, none_waiting k, none_wait k t.settings.window t.flows, total_none (λ c. 0) 320 (λ c l. refl)))

  accounted : Accounted (started t)
  accounted i l =
      let among : i < length t.flows = omega (arith, same_flows) in
      let is = get_or-map (opened_flow t.settings.window) t.flows i d no_line among in
      let s : (line (started t) i).sent ≡ 0 = ap (λ m. m.sent) is in
      let e : (line (started t) i).delivered ≡ 0 = ap (λ m. m.delivered) is in
      omega (arith, total_none (λ k. total (λ c. 0) 320) 8 (λ k m. total_none (λ c. 0) 320 (λ c q. refl)))

  pub started_sound : Sound (started t) (replicate 8 0)
  started_sound = (ranges, in_step, λ c k. refl, λ c k. omega arith, λ c k e. refl, tallied, accounted)
