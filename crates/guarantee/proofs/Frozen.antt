-- The figures of a plan.
use Rattle.std.proofs.Common.{◌≡◌, ℕ, ◌+◌, ◌*◌, ◌<◌, ◌≤◌, arith}
use Rattle.std.proofs.lemmas.Nat.{mul-le}
use Rattle.std.proofs.lemmas.List.{get_or_default}
use Rattle.plan.specs.Tables.{Table, SoundTable}
use Rattle.plan.specs.Sheets.{crossings}
use Rattle.plan.proofs.Figures.{crossings_bounded}
use Rattle.plan.proofs.Ranges.{ranged_at, routed_at, window_range}
use Rattle.guarantee.specs.Promises.{flow, flow_count, no_flow}
use Rattle.guarantee.proofs.Goods.{FlowOk, TableOk}

module _ (t : Table) (sound : SoundTable t) where
  -- the figures fit their type
  pub short_delivery : (window needed lag : ℕ) → window ≡ t.settings.window → needed ≡ crossings t.flows → lag ≤ 4194304 → window * (needed + lag) ≤ 67624960
  short_delivery window needed lag w x l =
      mul-le window (needed + lag) 8 8453120 (omega (arith, w, window_range t.settings sound.set)) (omega (arith, x, l, crossings_bounded t sound))

  -- the table of a plan is in order
  flow_ok : (i : ℕ) → i < flow_count t → FlowOk t.settings.frame (flow t i)
  flow_ok i l =
      let r = ranged_at t.settings.frame t.flows i (flow t i) sound.ranges l (get_or_default t.flows i no_flow (flow t i) l) in
      record { slots = (r.some_slots, r.most_slots); largest = (r.some_flits, r.most_flits); routed = routed_at t.flows i no_flow sound.routed l }

  pub table_ok : TableOk t
  table_ok = record { fit = sound.set; few = sound.few; each = flow_ok; loads = sound.loads }
