-- Every table made by calls from a new plan is in order.
use Rattle.std.proofs.Common.{◌≡◌, ℕ, ◌<◌, Bool, true, false, cond, List, [], ◌∷◌, Ok, Err, Result, sym, refl, subst, ⊎_elim, arith}
use Rattle.std.proofs.lemmas.List.{length_push, get_or_push, get_or_append_left}
use Rattle.std.proofs.lemmas.Bool.{cases_lt}
use Rattle.plan.proofs.Admitted.{Admitted, admitted_is, still_loaded}
use Rattle.plan.proofs.Ranges.{within_parts}
use Rattle.plan.specs.Reserving.{new_table, set_table, reserve_table, admitted, joined, with_flow}
use Rattle.plan.specs.Settings.{settings_fit}
use Rattle.plan.specs.Tables.{Flow, Table}
use Rattle.plan.specs.declared.refusal.PlanRefusal.{PlanRefusal}
use Rattle.plan.specs.declared.setting.Settings.{Settings}
use Rattle.guarantee.specs.Calls.{PlanCall, set, reserve, plan_leaves, planned_from, planned}
use Rattle.guarantee.specs.Promises.{no_flow, flow, flow_count}
use Rattle.guarantee.proofs.Goods.{FlowOk, TableOk}

-- a new plan, and one that is set
emptied_ok : (s : Settings) → settings_fit s ≡ true → TableOk (record { settings = s; flows = [] })
emptied_ok s e = record { fit = e; few = omega arith; each = λ i l. absurd (omega arith); loads = λ c. omega arith }

set_ok : (t : Table) (s : Settings) → TableOk t → TableOk (set_table t s)
set_ok t s ok = go (settings_fit s) refl
  where
    go : (b : Bool) → settings_fit s ≡ b → TableOk (cond b (record { settings = s; flows = [] }) t)
    go true e = emptied_ok s e
    go false e = ok

-- the table with one admitted flow more
module _ (t : Table) (slots largest : ℕ) (route : List ℕ) (f : Flow) (h : Ok f ≡ admitted t slots largest route) (ok : TableOk t) where
  checked : Admitted t slots largest route f
  checked = admitted_is t slots largest route f h

  flow_ok : FlowOk t.settings.frame f
  flow_ok = subst (FlowOk t.settings.frame) (sym checked.is) (record {
    slots = within_parts 1 t.settings.frame slots checked.some_slots;
    largest = within_parts 1 64 largest checked.packet;
    routed = checked.routed;
  })

  each_ok : (i : ℕ) → i < flow_count (with_flow t f) → FlowOk t.settings.frame (flow (with_flow t f) i)
  each_ok i l = ⊎_elim
      (λ m. subst (FlowOk t.settings.frame) (sym (get_or_append_left t.flows (f ∷ []) no_flow i m)) (ok.each i m))
      (λ m. subst (FlowOk t.settings.frame) (sym (get_or_push t.flows f no_flow i (omega (arith, length_push t.flows f)))) flow_ok)
      (cases_lt i (flow_count t))

  joined_ok : TableOk (with_flow t f)
  joined_ok = record {
    fit = ok.fit;
    few = omega (arith, length_push t.flows f, checked.room);
    each = each_ok;
    loads = λ c. still_loaded t slots largest route f checked c (ok.loads c);
  }

reserve_ok : (t : Table) (slots largest : ℕ) (route : List ℕ) → TableOk t → TableOk (reserve_table t slots largest route)
reserve_ok t slots largest route ok = go (admitted t slots largest route) refl
  where
    go : (r : Result Flow PlanRefusal) → r ≡ admitted t slots largest route → TableOk (joined t r)
    go (Ok f) h = joined_ok t slots largest route f h ok
    go (Err e) h = ok

call_ok : (t : Table) (c : PlanCall) → TableOk t → TableOk (plan_leaves t c)
call_ok t (set s) ok = set_ok t s ok
call_ok t (reserve slots largest route) ok = reserve_ok t slots largest route ok

pub planned_from_ok : (cs : List PlanCall) (t : Table) → TableOk t → TableOk (planned_from t cs)
planned_from_ok [] t ok = ok
planned_from_ok (c ∷ cs) t ok = planned_from_ok cs (plan_leaves t c) (call_ok t c ok)

pub planned_ok : (cs : List PlanCall) → TableOk (planned cs)
planned_ok cs = planned_from_ok cs new_table (emptied_ok new_table.settings refl)
