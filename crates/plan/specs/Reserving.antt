-- Setting a plan and reserving on it: what is answered, and the table that is left.
use Rattle.std.specs.Prelude.{ℕ, ◌+◌, Bool, cond, List, [], ◌∷◌, ◌++◌, length, Ok, Err, Result, nat_le, nat_lt}
use Rattle.routes.specs.Channels.{within}
use Rattle.plan.specs.Refusals.{as_plan_refusal}
use Rattle.routes.specs.Routes.{route_checked}
use Rattle.plan.specs.Settings.{settings_fit, new_settings}
use Rattle.plan.specs.Tables.{Flow, Table, load}
use Rattle.plan.specs.declared.setting.Settings as settings
use Rattle.routes.specs.declared.path.checks.RouteRefusal.{RouteRefusal}
use Rattle.plan.specs.declared.refusal.PlanRefusal.{PlanRefusal}
use Rattle.plan.specs.declared.refusal.PlanRefusal.TheVariants.{Settings, TableFull, Slots, Packet, Overload}

-- a new plan: the smallest settings, no flows
abbrev pub new_table : Table
new_table = record { settings = new_settings; flows = [] }

-- settings are taken exactly when each is in its range
abbrev pub set_answer : settings.Settings → Result (Unit {0}) PlanRefusal
set_answer s = cond (settings_fit s) (Ok tt) (Err Settings)

-- taken, they empty the plan; refused, they leave it
abbrev pub set_table : Table → settings.Settings → Table
set_table t s = cond (settings_fit s) (record { settings = s; flows = [] }) t

-- a check that passes or refuses
abbrev pub check : Bool → PlanRefusal → Result (Unit {0}) PlanRefusal → Result (Unit {0}) PlanRefusal
check passes refusal next = cond passes next (Err refusal)

-- room in the table, then slots from 1 to a frame, then a largest packet of 1 to 64 flits
abbrev pub terms_checked : Table → ℕ → ℕ → Result (Unit {0}) PlanRefusal
terms_checked t slots largest =
    check (nat_lt (length t.flows) 64) TableFull
    (check (within 1 t.settings.frame slots) Slots
    (check (within 1 64 largest) Packet (Ok tt)))

-- each channel in turn: its load and the slots together are at most a frame, or it is told
abbrev pub load_checked : Table → ℕ → List ℕ → Result (Unit {0}) PlanRefusal
load_checked t slots [] = Ok tt
load_checked t slots (c ∷ cs) = check (nat_le (load t.flows c + slots) t.settings.frame) (Overload c) (load_checked t slots cs)

-- what follows where a check passes
abbrev pub and_then : Result (Unit {0}) PlanRefusal → Result Flow PlanRefusal → Result Flow PlanRefusal
and_then (Ok _) next = next
and_then (Err e) next = Err e

abbrev pub of_route : Result (Unit {0}) RouteRefusal → Result (Unit {0}) PlanRefusal
of_route (Ok _) = Ok tt
of_route (Err e) = Err (as_plan_refusal e)

-- the checks of a reservation, in their order, and the flow that passes them all
abbrev pub admitted : Table → ℕ → ℕ → List ℕ → Result Flow PlanRefusal
admitted t slots largest route =
    and_then (terms_checked t slots largest)
    (and_then (of_route (route_checked route))
    (and_then (load_checked t slots route)
    (Ok (record { slots = slots; largest = largest; route = route }))))

-- the table with one flow more
abbrev pub with_flow : Table → Flow → Table
with_flow t f = record { settings = t.settings; flows = t.flows ++ f ∷ [] }

-- a reservation answers the number of its flow, which counts the flows before it
abbrev pub numbered : Table → Result Flow PlanRefusal → Result ℕ PlanRefusal
numbered t (Ok f) = Ok (length t.flows)
numbered t (Err e) = Err e

abbrev pub reserve_answer : Table → ℕ → ℕ → List ℕ → Result ℕ PlanRefusal
reserve_answer t slots largest route = numbered t (admitted t slots largest route)

-- and adds the flow behind them; refused, it leaves the table
abbrev pub joined : Table → Result Flow PlanRefusal → Table
joined t (Ok f) = with_flow t f
joined t (Err e) = t

abbrev pub reserve_table : Table → ℕ → ℕ → List ℕ → Table
reserve_table t slots largest route = joined t (admitted t slots largest route)
