-- Lists of calls on a plan and on the network that is started from it, and what comes of them.
use Rattle.std.specs.Prelude.{ℕ, zero, suc, Bool, cond, List, [], ◌∷◌, ◌++◌, Ok, Err, Result}
use Rattle.arbiters.specs.declared.arbiter.Arbiter as arbiter
use Rattle.clocks.specs.declared.clock.WindowClock as clock
use Rattle.lanes.specs.declared.flits.Flit.{Flit}
use Rattle.plan.specs.Reserving.{new_table, set_table, reserve_table}
use Rattle.plan.specs.Tables.{Table}
use Rattle.plan.specs.declared.setting.Settings.{Settings}
use Rattle.running.specs.Cycles.{Run, started_run, offered_run, run_over, shifts_now, delivered_now, cycled, cycle_leaves}
use Rattle.running.specs.Offers.{offer_answer}
use Rattle.running.specs.Runs.{cycles_made, run_leaves}
use Rattle.running.specs.declared.refusal.RunRefusal.{RunRefusal}

-- a call on a plan: it is set, or a flow of so many slots, a largest packet and a route is reserved
pub data PlanCall : Type 0 where
  set : Settings → PlanCall
  reserve : ℕ → ℕ → List ℕ → PlanCall

abbrev pub plan_leaves : Table → PlanCall → Table
plan_leaves t (set s) = set_table t s
plan_leaves t (reserve slots largest route) = reserve_table t slots largest route

-- the table that a list of calls leaves in a plan
abbrev pub planned_from : Table → List PlanCall → Table
planned_from t [] = t
planned_from t (c ∷ cs) = planned_from (plan_leaves t c) cs

-- in a new plan
abbrev pub planned : List PlanCall → Table
planned cs = planned_from new_table cs

-- a call on a network: a flow offers a packet of so many flits, a cycle, a bounded run with its allowance
pub data Call : Type 0 where
  offer : ℕ → ℕ → Call
  cycle : Call
  run : ℕ → Call

-- what comes of a call: a flow's packet of so many flits is accepted into a frame, a flow's packet is refused, a cycle is made (the
-- window shifted or not, and these flits were delivered), a cycle is refused
pub data Event : Type 0 where
  accepted : ℕ → ℕ → ℕ → Event
  refused : ℕ → RunRefusal → Event
  cycled_once : Bool → List Flit → Event
  not_made : Event

abbrev pub offer_event : ℕ → ℕ → Result ℕ RunRefusal → Event
offer_event i size (Ok frame) = accepted i size frame
offer_event i size (Err refusal) = refused i refusal

module _ {A C : Type 0} (arbiters : arbiter.Ghosts A) (clocks : clock.Ghosts C) where
  -- the network just started from a table, with its arbiter and its clock
  abbrev pub start : Table → A → C → Run A C
  start t a c = started_run t a c

  -- a cycle that is made
  abbrev pub cycle_event : Run A C → Event
  cycle_event r = cycled_once (shifts_now arbiters clocks r) (delivered_now arbiters clocks r)

  -- so many cycles
  unfoldable pub cycle_events : ℕ → Run A C → List Event
  cycle_events zero r = []
  cycle_events (suc n) r = cycle_event r ∷ cycle_events n (cycled arbiters clocks r)

  -- what comes of a call
  abbrev pub events_of : Run A C → Call → List Event
  events_of r (offer i size) = offer_event i size (offer_answer r.net i size) ∷ []
  events_of r cycle = cond (run_over r.net) (not_made ∷ []) (cycle_event r ∷ [])
  events_of r (run n) = cycle_events (cycles_made arbiters clocks n r) r

  -- what it leaves
  abbrev pub leaves : Run A C → Call → Run A C
  leaves r (offer i size) = offered_run r i size
  leaves r cycle = cycle_leaves arbiters clocks r
  leaves r (run n) = run_leaves arbiters clocks n r

  -- what comes of a list of calls, each made on what the one before left
  abbrev pub events : Run A C → List Call → List Event
  events r [] = []
  events r (c ∷ cs) = events_of r c ++ events (leaves r c) cs

  -- what the list leaves
  abbrev pub after : Run A C → List Call → Run A C
  after r [] = r
  after r (c ∷ cs) = after (leaves r c) cs
