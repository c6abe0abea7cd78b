-- The number under which callers know each refusal of a plan.
use Rattle.std.specs.Prelude.{ℕ, List, ◌++◌, codes, decimal}
use Rattle.routes.specs.Routes.{route_refusal_number, route_refusal_text}
use Rattle.routes.specs.declared.path.checks.RouteRefusal.{RouteRefusal}
use Rattle.plan.specs.declared.refusal.PlanRefusal.{PlanRefusal}
use Rattle.plan.specs.declared.refusal.PlanRefusal.TheVariants.{Settings, TableFull, Slots, Packet, Route, Overload}

abbrev pub plan_refusal_number : PlanRefusal → ℕ
plan_refusal_number Settings = 1
plan_refusal_number TableFull = 2
plan_refusal_number Slots = 3
plan_refusal_number Packet = 4
plan_refusal_number (Route r) = route_refusal_number r
plan_refusal_number (Overload channel) = 8

-- and its text
abbrev pub plan_refusal_text : PlanRefusal → List ℕ
plan_refusal_text Settings = codes "a setting is out of range"
plan_refusal_text TableFull = codes "all 64 rows are taken"
plan_refusal_text Slots = codes "a flow has 1 slot to a frame's slots"
plan_refusal_text Packet = codes "a largest packet has 1 to 64 flits"
plan_refusal_text (Route r) = route_refusal_text r
plan_refusal_text (Overload channel) = codes "channel " ++ (decimal channel ++ codes " would pass a frame's slots")

-- a route's refusal, as the plan passes it on
abbrev pub as_plan_refusal : RouteRefusal → PlanRefusal
as_plan_refusal r = Route r
