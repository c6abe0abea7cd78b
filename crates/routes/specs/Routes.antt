-- The checks of a route, in their order.
use Rattle.std.specs.Prelude.{ℕ, cond, List, Ok, Err, codes, Result}
use Rattle.routes.specs.Channels.{few_hops, known, rises}
use Rattle.routes.specs.declared.path.checks.RouteRefusal.{RouteRefusal}
use Rattle.routes.specs.declared.path.checks.RouteRefusal.TheVariants.{Length, UnknownChannel, NotRising}

-- the number under which callers know a refusal
abbrev pub route_refusal_number : RouteRefusal → ℕ
route_refusal_number Length = 5
route_refusal_number UnknownChannel = 6
route_refusal_number NotRising = 7

-- and its text
abbrev pub route_refusal_text : RouteRefusal → List ℕ
route_refusal_text Length = codes "a route has 1 to 16 channels"
route_refusal_text UnknownChannel = codes "channels go from 0 to 319"
route_refusal_text NotRising = codes "the numbers of a route rise"

-- the checks of a route, in their order
abbrev pub route_checked : List ℕ → Result (Unit {0}) RouteRefusal
route_checked cs = cond (few_hops cs) (cond (known cs) (cond (rises cs) (Ok tt) (Err NotRising)) (Err UnknownChannel)) (Err Length)

abbrev pub with_channels : List ℕ → Result (Unit {0}) RouteRefusal → Result (List ℕ) RouteRefusal
with_channels cs (Ok _) = Ok cs
with_channels cs (Err e) = Err e

-- a list that passes is a route over its channels
abbrev pub route_answer : List ℕ → Result (List ℕ) RouteRefusal
route_answer cs = with_channels cs (route_checked cs)
