-- The checks of a reservation, step by step, as the code comes to them.
use Rattle.std.proofs.Common.{◌≡◌, ℕ, ◌+◌, ◌<◌, ◌≤◌, Bool, true, false, leb, List, length, get_or, drop, Ok, Err, ap, ◌∙◌}
use Rattle.std.proofs.lemmas.List.{at_drop_more, at_drop_all}
use Rattle.std.proofs.lemmas.Bool.{le-leb, lt-leb}
use Rattle.plan.specs.Tables.{Table, load}
use Rattle.plan.specs.Reserving.{check, load_checked}
use Rattle.plan.specs.declared.refusal.PlanRefusal.TheVariants.{Overload}

module _ (t : Table) (slots : ℕ) (route : List ℕ) (i : ℕ) where
  step : (b : Bool) → leb (load t.flows (get_or route i 0) + slots) t.settings.frame ≡ b → i < length route → load_checked t slots (drop i route) ≡ check b (Overload (get_or route i 0)) (load_checked t slots (drop (i + 1) route))
  step b e l = at_drop_more (load_checked t slots) route i 0 l ∙ ap (λ b. check b (Overload (get_or route i 0)) (load_checked t slots (drop (i + 1) route))) e

  -- a channel that takes the slots, one that does not, and the end of the route
  pub load_passes : i < length route → load t.flows (get_or route i 0) + slots ≤ t.settings.frame → load_checked t slots (drop i route) ≡ load_checked t slots (drop (i + 1) route)
  load_passes l h = step true (le-leb _ _ h) l

  pub load_refuses : i < length route → t.settings.frame < load t.flows (get_or route i 0) + slots → load_checked t slots (drop i route) ≡ Err (Overload (get_or route i 0))
  load_refuses l h = step false (lt-leb _ _ h) l

  pub load_end : length route ≤ i → load_checked t slots (drop i route) ≡ Ok tt
  load_end l = at_drop_all (load_checked t slots) route i l
