use Rattle.std.proofs.Common.{◌≡◌, ℕ, suc, Bool, List, [], ◌∷◌, length, Some, Option, refl, ap, ◌∙◌, lit<}
use Rattle.std.proofs.lemmas.List.{length-set}
use Rattle.folds.specs.Filled.{list_up}
use Rattle.folds.specs.Firsts.{first_up, first_of}
use Rattle.folds.specs.Orders.{rising, moved_to_end}
use Rattle.arbiters.specs.Edges.{RoundOfTwo, RecencyOfTwo}
use Rattle.arbiters.specs.FlowSets.{has}
use Rattle.arbiters.specs.Recency.{order_of, order_granted, fresh_recency, recent_choice, recent_granted}
use Rattle.arbiters.specs.Rounds.{next_after, fresh_round, round_choice, round_granted}
use Rattle.arbiters.specs.Servings.{flows_of, served, servings}
use Rattle.arbiters.proofs.Rules.{round_rule, round_told, recency_rule, recency_told, recency_from}

-- one answer after the other
serving : {A : Type 0} (choice : A → ℕ → List Bool → Option ℕ) (granted : A → ℕ → ℕ → A) (a : A) (c : ℕ) (s : List Bool) (n : ℕ) (o : Option ℕ) →
    choice a c s ≡ o → servings choice granted a c s (suc n) ≡ o ∷ servings choice granted (served granted a c o) c s n
serving choice granted a c s n o e = ap (λ x. x ∷ servings choice granted (served granted a c x) c s n) e

abbrev zero_five : List Bool
zero_five = flows_of (0 ∷ 5 ∷ [])

after_last : next_after 63 zero_five ≡ Some 0
unfolding first_up
after_last = refl

after_zero : next_after 0 zero_five ≡ Some 5
unfolding first_up
after_zero = refl

after_five : next_after 5 zero_five ≡ Some 0
unfolding first_up
after_five = refl

pub round_of_two : RoundOfTwo
round_of_two c l =
    let a = round_granted fresh_round c 0 in
    let n : length a.last ≡ 320 = ap (λ r. length r.last) (round_told fresh_round c 0 l (lit< tt)) ∙ length-set fresh_round.last c 0 in
    let ask = serving round_choice round_granted in
    ask fresh_round c zero_five 2 (Some 0) (round_rule.fresh c zero_five l ∙ after_last)
    ∙ ap (λ t. Some 0 ∷ t)
    (
    ask a c zero_five 1 (Some 5) (round_rule.last fresh_round c 0 zero_five refl l (lit< tt) ∙ after_zero)
    ∙ ap (λ t. Some 5 ∷ t) (ask (round_granted a c 5) c zero_five 0 (Some 0) (round_rule.last a c 5 zero_five n l (lit< tt) ∙ after_five))
    )

abbrev zero_one : List Bool
zero_one = flows_of (0 ∷ 1 ∷ [])

at_first : first_of (has zero_one) (rising 64) ≡ Some 0
unfolding first_of list_up
at_first = refl

zero_moved : first_of (has zero_one) (moved_to_end 0 (rising 64)) ≡ Some 1
unfolding first_of list_up
zero_moved = refl

both_moved : first_of (has zero_one) (moved_to_end 1 (moved_to_end 0 (rising 64))) ≡ Some 0
unfolding first_of list_up
both_moved = refl

pub recency_of_two : RecencyOfTwo
recency_of_two c l =
    let a = recent_granted fresh_recency c 0 in
    let n : length a.orders ≡ 320 =
    ap (λ r. length r.orders) (recency_told fresh_recency c 0 l (lit< tt)) ∙ length-set fresh_recency.orders c (order_granted (order_of fresh_recency c) 0) in
    let first = recency_rule.fresh c l in
    let second : (order_of a c).flows ≡ moved_to_end 0 (rising 64) = recency_rule.moved fresh_recency c 0 refl l (lit< tt) ∙ ap (moved_to_end 0) first in
    let third = recency_rule.moved a c 1 n l (lit< tt) ∙ ap (moved_to_end 1) second in
    let ask = serving recent_choice recent_granted in
    ask fresh_recency c zero_one 2 (Some 0) (recency_from fresh_recency c (rising 64) zero_one l first ∙ at_first)
    ∙ ap (λ t. Some 0 ∷ t)
    (
    ask a c zero_one 1 (Some 1) (recency_from a c (moved_to_end 0 (rising 64)) zero_one l second ∙ zero_moved)
    ∙ ap (λ t. Some 1 ∷ t)
    (ask (recent_granted a c 1) c zero_one 0 (Some 0) (recency_from (recent_granted a c 1) c (moved_to_end 1 (moved_to_end 0 (rising 64))) zero_one l third ∙ both_moved))
    )
