-- What the searches of a slice answer of the list that it holds, and whether a list rises from a place on.
use Rattle.std.proofs.Common.{◌≡◌, ℕ, suc, ◌+◌, ◌-◌, ◌<◌, ◌≤◌, Bool, true, false, ◌&&◌, ltb, eqb, List, [], ◌∷◌, length, get_or, drop, sym, refl, ap, ◌∙◌, add-one, arith}
use Rattle.std.specs.List.{IsAnyAnswer, IsAllAdjacentAnswer}
use Rattle.std.proofs.lemmas.List.{drop_more, length-drop}
use Rattle.std.proofs.lemmas.Bool.{and_from, both_ways, lt-ltb}
use Rattle.std.proofs.lemmas.Bool.Decides.{same_from_decides, Decides-by_or, Decides-eqb}
use Rattle.std.proofs.lemmas.List.Elements.{contains_decides}
use Rattle.routes.specs.Channels.{rises, crosses}
use Rattle.routes.proofs.Crossings.{rises_at}

-- each is above the one before it, and one is not
rises_all : (cs : List ℕ) → ((k d : ℕ) → suc k < length cs → ltb (get_or cs k d) (get_or cs (suc k) d) ≡ true) → rises cs ≡ true
rises_all [] h = refl
rises_all (c ∷ []) h = refl
rises_all (c ∷ d ∷ cs) h = and_from (ltb c d) (rises (d ∷ cs)) (h 0 0 (omega arith)) (rises_all (d ∷ cs) (λ k e l. h (suc k) e (omega arith)))

rises_not : (cs : List ℕ) (k : ℕ) → k + 1 < length cs → ltb (get_or cs k 0) (get_or cs (k + 1) 0) ≡ false → (b : Bool) → rises cs ≡ b → b ≡ false
rises_not cs k l h true e = absurd (both_ways (ltb (get_or cs k 0) (get_or cs (k + 1) 0)) h (lt-ltb _ _ (rises_at cs k (k + 1) e (omega arith) l)))
rises_not cs k l h false e = refl

-- what `is_sorted_by` answers
pub sorted_rises : (cs : List ℕ) (r : Bool) → IsAllAdjacentAnswer (λ x y b. b ≡ ltb x y) cs r → r ≡ rises cs
sorted_rises cs true h = sym (rises_all cs (λ k d l. rw add-one at (sym (h k d (omega arith)))))
sorted_rises cs false h = let k : ℕ = h.0 in sym (rises_not cs k h.1 (sym (h.2 0)) (rises cs) refl)

-- what `contains` answers
pub contains_crosses : (cs : List ℕ) (c : ℕ) (r : Bool) → IsAnyAnswer (λ y t. eqb y c ≡ t) cs r → r ≡ crosses cs c
contains_crosses cs c r h =
    same_from_decides r (crosses cs c) (contains_decides eqb Decides-eqb cs c r h) (Decides-by_or (λ x. eqb x c) (λ x. x ≡ c) (λ xs. crosses xs c) (λ x. Decides-eqb x c) refl (λ _ _. refl) cs)

-- the neighbours at i - 1 and i
pub rises_more : (cs : List ℕ) (i : ℕ) → 1 ≤ i → i < length cs → rises (drop (i - 1) cs) ≡ (ltb (get_or cs (i - 1) 0) (get_or cs i 0) && rises (drop i cs))
rises_more cs i p l =
    let next : (i - 1) + 1 ≡ i = omega arith in
    let here = drop_more cs (i - 1) 0 (omega arith) ∙ ap (λ k. get_or cs (i - 1) 0 ∷ drop k cs) next in
    let there = drop_more cs i 0 l in
    ap rises here ∙ ap (λ t. rises (get_or cs (i - 1) 0 ∷ t)) there ∙ ap (λ t. ltb (get_or cs (i - 1) 0) (get_or cs i 0) && rises t) (sym there)

-- the same as a loop has it, where the two rise
pub rises_step : (cs : List ℕ) (i : ℕ) → 1 ≤ i → i < length cs → get_or cs (i - 1) 0 < get_or cs i 0 → rises (drop (i + 1 - 1) cs) ≡ rises (drop (i - 1) cs)
rises_step cs i p l h =
    let back : i + 1 - 1 ≡ i = omega arith in
    ap (λ k. rises (drop k cs)) back ∙ sym (rises_more cs i p l ∙ ap (λ b. b && rises (drop i cs)) (lt-ltb (get_or cs (i - 1) 0) (get_or cs i 0) h))

pub rises_end : (cs : List ℕ) (i : ℕ) → length cs ≤ i → rises (drop (i - 1) cs) ≡ true
rises_end cs i l = rises_all (drop (i - 1) cs) (λ k d m. absurd (omega (arith, length-drop (i - 1) cs)))
