-- Where a flit is held, in the frame it was accepted into: at its source, or in a buffer for that frame.
use Rattle.std.proofs.Common.{◌≡◌, ℕ, zero, suc, ◌+◌, ◌-◌, ◌<◌, ◌≤◌, Bool, true, false, ◌&&◌, ◌||◌, eqb, ◌⊎◌, List, [], ◌∷◌, ◌++◌, length, get_or, take, drop, set, sum, sym, refl, ap, ◌∙◌, inl, inr, ⊎_elim, add-one, arith}
use Rattle.std.proofs.lemmas.List.{get_or-drop, get_or_past, take_all, take-set-le}
use Rattle.std.proofs.lemmas.List.Sums.{sum_by-cons, sum_by_more, sum_by-take-drop}
use Rattle.std.proofs.lemmas.Bool.{both_ways, cases_eq, cases_lt, cases_order, or_cases, or_left, or_right}
use Rattle.lanes.specs.declared.flits.Flit.{Flit}
use Rattle.sources.specs.Lines.{Line}
use Rattle.running.specs.Nets.{Net, line}
use Rattle.guarantee.specs.Counts.{has_flit}

-- the flit of that number waits for the k-th open frame: those of earlier frames leave before it, those of this frame after them
abbrev pub Waits : Line → ℕ → ℕ → Type 0
Waits l k num = (l.sent + sum (take k l.waiting) ≤ num) × (num < l.sent + sum (take (k + 1) l.waiting))

-- flow i's flit of that number is held in the frame f: it waits for it, or lies in a buffer for it
abbrev pub Holds : Net → ℕ → ℕ → ℕ → Type 0
Holds n i num f = (k : ℕ) × (f ≡ n.head + k) × (Waits (line n i) k num ⊎ ((c : ℕ) × (has_flit i num (n.lane c k) ≡ true)))

-- a flit among others is among more
has_left_by : (b c d : Bool) → (c ≡ true → d ≡ true) → (b || c) ≡ true → (b || d) ≡ true
has_left_by true c d h e = refl
has_left_by false c d h e = h e

pub has_left : (i num : ℕ) (xs ys : List Flit) → has_flit i num xs ≡ true → has_flit i num (xs ++ ys) ≡ true
has_left i num [] ys e = absurd (both_ways true (sym e) refl)
has_left i num (x ∷ xs) ys e =
    has_left_by (eqb x.flow i && eqb x.number num) (has_flit i num xs) (has_flit i num (xs ++ ys)) (has_left i num xs ys) e

pub has_right : (i num : ℕ) (xs ys : List Flit) → has_flit i num ys ≡ true → has_flit i num (xs ++ ys) ≡ true
has_right i num [] ys e = e
has_right i num (x ∷ xs) ys e =
    or_right (eqb x.flow i && eqb x.number num) (has_flit i num (xs ++ ys)) (has_right i num xs ys e)

-- the front, or one behind it
pub has_front : (i num : ℕ) (x : Flit) (xs : List Flit) → has_flit i num (x ∷ xs) ≡ true →
    (has_flit i num (x ∷ []) ≡ true) ⊎ (has_flit i num xs ≡ true)
has_front i num x xs e =
    ⊎_elim (λ h. inl (or_left (eqb x.flow i && eqb x.number num) false h)) (λ h. inr h)
    (or_cases (eqb x.flow i && eqb x.number num) (has_flit i num xs) e)

-- the sum of the first counts of a list, one count more
pub up_next : (xs : List ℕ) (k : ℕ) → sum (take (k + 1) xs) ≡ sum (take k xs) + get_or xs k 0
up_next xs k =
    ⊎_elim (λ l. sum_by_more (λ n. n) xs k 0 l)
    (λ l. omega (arith, ap sum (take_all (k + 1) xs (omega arith)), ap sum (take_all k xs l), get_or_past xs k 0 l))
    (cases_lt k (length xs))

-- with another count at a place among them, or at a later place
pub up_set : (xs : List ℕ) (k j v : ℕ) → j < k → j < length xs → sum (take k (set xs j v)) + get_or xs j 0 ≡ sum (take k xs) + v
up_set [] k j v l m = absurd (omega arith)
up_set (x ∷ xs) zero j v l m = absurd (omega arith)
up_set (x ∷ xs) (suc k) zero v l m = omega (arith, sum_by-cons (λ n. n) v (take k xs), sum_by-cons (λ n. n) x (take k xs))
up_set (x ∷ xs) (suc k) (suc j) v l m =
    omega (arith, sum_by-cons (λ n. n) x (take k (set xs j v)), sum_by-cons (λ n. n) x (take k xs), up_set xs k j v (omega arith) (omega arith))

pub up_later : (xs : List ℕ) (k j v : ℕ) → k ≤ j → sum (take k (set xs j v)) ≡ sum (take k xs)
up_later xs k j v l = ap sum (take-set-le k xs j v l)

-- a place with a count is one of the list
place_inside : (xs : List ℕ) (k : ℕ) → 0 < get_or xs k 0 → k < length xs
place_inside xs k l = ⊎_elim (λ h. h) (λ h. absurd (omega (arith, get_or_past xs k 0 h))) (cases_lt k (length xs))

-- where the counts are 0, the sum is
zeros_before : (xs : List ℕ) (k : ℕ) → ((j : ℕ) → j < k → get_or xs j 0 ≡ 0) → sum (take k xs) ≡ 0
zeros_before xs zero z = refl
zeros_before xs (suc k) z =
    omega (arith, ap (λ m. sum (take m xs)) (add-one k), up_next xs k, zeros_before xs k (λ j l. z j (omega arith)), z k (omega arith))

zeros : (xs : List ℕ) → ((j : ℕ) → get_or xs j 0 ≡ 0) → sum xs ≡ 0
zeros [] z = refl
zeros (x ∷ xs) z = omega (arith, sum_by-cons (λ n. n) x xs, z 0, zeros xs (λ j. z (suc j)))

pub zeros_behind : (xs : List ℕ) (p : ℕ) → ((k : ℕ) → p < k → get_or xs k 0 ≡ 0) → sum (take (p + 1) xs) ≡ sum xs
zeros_behind xs p z =
    omega (
      arith,
      sum_by-take-drop (λ n. n) xs (p + 1),
      zeros (drop (p + 1) xs) (λ j. get_or-drop (p + 1) xs j 0 ∙ z (p + 1 + j) (omega arith)),
    )

-- the list without its first count, and a 0 behind it
last_none : (xs : List ℕ) (k : ℕ) → sum (take k (xs ++ 0 ∷ [])) ≡ sum (take k xs)
last_none xs zero = refl
last_none [] (suc zero) = refl
last_none [] (suc (suc k)) = refl
last_none (x ∷ xs) (suc k) = omega (arith, sum_by-cons (λ n. n) x (take k (xs ++ 0 ∷ [])), sum_by-cons (λ n. n) x (take k xs), last_none xs k)

pub up_moved : (xs : List ℕ) (k : ℕ) → get_or xs 0 0 ≡ 0 → sum (take k (drop 1 xs ++ 0 ∷ [])) ≡ sum (take (suc k) xs)
up_moved [] k z = last_none [] k ∙ ap sum (take_all k [] (omega arith))
up_moved (x ∷ xs) k z = omega (arith, last_none xs k, sum_by-cons (λ n. n) x (take k xs))

-- the first of those that wait leaves, from the place a: it is that one, or it still waits
module _ (w : List ℕ) (s a : ℕ) (below : (j : ℕ) → j < a → get_or w j 0 ≡ 0) (some : 0 < get_or w a 0) where
  abbrev fewer : List ℕ
  fewer = set w a (get_or w a 0 - 1)

  inside : a < length w
  inside = place_inside w a some

  left_by_order : (k num : ℕ) → s + sum (take k w) ≤ num → num < s + sum (take (k + 1) w) → ((k ≡ a) ⊎ ((k < a) ⊎ (a < k))) →
      ((num ≡ s) × (k ≡ a)) ⊎ ((s + 1 + sum (take k fewer) ≤ num) × (num < s + 1 + sum (take (k + 1) fewer)))
  left_by_order k num low high (inl e) =
      let before : sum (take k fewer) ≡ sum (take k w) = up_later w k a (get_or w a 0 - 1) (omega arith) in
      let first : sum (take k w) ≡ 0 = zeros_before w k (λ j l. below j (omega arith)) in
      let here : sum (take (k + 1) fewer) + get_or w a 0 ≡ sum (take (k + 1) w) + (get_or w a 0 - 1) = up_set w (k + 1) a (get_or w a 0 - 1) (omega arith) inside in
      ⊎_elim (λ q. inl (q, e)) (λ ne. inr (omega arith, omega arith)) (cases_eq num s)
  left_by_order k num low high (inr (inl l)) = absurd (omega (arith, below k l, up_next w k))
  left_by_order k num low high (inr (inr l)) =
      let before : sum (take k fewer) + get_or w a 0 ≡ sum (take k w) + (get_or w a 0 - 1) = up_set w k a (get_or w a 0 - 1) l inside in
      let here : sum (take (k + 1) fewer) + get_or w a 0 ≡ sum (take (k + 1) w) + (get_or w a 0 - 1) = up_set w (k + 1) a (get_or w a 0 - 1) (omega arith) inside in
      inr (omega arith, omega arith)

  pub left_waits : (k num : ℕ) → s + sum (take k w) ≤ num → num < s + sum (take (k + 1) w) →
      ((num ≡ s) × (k ≡ a)) ⊎
      ((s + 1 + sum (take k (set w a (get_or w a 0 - 1))) ≤ num) × (num < s + 1 + sum (take (k + 1) (set w a (get_or w a 0 - 1)))))
  left_waits k num low high = left_by_order k num low high (cases_order k a)
