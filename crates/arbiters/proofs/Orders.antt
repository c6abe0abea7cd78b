use mathlib.Core.HLevel.{is_prop→PathP, Π_prop}
use Rattle.std.proofs.Common.{◌≡◌, ℕ, zero, suc, ◌+◌, ◌-◌, ◌<◌, ◌≤◌, Bool, true, false, cond, not, eqb, List, [], ◌∷◌, ◌++◌, length, get_or, set, take, drop, replicate, sym, refl, ap, ◌∙◌, append_assoc, arith}
use native.Mathlib.Nat.{ℕ_set}
use borrow.Rule.Slice.PartMut.{put_mid, mid_of}
use Rattle.std.specs.List.{remove, AllWithin}
use Rattle.std.proofs.lemmas.Bool.{eq-eqb, ne_eqb}
use Rattle.std.proofs.lemmas.List.{same_lists, set_at}
use Rattle.std.proofs.lemmas.Slice.{put_mid-rotated}
use Rattle.folds.specs.Orders.{EachOnce, count, rising, without, moved_to_end}
use Rattle.folds.proofs.Counts.{more_left}
use Rattle.folds.proofs.Filled.{length_up}
use Rattle.folds.proofs.Ups.{getD_up}
use Rattle.arbiters.specs.declared.order.Order.{Order}

-- orders of the same flows are the same: what the ghost field says has one proof
pub same_order : (a b : Order) → a.flows ≡ b.flows → a ≡ b
same_order a b p = λ i. record {
  flows = p i;
  ok = is_prop→PathP (λ i. EachOnce 64 (p i)) (λ i. Π_prop (λ f. Π_prop (λ l. ℕ_set _ _))) a.ok b.ok i;
}

-- one more of the places that still hold f is written
pub written_more : (f x n : ℕ) (front : List ℕ) → n < 64 → length front ≡ n →
    set (front ++ replicate (64 - n) f) n x ≡ (front ++ x ∷ []) ++ replicate (64 - (n + 1)) f
written_more f x n front l h =
    ap (λ k. set (front ++ replicate k f) n x) (more_left n 64 l)
    ∙ set_at front f (replicate (64 - (n + 1)) f) x n h
    ∙ sym (append_assoc front (x ∷ []) (replicate (64 - (n + 1)) f))

-- at each place its own number
pub rising_is : (xs : List ℕ) (n : ℕ) → length xs ≡ n → ((k d : ℕ) → k < n → get_or xs k d ≡ k) → xs ≡ rising n
rising_is xs n e h =
    same_lists xs (rising n) (e ∙ sym (length_up (λ k. k) 0 n))
    (λ k d l. let m : k < n = omega arith in h k d m ∙ sym (getD_up (λ k. k) n k d m))

-- a number that does not stand there can be left out
absent_by : (f x : ℕ) (xs : List ℕ) (b : Bool) → (count f xs ≡ 0 → without f xs ≡ xs) → cond b 1 0 + count f xs ≡ 0 → cond (not b) (x ∷ without f xs) (without f xs) ≡ x ∷ xs
absent_by f x xs true ih h = absurd (omega arith)
absent_by f x xs false ih h = ap (λ ys. x ∷ ys) (ih (omega arith))

without_absent : (f : ℕ) (xs : List ℕ) → count f xs ≡ 0 → without f xs ≡ xs
without_absent f [] h = refl
without_absent f (x ∷ xs) h = absent_by f x xs (eqb x f) (without_absent f xs) h

count_at : (f : ℕ) (xs : List ℕ) (i : ℕ) → i < length xs → get_or xs i 0 ≡ f → 1 ≤ count f xs
count_at f [] i l e = absurd (omega arith)
count_at f (x ∷ xs) zero l e = omega (arith, ap {B = ℕ} (λ b. cond b 1 0) (eq-eqb x f e))
count_at f (x ∷ xs) (suc i) l e = omega (arith, count_at f xs i (omega arith) e)

-- the place of a number that stands there once taken out: the order without it
once_by : (f x : ℕ) (xs : List ℕ) (i : ℕ) (b : Bool) → (count f xs ≡ 1 → remove xs i ≡ without f xs) → 1 ≤ count f xs → cond b 1 0 + count f xs ≡ 1 →
    x ∷ remove xs i ≡ cond (not b) (x ∷ without f xs) (without f xs)
once_by f x xs i true ih m h = absurd (omega arith)
once_by f x xs i false ih m h = ap (λ ys. x ∷ ys) (ih (omega arith))

pub remove_once : (f : ℕ) (xs : List ℕ) (i : ℕ) → i < length xs → get_or xs i 0 ≡ f → count f xs ≡ 1 → remove xs i ≡ without f xs
remove_once f [] i l e h = absurd (omega arith)
remove_once f (x ∷ xs) zero l e h =
    let b = eq-eqb x f e in
    sym
    (
    ap (λ b. cond (not b) (x ∷ without f xs) (without f xs)) b
    ∙ without_absent f xs (omega (arith, h, ap {B = ℕ} (λ b. cond b 1 0) b))
    )
remove_once f (x ∷ xs) (suc i) l e h =
    once_by f x xs i (eqb x f) (remove_once f xs i (omega arith) e) (count_at f xs i (omega arith) e) h

-- the flows from that place on turned left by one: the flow moved to the end
pub turned_is : (f : ℕ) (xs ys : List ℕ) (i k : ℕ) → count f xs ≡ 1 → i < length xs → get_or xs i 0 ≡ f → length xs ≤ i + k → ys ≡ drop 1 (mid_of i k xs) ++ take 1 (mid_of i k xs) →
    put_mid i k xs ys ≡ moved_to_end f xs
turned_is f xs ys i k h l e m q =
    put_mid-rotated i k xs ys 0 l m q ∙ ap (λ zs. zs ++ get_or xs i 0 ∷ []) (remove_once f xs i l e h) ∙ ap (λ x. without f xs ++ x ∷ []) e

-- what is moved to the end stands there: to write it there once more changes nothing
pub last_again : (f n : ℕ) (xs : List ℕ) → length (without f xs) ≡ n → set (moved_to_end f xs) n f ≡ moved_to_end f xs
last_again f n xs l = set_at (without f xs) f [] f n l

-- a number that no place holds does not stand there
pub count_none : (f : ℕ) (xs : List ℕ) → AllWithin (λ x. x ≡ f → ⊥) xs 0 (length xs) → count f xs ≡ 0
count_none f [] none = refl
count_none f (x ∷ xs) none =
    omega (
      arith,
      ap {B = ℕ} (λ b. cond b 1 0) (ne_eqb x f (none 0 0 (omega arith) (omega arith))),
      count_none f xs (λ k d l m. none (suc k) d (omega arith) (omega arith)),
    )
