-- What a flit that leaves and a shift of the window leave at a source.
use Rattle.std.proofs.Common.{◌≡◌, ℕ, zero, suc, ◌+◌, ◌-◌, ◌*◌, ◌<◌, ◌≤◌, Bool, true, false, cond, eqb, ◌≢◌, ◌⊎◌, List, [], ◌∷◌, ◌++◌, length, get_or, set, drop, take, pos, ◌+ℤ◌, ◌≤ℤ◌, Some, sum, sym, refl, ap, ◌∙◌, subst, inl, inr, add-mul, one-mul, arith}
use Rattle.std.proofs.lemmas.List.{get_or-set_other, get_or-drop, get_or_append_left, get_or-append_right, length-append, length-drop, length-set}
use Rattle.std.proofs.lemmas.Int.{ints}
use Rattle.std.proofs.lemmas.List.Sums.{sum_by-set, sum_by_push, sum_by-drop_more}
use Rattle.std.proofs.lemmas.Bool.{cases_eq, cases_lt}
use Rattle.accounts.specs.Ledgers.{Ledger, Sound}
use Rattle.accounts.specs.Shifts.{shifted, capped, next_head, pushed_on}
use Rattle.sources.specs.Lines.{Line, without_first}
use Rattle.sources.specs.Sources.{SoundLine}

-- the source after a flit at the place j has left
module _ {l : Line} (ok : SoundLine l) (j : ℕ) (in_places : j < 8) (some : 0 < get_or l.waiting j 0) where
  abbrev fewer : List ℕ
  fewer = set l.waiting j (get_or l.waiting j 0 - 1)

  other : (k : ℕ) → l.ledger.frame < l.ledger.head + k → ((k ≡ j) ⊎ (k ≡ j → ⊥)) → get_or fewer k 0 ≡ 0
  other k h (inl e) = absurd (let z : get_or l.waiting j 0 ≡ 0 = subst (λ i. get_or l.waiting i 0 ≡ 0) e (ok.ordered k h) in omega arith)
  other k h (inr d) = let ne : k ≢ j = d in get_or-set_other l.waiting j k (get_or l.waiting j 0 - 1) 0 ne ∙ ok.ordered k h

  pub left_sound : SoundLine (without_first l (Some j))
  left_sound = record {
    sound = ok.sound;
    routed = ok.routed;
    sized = length-set l.waiting _ _ ∙ ok.sized;
    counted = omega (arith, sum_by-set (λ n. n) l.waiting j (get_or l.waiting j 0 - 1) 0 (omega (arith, ok.sized)), ok.counted);
    ordered = λ k h. other k h (cases_eq k j);
    owed = ok.owed;
    arrived = omega (arith, ok.arrived);
  }

-- a list of some items without its first, which is 0, and that one behind them
pub turned : (xs : List ℕ) → 0 < length xs → get_or xs 0 0 ≡ 0 → drop 1 xs ++ take 1 xs ≡ drop 1 xs ++ 0 ∷ []
turned [] some z = absurd (omega arith)
turned (x ∷ xs) some z = ap (λ n. xs ++ n ∷ []) z

-- what a shift does to an account: the head frame goes on by one, the injection frame never back, and what is owed stays owed
pub record Goes (l m : Ledger) : Type 0 where
  pub head : m.head ≡ l.head + 1
  pub slots : m.slots ≡ l.slots
  pub frame : l.frame ≤ m.frame
  pub owes : (n : ℕ) → (pos n +ℤ l.balance) ≤ℤ pos (l.frame * l.slots) → (pos n +ℤ m.balance) ≤ℤ pos (m.frame * m.slots)

capped_low : (l : Ledger) → capped l ≤ℤ (l.balance +ℤ pos l.slots)
capped_low l = grind (arith, ints)

goes : (l : Ledger) (b : Bool) → Goes l (cond b (pushed_on (next_head l)) (next_head l))
goes l true = record {
  head = refl;
  slots = refl;
  frame = omega arith;
  owes = λ n h. omega (arith, ints, h, capped_low l, add-mul l.frame 1 l.slots, one-mul l.slots);
}
goes l false = record { head = refl; slots = refl; frame = omega arith; owes = λ n h. h }

pub shift_goes : (l : Ledger) → Goes l (shifted l)
shift_goes l = goes l (eqb l.frame (l.head + 1))

-- the source after a shift: `a` is its account then, and no flit waited for the head frame
module _ {l : Line} (ok : SoundLine l) (a : Ledger) (m : a ≡ shifted l.ledger) (sound : Sound a) (z : get_or l.waiting 0 0 ≡ 0) (ws : List ℕ) (t : ws ≡ drop 1 l.waiting ++ take 1 l.waiting) where
  went : Goes l.ledger a
  went = subst (Goes l.ledger) (sym m) (shift_goes l.ledger)

  abbrev rest : List ℕ
  rest = drop 1 l.waiting ++ 0 ∷ []

  long : length (drop 1 l.waiting) ≡ 7
  long = omega (arith, length-drop 1 l.waiting, ok.sized)

  at : (k : ℕ) → l.ledger.frame < l.ledger.head + (1 + k) → ((k < 7) ⊎ (7 ≤ k)) → get_or rest k 0 ≡ 0
  at k h (inl low) = get_or_append_left (drop 1 l.waiting) (0 ∷ []) 0 k (omega (arith, long)) ∙ get_or-drop 1 l.waiting k 0 ∙ ok.ordered (1 + k) h
  at k h (inr past) = get_or-append_right (drop 1 l.waiting) (0 ∷ []) 7 k 0 long past ∙ zero_past (k - 7)
    where
      zero_past : (i : ℕ) → ◌≡◌ {A = ℕ} (get_or (0 ∷ []) i 0) 0
      zero_past zero = refl
      zero_past (suc i) = refl

  abbrev afterwards : List ℕ → Line
  afterwards xs = record { ledger = a; route = l.route; waiting = xs; sent = l.sent; accepted = l.accepted; delivered = l.delivered; refused = l.refused }

  pub rest_sound : SoundLine (afterwards rest)
  rest_sound =
      let first : sum l.waiting ≡ get_or l.waiting 0 0 + sum (drop 1 l.waiting) = sum_by-drop_more (λ n. n) l.waiting 0 0 (omega (arith, ok.sized)) in
      record {
        sound = sound;
        routed = ok.routed;
        sized = omega (arith, long, length-append (drop 1 l.waiting) (0 ∷ []));
        counted = omega (arith, sum_by_push (λ n. n) (drop 1 l.waiting) 0, first, ok.counted);
        ordered = λ k h. at k (omega (arith, went.head, went.frame)) (cases_lt k 7);
        owed = went.owes l.accepted ok.owed;
        arrived = ok.arrived;
      }

  pub shifted_sound : SoundLine (afterwards ws)
  shifted_sound = subst (λ xs. SoundLine (afterwards xs)) (sym (t ∙ turned l.waiting (omega (arith, ok.sized)) z)) rest_sound
