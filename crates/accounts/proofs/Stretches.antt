-- Stretches: from one refusal for a spent window to another, s shifts come with s × R accepted flits, give or take L - 1.
use Rattle.std.proofs.Common.{◌≡◌, ℕ, suc, ◌+◌, ◌-◌, ◌*◌, ◌≤◌, Bool, true, false, cond, eqb, ◌⊎◌, List, [], ◌∷◌, ◌++◌, pos, ◌+ℤ◌, ◌-ℤ◌, ◌≤ℤ◌, sym, refl, ap, ◌∙◌, subst, inl, inr, ⊎_elim, suc-mul, mul_comm, zero-mul, mul-suc, mul-add, arith}
use Rattle.std.proofs.lemmas.Int.{ints, clamps}
use Rattle.std.proofs.lemmas.Bool.{eqb-true, eqb-false}
use Rattle.std.specs.Int.{int_min}
use Rattle.accounts.specs.Ledgers.{Ledger, Limits}
use Rattle.accounts.specs.Shifts.{next_head, pushed_on, shifted}
use Rattle.accounts.specs.Calls.{Event, accepted, refused, shift_made, spent, after}
use Rattle.accounts.specs.Counts.{flits, shifts, Refusing, Pressed}
use Rattle.accounts.specs.Credits.{credit}
use Rattle.accounts.specs.Laws.{InStep, Stretches, Bring, stretch_least, stretch_most}
use Rattle.accounts.specs.declared.refusal.AccountRefusal.{AccountRefusal}
use Rattle.accounts.specs.declared.refusal.AccountRefusal.TheVariants.{WindowRange, SlotsRange, LargestRange, SizeRange, WindowSpent, RunOver}
use Rattle.accounts.proofs.Steps.{Accepts, Kept, Happens, Follows, happens_kept, follows_kept, follows_append, follows}

-- the credit is never below 1 - L
pub low_credit : (l : Ledger) → Limits l → (pos 1 -ℤ pos l.largest) ≤ℤ credit l
low_credit l ok = omega (arith, ints)

-- an accepted packet takes its size from the credit
pub accepts_credit : (l : Ledger) (size f : ℕ) (m : Ledger) → Accepts l size f m → credit m ≡ credit l -ℤ pos size
accepts_credit l size f m t =
    ap credit t.leaves
    ∙ (let k : l.head + l.window - 1 - l.frame ≡ (l.head + l.window - 1 - f) + t.by = omega (arith, t.frame, t.in_window) in
    omega (arith, ints, ap (λ n. l.slots * n) k, mul-add l.slots (l.head + l.window - 1 - f) t.by, mul_comm l.slots t.by))

-- a shift after a refusal for a spent window adds the slots of one frame to it: no balance is capped then
pub shift_credit : (l : Ledger) → 2 ≤ l.window → Limits l → credit l ≤ℤ pos 0 → credit (shifted l) ≡ credit l +ℤ pos l.slots
shift_credit l two ok low = go (eqb l.frame (l.head + 1)) refl
  where
    least : int_min (pos l.slots) (l.balance +ℤ pos l.slots) ≡ l.balance +ℤ pos l.slots
    least = omega (arith, ints, clamps)

    go : (b : Bool) → eqb l.frame (l.head + 1) ≡ b → credit (cond b (pushed_on (next_head l)) (next_head l)) ≡ credit l +ℤ pos l.slots
    go true e =
        let x = eqb-true l.frame (l.head + 1) e in
        let k : l.head + 1 + l.window - 1 - (l.frame + 1) ≡ l.head + l.window - 1 - l.frame = omega arith in
        omega (arith, ints, least, ap (λ n. l.slots * n) k)
    go false e =
        let x = eqb-false l.frame (l.head + 1) e in
        let k : l.head + 1 + l.window - 1 - l.frame ≡ suc (l.head + l.window - 1 - l.frame) = omega arith in
        omega (arith, ints, ap (λ n. l.slots * n) k, mul-suc l.slots (l.head + l.window - 1 - l.frame))

-- before its first shift the list has a refusal for a spent window
abbrev pub Asks : List Event → Type 0
Asks es = (before later : List Event) → es ≡ before ++ (shift_made ∷ later) → shifts before ≡ 0 → Refusing before

is_spent : (r : AccountRefusal) → (r ≡ WindowSpent) ⊎ (refused r ≡ spent → ⊥)
is_spent WindowRange = inr (λ z. cc)
is_spent SlotsRange = inr (λ z. cc)
is_spent LargestRange = inr (λ z. cc)
is_spent SizeRange = inr (λ z. cc)
is_spent WindowSpent = inl refl
is_spent RunOver = inr (λ z. cc)

pressed_tail : (e : Event) (es : List Event) → Pressed (e ∷ es) → Pressed es
pressed_tail e es p before between later q z = p (e ∷ before) between later (ap (λ xs. e ∷ xs) q) z

asks_past : (e : Event) (es : List Event) → (e ≡ spent → ⊥) → ((before : List Event) → shifts (e ∷ before) ≡ shifts before) → Asks (e ∷ es) → Asks es
asks_past e es ne count a before later q z =
    ⊎_elim (λ s. absurd (ne s)) (λ r. r) (a (e ∷ before) later (ap (λ xs. e ∷ xs) q) (count before ∙ z))

-- at every event: what is asked for before the next shift
next_asked : (l : Ledger) (e : Event) (es : List Event) (m : Ledger) → Happens l e m → Pressed (e ∷ es) → (credit l ≤ℤ pos 0) ⊎ Asks (e ∷ es) →
    (credit m ≤ℤ pos 0) ⊎ Asks es
next_asked l (accepted size f) es m h p a =
    let c = accepts_credit l size f m h in
    ⊎_elim (λ low. inl (omega (arith, ints))) (λ q. inr (asks_past (accepted size f) es (λ z. cc) (λ before. refl) q)) a
next_asked l (refused r) es m h p a = ⊎_elim now later (is_spent r)
  where
    same : credit l ≤ℤ pos 0 → credit m ≤ℤ pos 0
    same low = subst (λ n. credit n ≤ℤ pos 0) (sym h.1) low

    now : r ≡ WindowSpent → (credit m ≤ℤ pos 0) ⊎ Asks es
    now e = inl (same (h.0 e))

    later : (refused r ≡ spent → ⊥) → (credit m ≤ℤ pos 0) ⊎ Asks es
    later ne = ⊎_elim (λ low. inl (same low)) (λ q. inr (asks_past (refused r) es ne (λ before. refl) q)) a
next_asked l shift_made es m h p a = inr (λ before later q z. p [] before later (ap (λ xs. shift_made ∷ xs) q) z)

-- at a shift the credit is 0 or below
asked_shift : (l : Ledger) (es : List Event) → (credit l ≤ℤ pos 0) ⊎ Asks (shift_made ∷ es) → credit l ≤ℤ pos 0
asked_shift l es a = ⊎_elim (λ low. low) (λ q. absurd (q [] es refl refl)) a

-- accepted flits and credit rise together, by the slots of each shift
pub balanced : (o : Ledger) (es : List Event) (l m : Ledger) → 2 ≤ o.window → Kept o l → Follows l es m → Pressed es → (credit l ≤ℤ pos 0) ⊎ Asks es →
    (pos (flits es) +ℤ credit m) ≡ (credit l +ℤ pos (shifts es * o.slots))
balanced o [] l m w k t p a = let e = ap credit t in omega (arith, ints, zero-mul o.slots)
balanced o (e ∷ es) l m w k (n, h, t) p a = step e h p a (balanced o es n m w (happens_kept o l e n w k h) t (pressed_tail e es p) (next_asked l e es n h p a))
  where
    step : (e : Event) → Happens l e n → Pressed (e ∷ es) → (credit l ≤ℤ pos 0) ⊎ Asks (e ∷ es) →
        (pos (flits es) +ℤ credit m) ≡ (credit n +ℤ pos (shifts es * o.slots)) →
        (pos (flits (e ∷ es)) +ℤ credit m) ≡ (credit l +ℤ pos (shifts (e ∷ es) * o.slots))
    step (accepted size f) h p a ih = let c = accepts_credit l size f n h in omega (arith, ints)
    step (refused r) h p a ih = let c = ap credit h.1 in omega (arith, ints)
    step shift_made h p a ih =
        let c = ap credit h in
        let d = shift_credit l (omega (arith, k.window)) k.limits (asked_shift l es a) in
        omega (arith, ints, k.slots, suc-mul (shifts es) o.slots)

-- both ends of a stretch have a credit from 1 - L to 0
between_refusals : (o : Ledger) (stretch : List Event) (l m : Ledger) → 2 ≤ o.window → Kept o l → Follows l stretch m → Pressed stretch →
    credit l ≤ℤ pos 0 → credit m ≤ℤ pos 0 → InStep o stretch
between_refusals o stretch l m w k t p first last =
    let km = follows_kept o stretch l m w k t in
    let e = balanced o stretch l m w k t p (inl first) in
    let a = low_credit l k.limits in
    let b = low_credit m km.limits in
    (omega (arith, ints, k.largest, km.largest), omega (arith, ints, k.largest, km.largest))

pub stretch_follows : (o : Ledger) (before stretch later : List Event) (l m : Ledger) → 2 ≤ o.window → Kept o l →
    Follows l (before ++ (spent ∷ (stretch ++ (spent ∷ later)))) m → Pressed stretch → InStep o stretch
stretch_follows o before stretch later l m w k t p = from (follows_append before (spent ∷ (stretch ++ (spent ∷ later))) l m t)
  where
    to : (a b : Ledger) → Kept o b → credit b ≤ℤ pos 0 → (c : Ledger) × Follows b stretch c × Follows c (spent ∷ later) m → InStep o stretch
    to a b kb low (c, tc, (d, h, td)) = between_refusals o stretch b c w kb tc p low (h.0 refl)

    from : (a : Ledger) × Follows l before a × Follows a (spent ∷ (stretch ++ (spent ∷ later))) m → InStep o stretch
    from (a, ta, (b, h, tb)) =
        to a b (happens_kept o a spent b w (follows_kept o before l a w k ta) h) (subst (λ n. credit n ≤ℤ pos 0) (sym h.1) (h.0 refl))
        (follows_append stretch (spent ∷ later) b m tb)

pub stretches : (o : Ledger) → 2 ≤ o.window → Limits o → Stretches o
stretches o w ok es s =
    stretch_follows o s.before es s.later o (after o s.calls) w (record { slots = refl; largest = refl; window = refl; limits = ok })
    (subst (λ xs. Follows o xs (after o s.calls)) s.seen (follows o s.calls)) s.pressed

-- the same in figures
pub brings : (o : Ledger) → 2 ≤ o.window → Limits o → (s : ℕ) → Bring o s (stretch_least o s) (stretch_most o s)
brings o w ok s es t e = let q = stretches o w ok es t in let z = ap (λ n. n * o.slots) e in (omega arith, omega arith)
