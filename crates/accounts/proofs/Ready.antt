-- Where an offer finds its frame: how many frames it goes on, and when the window is spent.
use Rattle.std.proofs.Common.{◌≡◌, ℕ, zero, suc, ◌+◌, ◌-◌, ◌*◌, ◌/◌, ◌<◌, ◌≤◌, Bool, true, false, cond, ◌⊎◌, ℤ, pos, negsuc, ◌+ℤ◌, ◌-ℤ◌, ◌≤ℤ◌, ◌<ℤ◌, Ok, Err, sym, refl, ap, ◌∙◌, subst, inl, inr, ⊎_elim, mul-le-mul_right, suc-mul, mul_comm, zero-mul, add-one, arith}
use native.Mathlib.Nat.{div-eq_of_lt-le}
use lib.Signed.{lt_z}
use Rattle.std.proofs.lemmas.Int.{ints, by_lt_z}
use Rattle.std.proofs.lemmas.Bool.{cond-true, cond-false}
use Rattle.std.proofs.lemmas.Bool.Decides.{nat_tests}
use Rattle.accounts.specs.Ledgers.{Ledger}
use Rattle.accounts.specs.Offers.{gone_on, refilled, ready, taken, bad_size, paid, offer_answer, offer_leaves}
use Rattle.accounts.specs.Credits.{credit, overdrawn, steps, SpentExactly, FrameGiven}
use Rattle.accounts.specs.declared.refusal.AccountRefusal.TheVariants.{SizeRange, WindowSpent}
use Rattle.accounts.proofs.Refills.{at, above, not_above}

-- m is l gone on by some frames, at most k: to the first balance above 0, or by all k
pub record Gone (k : ℕ) (l m : Ledger) : Type 0 where
  pub by : ℕ
  pub most : by ≤ k
  pub is : m ≡ at l (l.frame + by) (l.balance +ℤ pos (by * l.slots))
  pub stops : m.balance ≤ℤ pos 0 → by ≡ k
  pub high : (by ≡ 0) ⊎ (m.balance ≤ℤ pos l.slots)

stays : (k : ℕ) (l : Ledger) → (l.balance ≤ℤ pos 0 → 0 ≡ k) → Gone k l l
stays k l stop =
    record {
      by = 0;
      most = omega arith;
      is = λ i. at l (f i) (c i);
      stops = stop;
      high = inl refl;
    }
  where
    f : l.frame ≡ l.frame + 0
    f = omega arith

    c : l.balance ≡ l.balance +ℤ pos (0 * l.slots)
    c = omega (arith, ints, zero-mul l.slots)

goes : (k : ℕ) (l m : Ledger) → l.balance ≤ℤ pos 0 → Gone k (gone_on l) m → Gone (suc k) l m
goes k l m low g =
    record {
      by = suc g.by;
      most = omega arith;
      is = g.is ∙ (λ i. at l (f i) (c i));
      stops = λ h. ap suc (g.stops h);
      high = inr (⊎_elim none (λ h. h) g.high);
    }
  where
    f : l.frame + 1 + g.by ≡ l.frame + suc g.by
    f = omega arith

    c : (l.balance +ℤ pos l.slots) +ℤ pos (g.by * l.slots) ≡ l.balance +ℤ pos (suc g.by * l.slots)
    c = omega (arith, ints, suc-mul g.by l.slots)

    b : m.balance ≡ (l.balance +ℤ pos l.slots) +ℤ pos (g.by * l.slots)
    b = ap (λ n. n.balance) g.is

    none : g.by ≡ 0 → m.balance ≤ℤ pos l.slots
    none e = let z = ap (λ n. n * l.slots) e in omega (arith, ints, b, zero-mul l.slots)

gone_step : (k : ℕ) (l : Ledger) → Gone k (gone_on l) (refilled k (gone_on l)) → (b : Bool) → lt_z (pos 0) l.balance ≡ b →
    Gone (suc k) l (cond b l (refilled k (gone_on l)))
gone_step k l g true e = stays (suc k) l (λ h. absurd (grind (arith, ints)))
gone_step k l g false e = goes k l (refilled k (gone_on l)) (grind (arith, ints)) g

pub refilled_is : (k : ℕ) (l : Ledger) → Gone k l (refilled k l)
unfolding refilled
refilled_is zero l = stays 0 l (λ h. refl)
refilled_is (suc k) l = gone_step k l (refilled_is k (gone_on l)) (lt_z (pos 0) l.balance) refl

pub ready_is : (l : Ledger) → Gone (l.head + l.window - 1 - l.frame) l (ready l)
ready_is l = refilled_is (l.head + l.window - 1 - l.frame) l

-- an offer of a packet of some size is judged by the balance alone
pub good_size : (l : Ledger) (size : ℕ) → 1 ≤ size → size ≤ l.largest → bad_size l size ≡ false
good_size l size h k = grind (arith, nat_tests)

pub packet_answer : (l : Ledger) (size : ℕ) → 1 ≤ size → size ≤ l.largest → offer_answer l size ≡ cond (paid l) (Ok (ready l).frame) (Err WindowSpent)
packet_answer l size h k =
    cond-false (bad_size l size) (Err SizeRange) (cond (paid l) (Ok (ready l).frame) (Err WindowSpent)) (good_size l size h k)

pub packet_leaves : (l : Ledger) (size : ℕ) → 1 ≤ size → size ≤ l.largest → offer_leaves l size ≡ cond (paid l) (taken size l) l
packet_leaves l size h k = cond-false (bad_size l size) l (cond (paid l) (taken size l) l) (good_size l size h k)

-- the window is spent exactly when the credit is 0 or below
pub spent_credit : (l : Ledger) → (ready l).balance ≤ℤ pos 0 → credit l ≤ℤ pos 0
spent_credit l h =
    let g = ready_is l in
    let e = ap (λ n. n * l.slots) (g.stops h) in
    omega (arith, ints, ap (λ m. m.balance) g.is, mul_comm l.slots (l.head + l.window - 1 - l.frame))

pub credit_spent : (l : Ledger) → credit l ≤ℤ pos 0 → (ready l).balance ≤ℤ pos 0
credit_spent l h =
    let g = ready_is l in
    omega (arith, ints, ap (λ m. m.balance) g.is, mul-le-mul_right l.slots g.most, mul_comm l.slots (l.head + l.window - 1 - l.frame))

answer_spent : (p : Bool) (f : ℕ) (c : ℤ) → lt_z (pos 0) c ≡ p → cond p (Ok f) (Err WindowSpent) ≡ Err WindowSpent → c ≤ℤ pos 0
answer_spent true f c e h = cc
answer_spent false f c e h = grind (arith, ints)

pub spent_exactly : (l : Ledger) → SpentExactly l
spent_exactly l size h k = (to, from)
  where
    to : offer_answer l size ≡ Err WindowSpent → credit l ≤ℤ pos 0
    to e = spent_credit l (answer_spent (paid l) (ready l).frame (ready l).balance refl (sym (packet_answer l size h k) ∙ e))

    from : credit l ≤ℤ pos 0 → offer_answer l size ≡ Err WindowSpent
    from e = packet_answer l size h k ∙ cond-false (paid l) (Ok (ready l).frame) (Err WindowSpent) (not_above (ready l).balance (credit_spent l e))

-- an overdraft is what lifts the balance to 0
overdraft : (c : ℤ) → c ≤ℤ pos 0 → c +ℤ pos (overdrawn c) ≡ pos 0
overdraft (pos n) h = omega (arith, ints)
overdraft (negsuc n) h = omega (arith, ints)

-- the first number of frames that lifts the balance above 0
first_steps : (l : Ledger) (n : ℕ) → 1 ≤ l.slots → pos 0 <ℤ (l.balance +ℤ pos (n * l.slots)) →
    (n ≡ 0) ⊎ ((l.balance +ℤ pos (n * l.slots)) ≤ℤ pos l.slots) → (b : Bool) → lt_z (pos 0) l.balance ≡ b →
    n ≡ cond b 0 (overdrawn l.balance / l.slots + 1)
first_steps l zero r h high true e = refl
first_steps l (suc s) r h (inl z) true e = z
first_steps l (suc s) r h (inr top) true e =
    let low : pos 0 <ℤ l.balance = grind (arith, ints) in
    absurd (omega (arith, ints, suc-mul s l.slots))
first_steps l zero r h high false e =
    let low : l.balance ≤ℤ pos 0 = grind (arith, ints) in
    absurd (omega (arith, ints, zero-mul l.slots))
first_steps l (suc s) r h (inl z) false e = absurd (omega arith)
first_steps l (suc s) r h (inr top) false e =
    let low : l.balance ≤ℤ pos 0 = grind (arith, ints) in
    let d = overdraft l.balance low in
    let at_least : s * l.slots ≤ overdrawn l.balance = omega (arith, ints, suc-mul s l.slots) in
    let below : overdrawn l.balance < (s + 1) * l.slots = rw add-one (omega (arith, ints, suc-mul s l.slots)) in
    omega (arith, div-eq_of_lt-le l.slots at_least below)

pub by_steps : (l : Ledger) → 1 ≤ l.slots → pos 0 <ℤ (ready l).balance → (ready_is l).by ≡ steps l
by_steps l r h =
    let g = ready_is l in
    let b : (ready l).balance ≡ l.balance +ℤ pos (g.by * l.slots) = ap (λ m. m.balance) g.is in
    first_steps l g.by r (subst (λ c. pos 0 <ℤ c) b h) (subst (λ c. (g.by ≡ 0) ⊎ (c ≤ℤ pos l.slots)) b g.high) (lt_z (pos 0) l.balance) refl

-- with some credit an offer goes on by `steps`
pub ready_steps : (l : Ledger) → 1 ≤ l.slots → pos 0 <ℤ (ready l).balance → ready l ≡ at l (l.frame + steps l) (l.balance +ℤ pos (steps l * l.slots))
ready_steps l r h = (ready_is l).is ∙ ap (λ n. at l (l.frame + n) (l.balance +ℤ pos (n * l.slots))) (by_steps l r h)

pub frame_given : (l : Ledger) → 1 ≤ l.slots → FrameGiven l
frame_given l r size h k some = (packet_answer l size h k ∙ cond-true (paid l) (Ok (ready l).frame) (Err WindowSpent) p ∙ ap (λ m. Ok m.frame) e, ap (λ m. m.frame) f, ap (λ m. m.balance) f)
  where
    paid' : pos 0 <ℤ (ready l).balance
    paid' = by_lt_z (pos 0) (ready l).balance (λ x. x) (λ x. absurd (let y = spent_credit l x in omega (arith, ints)))

    p : paid l ≡ true
    p = above (ready l).balance paid'

    e : ready l ≡ at l (l.frame + steps l) (l.balance +ℤ pos (steps l * l.slots))
    e = ready_steps l r paid'

    f : offer_leaves l size ≡ at l (l.frame + steps l) ((l.balance +ℤ pos (steps l * l.slots)) -ℤ pos size)
    f = packet_leaves l size h k ∙ cond-true (paid l) (taken size l) l p ∙ ap (λ m. at l m.frame (m.balance -ℤ pos size)) e
