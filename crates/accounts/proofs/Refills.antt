-- How far an offer goes on from frame to frame.
use Rattle.std.proofs.Common.{◌≡◌, ℕ, zero, suc, ◌+◌, ◌-◌, ◌<◌, ◌≤◌, true, false, ℤ, pos, ◌+ℤ◌, ◌≤ℤ◌, ◌<ℤ◌, sym, refl, ap, ◌∙◌, subst, arith}
use lib.Signed.{lt_z}
use Rattle.std.proofs.lemmas.Int.{ints}
use Rattle.std.proofs.lemmas.Bool.{cond-true, cond-false}
use Rattle.accounts.specs.Ledgers.{Ledger, Limits}
use Rattle.accounts.specs.Offers.{gone_on, refilled, ready}

-- the same account at another frame and balance
abbrev pub at : Ledger → ℕ → ℤ → Ledger
at l f c = record { slots = l.slots; largest = l.largest; window = l.window; head = l.head; frame = f; balance = c }

-- the test of a balance
pub above : (c : ℤ) → pos 0 <ℤ c → lt_z (pos 0) c ≡ true
above c h = grind (arith, ints)

pub not_above : (c : ℤ) → c ≤ℤ pos 0 → lt_z (pos 0) c ≡ false
not_above c h = grind (arith, ints)

pub is_above : (c : ℤ) → lt_z (pos 0) c ≡ true → pos 0 <ℤ c
is_above c h = grind (arith, ints)

pub is_not_above : (c : ℤ) → lt_z (pos 0) c ≡ false → c ≤ℤ pos 0
is_not_above c h = grind (arith, ints)

pub refilled_goes : (k : ℕ) (l : Ledger) → l.balance ≤ℤ pos 0 → refilled (suc k) l ≡ refilled k (gone_on l)
unfolding refilled
refilled_goes k l h = cond-false (lt_z (pos 0) l.balance) l (refilled k (gone_on l)) (not_above l.balance h)

pub refilled_stays : (k : ℕ) (l : Ledger) → pos 0 <ℤ l.balance → refilled k l ≡ l
unfolding refilled
refilled_stays zero l h = refl
refilled_stays (suc k) l h = cond-true (lt_z (pos 0) l.balance) l (refilled k (gone_on l)) (above l.balance h)

pub refilled_ends : (k : ℕ) (l : Ledger) → k ≡ 0 → refilled k l ≡ l
unfolding refilled
refilled_ends k l e = rw e

-- the search for a frame has come to the frame f and the balance c: where it may stop, it has found the frame
pub record Found (l : Ledger) (f : ℕ) (c : ℤ) : Type 0 where
  pub paid : pos 0 <ℤ c → (f ≡ (ready l).frame) × (c ≡ (ready l).balance)
  pub last : l.head + l.window - 1 ≤ f → (f ≡ (ready l).frame) × (c ≡ (ready l).balance)
  pub rest : refilled (l.head + l.window - 1 - f) (at l f c) ≡ ready l
  pub after : l.head + 1 ≤ f
  pub within : f ≤ l.head + l.window - 1
  pub high : c ≤ℤ pos l.slots

found : (l : Ledger) (f : ℕ) (c : ℤ) → refilled (l.head + l.window - 1 - f) (at l f c) ≡ ready l →
    l.head + 1 ≤ f → f ≤ l.head + l.window - 1 → c ≤ℤ pos l.slots → Found l f c
found l f c e ahead within high = record { paid = λ h. parts (stops h); last = λ h. parts (ends h); rest = e; after = ahead; within = within; high = high }
  where
    parts : at l f c ≡ ready l → (f ≡ (ready l).frame) × (c ≡ (ready l).balance)
    parts d = (ap (λ m. m.frame) d, ap (λ m. m.balance) d)

    stops : pos 0 <ℤ c → at l f c ≡ ready l
    stops h = sym (refilled_stays (l.head + l.window - 1 - f) (at l f c) h) ∙ e

    ends : l.head + l.window - 1 ≤ f → at l f c ≡ ready l
    ends h = sym (refilled_ends (l.head + l.window - 1 - f) (at l f c) (omega arith)) ∙ e

-- it begins with what the account has
pub found_first : (l : Ledger) (c : ℤ) → Limits l → c ≡ l.balance → Found l l.frame c
found_first l c ok e = subst (Found l l.frame) (sym e) (found l l.frame l.balance refl ok.2 ok.3 ok.1)

-- and goes on to the next frame
pub found_more : {l : Ledger} {f : ℕ} {c : ℤ} (d : ℤ) → Found l f c → f < l.head + l.window - 1 → c ≤ℤ pos 0 → d ≡ c +ℤ pos l.slots → Found l (f + 1) d
found_more {l} {f} {c} d s h low e = found l (f + 1) d (again ∙ s.rest) (omega arith) (omega arith) (omega (arith, ints))
  where
    last : ℕ
    last = l.head + l.window - 1

    k : suc (last - (f + 1)) ≡ last - f
    k = omega arith

    again : refilled (last - (f + 1)) (at l (f + 1) d) ≡ refilled (last - f) (at l f c)
    again =
        ap (λ z. refilled (last - (f + 1)) (at l (f + 1) z)) e
        ∙ sym (refilled_goes (last - (f + 1)) (at l f c) low) ∙ ap (λ n. refilled n (at l f c)) k
