-- Shares: any n successive frames hold at most n × R + L - 1 accepted flits.
use Rattle.std.proofs.Common.{◌≡◌, ℕ, suc, ◌+◌, ◌-◌, ◌*◌, ◌<◌, ◌≤◌, Bool, true, false, cond, eqb, ◌⊎◌, List, [], ◌∷◌, ℤ, pos, ◌+ℤ◌, ◌-ℤ◌, ◌≤ℤ◌, ◌<ℤ◌, sym, refl, ap, subst, inr, ⊎_elim, mul-le-mul_right, add-mul, one-mul, arith}
use Rattle.std.proofs.lemmas.Int.{ints, clamps}
use Rattle.std.proofs.lemmas.Bool.{cases_lt}
use Rattle.std.proofs.lemmas.Bool.Decides.{nat_tests}
use Rattle.std.specs.Int.{int_min}
use Rattle.accounts.specs.Ledgers.{Ledger, Limits}
use Rattle.accounts.specs.Shifts.{next_head, pushed_on, shifted}
use Rattle.accounts.specs.Calls.{Event, accepted, refused, shift_made, events, after}
use Rattle.accounts.specs.Counts.{flits_in, held}
use Rattle.accounts.specs.Laws.{Shares}
use Rattle.accounts.specs.Accounts.{fresh}
use Rattle.accounts.proofs.Steps.{Accepts, Kept, Happens, Follows, happens_kept, follows}

-- at r slots a frame, with the balance c in the frame f: the frames from a on got, with c, at most the slots of a to f;
-- h a b are the flits so far of the frames from a up to b
pub record Owes (r : ℕ) (h : ℕ → ℕ → ℕ) (f : ℕ) (c : ℤ) : Type 0 where
  pub due : (a b : ℕ) → a ≤ f → (pos (h a b) +ℤ c) ≤ℤ pos ((suc f - a) * r)
  pub none : (a b : ℕ) → f < a → h a b ≡ 0

-- k frames on, with no more than their slots added, and with no more than one frame's slots
owes_on : (r : ℕ) (h : ℕ → ℕ → ℕ) (f k : ℕ) (c d : ℤ) → Owes r h f c → d ≤ℤ (c +ℤ pos (k * r)) → (k ≡ 0) ⊎ (d ≤ℤ pos r) → Owes r h (f + k) d
owes_on r h f k c d o gain top = record { due = dues; none = λ a b l. o.none a b (omega arith) }
  where
    near : (a b : ℕ) → f < a → a ≤ f + k → (pos (h a b) +ℤ d) ≤ℤ pos ((suc (f + k) - a) * r)
    near a b m l =
        let e = o.none a b m in
        let one : 1 ≤ suc (f + k) - a = omega arith in
        ⊎_elim (λ z. absurd (omega arith)) (λ t. omega (arith, ints, mul-le-mul_right r one, one-mul r)) top

    far : (a b : ℕ) → a ≤ f → (pos (h a b) +ℤ d) ≤ℤ pos ((suc (f + k) - a) * r)
    far a b m =
        let e = o.due a b m in
        let q : suc (f + k) - a ≡ (suc f - a) + k = omega arith in
        omega (arith, ints, ap (λ n. n * r) q, add-mul (suc f - a) k r)

    dues : (a b : ℕ) → a ≤ f + k → (pos (h a b) +ℤ d) ≤ℤ pos ((suc (f + k) - a) * r)
    dues a b l = ⊎_elim (λ m. near a b m l) (far a b) (cases_lt f a)

-- a packet in the frame f
owes_take : (r size : ℕ) (h : ℕ → ℕ → ℕ) (f : ℕ) (c : ℤ) → Owes r h f c → Owes r (λ a b. h a b + flits_in a b (accepted size f)) f (c -ℤ pos size)
owes_take r size h f c o =
    record {
      due = λ a b l. let e = o.due a b l in let t : flits_in a b (accepted size f) ≤ size = grind (arith, nat_tests) in omega (arith, ints);
      none = λ a b l. let e = o.none a b l in let t : flits_in a b (accepted size f) ≡ 0 = grind (arith, nat_tests) in omega arith;
    }

-- an account of o's terms that has kept its shares
pub record Fair (o : Ledger) (h : ℕ → ℕ → ℕ) (l : Ledger) : Type 0 where
  pub kept : Kept o l
  pub owes : Owes o.slots h l.frame l.balance
  pub share : (a n : ℕ) → h a (a + n) ≤ n * o.slots + o.largest - 1

-- the same flits, counted in another way
pub fair_same : (o : Ledger) (h g : ℕ → ℕ → ℕ) (l : Ledger) → ((a b : ℕ) → h a b ≡ g a b) → Fair o h l → Fair o g l
fair_same o h g l e f =
    record {
      kept = f.kept;
      owes = record { due = λ a b m. rw (← e a b) (f.owes.due a b m); none = λ a b m. rw (← e a b) (f.owes.none a b m) };
      share = λ a n. rw (← e a (a + n)) (f.share a n);
    }

-- one more packet keeps the share of every n frames: what is owed of them now is at least 1 - L
share_more : (r g size : ℕ) (h : ℕ → ℕ → ℕ) (f : ℕ) (c : ℤ) → pos 0 <ℤ c → size ≤ g →
    Owes r (λ a b. h a b + flits_in a b (accepted size f)) f (c -ℤ pos size) → ((a n : ℕ) → h a (a + n) ≤ n * r + g - 1) →
    (a n : ℕ) → h a (a + n) + flits_in a (a + n) (accepted size f) ≤ n * r + g - 1
share_more r g size h f c p most o old a n = ⊎_elim before (λ l. ⊎_elim (inside l) (beyond l) (cases_lt f (a + n))) (cases_lt f a)
  where
    before : f < a → h a (a + n) + flits_in a (a + n) (accepted size f) ≤ n * r + g - 1
    before l = let z : flits_in a (a + n) (accepted size f) ≡ 0 = grind (arith, nat_tests) in omega (arith, old a n)

    beyond : a ≤ f → a + n ≤ f → h a (a + n) + flits_in a (a + n) (accepted size f) ≤ n * r + g - 1
    beyond l m = let z : flits_in a (a + n) (accepted size f) ≡ 0 = grind (arith, nat_tests) in omega (arith, old a n)

    inside : a ≤ f → f < a + n → h a (a + n) + flits_in a (a + n) (accepted size f) ≤ n * r + g - 1
    inside l m =
        let d = o.due a (a + n) l in
        let le : suc f - a ≤ n = omega arith in
        omega (arith, ints, mul-le-mul_right r le)

fair_accepts : (o : Ledger) (h : ℕ → ℕ → ℕ) (l : Ledger) (size f : ℕ) (m : Ledger) → Kept o m → Fair o h l → Accepts l size f m →
    Fair o (λ a b. h a b + flits_in a b (accepted size f)) m
fair_accepts o h l size f m ok q t =
    record {
      kept = ok;
      owes = subst (λ n. Owes o.slots (λ a b. h a b + flits_in a b (accepted size f)) n.frame n.balance) (sym t.leaves) taken';
      share = share_more o.slots o.largest size h f c t.paid (omega (arith, t.most, q.kept.largest)) taken' q.share;
    }
  where
    c : ℤ
    c = l.balance +ℤ pos (t.by * l.slots)

    on : Owes o.slots h (l.frame + t.by) c
    on =
        owes_on o.slots h l.frame t.by l.balance c q.owes (let e = ap (λ n. t.by * n) q.kept.slots in omega (arith, ints))
        (subst (λ n. (t.by ≡ 0) ⊎ (c ≤ℤ pos n)) q.kept.slots t.high)

    taken' : Owes o.slots (λ a b. h a b + flits_in a b (accepted size f)) f (c -ℤ pos size)
    taken' = owes_take o.slots size h f c (subst (λ n. Owes o.slots h n c) (sym t.frame) on)

fair_shift : (o : Ledger) (h : ℕ → ℕ → ℕ) (l : Ledger) → Kept o (shifted l) → Fair o h l → Fair o h (shifted l)
fair_shift o h l ok q = record { kept = ok; owes = go (eqb l.frame (l.head + 1)); share = q.share }
  where
    c : ℤ
    c = int_min (pos l.slots) (l.balance +ℤ pos l.slots)

    on : Owes o.slots h (l.frame + 1) c
    on =
        owes_on o.slots h l.frame 1 l.balance c q.owes (let e = q.kept.slots in omega (arith, ints, clamps, one-mul o.slots))
        (inr (let e = q.kept.slots in omega (arith, ints, clamps)))

    go : (b : Bool) → (let m : Ledger = cond b (pushed_on (next_head l)) (next_head l) in Owes o.slots h m.frame m.balance)
    go true = on
    go false = q.owes

pub fair_happens : (o : Ledger) (h : ℕ → ℕ → ℕ) (l : Ledger) (e : Event) (m : Ledger) → 2 ≤ o.window → Fair o h l → Happens l e m →
    Fair o (λ a b. h a b + flits_in a b e) m
fair_happens o h l (accepted size f) m w q t = fair_accepts o h l size f m (happens_kept o l (accepted size f) m w q.kept t) q t
fair_happens o h l (refused e) m w q t = fair_same o h (λ a b. h a b + 0) m (λ a b. omega arith) (subst (Fair o h) (sym t.1) q)
fair_happens o h l shift_made m w q t =
    fair_same o h (λ a b. h a b + 0) m (λ a b. omega arith)
    (subst (Fair o h) (sym t) (fair_shift o h l (subst (Kept o) t (happens_kept o l shift_made m w q.kept t)) q))

pub fair_follows : (o : Ledger) (h : ℕ → ℕ → ℕ) (es : List Event) (l m : Ledger) → 2 ≤ o.window → Fair o h l → Follows l es m →
    Fair o (λ a b. h a b + held a b es) m
fair_follows o h [] l m w q t = fair_same o h (λ a b. h a b + 0) m (λ a b. omega arith) (subst (Fair o h) (sym t) q)
fair_follows o h (e ∷ es) l m w q t =
    fair_same o (λ a b. h a b + flits_in a b e + held a b es) (λ a b. h a b + (flits_in a b e + held a b es)) m (λ a b. omega arith)
    (fair_follows o (λ a b. h a b + flits_in a b e) es t.0 m w (fair_happens o h l e t.0 w q t.1) t.2)

-- a fresh account has put nothing into any frame
pub fair_fresh : (r g w : ℕ) → Limits (fresh r g w) → Fair (fresh r g w) (λ a b. 0) (fresh r g w)
fair_fresh r g w ok =
    record {
      kept = record { slots = refl; largest = refl; window = refl; limits = ok };
      owes =
          record {
            due = λ a b l. let one : 1 ≤ 2 - a = omega arith in omega (arith, ints, mul-le-mul_right r one, one-mul r);
            none = λ a b l. refl;
          };
      share = λ a n. omega arith;
    }

pub shares_follow : (r g w : ℕ) (es : List Event) (m : Ledger) → 2 ≤ w → Limits (fresh r g w) → Follows (fresh r g w) es m →
    (first n : ℕ) → held first (first + n) es ≤ n * r + g - 1
shares_follow r g w es m two ok t first n =
    omega (arith, (fair_follows (fresh r g w) (λ a b. 0) es (fresh r g w) m two (fair_fresh r g w ok) t).share first n)

pub shares : (r g w : ℕ) → 2 ≤ w → Limits (fresh r g w) → Shares (fresh r g w)
shares r g w two ok n cs first = shares_follow r g w (events (fresh r g w) cs) (after (fresh r g w) cs) two ok (follows (fresh r g w) cs) first n
