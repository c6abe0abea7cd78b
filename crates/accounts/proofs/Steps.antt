-- What an event says of the account before it and after it, and that every call keeps the limits.
use Rattle.std.proofs.Common.{◌≡◌, ℕ, ◌+◌, ◌-◌, ◌*◌, ◌≤◌, Bool, true, false, cond, eqb, ltb, ◌⊎◌, List, [], ◌∷◌, ◌++◌, pos, ◌+ℤ◌, ◌-ℤ◌, ◌≤ℤ◌, ◌<ℤ◌, Ok, Err, sym, refl, ap, ◌∙◌, subst, ⊎_elim, zero-mul, arith}
use Rattle.std.proofs.lemmas.Int.{ints, clamps}
use Rattle.std.proofs.lemmas.Bool.{cond_both, eqb-true, eqb-false, ltb-false, or_parts}
use Rattle.accounts.specs.Ledgers.{Ledger, Limits}
use Rattle.accounts.specs.Offers.{ready, taken, bad_size, paid}
use Rattle.accounts.specs.Shifts.{next_head, pushed_on, shifted, in_run}
use Rattle.accounts.specs.Calls.{Call, offer, shift, Event, accepted, refused, shift_made, offer_event, shift_event, event, leaves, events, after}
use Rattle.accounts.specs.Credits.{credit}
use Rattle.accounts.specs.declared.refusal.AccountRefusal.TheVariants.{SizeRange, WindowSpent, RunOver}
use Rattle.accounts.proofs.Refills.{at, is_above, is_not_above}
use Rattle.accounts.proofs.Ready.{Gone, ready_is, spent_credit}

-- a packet of `size` flits was accepted into the frame f, `by` frames on, and m is left
pub record Accepts (l : Ledger) (size f : ℕ) (m : Ledger) : Type 0 where
  pub some : 1 ≤ size
  pub most : size ≤ l.largest
  pub by : ℕ
  pub in_window : by ≤ l.head + l.window - 1 - l.frame
  pub frame : f ≡ l.frame + by
  pub paid : pos 0 <ℤ (l.balance +ℤ pos (by * l.slots))
  pub high : (by ≡ 0) ⊎ ((l.balance +ℤ pos (by * l.slots)) ≤ℤ pos l.slots)
  pub leaves : m ≡ at l f ((l.balance +ℤ pos (by * l.slots)) -ℤ pos size)

pub accepts_ready : (l : Ledger) (size : ℕ) → 1 ≤ size → size ≤ l.largest → pos 0 <ℤ (ready l).balance → Accepts l size (ready l).frame (taken size l)
accepts_ready l size h k p =
    record {
      some = h;
      most = k;
      by = g.by;
      in_window = g.most;
      frame = ap (λ m. m.frame) g.is;
      paid = subst (λ c. pos 0 <ℤ c) b p;
      high = subst (λ c. (g.by ≡ 0) ⊎ (c ≤ℤ pos l.slots)) b g.high;
      leaves = ap (λ c. at l (ready l).frame (c -ℤ pos size)) b;
    }
  where
    g : Gone (l.head + l.window - 1 - l.frame) l (ready l)
    g = ready_is l

    b : (ready l).balance ≡ l.balance +ℤ pos (g.by * l.slots)
    b = ap (λ m. m.balance) g.is

-- the balance and the frame of an accepted packet are within the limits
accepts_limits : (l : Ledger) (size f : ℕ) (m : Ledger) → Limits l → Accepts l size f m → Limits m
accepts_limits l size f m ok a = subst Limits (sym a.leaves) (low, ⊎_elim none some a.high, omega (arith, a.frame), omega (arith, a.frame, a.in_window))
  where
    low : (pos 1 -ℤ pos l.largest) ≤ℤ ((l.balance +ℤ pos (a.by * l.slots)) -ℤ pos size)
    low = omega (arith, ints, a.paid, a.most)

    none : a.by ≡ 0 → ((l.balance +ℤ pos (a.by * l.slots)) -ℤ pos size) ≤ℤ pos l.slots
    none e = let z = ap (λ n. n * l.slots) e in omega (arith, ints, zero-mul l.slots)

    some : (l.balance +ℤ pos (a.by * l.slots)) ≤ℤ pos l.slots → ((l.balance +ℤ pos (a.by * l.slots)) -ℤ pos size) ≤ℤ pos l.slots
    some h = omega (arith, ints)

-- the same of a shift
shifted_limits : (l : Ledger) → 2 ≤ l.window → Limits l → Limits (shifted l)
shifted_limits l w ok = go (eqb l.frame (l.head + 1)) refl
  where
    go : (b : Bool) → eqb l.frame (l.head + 1) ≡ b → Limits (cond b (pushed_on (next_head l)) (next_head l))
    go true e =
        let x = eqb-true l.frame (l.head + 1) e in
        (omega (arith, ints, clamps), omega (arith, ints, clamps), omega arith, omega arith)
    go false e = let x = eqb-false l.frame (l.head + 1) e in (ok.0, ok.1, omega arith, omega arith)

-- an account of the same terms as o, within its limits
pub record Kept (o l : Ledger) : Type 0 where
  pub slots : l.slots ≡ o.slots
  pub largest : l.largest ≡ o.largest
  pub window : l.window ≡ o.window
  pub limits : Limits l

-- what an event says of the account before and after it: this holds of the calls, and of any network that
-- keeps an account by the same definitions, for however many shifts
abbrev pub Happens : Ledger → Event → Ledger → Type 0
Happens l (accepted size f) m = Accepts l size f m
Happens l (refused e) m = (e ≡ WindowSpent → credit l ≤ℤ pos 0) × (m ≡ l)
Happens l shift_made m = m ≡ shifted l

-- the same of a list of events, in the order in which they came
abbrev pub Follows : Ledger → List Event → Ledger → Type 0
Follows l [] m = m ≡ l
Follows l (e ∷ es) m = (k : Ledger) × Happens l e k × Follows k es m

accepts_kept : (o l : Ledger) (size f : ℕ) (m : Ledger) → Kept o l → Accepts l size f m → Kept o m
accepts_kept o l size f m k a =
    record {
      slots = ap (λ n. n.slots) a.leaves ∙ k.slots;
      largest = ap (λ n. n.largest) a.leaves ∙ k.largest;
      window = ap (λ n. n.window) a.leaves ∙ k.window;
      limits = accepts_limits l size f m k.limits a;
    }

shifted_kept : (o l : Ledger) → 2 ≤ o.window → Kept o l → Kept o (shifted l)
shifted_kept o l w k =
    record {
      slots = same (λ n. n.slots) refl refl ∙ k.slots;
      largest = same (λ n. n.largest) refl refl ∙ k.largest;
      window = same (λ n. n.window) refl refl ∙ k.window;
      limits = shifted_limits l (omega (arith, k.window)) k.limits;
    }
  where
    same : (f : Ledger → ℕ) → f (pushed_on (next_head l)) ≡ f l → f (next_head l) ≡ f l → f (shifted l) ≡ f l
    same f p q = cond_both (eqb l.frame (l.head + 1)) (pushed_on (next_head l)) (next_head l) (λ n. f n ≡ f l) (λ e. p) (λ e. q)

pub happens_kept : (o l : Ledger) (e : Event) (m : Ledger) → 2 ≤ o.window → Kept o l → Happens l e m → Kept o m
happens_kept o l (accepted size f) m w k h = accepts_kept o l size f m k h
happens_kept o l (refused e) m w k h = subst (Kept o) (sym h.1) k
happens_kept o l shift_made m w k h = subst (Kept o) (sym h) (shifted_kept o l w k)

pub follows_kept : (o : Ledger) (es : List Event) (l m : Ledger) → 2 ≤ o.window → Kept o l → Follows l es m → Kept o m
follows_kept o [] l m w k h = subst (Kept o) (sym h) k
follows_kept o (e ∷ es) l m w k h = follows_kept o es h.0 m w (happens_kept o l e h.0 w k h.1) h.2

pub follows_append : (es fs : List Event) (l m : Ledger) → Follows l (es ++ fs) m → (k : Ledger) × Follows l es k × Follows k fs m
follows_append [] fs l m h = (l, refl, h)
follows_append (e ∷ es) fs l m h =
    let q = follows_append es fs h.0 m h.2 in
    (q.0, (h.0, h.1, q.1), q.2)

-- a size that is not bad
packet_size : (l : Ledger) (size : ℕ) → bad_size l size ≡ false → (1 ≤ size) × (size ≤ l.largest)
packet_size l size e =
    let q = or_parts (eqb size 0) (ltb l.largest size) e in
    (ne_zero (eqb-false size 0 q.0), ltb-false l.largest size q.1)
  where
    ne_zero : (size ≡ 0 → ⊥) → 1 ≤ size
    ne_zero h = omega arith

-- every offer and every shift is an event of that kind
offer_happens : (l : Ledger) (size : ℕ) → Happens l (event l (offer size)) (leaves l (offer size))
offer_happens l size = go (bad_size l size) refl (paid l) refl
  where
    go : (b : Bool) → bad_size l size ≡ b → (p : Bool) → paid l ≡ p →
        Happens l (offer_event size (cond b (Err SizeRange) (cond p (Ok (ready l).frame) (Err WindowSpent)))) (cond b l (cond p (taken size l) l))
    go true e p q = (λ z. cc, refl)
    go false e true q = let s = packet_size l size e in accepts_ready l size s.0 s.1 (is_above (ready l).balance q)
    go false e false q = (λ z. spent_credit l (is_not_above (ready l).balance q), refl)

shift_happens : (l : Ledger) → Happens l (event l shift) (leaves l shift)
shift_happens l = go (in_run l)
  where
    go : (b : Bool) → Happens l (shift_event (cond b (Ok tt) (Err RunOver))) (cond b (shifted l) l)
    go true = refl
    go false = (λ z. cc, refl)

pub happens : (l : Ledger) (c : Call) → Happens l (event l c) (leaves l c)
happens l (offer size) = offer_happens l size
happens l shift = shift_happens l

pub follows : (l : Ledger) (cs : List Call) → Follows l (events l cs) (after l cs)
follows l [] = refl
follows l (c ∷ cs) = (leaves l c, happens l c, follows (leaves l c) cs)

pub kept_after : (o : Ledger) (cs : List Call) → 2 ≤ o.window → Limits o → Kept o (after o cs)
kept_after o cs w ok = follows_kept o (events o cs) o (after o cs) w (record { slots = refl; largest = refl; window = refl; limits = ok }) (follows o cs)
