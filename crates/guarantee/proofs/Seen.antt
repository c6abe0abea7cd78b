-- What the account of one flow sees of the events of a network: the flow's accepted packets, its refusals for a spent window, the shifts.
use Rattle.std.proofs.Common.{◌≡◌, ℕ, ◌+◌, Bool, true, false, cond, ◌&&◌, eqb, ltb, leb, List, [], ◌∷◌, ◌++◌, Some, None, Option, sym, refl, ap, ◌∙◌, subst, inl, inr, arith}
use Rattle.std.proofs.lemmas.Bool.{eq-eqb}
use Rattle.accounts.specs.Calls as account
use Rattle.accounts.specs.Counts as account_counts
use Rattle.lanes.specs.declared.flits.Flit.{Flit}
use Rattle.running.specs.declared.refusal.RunRefusal.{RunRefusal}
use Rattle.running.specs.declared.refusal.RunRefusal.TheVariants.{NoSuchFlow, PacketSize, WindowSpent, RunOver}
use Rattle.guarantee.specs.Calls.{Event, accepted, refused, cycled_once, not_made}
use Rattle.guarantee.specs.Counts.{spent, accepted_by, accepted_in, shifts, Refusing, Pressed}

-- a refusal for a spent window is seen, no other one is
abbrev pub seen_refusal : RunRefusal → Option account.Event
seen_refusal NoSuchFlow = None
seen_refusal PacketSize = None
seen_refusal WindowSpent = Some account.spent
seen_refusal RunOver = None

-- what flow i's account sees of an event
abbrev pub seen_of : ℕ → Event → Option account.Event
seen_of i (accepted j size frame) = cond (eqb j i) (Some (account.accepted size frame)) None
seen_of i (refused j refusal) = cond (eqb j i) (seen_refusal refusal) None
seen_of i (cycled_once shifted flits) = cond shifted (Some account.shift_made) None
seen_of i not_made = None

abbrev pub with_seen : Option account.Event → List account.Event → List account.Event
with_seen None xs = xs
with_seen (Some x) xs = x ∷ xs

-- and of a list of events
abbrev pub seen : ℕ → List Event → List account.Event
seen i [] = []
seen i (e ∷ es) = with_seen (seen_of i e) (seen i es)

with_append : (o : Option account.Event) (xs ys : List account.Event) → with_seen o (xs ++ ys) ≡ with_seen o xs ++ ys
with_append None xs ys = refl
with_append (Some x) xs ys = refl

pub seen_append : (i : ℕ) (es fs : List Event) → seen i (es ++ fs) ≡ seen i es ++ seen i fs
seen_append i [] fs = refl
seen_append i (e ∷ es) fs = ap (with_seen (seen_of i e)) (seen_append i es fs) ∙ with_append (seen_of i e) (seen i es) (seen i fs)

-- the flow's own refusal for a spent window
pub seen_spent : (i : ℕ) → seen_of i (spent i) ≡ Some account.spent
seen_spent i = ap (λ b. cond b (Some account.spent) None) (eq-eqb i i refl)

-- the account counts what the network counts for the flow: flits of some frames
held_refusal : (first end : ℕ) (b : Bool) (refusal : RunRefusal) (xs : List account.Event) →
    account_counts.held first end (with_seen (cond b (seen_refusal refusal) None) xs) ≡ account_counts.held first end xs
held_refusal first end false refusal xs = refl
held_refusal first end true NoSuchFlow xs = refl
held_refusal first end true PacketSize xs = refl
held_refusal first end true WindowSpent xs = omega arith
held_refusal first end true RunOver xs = refl

held_shift : (first end : ℕ) (b : Bool) (xs : List account.Event) →
    account_counts.held first end (with_seen (cond b (Some account.shift_made) None) xs) ≡ account_counts.held first end xs
held_shift first end true xs = omega arith
held_shift first end false xs = refl

held_accepted : (first end size frame : ℕ) (b : Bool) (xs : List account.Event) →
    account_counts.held first end (with_seen (cond b (Some (account.accepted size frame)) None) xs)
    ≡ cond (b && (leb first frame && ltb frame end)) size 0 + account_counts.held first end xs
held_accepted first end size frame true xs = refl
held_accepted first end size frame false xs = omega arith

pub seen_held : (i first end : ℕ) (es : List Event) → account_counts.held first end (seen i es) ≡ accepted_in i first end es
seen_held i first end [] = refl
seen_held i first end (accepted j size frame ∷ es) =
    held_accepted first end size frame (eqb j i) (seen i es)
    ∙ ap (λ n. cond (eqb j i && (leb first frame && ltb frame end)) size 0 + n) (seen_held i first end es)
seen_held i first end (refused j refusal ∷ es) = held_refusal first end (eqb j i) refusal (seen i es) ∙ seen_held i first end es
seen_held i first end (cycled_once shifted flits ∷ es) = held_shift first end shifted (seen i es) ∙ seen_held i first end es
seen_held i first end (not_made ∷ es) = seen_held i first end es

-- all flits
flits_refusal : (b : Bool) (refusal : RunRefusal) (xs : List account.Event) →
    account_counts.flits (with_seen (cond b (seen_refusal refusal) None) xs) ≡ account_counts.flits xs
flits_refusal false refusal xs = refl
flits_refusal true NoSuchFlow xs = refl
flits_refusal true PacketSize xs = refl
flits_refusal true WindowSpent xs = refl
flits_refusal true RunOver xs = refl

flits_shift : (b : Bool) (xs : List account.Event) → account_counts.flits (with_seen (cond b (Some account.shift_made) None) xs) ≡ account_counts.flits xs
flits_shift true xs = refl
flits_shift false xs = refl

flits_accepted : (size frame : ℕ) (b : Bool) (xs : List account.Event) →
    account_counts.flits (with_seen (cond b (Some (account.accepted size frame)) None) xs) ≡ cond b size 0 + account_counts.flits xs
flits_accepted size frame true xs = refl
flits_accepted size frame false xs = omega arith

pub seen_flits : (i : ℕ) (es : List Event) → account_counts.flits (seen i es) ≡ accepted_by i es
seen_flits i [] = refl
seen_flits i (accepted j size frame ∷ es) = flits_accepted size frame (eqb j i) (seen i es) ∙ ap (λ n. cond (eqb j i) size 0 + n) (seen_flits i es)
seen_flits i (refused j refusal ∷ es) = flits_refusal (eqb j i) refusal (seen i es) ∙ seen_flits i es
seen_flits i (cycled_once shifted flits ∷ es) = flits_shift shifted (seen i es) ∙ seen_flits i es
seen_flits i (not_made ∷ es) = seen_flits i es

-- and the shifts
shifts_refusal : (b : Bool) (refusal : RunRefusal) (xs : List account.Event) →
    account_counts.shifts (with_seen (cond b (seen_refusal refusal) None) xs) ≡ account_counts.shifts xs
shifts_refusal false refusal xs = refl
shifts_refusal true NoSuchFlow xs = refl
shifts_refusal true PacketSize xs = refl
shifts_refusal true WindowSpent xs = refl
shifts_refusal true RunOver xs = refl

shifts_shift : (b : Bool) (xs : List account.Event) →
    account_counts.shifts (with_seen (cond b (Some account.shift_made) None) xs) ≡ cond b 1 0 + account_counts.shifts xs
shifts_shift true xs = omega arith
shifts_shift false xs = omega arith

shifts_accepted : (size frame : ℕ) (b : Bool) (xs : List account.Event) →
    account_counts.shifts (with_seen (cond b (Some (account.accepted size frame)) None) xs) ≡ account_counts.shifts xs
shifts_accepted size frame true xs = refl
shifts_accepted size frame false xs = refl

pub seen_shifts : (i : ℕ) (es : List Event) → account_counts.shifts (seen i es) ≡ shifts es
seen_shifts i [] = refl
seen_shifts i (accepted j size frame ∷ es) = shifts_accepted size frame (eqb j i) (seen i es) ∙ seen_shifts i es
seen_shifts i (refused j refusal ∷ es) = shifts_refusal (eqb j i) refusal (seen i es) ∙ seen_shifts i es
seen_shifts i (cycled_once shifted flits ∷ es) = shifts_shift shifted (seen i es) ∙ ap (λ n. cond shifted 1 0 + n) (seen_shifts i es)
seen_shifts i (not_made ∷ es) = seen_shifts i es

-- a refusal of the flow is seen
refusing_on : (o : Option account.Event) (xs : List account.Event) → account_counts.Refusing xs → account_counts.Refusing (with_seen o xs)
refusing_on None xs h = h
refusing_on (Some x) xs h = inr h

pub seen_refusing : (i : ℕ) (es : List Event) → Refusing i es → account_counts.Refusing (seen i es)
seen_refusing i [] h = h
seen_refusing i (e ∷ es) (inl q) =
    subst (λ o. account_counts.Refusing (with_seen o (seen i es))) (sym (ap (seen_of i) q ∙ seen_spent i)) (inl refl)
seen_refusing i (e ∷ es) (inr h) = refusing_on (seen_of i e) (seen i es) (seen_refusing i es h)

-- what is seen as a shift is a cycle with a shift
refused_no_shift : (b : Bool) (refusal : RunRefusal) → cond b (seen_refusal refusal) None ≡ Some account.shift_made → ⊥
refused_no_shift false refusal h = absurd cc
refused_no_shift true NoSuchFlow h = absurd cc
refused_no_shift true PacketSize h = absurd cc
refused_no_shift true WindowSpent h = absurd cc
refused_no_shift true RunOver h = absurd cc

accepted_no_shift : (b : Bool) (size frame : ℕ) → cond b (Some (account.accepted size frame)) None ≡ Some account.shift_made → ⊥
accepted_no_shift false size frame h = absurd cc
accepted_no_shift true size frame h = absurd cc

shift_from : (i : ℕ) (e : Event) → seen_of i e ≡ Some account.shift_made → (xs : List Flit) × (e ≡ cycled_once true xs)
shift_from i (accepted j size frame) h = absurd (accepted_no_shift (eqb j i) size frame h)
shift_from i (refused j refusal) h = absurd (refused_no_shift (eqb j i) refusal h)
shift_from i (cycled_once true flits) h = (flits, refl)
shift_from i (cycled_once false flits) h = absurd cc
shift_from i not_made h = absurd cc

-- where the account sees a shift, the events part at a cycle with a shift
pub record Parted (i : ℕ) (es : List Event) (before later : List account.Event) : Type 0 where
  pub former : List Event
  pub flits : List Flit
  pub rest : List Event
  pub is : es ≡ former ++ (cycled_once true flits ∷ rest)
  pub saw : seen i former ≡ before
  pub sees : seen i rest ≡ later

part_here : (i : ℕ) (e : Event) (es : List Event) (later : List account.Event) → seen i es ≡ later →
    ((xs : List Flit) × (e ≡ cycled_once true xs)) → Parted i (e ∷ es) [] later
part_here i e es later q (xs, is) = record { former = []; flits = xs; rest = es; is = ap (λ f. f ∷ es) is; saw = refl; sees = q }

part_past : (i : ℕ) (e : Event) (es : List Event) (before later : List account.Event) (o : Option account.Event) → seen_of i e ≡ o →
    Parted i es before later → Parted i (e ∷ es) (with_seen o before) later
part_past i e es before later o s p = record {
  former = e ∷ p.former;
  flits = p.flits;
  rest = p.rest;
  is = ap (λ fs. e ∷ fs) p.is;
  saw = ap (λ u. with_seen u (seen i p.former)) s ∙ ap (with_seen o) p.saw;
  sees = p.sees;
}

no_shift_in : (before later : List account.Event) → [] ≡ before ++ (account.shift_made ∷ later) → ⊥
no_shift_in [] later h = absurd cc
no_shift_in (x ∷ before) later h = absurd cc

part_by : (i : ℕ) (e : Event) (es : List Event) (before later : List account.Event) (o : Option account.Event) → seen_of i e ≡ o →
    ((earlier : List account.Event) → seen i es ≡ earlier ++ (account.shift_made ∷ later) → Parted i es earlier later) →
    with_seen o (seen i es) ≡ before ++ (account.shift_made ∷ later) → Parted i (e ∷ es) before later
part_by i e es before later None s ih h = part_past i e es before later None s (ih before h)
part_by i e es [] later (Some x) s ih h =
    let first : x ≡ account.shift_made = cc in
    part_here i e es later (cc) (shift_from i e (s ∙ ap Some first))
part_by i e es (y ∷ before) later (Some x) s ih h =
    let first : x ≡ y = cc in
    part_past i e es before later (Some y) (s ∙ ap Some first) (ih before (cc))

pub part_at : (i : ℕ) (es : List Event) (before later : List account.Event) → seen i es ≡ before ++ (account.shift_made ∷ later) → Parted i es before later
part_at i [] before later h = absurd (no_shift_in before later h)
part_at i (e ∷ es) before later h = part_by i e es before later (seen_of i e) refl (λ earlier q. part_at i es earlier later q) h

-- a flow pressed in the network is pressed in its account
pressed_by : (i : ℕ) (es : List Event) (before between later : List account.Event) → Pressed i es → account_counts.shifts between ≡ 0 →
    (p : Parted i es before (between ++ (account.shift_made ∷ later))) → Parted i p.rest between later → account_counts.Refusing between
pressed_by i es before between later press none p q =
    subst account_counts.Refusing q.saw
    (seen_refusing i q.former
    (press p.former q.former q.rest p.flits q.flits
    (p.is ∙ ap (λ fs. p.former ++ (cycled_once true p.flits ∷ fs)) q.is)
    (sym (seen_shifts i q.former) ∙ ap account_counts.shifts q.saw ∙ none)))

pub seen_pressed : (i : ℕ) (es : List Event) → Pressed i es → account_counts.Pressed (seen i es)
seen_pressed i es press before between later h none =
    let p = part_at i es before (between ++ (account.shift_made ∷ later)) h in
    pressed_by i es before between later press none p (part_at i p.rest between later p.sees)
