-- A flow at its source that keeps to its terms, through every change of a running network.
use Rattle.std.proofs.Common.{◌≡◌, ℕ, suc, ◌+◌, ◌-◌, ◌<◌, ◌≤◌, Bool, true, false, cond, eqb, ltb, ◌≢◌, ◌⊎◌, List, [], ◌∷◌, ◌++◌, length, get_or, drop, set, Some, None, sum, Option, refl, ap, ◌∙◌, subst, inl, inr, arith}
use Rattle.std.proofs.lemmas.List.{get_or-set_other}
use Rattle.std.proofs.lemmas.Int.{ints}
use Rattle.std.proofs.lemmas.List.Sums.{sum_by-set, sum_by_push, sum_by-drop_more}
use Rattle.std.proofs.lemmas.Bool.{cases_eq, or_parts, eqb-false, ltb-false, ltb-true}
use Rattle.accounts.specs.Accounts.{fresh}
use Rattle.accounts.specs.Calls.{accepted, shift_made}
use Rattle.accounts.specs.Ledgers.{Ledger, Limits}
use Rattle.accounts.specs.Offers.{ready, bad_size, paid, taken}
use Rattle.accounts.specs.Shifts.{shifted}
use Rattle.accounts.proofs.Ready.{ready_is}
use Rattle.accounts.proofs.Refills.{is_above}
use Rattle.accounts.proofs.Steps.{Accepts, accepts_ready, Kept, happens_kept}
use Rattle.folds.proofs.Firsts.{first_passes}
use Rattle.folds.proofs.Ups.{first_within}
use Rattle.plan.specs.Tables.{Table}
use Rattle.sources.specs.Lines.{Line, joined, turned_away, offered, first_place, without_first, moved_on}
use Rattle.sources.proofs.Leaving.{shift_goes}
use Rattle.sources.proofs.Opening.{none_waiting}
use Rattle.running.specs.Cycles.{opened_flow}
use Rattle.running.specs.Moves.{left_if, arrived_if, moved_line, at_channel, gives_to}
use Rattle.running.specs.Nets.{Net, line}
use Rattle.running.specs.declared.grant.Grant.{Grant}
use Rattle.running.proofs.Shifting.{moved_place}
use Rattle.routes.specs.Crossings.{first_channel, last_channel}
use Rattle.guarantee.specs.Promises.{flow}
use Rattle.guarantee.proofs.Goods.{LineOk}

-- the account as it was opened for a flow
abbrev pub opening : Table → ℕ → Ledger
opening t i = fresh (flow t i).slots (flow t i).largest t.settings.window

-- what a LineOk says, of the line alone
pub record Fits (t : Table) (i : ℕ) (l : Line) : Type 0 where
  pub routed : l.route ≡ (flow t i).route
  pub kept : Kept (opening t i) l.ledger
  pub counted : l.sent + sum l.waiting ≡ l.accepted
  pub ordered : (k : ℕ) → l.ledger.frame < l.ledger.head + k → get_or l.waiting k 0 ≡ 0

pub line_fits : (t : Table) (n : Net) (i : ℕ) → LineOk t n i → Fits t i (line n i)
line_fits t n i ok = record { routed = ok.routed; kept = ok.kept; counted = ok.counted; ordered = ok.ordered }

pub fits_line : (t : Table) (n : Net) (i : ℕ) → Fits t i (line n i) → LineOk t n i
fits_line t n i ok = record { routed = ok.routed; kept = ok.kept; counted = ok.counted; ordered = ok.ordered }

-- a flow as it is opened
pub opened_fits : (t : Table) (i : ℕ) → 2 ≤ t.settings.window → 1 ≤ (flow t i).largest → Fits t i (opened_flow t.settings.window (flow t i))
opened_fits t i two some = record {
  routed = refl;
  kept = record { slots = refl; largest = refl; window = refl; limits = (omega (arith, ints), omega (arith, ints), omega arith, omega arith) };
  counted = refl;
  ordered = λ k l. none_waiting k;
}

-- where an offer finds its frame: not before the injection frame, and within the window
module _ (l : Ledger) (ok : Limits l) where
  ready_frame : (ready l).frame ≡ l.frame + (ready_is l).by
  ready_frame = ap (λ m. m.frame) (ready_is l).is

  pub ready_on : l.frame ≤ (ready l).frame
  ready_on = omega (arith, ready_frame)

  pub ready_place : (ready l).frame - l.head ≤ l.window - 1
  ready_place = omega (arith, ready_frame, (ready_is l).most, ok)

  ready_after : l.head ≤ (ready l).frame
  ready_after = omega (arith, ready_frame, ok)

-- an offer
module _ (t : Table) (i : ℕ) (two : 2 ≤ t.settings.window) (most : t.settings.window ≤ 8) (l : Line) (fits : Fits t i l) (long : length l.waiting ≡ 8) where
  abbrev place : ℕ
  place = (ready l.ledger).frame - l.ledger.head

  pub place_few : (ready l.ledger).frame - l.ledger.head < 8
  place_few = omega (arith, ready_place l.ledger fits.kept.limits, fits.kept.window)

  joined_other : (size k : ℕ) → (ready l.ledger).frame < l.ledger.head + k → get_or (joined l size).waiting k 0 ≡ 0
  joined_other size k h =
      let other : k ≢ place = omega (arith, ready_after l.ledger fits.kept.limits) in
      get_or-set_other l.waiting place k (get_or l.waiting place 0 + size) 0 other
      ∙ fits.ordered k (omega (arith, ready_on l.ledger fits.kept.limits))

  accepts : (size : ℕ) → bad_size l.ledger size ≡ false → paid l.ledger ≡ true → Accepts l.ledger size (ready l.ledger).frame (taken size l.ledger)
  accepts size b p =
      let good = or_parts (eqb size 0) (ltb l.ledger.largest size) b in
      let some : size ≡ 0 → ⊥ = eqb-false size 0 good.0 in
      accepts_ready l.ledger size (omega arith) (ltb-false l.ledger.largest size good.1) (is_above (ready l.ledger).balance p)

  pub joined_fits : (size : ℕ) → bad_size l.ledger size ≡ false → paid l.ledger ≡ true → Fits t i (joined l size)
  joined_fits size b p = record {
    routed = fits.routed;
    kept = happens_kept (opening t i) l.ledger (accepted size (ready l.ledger).frame) (taken size l.ledger) two fits.kept (accepts size b p);
    counted = omega (arith, sum_by-set (λ n. n) l.waiting place (get_or l.waiting place 0 + size) 0 (omega (arith, place_few)), fits.counted);
    ordered = joined_other size;
  }

  pub turned_fits : Fits t i (turned_away l)
  turned_fits = record { routed = fits.routed; kept = fits.kept; counted = fits.counted; ordered = fits.ordered }

  pub offered_fits : (size : ℕ) → Fits t i (offered l size)
  offered_fits size = go (bad_size l.ledger size) refl (paid l.ledger) refl
    where
      go : (b : Bool) → bad_size l.ledger size ≡ b → (p : Bool) → paid l.ledger ≡ p → Fits t i (cond b l (cond p (joined l size) (turned_away l)))
      go true e p q = fits
      go false e true q = joined_fits size e q
      go false e false q = turned_fits

-- a shift, where nothing waits for the head frame
module _ (t : Table) (i : ℕ) (two : 2 ≤ t.settings.window) (l : Line) (fits : Fits t i l) (long : length l.waiting ≡ 8) (none : get_or l.waiting 0 0 ≡ 0) where
  shift_ordered : (k : ℕ) → (shifted l.ledger).frame < (shifted l.ledger).head + k → get_or (drop 1 l.waiting ++ 0 ∷ []) k 0 ≡ 0
  shift_ordered k h =
      let goes = shift_goes l.ledger in
      moved_place l.waiting k ∙ fits.ordered (suc k) (omega (arith, goes.head, goes.frame))

  shift_counted : l.sent + sum (drop 1 l.waiting ++ 0 ∷ []) ≡ l.accepted
  shift_counted =
      let first : sum l.waiting ≡ get_or l.waiting 0 0 + sum (drop 1 l.waiting) = sum_by-drop_more (λ n. n) l.waiting 0 0 (omega arith) in
      omega (arith, sum_by_push (λ n. n) (drop 1 l.waiting) 0, first, fits.counted)

  pub moved_on_fits : Fits t i (moved_on l)
  moved_on_fits = record {
    routed = fits.routed;
    kept = happens_kept (opening t i) l.ledger shift_made (shifted l.ledger) two fits.kept refl;
    counted = shift_counted;
    ordered = shift_ordered;
  }

-- a flit that leaves, and one that arrives
module _ (t : Table) (i : ℕ) (l : Line) (fits : Fits t i l) (long : length l.waiting ≡ 8) where
  module _ (j : ℕ) (few : j < 8) (some : 0 < get_or l.waiting j 0) where
    abbrev fewer : List ℕ
    fewer = set l.waiting j (get_or l.waiting j 0 - 1)

    fewer_by : (k : ℕ) → l.ledger.frame < l.ledger.head + k → ((k ≡ j) ⊎ (k ≡ j → ⊥)) → get_or fewer k 0 ≡ 0
    fewer_by k h (inl e) = absurd (let z : get_or l.waiting j 0 ≡ 0 = subst (λ i. get_or l.waiting i 0 ≡ 0) e (fits.ordered k h) in omega arith)
    fewer_by k h (inr d) = let ne : k ≢ j = d in get_or-set_other l.waiting j k (get_or l.waiting j 0 - 1) 0 ne ∙ fits.ordered k h

    left_at : Fits t i (without_first l (Some j))
    left_at = record {
      routed = fits.routed;
      kept = fits.kept;
      counted = omega (arith, sum_by-set (λ n. n) l.waiting j (get_or l.waiting j 0 - 1) 0 (omega arith), fits.counted);
      ordered = λ k h. fewer_by k h (cases_eq k j);
    }

  left_by_place : (o : Option ℕ) → first_place l ≡ o → Fits t i (without_first l o)
  left_by_place None e = fits
  left_by_place (Some j) e =
      let w = first_within (λ k. ltb 0 (get_or l.waiting k 0)) 0 8 j e in
      let p = first_passes (λ k. ltb 0 (get_or l.waiting k 0)) 0 8 j e in
      left_at j (omega arith) (ltb-true 0 (get_or l.waiting j 0) p)

  pub left_fits : (b : Bool) → Fits t i (left_if b l)
  left_fits true = left_by_place (first_place l) refl
  left_fits false = fits

pub arrived_fits : (t : Table) (i : ℕ) (b : Bool) (l : Line) → Fits t i l → Fits t i (arrived_if b l)
arrived_fits t i true l fits = record { routed = fits.routed; kept = fits.kept; counted = fits.counted; ordered = fits.ordered }
arrived_fits t i false l fits = fits

-- all moves together
pub moved_fits : (t : Table) (i : ℕ) (gs : List (Option Grant)) (l : Line) → Fits t i l → length l.waiting ≡ 8 → Fits t i (moved_line gs i l)
moved_fits t i gs l fits long =
    arrived_fits t i (gives_to (at_channel gs (last_channel l.route)) i) (left_if (gives_to (at_channel gs (first_channel l.route)) i) l)
    (left_fits t i l fits long (gives_to (at_channel gs (first_channel l.route)) i))
