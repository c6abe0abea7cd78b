-- An accepted packet's flits are held in its frame, and an offer leaves held what was held.
use Rattle.std.proofs.Common.{◌≡◌, ℕ, ◌+◌, ◌-◌, ◌<◌, ◌≤◌, Bool, true, false, cond, ltb, ◌≢◌, ◌⊎◌, length, get_or, take, set, Ok, sum, sym, refl, ap, ◌∙◌, subst, inl, inr, arith}
use Rattle.std.proofs.lemmas.List.{get_or-set_same, get_or-set_other}
use Rattle.std.proofs.lemmas.List.Sums.{sum_by-take-le}
use Rattle.std.proofs.lemmas.Bool.{cases_eq, cases_order, ltb-true}
use Rattle.accounts.specs.Offers.{ready, bad_size, paid}
use Rattle.accounts.proofs.Ready.{ready_is}
use Rattle.plan.specs.Tables.{Table}
use Rattle.sources.specs.Lines.{Line, joined, turned_away, offered}
use Rattle.running.specs.Nets.{Net, no_line, line, flows}
use Rattle.running.specs.Offers.{offer_answer, with_line, offer_leaves}
use Rattle.running.proofs.Answering.{answered}
use Rattle.guarantee.proofs.Goods.{LineOk, Good}
use Rattle.guarantee.proofs.Holding.{Waits, Holds, up_next, up_set, up_later, zeros_behind}

module _ (t : Table) (n : Net) (good : Good t n) (i : ℕ) (among : i < flows n) where
  abbrev mine : Line
  mine = line n i

  known : LineOk t n i
  known = good.lines i (omega (arith, good.flows))

  -- the place of the frame that a packet gets, among the open frames
  abbrev found : ℕ
  found = (ready mine.ledger).frame

  abbrev place : ℕ
  place = found - mine.ledger.head

  same_head : mine.ledger.head ≡ n.head
  same_head = (good.sound.1 i among).0

  same_window : mine.ledger.window ≡ n.window
  same_window = (good.sound.1 i among).1

  found_from : mine.ledger.frame ≤ found
  found_from = omega (arith, ap (λ m. m.frame) (ready_is mine.ledger).is)

  found_open : (mine.ledger.head + 1 ≤ found) × (found ≤ mine.ledger.head + mine.ledger.window - 1)
  found_open =
      let is = ap (λ m. m.frame) (ready_is mine.ledger).is in
      let most = (ready_is mine.ledger).most in
      (omega (arith, known.kept.limits), omega (arith, known.kept.limits))

  found_is : found ≡ n.head + place
  found_is = omega (arith, found_open, same_head)

  found_below : found < n.head + n.window
  found_below = omega (arith, found_open, same_head, same_window, good.sound.0)

  place_inside : place < length mine.waiting
  place_inside = omega (arith, found_open, same_window, good.sound.0, (good.sound.1 i among).2)

  -- nothing waits for a later frame
  none_later : (k : ℕ) → place < k → get_or mine.waiting k 0 ≡ 0
  none_later k l = known.ordered k (omega (arith, found_open, found_from))

  module _ (size : ℕ) where
    -- the packet's flits wait last
    joined_waits : (num : ℕ) → mine.accepted ≤ num → num < mine.accepted + size → Waits (joined mine size) place num
    joined_waits num low high =
        let v : ℕ = get_or mine.waiting place 0 + size in
        let before : sum (take place (set mine.waiting place v)) ≡ sum (take place mine.waiting) = up_later mine.waiting place place v (omega arith) in
        let here : sum (take (place + 1) (set mine.waiting place v)) + get_or mine.waiting place 0 ≡ sum (take (place + 1) mine.waiting) + v =
        up_set mine.waiting (place + 1) place v (omega arith) place_inside in
        let all : sum (take (place + 1) mine.waiting) ≡ sum mine.waiting = zeros_behind mine.waiting place none_later in
        let part : sum (take place mine.waiting) ≤ sum mine.waiting = sum_by-take-le (λ m. m) mine.waiting place in
        (omega (arith, known.counted), omega (arith, known.counted))

    -- and those that waited still do
    still_by : (k num : ℕ) → Waits mine k num → ((k ≡ place) ⊎ ((k < place) ⊎ (place < k))) → Waits (joined mine size) k num
    still_by k num w (inl e) =
        let v : ℕ = get_or mine.waiting place 0 + size in
        let before : sum (take k (set mine.waiting place v)) ≡ sum (take k mine.waiting) = up_later mine.waiting k place v (omega arith) in
        let here : sum (take (k + 1) (set mine.waiting place v)) + get_or mine.waiting place 0 ≡ sum (take (k + 1) mine.waiting) + v =
        up_set mine.waiting (k + 1) place v (omega arith) place_inside in
        (omega (arith, w.0), omega (arith, w.1))
    still_by k num w (inr (inl l)) =
        let v : ℕ = get_or mine.waiting place 0 + size in
        let before : sum (take k (set mine.waiting place v)) ≡ sum (take k mine.waiting) = up_later mine.waiting k place v (omega arith) in
        let here : sum (take (k + 1) (set mine.waiting place v)) ≡ sum (take (k + 1) mine.waiting) = up_later mine.waiting (k + 1) place v (omega arith) in
        (omega (arith, w.0), omega (arith, w.1))
    still_by k num w (inr (inr l)) = absurd (omega (arith, w.0, w.1, up_next mine.waiting k, none_later k l))

    still_waits : (k num : ℕ) → Waits mine k num → Waits (joined mine size) k num
    still_waits k num w = still_by k num w (cases_order k place)

    offered_by : (bad rich : Bool) (k num : ℕ) → Waits mine k num → Waits (cond bad mine (cond rich (joined mine size) (turned_away mine))) k num
    offered_by true rich k num w = w
    offered_by false true k num w = still_waits k num w
    offered_by false false k num w = w

    offered_waits : (k num : ℕ) → Waits (line n i) k num → Waits (offered (line n i) size) k num
    offered_waits k num w = offered_by (bad_size mine.ledger size) (paid mine.ledger) k num w

    joined_holds : (num : ℕ) → (line n i).accepted ≤ num → num < (line n i).accepted + size →
        Holds (with_line n i (joined (line n i) size)) i num (ready (line n i).ledger).frame
    joined_holds num low high =
        (place, found_is, inl (subst (λ m. Waits m place num) (sym (get_or-set_same n.lines i (joined mine size) no_line among)) (joined_waits num low high)))

    frame_below : (ready (line n i).ledger).frame < n.head + n.window
    frame_below = found_below

-- a network with one line changed, at which those that waited still do
module _ (n : Net) (i : ℕ) (among : i < flows n) (new : Line) (still : (k num : ℕ) → Waits (line n i) k num → Waits new k num) where
  changed_by : (j k num : ℕ) → Waits (line n j) k num → ((j ≡ i) ⊎ (j ≡ i → ⊥)) → Waits (line (with_line n i new) j) k num
  changed_by j k num w (inl e) =
      subst (λ b. Waits (line (with_line n i new) b) k num) (sym e)
      (subst (λ m. Waits m k num) (sym (get_or-set_same n.lines i new no_line among)) (still k num (subst (λ b. Waits (line n b) k num) e w)))
  changed_by j k num w (inr d) = let ne : j ≢ i = d in subst (λ m. Waits m k num) (sym (get_or-set_other n.lines i j new no_line ne)) w

  changed_holds : (j num f : ℕ) → Holds n j num f → Holds (with_line n i new) j num f
  changed_holds j num f (k, e, inl w) = (k, e, inl (changed_by j k num w (cases_eq j i)))
  changed_holds j num f (k, e, inr lies) = (k, e, inr lies)

module _ (t : Table) (n : Net) (good : Good t n) (i size : ℕ) where
  kept_by : (b : Bool) → ltb i (flows n) ≡ b → (j num f : ℕ) → Holds n j num f → Holds (cond b (with_line n i (offered (line n i) size)) n) j num f
  kept_by true e j num f h =
      changed_holds n i (ltb-true i (flows n) e) (offered (line n i) size) (offered_waits t n good i (ltb-true i (flows n) e) size) j num f h
  kept_by false e j num f h = h

  -- what was held stays held, whatever the answer
  pub offer_holds : (j num f : ℕ) → Holds n j num f → Holds (offer_leaves n i size) j num f
  offer_holds j num f h = kept_by (ltb i (flows n)) refl j num f h

  module _ (f : ℕ) (answer : offer_answer n i size ≡ Ok f) where
    says : (ltb i (flows n) ≡ true) × (bad_size (line n i).ledger size ≡ false) × (paid (line n i).ledger ≡ true) × (f ≡ (ready (line n i).ledger).frame)
    says = answered (ltb i (flows n)) (bad_size (line n i).ledger size) (paid (line n i).ledger) f (ready (line n i).ledger).frame (sym answer)

    among : i < flows n
    among = ltb-true i (flows n) says.0

    leaves_is : offer_leaves n i size ≡ with_line n i (joined (line n i) size)
    leaves_is =
        ap (λ b. cond b (with_line n i (offered (line n i) size)) n) says.0
        ∙ ap (λ b. with_line n i (cond b (line n i) (cond (paid (line n i).ledger) (joined (line n i) size) (turned_away (line n i))))) says.1
        ∙ ap (λ b. with_line n i (cond b (joined (line n i) size) (turned_away (line n i)))) says.2

    -- an accepted packet's flits are held in its frame, which is open
    pub accepted_held : ((num : ℕ) → (line n i).accepted ≤ num → num < (line n i).accepted + size → Holds (offer_leaves n i size) i num f)
        × (f < n.head + n.window)
    accepted_held = (
      λ num low high. subst (λ m. Holds m i num f) (sym leaves_is)
          (subst (λ g. Holds (with_line n i (joined (line n i) size)) i num g) (sym says.3) (joined_holds t n good i among size num low high)),
      subst (λ g. g < n.head + n.window) (sym says.3) (frame_below t n good i among size),
    )
