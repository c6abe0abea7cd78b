-- What a packet leaves at its source.
use Rattle.std.proofs.Common.{◌≡◌, ℕ, ◌+◌, ◌-◌, ◌*◌, ◌<◌, ◌≢◌, List, get_or, set, pos, ◌+ℤ◌, ◌-ℤ◌, ◌≤ℤ◌, Ok, Err, Result, sym, ap, ◌∙◌, subst, add-mul, arith}
use Rattle.std.proofs.lemmas.List.{get_or-set_other, length-set}
use Rattle.std.proofs.lemmas.Int.{ints}
use Rattle.std.proofs.lemmas.List.Sums.{sum_by-set}
use Rattle.accounts.specs.Ledgers.{Ledger, Sound}
use Rattle.accounts.specs.Calls.{offer, offer_event}
use Rattle.accounts.specs.Offers.{offer_answer, offer_leaves}
use Rattle.accounts.specs.declared.refusal.AccountRefusal.{AccountRefusal}
use Rattle.accounts.proofs.Steps.{Accepts, Happens, happens}
use Rattle.sources.specs.Lines.{Line}
use Rattle.sources.specs.Sources.{SoundLine}

-- what the answer to an offer says of the account
answered : (l : Ledger) (size : ℕ) (r : Result ℕ AccountRefusal) → r ≡ offer_answer l size → Happens l (offer_event size r) (offer_leaves l size)
answered l size r e = subst (λ q. Happens l (offer_event size q) (offer_leaves l size)) (sym e) (happens l (offer size))

-- the source of an accepted packet: `a` is its account afterwards, hf the head frame that it tells
module _ {l : Line} (ok : SoundLine l) (size f : ℕ) (a : Ledger) (h : Ok f ≡ offer_answer l.ledger size) (m : a ≡ offer_leaves l.ledger size) (sound : Sound a) (hf : ℕ) (told : hf ≡ a.head) where
  now_is : Accepts l.ledger size f a
  now_is = subst (λ n. Accepts l.ledger size f n) (sym m) (answered l.ledger size (Ok f) h)

  same_slots : a.slots ≡ l.ledger.slots
  same_slots = ap (λ (n : Ledger). n.slots) now_is.leaves

  same_head : a.head ≡ l.ledger.head
  same_head = ap (λ (n : Ledger). n.head) now_is.leaves

  new_frame : a.frame ≡ f
  new_frame = ap (λ (n : Ledger). n.frame) now_is.leaves

  new_balance : a.balance ≡ (l.ledger.balance +ℤ pos (now_is.by * l.ledger.slots)) -ℤ pos size
  new_balance = ap (λ (n : Ledger). n.balance) now_is.leaves

  pub place_below : f - hf < 8
  place_below = omega (arith, told, same_head, now_is.frame, now_is.in_window, ok.sound)

  pub still_owed : (pos (l.accepted + size) +ℤ a.balance) ≤ℤ pos (a.frame * a.slots)
  still_owed =
      let grown : a.frame * a.slots ≡ l.ledger.frame * l.ledger.slots + now_is.by * l.ledger.slots =
      ap (λ n. n * a.slots) (new_frame ∙ now_is.frame) ∙ ap (λ n. (l.ledger.frame + now_is.by) * n) same_slots ∙ add-mul l.ledger.frame now_is.by l.ledger.slots in
      omega (arith, ints, grown, new_balance, ok.owed)

  abbrev after : List ℕ
  after = set l.waiting (f - hf) (get_or l.waiting (f - hf) 0 + size)

  pub still_ordered : (k : ℕ) → a.frame < a.head + k → get_or after k 0 ≡ 0
  still_ordered k past =
      let other : k ≢ f - hf = omega (arith, told, new_frame, same_head, now_is.frame, now_is.in_window, ok.sound) in
      get_or-set_other l.waiting (f - hf) k _ 0 other ∙ ok.ordered k (omega (arith, new_frame, same_head, now_is.frame))

  pub accepted_sound : SoundLine (record { ledger = a; route = l.route; waiting = after; sent = l.sent; accepted = l.accepted + size; delivered = l.delivered; refused = l.refused })
  accepted_sound = record {
    sound = sound;
    routed = ok.routed;
    sized = length-set l.waiting _ _ ∙ ok.sized;
    counted = omega (arith, sum_by-set (λ n. n) l.waiting (f - hf) (get_or l.waiting (f - hf) 0 + size) 0 (omega (arith, place_below, ok.sized)), ok.counted);
    ordered = still_ordered;
    owed = still_owed;
    arrived = ok.arrived;
  }

-- an account that refused a packet is what it was
pub refused_same : (l a : Ledger) (size : ℕ) (r : AccountRefusal) → Err r ≡ offer_answer l size → a ≡ offer_leaves l size → a ≡ l
refused_same l a size r h m = m ∙ (answered l size (Err r) h).1

-- the source of that packet, with its refusals counted or not
pub refused_sound : {l : Line} → SoundLine l → (size : ℕ) (r : AccountRefusal) (a : Ledger) → Err r ≡ offer_answer l.ledger size → a ≡ offer_leaves l.ledger size → (n : ℕ) →
    SoundLine (record { ledger = a; route = l.route; waiting = l.waiting; sent = l.sent; accepted = l.accepted; delivered = l.delivered; refused = n })
refused_sound {l} ok size r a h m n =
    subst (λ b. SoundLine (record { ledger = b; route = l.route; waiting = l.waiting; sent = l.sent; accepted = l.accepted; delivered = l.delivered; refused = n }))
    (sym (refused_same l.ledger a size r h m))
    (record { sound = ok.sound; routed = ok.routed; sized = ok.sized; counted = ok.counted; ordered = ok.ordered; owed = ok.owed; arrived = ok.arrived })
