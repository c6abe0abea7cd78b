-- How far a source's packets reach, and how many flits it can hold.
use Rattle.std.proofs.Common.{◌≡◌, ℕ, ◌+◌, ◌<◌, ◌≤◌, ◌⊎◌, get_or, ap, inl, inr, arith}
use Rattle.std.proofs.lemmas.Nat.{mul-le}
use Rattle.std.proofs.lemmas.List.{get_or_past}
use Rattle.std.proofs.lemmas.Int.{ints}
use Rattle.std.proofs.lemmas.List.Sums.{get_or-le-sum_by}
use Rattle.std.proofs.lemmas.Bool.{cases_lt}
use Rattle.accounts.specs.Ledgers.{Ledger}
use Rattle.accounts.specs.Offers.{ready}
use Rattle.accounts.proofs.Ready.{ready_is}
use Rattle.sources.specs.Lines.{Line}
use Rattle.sources.specs.Sources.{SoundLine}

module _ {l : Line} (ok : SoundLine l) where
  -- a packet's frame is an open one past the head frame
  pub ready_near : (l.ledger.head < (ready l.ledger).frame) × ((ready l.ledger).frame < l.ledger.head + 8)
  ready_near =
      let g = ready_is l.ledger in
      let f : (ready l.ledger).frame ≡ l.ledger.frame + g.by = ap (λ (m : Ledger). m.frame) g.is in
      (omega (arith, f, g.most, ok.sound), omega (arith, f, g.most, ok.sound))

  pub few_accepted : l.accepted ≤ 68719509568
  few_accepted =
      let most = mul-le l.ledger.frame l.ledger.slots 16777223 4096 (omega (arith, ok.sound)) (omega (arith, ok.sound)) in
      omega (arith, ints, ok.owed, most, ok.sound)

  few_by : (k : ℕ) → ((k < 8) ⊎ (8 ≤ k)) → get_or l.waiting k 0 ≤ l.accepted
  few_by k (inl low) = omega (arith, get_or-le-sum_by (λ n. n) l.waiting k 0 (omega (arith, ok.sized)), ok.counted)
  few_by k (inr past) = omega (arith, get_or_past l.waiting k 0 (omega (arith, ok.sized)))

  -- no more flits wait for a frame than were accepted
  pub place_few : (k : ℕ) → get_or l.waiting k 0 ≤ l.accepted
  place_few k = few_by k (cases_lt k 8)

  pub few_waiting : (k : ℕ) → get_or l.waiting k 0 ≤ 68719509568
  few_waiting k = omega (arith, place_few k, few_accepted)
