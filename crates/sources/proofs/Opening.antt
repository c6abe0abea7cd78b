-- A source just opened.
use Rattle.std.proofs.Common.{◌≡◌, ℕ, ◌<◌, ◌≤◌, ◌⊎◌, true, List, get_or, replicate, Ok, refl, inl, inr, one-mul, arith}
use Rattle.std.proofs.lemmas.List.{get_or-replicate, get_or_past}
use Rattle.std.proofs.lemmas.Bool.{cases_lt}
use Rattle.std.proofs.lemmas.Bool.Decides.{nat_tests}
use Rattle.std.proofs.lemmas.Int.{ints}
use Rattle.accounts.specs.Accounts.{fresh, opened}
use Rattle.accounts.specs.Ledgers.{Ledger, Sound}
use Rattle.routes.specs.Channels.{well_formed}
use Rattle.sources.specs.Lines.{fresh_line}
use Rattle.sources.specs.Sources.{SoundLine}

zero_at : (k : ℕ) → ((k < 8) ⊎ (8 ≤ k)) → ◌≡◌ {A = ℕ} (get_or (replicate 8 0) k 0) 0
zero_at k (inl l) = get_or-replicate 8 k 0 0 l
zero_at k (inr l) = get_or_past (replicate 8 0) k 0 l

pub none_waiting : (k : ℕ) → ◌≡◌ {A = ℕ} (get_or (replicate 8 0) k 0) 0
none_waiting k = zero_at k (cases_lt k 8)

-- what an account is that was just opened
opened_fresh : (slots largest window : ℕ) (l : Ledger) → Ok l ≡ opened slots largest window → l ≡ fresh slots largest window
opened_fresh slots largest window l e = grind (arith, nat_tests)

-- it owes nothing, so its source is in order
pub opened_sound : (slots largest window : ℕ) {l : Ledger} (route : List ℕ) → Ok l ≡ opened slots largest window → Sound l → well_formed route ≡ true → SoundLine (fresh_line l route)
opened_sound slots largest window {l} route e ok routed = record {
  sound = ok;
  routed = routed;
  sized = refl;
  counted = refl;
  ordered = λ k _. none_waiting k;
  owed = rw (opened_fresh slots largest window l e) (omega (arith, ints, one-mul slots));
  arrived = omega arith;
}
