-- Lemmas for the laws of both arbiters; no contract cites them.
use Rattle.std.specs.Prelude.{◌≡◌, ℕ, ◌<◌, Bool, true, false, cond, List, is_some, Some, None, Option, nat_lt, slice_index_or, refl}
use Rattle.std.proofs.Common.{ap, ◌∙◌, arith}
use Rattle.std.proofs.lemmas.Bool.{both_ways, and_parts, ltb-true, lt-ltb}
use Rattle.arbiters.specs.FlowSets.{has}

-- a member is one of the 64 flows
pub member_below : (s : List Bool) (f : ℕ) → has s f ≡ true → f < 64
member_below s f h = ltb-true f 64 (and_parts (nat_lt f 64) (slice_index_or s f false) h).0

-- whoever answers only members answers none for the empty set
pub none_of_empty : (s : List Bool) (o : Option ℕ) → ((f : ℕ) → o ≡ Some f → has s f ≡ true) → ((f : ℕ) → has s f ≡ false) → o ≡ None
none_of_empty s None h k = refl
none_of_empty s (Some f) h k = absurd (both_ways (has s f) (k f) (h f refl))

within_by : (b : Bool) (o : Option ℕ) (f : ℕ) (P : Type 0) → (o ≡ Some f → P) → cond b o None ≡ Some f → P
within_by true o f P k h = k h
within_by false o f P k h = let z : ◌≡◌ {A = ℕ} 0 1 = cc in absurd (omega arith)

-- an answer that is given for the 320 channels alone
pub within_belongs : (c : ℕ) (o : Option ℕ) (f : ℕ) (P : Type 0) → (o ≡ Some f → P) → cond (nat_lt c 320) o None ≡ Some f → P
within_belongs c o f P k h = within_by (nat_lt c 320) o f P k h

pub within_some : (c : ℕ) (o : Option ℕ) → c < 320 → is_some o ≡ true → is_some (cond (nat_lt c 320) o None) ≡ true
within_some c o l h = ap (λ b. is_some (cond b o None)) (lt-ltb c 320 l) ∙ h
