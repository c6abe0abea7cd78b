-- Lemmas for the laws of round robin; no contract cites them.
use Rattle.std.specs.Prelude.{◌≡◌, ℕ, ◌+◌, ◌-◌, ◌<◌, ◌≤◌, Bool, true, List, is_some, Some, None, Option, refl}
use Rattle.std.specs.Option.{option_or}
use Rattle.std.proofs.Common.{⊎_elim, arith}
use Rattle.std.proofs.lemmas.Bool.{cases_lt, false≢true}
use Rattle.folds.proofs.Firsts.{first_passes, first_finds}
use Rattle.arbiters.specs.FlowSets.{has}
use Rattle.arbiters.specs.Rounds.{next_after}
use Rattle.arbiters.specs.Answering.{member_below}

else_some : (a b : Option ℕ) (f : ℕ) (P : Type 0) → (a ≡ Some f → P) → (b ≡ Some f → P) → option_or a b ≡ Some f → P
else_some (Some x) b f P p q h = p h
else_some None b f P p q h = q h

else_first : (a b : Option ℕ) → is_some a ≡ true → is_some (option_or a b) ≡ true
else_first (Some x) b h = refl
else_first None b h = absurd (false≢true h)

else_second : (a b : Option ℕ) → is_some b ≡ true → is_some (option_or a b) ≡ true
else_second (Some x) b h = refl
else_second None b h = h

pub next_belongs : (last : ℕ) (s : List Bool) (f : ℕ) → next_after last s ≡ Some f → has s f ≡ true
next_belongs last s f h = else_some _ _ f _ (first_passes (has s) (last + 1) (64 - (last + 1)) f) (first_passes (has s) 0 (last + 1 - 0) f) h

pub next_chooses : (last : ℕ) (s : List Bool) (f : ℕ) → has s f ≡ true → is_some (next_after last s) ≡ true
next_chooses last s f h =
    let l : f < 64 = member_below s f h in
    ⊎_elim
    (λ (q : last < f). else_first _ _ (first_finds (has s) (last + 1) (64 - (last + 1)) f (omega arith) (omega arith) h))
    (λ (q : f ≤ last). else_second _ _ (first_finds (has s) 0 (last + 1 - 0) f (omega arith) (omega arith) h))
    (cases_lt last f)
