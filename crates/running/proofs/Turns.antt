-- What the channels below c grant, as the turn comes to channel c.
use Rattle.std.proofs.Common.{◌≡◌, ℕ, ◌+◌, ◌≤◌, List, take, None, Option, sym, ap, ◌∙◌, ⊎_elim, arith}
use Rattle.std.proofs.lemmas.List.{get_or-take, get_or_past, length-take}
use Rattle.std.proofs.lemmas.Bool.{cases_eq, cases_lt}
use Rattle.running.specs.Moves.{at_channel}
use Rattle.running.specs.declared.grant.Grant.{Grant}

module _ (gs : List (Option Grant)) (c : ℕ) where
  -- nothing yet from c on
  pub at_later : (d : ℕ) → c ≤ d → at_channel (take c gs) d ≡ None
  at_later d l = get_or_past (take c gs) d None (omega (arith, length-take c gs))

  -- with channel c's grant: that, and otherwise no change
  pub at_turn : at_channel (take (c + 1) gs) c ≡ at_channel gs c
  at_turn = get_or-take (c + 1) gs c None (omega arith)

  pub at_other : (d : ℕ) → (d ≡ c → ⊥) → at_channel (take (c + 1) gs) d ≡ at_channel (take c gs) d
  at_other d ne =
      ⊎_elim (λ l. get_or-take (c + 1) gs d None (omega arith) ∙ sym (get_or-take c gs d None l))
      (λ l. get_or_past (take (c + 1) gs) d None (omega (arith, length-take (c + 1) gs)) ∙ sym (at_later d l))
      (cases_lt d c)

  -- a channel that grants nothing changes nothing
  pub at_skipped : at_channel gs c ≡ None → (d : ℕ) → at_channel (take (c + 1) gs) d ≡ at_channel (take c gs) d
  at_skipped e d =
      ⊎_elim (λ q. ap (at_channel (take (c + 1) gs)) q ∙ at_turn ∙ e ∙ sym (at_later c (omega arith)) ∙ ap (at_channel (take c gs)) (sym q))
      (at_other d)
      (cases_eq d c)
