-- All granted flits that move together leave the network sound.
use Rattle.std.proofs.Common.{◌≡◌, ℕ, zero, suc, ◌+◌, List, length, take, Some, None, Option, sym, refl, subst, add-one, arith}
use Rattle.running.specs.Crossed.{crossed}
use Rattle.running.specs.Moves.{at_channel, moved}
use Rattle.running.specs.Nets.{Net}
use Rattle.running.specs.Sounds.{Sound}
use Rattle.running.specs.Valid.{Valid, Routed, InWindow}
use Rattle.running.specs.declared.grant.Grant.{Grant}
use Rattle.running.proofs.Carrying.{crossed_sound}
use Rattle.running.proofs.Ready.{requested}
use Rattle.running.proofs.Same.{moved_none, moved_skip, moved_all}
use Rattle.running.proofs.Together.{moved_one, ready_one, ready_flow}

-- sound, with some counts of held flits
abbrev pub SoundSome : Net → Type 0
SoundSome n = (held : List ℕ) × Sound n held

-- what holds at first, and after each crossing in its turn, holds when all have moved
module _ (n : Net) (gs : List (Option Grant)) (routed : Routed n) (valid : Valid n gs) (P : Net → Type 0)
    (turn : (c : ℕ) (g : Grant) → at_channel gs c ≡ Some g → P (moved n (take c gs)) → P (crossed (moved n (take c gs)) c g)) where
  turn_by : (c : ℕ) (o : Option Grant) → at_channel gs c ≡ o → P (moved n (take c gs)) → P (moved n (take (c + 1) gs))
  turn_by c None e p = subst P (sym (moved_skip n gs c e)) p
  turn_by c (Some g) e p = subst P (sym (moved_one n gs routed valid c g e)) (turn c g e p)

  turned : P n → (c : ℕ) → P (moved n (take c gs))
  turned p zero = subst P (sym (moved_none n)) p
  turned p (suc c) = subst (λ k. P (moved n (take k gs))) (add-one c) (turn_by c (at_channel gs c) refl (turned p c))

  pub by_turns : P n → P (moved n gs)
  by_turns p = subst P (moved_all n gs (length gs) (omega arith)) (turned p (length gs))

module _ (n : Net) (held : List ℕ) (ok : Sound n held) (gs : List (Option Grant)) (valid : Valid n gs) (opened : InWindow n gs) where
  routed : Routed n
  routed i l = (ok.1 i l).3

  sound_turn : (c : ℕ) (g : Grant) → at_channel gs c ≡ Some g → SoundSome (moved n (take c gs)) → SoundSome (crossed (moved n (take c gs)) c g)
  sound_turn c g e s =
      let asks = ready_one n gs routed valid c g e in
      let r = requested (moved n (take c gs)) c g.ahead g.flow asks in
      let o = opened c g e in
      (_, crossed_sound (moved n (take c gs)) s.0 c g r.0 s.1 (ready_flow n gs routed valid c g e) r.1 asks o.1 o.0)

  pub moved_sound : (held' : List ℕ) × Sound (moved n gs) held'
  moved_sound = by_turns n gs routed valid SoundSome sound_turn (held, ok)
