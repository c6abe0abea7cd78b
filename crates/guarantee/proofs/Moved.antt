-- The moves of a cycle take one crossing off the work of a frame for each grant in it.
use Rattle.std.proofs.Common.{◌≡◌, ℕ, zero, suc, ◌+◌, ◌<◌, ◌≤◌, true, cond, eqb, ◌⊎◌, List, length, take, Some, None, Option, sym, refl, ap, ◌∙◌, subst, inl, inr, add-one, arith}
use Rattle.std.proofs.lemmas.Bool.{cases_eq, eq-eqb, ne_eqb}
use Rattle.folds.specs.Sums.{total}
use Rattle.folds.proofs.Sums.{term_in_total}
use Rattle.running.specs.Crossed.{crossed}
use Rattle.running.specs.Moves.{at_channel, moved}
use Rattle.running.specs.Nets.{Net, flows}
use Rattle.running.specs.Requests.{requests}
use Rattle.running.specs.Sounds.{Sound}
use Rattle.running.specs.Valid.{Valid, Routed, InWindow}
use Rattle.running.specs.declared.grant.Grant.{Grant}
use Rattle.running.proofs.Carrying.{crossed_sound}
use Rattle.running.proofs.Moving.{SoundSome}
use Rattle.running.proofs.Ready.{Requested, requested}
use Rattle.running.proofs.Same.{moved_none, moved_skip, moved_all}
use Rattle.running.proofs.Together.{moved_one, ready_one, ready_flow}
use Rattle.guarantee.proofs.Draining.{crossed_work, crossed_work_elsewhere}
use Rattle.guarantee.proofs.Goods.{work}

-- 1 where a channel grants in the k-th open frame, 0 where it does not
abbrev pub grants_in : ℕ → Option Grant → ℕ
grants_in k None = 0
grants_in k (Some g) = cond (eqb k g.ahead) 1 0

-- the sum over the numbers below n, from none on
total_no : (f : ℕ → ℕ) → total f 0 ≡ 0
unfolding total
total_no f = refl

total_more : (f : ℕ → ℕ) (n : ℕ) → total f (suc n) ≡ total f n + f n
unfolding total
total_more f n = refl

-- a granted flit crosses
module _ (m : Net) (s : SoundSome m) (c : ℕ) (g : Grant) (among : g.flow < flows m) (asks : requests m c g.ahead g.flow ≡ true) where
  sound_by : Requested m c g.ahead g.flow → c < 320 → g.ahead < m.window → SoundSome (crossed m c g)
  sound_by r known inside = (_, crossed_sound m s.0 c g r.0 s.1 among r.1 asks known inside)

  stays_sound : c < 320 → g.ahead < m.window → SoundSome (crossed m c g)
  stays_sound known inside = sound_by (requested m c g.ahead g.flow asks) known inside

  by_one : (k : ℕ) → ((k ≡ g.ahead) ⊎ (k ≡ g.ahead → ⊥)) → work (crossed m c g) k + cond (eqb k g.ahead) 1 0 ≡ work m k
  by_one k (inl e) =
      ap (λ b. work (crossed m c g) k + cond b 1 0) (eq-eqb k g.ahead e)
      ∙ subst (λ j. work (crossed m c g) j + 1 ≡ work m j) (sym e) (crossed_work m s.0 s.1 c g among asks)
  by_one k (inr ne) =
      omega (arith, ap (λ b. cond {A = ℕ} b 1 0) (ne_eqb k g.ahead ne), crossed_work_elsewhere m s.0 s.1 c g among asks k ne)

module _ (n : Net) (held : List ℕ) (ok : Sound n held) (gs : List (Option Grant)) (valid : Valid n gs) (opened : InWindow n gs) where
  routed : Routed n
  routed i l = (ok.1 i l).3

  -- the network when the turn comes to channel c, and the grants in the k-th open frame until then
  abbrev turn : ℕ → Net
  turn c = moved n (take c gs)

  abbrev granted : ℕ → ℕ → ℕ
  granted k c = total (λ d. grants_in k (at_channel gs d)) c

  -- the turn of channel c
  one_turn : (c : ℕ) → SoundSome (turn c) → (o : Option Grant) → at_channel gs c ≡ o →
      SoundSome (turn (c + 1)) × ((k : ℕ) → work (turn (c + 1)) k + grants_in k o ≡ work (turn c) k)
  one_turn c s None e =
      let q = moved_skip n gs c e in
      (subst SoundSome (sym q) s, λ k. omega (arith, ap (λ m. work m k) q))
  one_turn c s (Some g) e =
      let q = moved_one n gs routed valid c g e in
      let low = ready_flow n gs routed valid c g e in
      let asks = ready_one n gs routed valid c g e in (
        subst SoundSome (sym q) (stays_sound (turn c) s c g low asks (opened c g e).1 (opened c g e).0),
        λ k. ap (λ m. work m k + cond (eqb k g.ahead) 1 0) q ∙ by_one (turn c) s c g low asks k (cases_eq k g.ahead),
      )

  -- all turns before channel c
  turns_by : (c : ℕ) → SoundSome (turn c) × ((k : ℕ) → work (turn c) k + granted k c ≡ work n k) →
      SoundSome (turn (c + 1)) × ((k : ℕ) → work (turn (c + 1)) k + grants_in k (at_channel gs c) ≡ work (turn c) k) →
      SoundSome (turn (suc c)) × ((k : ℕ) → work (turn (suc c)) k + granted k (suc c) ≡ work n k)
  turns_by c s t =
      subst (λ j. SoundSome (turn j) × ((k : ℕ) → work (turn j) k + granted k (suc c) ≡ work n k)) (add-one c)
      (t.0, λ k. omega (arith, s.1 k, t.1 k, total_more (λ d. grants_in k (at_channel gs d)) c))

  turns : (c : ℕ) → SoundSome (turn c) × ((k : ℕ) → work (turn c) k + granted k c ≡ work n k)
  turns zero = (
    subst SoundSome (sym (moved_none n)) (held, ok),
    λ k. omega (arith, ap (λ m. work m k) (moved_none n), total_no (λ d. grants_in k (at_channel gs d))),
  )
  turns (suc c) = let s = turns c in turns_by c s (one_turn c s.0 (at_channel gs c) refl)

  module _ (long : length gs ≡ 320) where
    pub moved_exactly : (k : ℕ) → work (moved n gs) k + total (λ d. grants_in k (at_channel gs d)) 320 ≡ work n k
    moved_exactly k = ap (λ m. work m k + granted k 320) (sym (moved_all n gs 320 (omega arith))) ∙ (turns 320).1 k

    -- no frame needs more than before, and the head frame fewer if a channel grants in it
    pub moved_work : (k : ℕ) → work (moved n gs) k ≤ work n k
    moved_work k = omega (arith, moved_exactly k)

    pub moved_work_head : (c : ℕ) (g : Grant) → at_channel gs c ≡ Some g → g.ahead ≡ 0 → work (moved n gs) 0 + 1 ≤ work n 0
    moved_work_head c g e z =
        let one : grants_in 0 (at_channel gs c) ≡ 1 = ap (grants_in 0) e ∙ ap (λ b. cond {A = ℕ} b 1 0) (eq-eqb 0 g.ahead (sym z)) in
        omega (arith, moved_exactly 0, term_in_total (λ d. grants_in 0 (at_channel gs d)) c 320 (opened c g e).1)
