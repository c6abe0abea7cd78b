-- While the head frame holds a flit, some channel serves the head frame.
use Rattle.std.proofs.Common.{◌≡◌, ℕ, zero, suc, ◌<◌, Bool, true, false, not, ◌&&◌, ltb, ◌⊎◌, List, [], ◌∷◌, length, get_or, is_some, Some, None, Option, sym, refl, ap, ◌∙◌, inl, inr, ⊎_elim, arith}
use Rattle.std.proofs.lemmas.Bool.{and_parts, both_ways, cases_Bool, cases_eq, eq-eqb, ltb-true, ltb-false, lt-ltb, or_right}
use Rattle.folds.specs.Firsts.{first_up}
use Rattle.folds.proofs.Firsts.{first_passes, first_finds}
use Rattle.folds.proofs.Ups.{first_within, first_stops}
use Rattle.lanes.specs.declared.flits.Flit.{Flit}
use Rattle.routes.specs.Channels.{well_formed}
use Rattle.routes.specs.Crossings.{crossing, next_channel, first_channel}
use Rattle.routes.specs.declared.crossing.Crossing.{Crossing}
use Rattle.routes.proofs.Crossings.{next_crossing, first_crossing, crossing_known}
use Rattle.sources.specs.Lines.{first_place}
use Rattle.running.specs.Cycles.{waits_now, lies_now, head_empty}
use Rattle.running.specs.Nets.{Net, line, route, flows}
use Rattle.running.specs.Requests.{leads, is_at, stands, has_space, requests, asked, served}
use Rattle.running.specs.Sounds.{goes_on, all_go_on, Sound}
use Rattle.running.proofs.Ready.{requesting}

-- the highest of the numbers below n that passes, if one does
abbrev Highest : (ℕ → Bool) → ℕ → Type 0
Highest p n = (d : ℕ) × (d < n) × (p d ≡ true) × ((e : ℕ) → d < e → e < n → p e ≡ false)

abbrev Nowhere : (ℕ → Bool) → ℕ → Type 0
Nowhere p n = (e : ℕ) → e < n → p e ≡ false

below : (p : ℕ → Bool) (n : ℕ) → p n ≡ false → (e : ℕ) → e < suc n → (e < n → p e ≡ false) → p e ≡ false
below p n fails e l lower = ⊎_elim (λ q. ap p q ∙ fails) (λ ne. lower (omega arith)) (cases_eq e n)

highest_by : (p : ℕ → Bool) (n : ℕ) → ((p n ≡ true) ⊎ (p n ≡ false)) → (Highest p n ⊎ Nowhere p n) → Highest p (suc n) ⊎ Nowhere p (suc n)
highest_by p n (inl passes) r = inl (n, omega arith, passes, λ e l m. absurd (omega arith))
highest_by p n (inr fails) (inl (d, l, passes, above)) = inl (d, omega arith, passes, λ e a b. below p n fails e b (above e a))
highest_by p n (inr fails) (inr none) = inr (λ e l. below p n fails e l (none e))

highest : (p : ℕ → Bool) (n : ℕ) → Highest p n ⊎ Nowhere p n
highest p zero = inr (λ e l. absurd (omega arith))
highest p (suc n) = highest_by p n (cases_Bool (p n)) (highest p n)

found_by : (p : ℕ → Bool) (n : ℕ) (o : Option ℕ) → first_up p 0 n ≡ o → is_some o ≡ true → (i : ℕ) × (i < n) × (p i ≡ true)
found_by p n None e h = absurd (both_ways true (sym h) refl)
found_by p n (Some i) e h = let w = first_within p 0 n i e in (i, omega arith, first_passes p 0 n i e)

found : (p : ℕ → Bool) (n : ℕ) → is_some (first_up p 0 n) ≡ true → (i : ℕ) × (i < n) × (p i ≡ true)
found p n h = found_by p n (first_up p 0 n) refl h

abbrev ServesHead : Net → Type 0
ServesHead n = (c : ℕ) × (c < 320) × (served n c ≡ Some 0)

module _ (n : Net) (held : List ℕ) (ok : Sound n held) where
  -- a channel that a flit of the head frame stands ready for, and whose buffer is empty, serves the head frame
  serves : (c i : ℕ) (x : Crossing) → i < flows n → crossing (route n i) c ≡ Some x → stands n 0 i x.before ≡ true → lies_now n c ≡ false →
      ServesHead n
  serves c i x low is stood none =
      let routed : well_formed (route n i) ≡ true = (ok.1 i low).3 in
      let none' = ltb-false 0 (length (n.lane c 0)) none in
      let space : has_space n c 0 x.last ≡ true =
      or_right x.last (ltb (length (n.lane c 0)) n.depth) (lt-ltb (length (n.lane c 0)) n.depth (omega (arith, ok.0))) in
      let asks : requests n c 0 i ≡ true = requesting n c 0 i (x, is, stood, space) in
      let some : asked n c 0 ≡ true = first_finds (requests n c 0) 0 (flows n) i (omega arith) (omega arith) asks in (
        c,
        crossing_known (route n i) c x routed is,
        first_stops (asked n c) 0 n.window 0 (omega arith) (omega (arith, ok.0)) some (λ j a b. absurd (omega arith)),
      )

  -- from the highest buffer that has a flit its front goes on to an empty one
  goes_by : (d : ℕ) → ((e : ℕ) → d < e → e < 320 → lies_now n e ≡ false) → (i : ℕ) → i < flows n → leads (n.lane d 0) i ≡ true →
      (o : Option ℕ) → next_channel (route n i) d ≡ o → is_some o ≡ true → ServesHead n
  goes_by d above i low lead None e h = absurd (both_ways true (sym h) refl)
  goes_by d above i low lead (Some c) e h =
      let routed : well_formed (route n i) ≡ true = (ok.1 i low).3 in
      let r = next_crossing (route n i) d c routed e in
      serves c i r.0 low r.1 (ap (stands n 0 i) r.2 ∙ lead)
      (above c r.3 (crossing_known (route n i) c r.0 routed r.1))

  front_by : (d : ℕ) → ((e : ℕ) → d < e → e < 320 → lies_now n e ≡ false) → (q : List Flit) → n.lane d 0 ≡ q → 0 < length q →
      all_go_on n d q ≡ true → ServesHead n
  front_by d above [] e l h = absurd (omega arith)
  front_by d above (x ∷ xs) e l h =
      let p = and_parts (goes_on n d x) (all_go_on n d xs) h in
      let r = and_parts (ltb x.flow (flows n)) (is_some (next_channel (route n x.flow) d)) p.0 in
      goes_by d above x.flow (ltb-true x.flow (flows n) r.0) (ap (λ q. leads q x.flow) e ∙ eq-eqb x.flow x.flow refl)
      (next_channel (route n x.flow) d) refl r.1

  -- where all buffers are empty, a flit that waits goes to its first channel
  waits_by : ((e : ℕ) → e < 320 → lies_now n e ≡ false) → (i : ℕ) → i < flows n → waits_now n i ≡ true → ServesHead n
  waits_by none i low wait =
      let routed : well_formed (route n i) ≡ true = (ok.1 i low).3 in
      let r = first_crossing (route n i) routed in
      let place : first_place (line n i) ≡ Some 0 =
      first_stops (λ k. ltb 0 (get_or (line n i).waiting k 0)) 0 8 0 (omega arith) (omega arith) wait (λ j a b. absurd (omega arith)) in
      serves (first_channel (route n i)) i r.0 low r.1
      (ap (stands n 0 i) r.2 ∙ ap (λ o. is_at o 0) place)
      (none (first_channel (route n i)) (crossing_known (route n i) (first_channel (route n i)) r.0 routed r.1))

  empty_by : (w l : Bool) → (not w && not l) ≡ false → l ≡ false → w ≡ true
  empty_by true l e h = refl
  empty_by false true e h = absurd (both_ways true h refl)
  empty_by false false e h = absurd (both_ways true e refl)

  lies_none : ((e : ℕ) → e < 320 → lies_now n e ≡ false) → (o : Bool) → is_some (first_up (lies_now n) 0 320) ≡ o → o ≡ false
  lies_none none true e = let (c, l, h) = found (lies_now n) 320 e in absurd (both_ways (lies_now n c) (none c l) h)
  lies_none none false e = refl

  progress_by : head_empty n ≡ false → (Highest (lies_now n) 320 ⊎ Nowhere (lies_now n) 320) → ServesHead n
  progress_by busy (inl (d, l, lies, above)) = front_by d above (n.lane d 0) refl (ltb-true 0 (length (n.lane d 0)) lies) (ok.2 d 0)
  progress_by busy (inr none) =
      let r = found (waits_now n) (flows n)
      (empty_by (is_some (first_up (waits_now n) 0 (flows n))) (is_some (first_up (lies_now n) 0 320)) busy
      (lies_none none (is_some (first_up (lies_now n) 0 320)) refl)) in
      waits_by none r.0 r.1 r.2

  pub progress : head_empty n ≡ false → (c : ℕ) × (c < 320) × (served n c ≡ Some 0)
  progress busy = progress_by busy (highest (lies_now n) 320)
