-- The channel that the search for the busiest one gives is at least as loaded as every other, and the first such.
use Rattle.std.proofs.Common.{◌≡◌, ℕ, zero, suc, ◌<◌, ◌≤◌, Bool, true, false, cond, eqb, ltb, ◌⊎◌, List, length, Some, None, sym, refl, subst, inl, inr, arith}
use Rattle.std.proofs.lemmas.List.{nil_from_length}
use Rattle.std.proofs.lemmas.Bool.{ltb-true, ltb-false, eqb-true, cases_eq}
use Rattle.plan.specs.Tables.{Flow, load}
use Rattle.plan.specs.Sheets.{heaviest, channel_load, busiest, MostLoaded}

module _ (loads : ℕ → ℕ) where
  record Tops (n h : ℕ) : Type 0 where
    within : h ≤ n
    most : (c : ℕ) → c ≤ n → loads c ≤ loads h
    first : (c : ℕ) → c < h → loads c < loads h

  or_last : (P : ℕ → Type 0) (n : ℕ) → ((c : ℕ) → c ≤ n → P c) → P (suc n) → (c : ℕ) → c ≤ suc n → P c
  or_last P n below last c l = go (cases_eq c (suc n))
    where
      go : ((c ≡ suc n) ⊎ (c ≡ suc n → ⊥)) → P c
      go (inl e) = subst P (sym e) last
      go (inr d) = below c (omega arith)

  -- one channel more, where it is heavier than those before and where it is not
  grows : (n h : ℕ) (b : Bool) → ltb (loads h) (loads (suc n)) ≡ b → Tops n h → Tops (suc n) (cond b (suc n) h)
  grows n h true e t =
      let more = ltb-true (loads h) (loads (suc n)) e in
      record {
        within = omega arith;
        most = or_last (λ c. loads c ≤ loads (suc n)) n (λ c l. omega (arith, t.most c l)) (omega arith);
        first = λ c l. omega (arith, t.most c (omega arith));
      }
  grows n h false e t =
      let less = ltb-false (loads h) (loads (suc n)) e in
      record { within = omega (arith, t.within); most = or_last (λ c. loads c ≤ loads h) n t.most less; first = t.first }

  tops : (n : ℕ) → Tops n (heaviest loads n)
  unfolding heaviest
  tops zero = record { within = omega arith; most = λ c l. let z : c ≡ 0 = omega arith in subst (λ k. loads k ≤ loads 0) (sym z) (omega arith); first = λ c l. absurd (omega arith) }
  tops (suc n) = grows n (heaviest loads n) (ltb (loads (heaviest loads n)) (loads (suc n))) refl (tops n)

chosen : (fs : List Flow) (b : Bool) → eqb (length fs) 0 ≡ b → MostLoaded fs (cond b None (Some (channel_load (load fs) (heaviest (load fs) 319))))
chosen fs true e = nil_from_length fs (eqb-true (length fs) 0 e)
chosen fs false e = let t = tops (load fs) 319 in (omega (arith, t.within), refl, (λ c l. t.most c (omega arith)), t.first)

pub busiest_most_loaded : (fs : List Flow) → MostLoaded fs (busiest fs)
busiest_most_loaded fs = chosen fs (eqb (length fs) 0) refl
