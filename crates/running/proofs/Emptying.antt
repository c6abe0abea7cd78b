-- The counts of held flits tell whether the head frame is empty.
use Rattle.std.proofs.Common.{◌≡◌, ℕ, ◌+◌, ◌<◌, not, ◌&&◌, eqb, ltb, List, [], length, get_or, is_some, sym, ap, ◌∙◌, ⊎_elim, arith}
use Rattle.std.proofs.lemmas.List.{nil_from_length}
use Rattle.std.proofs.lemmas.List.Sums.{get_or-le-sum_by}
use Rattle.std.proofs.lemmas.Bool.{and_left, cases_lt, le-ltb}
use Rattle.std.proofs.lemmas.Bool.Decides.{nat_tests}
use Rattle.folds.specs.Firsts.{first_up}
use Rattle.folds.proofs.Sums.{none_positive, sumBy_total, term_in_total}
use Rattle.running.specs.Cycles.{waits_now, lies_now, head_empty}
use Rattle.running.specs.Nets.{Net, no_line, line, flows}
use Rattle.running.specs.Sounds.{waiting_in, buffered_in, Sound}

both_zero : (a b : ℕ) → (eqb a 0 && eqb b 0) ≡ eqb (a + b) 0
both_zero a b = grind (arith, nat_tests)

module _ (n : Net) (held : List ℕ) (ok : Sound n held) where
  waits_tell : not (is_some (first_up (waits_now n) 0 (flows n))) ≡ eqb (waiting_in n 0) 0
  waits_tell =
      none_positive (λ i. get_or (line n i).waiting 0 0) (flows n)
      ∙ ap (λ k. eqb k 0) (sym (sumBy_total (λ l. get_or l.waiting 0 0) no_line n.lines))

  lies_tell : not (is_some (first_up (lies_now n) 0 320)) ≡ eqb (buffered_in n 0) 0
  lies_tell = none_positive (λ c. length (n.lane c 0)) 320

  pub head_empty_tells : head_empty n ≡ eqb (get_or held 0 0) 0
  head_empty_tells =
      (λ i. waits_tell i && lies_tell i) ∙ both_zero (waiting_in n 0) (buffered_in n 0) ∙ ap (λ k. eqb k 0) (sym (ok.5.1 0))

  -- none held in the head frame: none waits for it, none lies in a buffer for it
  module _ (none : get_or held 0 0 ≡ 0) where
    pub no_head_waits : (i : ℕ) → i < flows n → get_or (line n i).waiting 0 0 ≡ 0
    no_head_waits i l = omega (arith, ok.5.1 0, get_or-le-sum_by (λ l. get_or l.waiting 0 0) n.lines i no_line l)

    empty_lane : (c : ℕ) → length (n.lane c 0) ≡ 0
    empty_lane c = ⊎_elim
        (λ l. omega (arith, ok.5.1 0, term_in_total (λ d. length (n.lane d 0)) c 320 l))
        (λ l. ok.4 c 0 (and_left (ltb c 320) (ltb 0 n.window) (le-ltb c 320 l)))
        (cases_lt c 320)

    pub no_head_lies : (c : ℕ) → n.lane c 0 ≡ []
    no_head_lies c = nil_from_length (n.lane c 0) (empty_lane c)
