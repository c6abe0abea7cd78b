-- The counts of held flits together are the flits that the network holds.
use Rattle.std.proofs.Common.{◌≡◌, ℕ, ◌+◌, ◌<◌, ltb, List, [], length, get_or, sum, ap, ◌∙◌, ⊎_elim, arith}
use Rattle.std.proofs.lemmas.List.{nil_from_length, get_or_past}
use Rattle.std.proofs.lemmas.List.Sums.{get_or-le-sum_by}
use Rattle.std.proofs.lemmas.Bool.{and_left, and_right, cases_lt, le-ltb}
use Rattle.folds.specs.Sums.{total}
use Rattle.folds.proofs.Sums.{sumBy_total, total_same, term_in_total}
use Rattle.running.specs.Nets.{Net, no_line, line, flows}
use Rattle.running.specs.Sounds.{waiting_in, buffered_in, held_flits, Sound}

module _ (n : Net) (held : List ℕ) (ok : Sound n held) where
  pub held_sum : sum held ≡ held_flits n
  held_sum =
      sumBy_total (λ k. k) 0 held ∙ ap (total (λ k. get_or held k 0)) ok.5.0
      ∙ total_same (λ k. get_or held k 0) (λ k. waiting_in n k + buffered_in n k) 8 (λ k l. ok.5.1 k)

  -- where they are all 0, no flit waits and no buffer has one
  module _ (none : sum held ≡ 0) where
    none_in : (k : ℕ) → k < 8 → waiting_in n k + buffered_in n k ≡ 0
    none_in k l = omega (arith, held_sum, term_in_total (λ j. waiting_in n j + buffered_in n j) k 8 l)

    none_waits : (i : ℕ) → i < flows n → (k : ℕ) → get_or (line n i).waiting k 0 ≡ 0
    none_waits i l k = ⊎_elim
        (λ m. omega (arith, none_in k m, get_or-le-sum_by (λ l. get_or l.waiting k 0) n.lines i no_line l))
        (λ m. get_or_past (line n i).waiting k 0 (omega (arith, (ok.1 i l).2)))
        (cases_lt k 8)

    none_lies : (c k : ℕ) → length (n.lane c k) ≡ 0
    none_lies c k = ⊎_elim
        (λ a. ⊎_elim (λ b. omega (arith, none_in k b, term_in_total (λ d. length (n.lane d k)) c 320 a))
        (λ b. ok.4 c k (and_right (ltb c 320) (ltb k n.window) (le-ltb k n.window (omega (arith, ok.0))))) (cases_lt k 8))
        (λ a. ok.4 c k (and_left (ltb c 320) (ltb k n.window) (le-ltb c 320 a)))
        (cases_lt c 320)

    pub held_none : ((i : ℕ) → i < flows n → (k : ℕ) → get_or (line n i).waiting k 0 ≡ 0) × ((c k : ℕ) → n.lane c k ≡ [])
    held_none = (none_waits, λ c k. nil_from_length (n.lane c k) (none_lies c k))
