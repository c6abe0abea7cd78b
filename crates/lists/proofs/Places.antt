-- The places of a list after a step: blank behind its items still.
use Rattle.std.proofs.Common.{◌≡◌, ℕ, ◌+◌, ◌-◌, ◌<◌, ◌≤◌, List, ◌++◌, length, take, drop, set, arith, ap, sym, ◌∙◌, length-set, length-append, length-drop, take_all}
use Rattle.std.proofs.lemmas.List.{length-replicate, drop-replicate, replicate-append-replicate, drop-set-lt, drop-drop, drop_at}
use Rattle.std.specs.Prelude.{replicate}
use Rattle.lists.specs.Blanks.{Filled, length-take-filled}

module _ {T : Type 0} {blank : T} {n : ℕ} where
  -- an item more comes into a place before the blanks or into the first blank one
  pub filled-set : {count : ℕ} {places : List T} (at : ℕ) (x : T) → Filled blank n count places → at ≤ count → count < n → Filled blank n (count + 1) (set places at x)
  filled-set {count} {places} at x h near room = record {
    few = omega (arith, room);
    sized = length-set places at x ∙ h.sized;
    blanks =
        drop-set-lt (count + 1) places at x (omega (arith, near))
        ∙ sym (drop-drop 1 count places)
        ∙ ap (drop 1) h.blanks
        ∙ drop-replicate 1 (n - count) blank
        ∙ ap (λ k. replicate k blank) (omega (arith, room));
  }

  -- items in front of blanks
  pub filled-front : (count : ℕ) (xs : List T) → length xs ≡ count → count ≤ n → Filled blank n count (xs ++ drop count (replicate n blank))
  filled-front count xs same few = record {
    few = few;
    sized = simp (length-append, length-drop, length-replicate) (omega (arith, same, few));
    blanks = drop_at xs _ count same ∙ drop-replicate count n blank;
  }

  -- blanks in the places that had items, in front of those that had none
  pub filled-none : {count : ℕ} {places : List T} (done : List T) (k : ℕ) → Filled blank n count places → length done ≡ length (take count places) → k ≤ length (take count places) → length (take count places) ≤ k → take k done ≡ replicate k blank → Filled blank n 0 (done ++ drop count places)
  filled-none {count} {places} done k h same below past d =
      let taken : length (take count places) ≡ count = length-take-filled h in
      let whole : done ≡ replicate count blank =
      sym (take_all k done (omega (arith, same, past))) ∙ d ∙ ap (λ j. replicate j blank) (omega (arith, taken, below, past)) in
      let all : done ++ drop count places ≡ replicate n blank =
      ap (λ xs. xs ++ drop count places) whole
      ∙ ap (λ xs. replicate count blank ++ xs) h.blanks
      ∙ replicate-append-replicate count (n - count) blank
      ∙ ap (λ j. replicate j blank) (omega (arith, h.few)) in
      record {
        few = omega arith;
        sized = ap length all ∙ length-replicate n blank;
        blanks = all ∙ ap (λ j. replicate j blank) (omega arith);
      }
