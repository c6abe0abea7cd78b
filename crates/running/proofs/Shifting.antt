-- A cycle more and a shift of the window leave the network sound.
use Rattle.std.proofs.Common.{◌≡◌, ℕ, zero, suc, ◌+◌, ◌<◌, Bool, true, false, cond, eqb, ltb, List, [], ◌∷◌, ◌++◌, map, length, get_or, drop, sum_by, sym, refl, ap, ◌∙◌, ⊎_elim, arith}
use Rattle.std.proofs.lemmas.List.{length-map, length-drop, length_push, get_or-map, nil_from_length}
use Rattle.std.proofs.lemmas.List.Sums.{sum_by-cons}
use Rattle.std.proofs.lemmas.Bool.{and_cases, and_left, and_right, ltb-false, le-ltb}
use Rattle.folds.specs.Sums.{total}
use Rattle.folds.proofs.Sums.{total_none, total_first}
use Rattle.accounts.specs.Ledgers.{Ledger}
use Rattle.accounts.specs.Shifts.{next_head, pushed_on}
use Rattle.routes.specs.Channels.{well_formed}
use Rattle.sources.specs.Lines.{Line, moved_on}
use Rattle.running.specs.Cycles.{shifted_net, cycle_made}
use Rattle.running.specs.Nets.{Net, no_line, line, route, flows}
use Rattle.running.specs.Sounds.{Ranges, InStep, Placed, Bounded, buffered_in, Tallied, of_flow, under_way, Accounted, Sound}
use Rattle.running.proofs.Emptying.{no_head_lies}
use Rattle.running.proofs.Keeping.{all_alike}

pub counted_sound : (n : Net) (held : List ℕ) → Sound n held → n.cycles < 16777216 → Sound (cycle_made n) held
counted_sound n held ok l = (
  (ok.0.0, ok.0.1, (omega (arith, ok.0), omega arith), ok.0.3),
  ok.1,
  λ c k. all_alike (cycle_made n) n refl (λ j. refl) c (n.lane c k) ∙ ok.2 c k,
  ok.3,
  ok.4,
  ok.5,
  ok.6,
)

-- a list moved up by one place
last_zero : (xs : List ℕ) (k : ℕ) → get_or (xs ++ 0 ∷ []) k 0 ≡ get_or xs k 0
last_zero [] zero = refl
last_zero [] (suc k) = refl
last_zero (x ∷ xs) zero = refl
last_zero (x ∷ xs) (suc k) = last_zero xs k

pub moved_place : (xs : List ℕ) (k : ℕ) → get_or (drop 1 xs ++ 0 ∷ []) k 0 ≡ get_or xs (suc k) 0
moved_place [] k = last_zero [] k
moved_place (x ∷ xs) k = last_zero xs k

pub moved_long : (xs : List ℕ) → length xs ≡ 8 → length (drop 1 xs ++ 0 ∷ []) ≡ 8
moved_long xs e = omega (arith, length_push (drop 1 xs) 0, length-drop 1 xs)

-- an account after its shift: one head frame on, the same window
shifted_head : (l : Ledger) (b : Bool) → (cond b (pushed_on (next_head l)) (next_head l)).head ≡ l.head + 1
shifted_head l true = refl
shifted_head l false = refl

shifted_window : (l : Ledger) (b : Bool) → (cond b (pushed_on (next_head l)) (next_head l)).window ≡ l.window
shifted_window l true = refl
shifted_window l false = refl

-- what a shift keeps of a line, kept in every line
pub kept_on : {Y : Type 0} (field : Line → Y) → ((l : Line) → field (moved_on l) ≡ field l) → (ls : List Line) (j : ℕ) →
    field (get_or (map moved_on ls) j no_line) ≡ field (get_or ls j no_line)
kept_on field same [] j = refl
kept_on field same (l ∷ ls) zero = same l
kept_on field same (l ∷ ls) (suc j) = kept_on field same ls j

waiting_on : (k : ℕ) (ls : List Line) → sum_by (λ l. get_or l.waiting k 0) (map moved_on ls) ≡ sum_by (λ l. get_or l.waiting (suc k) 0) ls
waiting_on k [] = refl
waiting_on k (l ∷ ls) =
    omega (
      arith,
      sum_by-cons (λ m. get_or m.waiting k 0) (moved_on l) (map moved_on ls),
      sum_by-cons (λ m. get_or m.waiting (suc k) 0) l ls,
      waiting_on k ls,
      moved_place l.waiting k,
    )

module _ (n : Net) (held : List ℕ) (ok : Sound n held) (none : get_or held 0 0 ≡ 0) (made : n.head < n.cycles) where
  same_flows : flows (shifted_net n) ≡ flows n
  same_flows = length-map n.lines moved_on

  same_route : (j : ℕ) → route (shifted_net n) j ≡ route n j
  same_route j = kept_on (λ l. l.route) (λ l. refl) n.lines j

  ranges : Ranges (shifted_net n)
  ranges = (ok.0.0, ok.0.1, (omega arith, ok.0.2.1), omega (arith, same_flows, ok.0.3))

  in_step : InStep (shifted_net n)
  in_step j l =
      let inside : j < flows n = omega (arith, same_flows) in
      let s = ok.1 j inside in
      let is : line (shifted_net n) j ≡ moved_on (line n j) = get_or-map moved_on n.lines j no_line no_line inside in (
        ap (λ m. m.ledger.head) is ∙ shifted_head (line n j).ledger (eqb (line n j).ledger.frame ((line n j).ledger.head + 1)) ∙ ap (λ h. h + 1) s.0,
        ap (λ m. m.ledger.window) is ∙ shifted_window (line n j).ledger (eqb (line n j).ledger.frame ((line n j).ledger.head + 1)) ∙ s.1,
        ap (λ m. length m.waiting) is ∙ moved_long (line n j).waiting s.2,
        ap well_formed (same_route j) ∙ s.3,
      )

  placed : Placed (shifted_net n)
  placed c k = all_alike (shifted_net n) n same_flows same_route c (n.lane c (suc k)) ∙ ok.2 c (suc k)

  bounded : Bounded (shifted_net n)
  bounded c k out = ok.4 c (suc k)
      (⊎_elim (λ e. and_left (ltb c 320) (ltb (suc k) n.window) e)
      (λ e. and_right (ltb c 320) (ltb (suc k) n.window) (le-ltb (suc k) n.window (omega (arith, ltb-false k n.window e))))
      (and_cases (ltb c 320) (ltb k n.window) out))

  tallied : Tallied (shifted_net n) (drop 1 held ++ 0 ∷ [])
  tallied = (moved_long held ok.5.0, λ k. moved_place held k ∙ ok.5.1 (suc k) ∙ ap (λ w. w + buffered_in n (suc k)) (sym (waiting_on k n.lines)))

  -- the head frame's buffers are empty, and so are those past the window
  abbrev in_frame : ℕ → ℕ → ℕ
  in_frame i k = total (λ c. of_flow i (n.lane c k)) 320

  none_first : (i : ℕ) → in_frame i 0 ≡ 0
  none_first i = total_none (λ c. of_flow i (n.lane c 0)) 320 (λ c l. ap (of_flow i) (no_head_lies n held ok none c))

  none_past : (i : ℕ) → in_frame i 8 ≡ 0
  none_past i = total_none (λ c. of_flow i (n.lane c 8)) 320
      (λ c l. ap (of_flow i) (nil_from_length (n.lane c 8) (ok.4 c 8 (and_right (ltb c 320) (ltb 8 n.window) (le-ltb 8 n.window (omega (arith, ok.0)))))))

  same_under_way : (i : ℕ) → under_way (shifted_net n) i ≡ under_way n i
  same_under_way i = omega (arith, total_first (in_frame i) 8, none_first i, none_past i)

  accounted : Accounted (shifted_net n)
  accounted i l =
      kept_on (λ m. m.sent) (λ m. refl) n.lines i ∙ ok.6 i (omega (arith, same_flows))
      ∙ sym (λ j. kept_on (λ m. m.delivered) (λ m. refl) n.lines i j + same_under_way i j)

  pub shifted_sound : Sound (shifted_net n) (drop 1 held ++ 0 ∷ [])
  shifted_sound = (ranges, in_step, placed, λ c k. ok.3 c (suc k), bounded, tallied, accounted)

-- a cycle that shifts the window, and is counted
pub counted_shifted_sound : (n : Net) (held : List ℕ) → Sound n held → get_or held 0 0 ≡ 0 → n.cycles < 16777216 →
    Sound (cycle_made (shifted_net n)) (drop 1 held ++ 0 ∷ [])
counted_shifted_sound n held ok none l = shifted_sound (cycle_made n) held (counted_sound n held ok l) none (omega (arith, ok.0))
