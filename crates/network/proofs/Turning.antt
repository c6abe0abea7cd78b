-- A network whose window shifts: its flows one after the other, and the buffers at once.
use Rattle.std.proofs.Common.{◌≡◌, ℕ, suc, ◌+◌, ◌<◌, ◌≤◌, Bool, true, false, cond, eqb, ltb, List, [], ◌∷◌, ◌++◌, map, length, get_or, take, drop, set, is_some, sym, refl, ap, ◌∙◌, subst, append_assoc, append-nil, arith}
use mathlib.Core.Path.{fun_ext}
use Rattle.std.proofs.lemmas.List.{set_at, drop_more, drop_all, take_all, map_more, length-map, length-take, length-append, get_or_at, take-append-drop, nil_from_length}
use Rattle.std.proofs.lemmas.Bool.{and_from, and_right, eq-eqb, eqb-true, lt-ltb}
use Rattle.lanes.specs.Rings.{turned}
use Rattle.lanes.specs.declared.flits.Flit.{Flit}
use Rattle.routes.specs.Crossings.{crossing}
use Rattle.sources.proofs.Leaving.{turned as turned_counts}
use Rattle.sources.specs.Lines.{Line, moved_on, shifted_line}
use Rattle.running.specs.Cycles.{head_empty, shifted_net}
use Rattle.running.specs.Nets.{Net, flows, line, route, no_line}
use Rattle.running.specs.Offers.{with_line, with_lines}
use Rattle.running.specs.Sounds.{Sound}
use Rattle.running.proofs.Emptying.{head_empty_tells, no_head_waits, no_head_lies}
use Rattle.running.proofs.Shifting.{shifted_sound, kept_on}
use Rattle.network.specs.Floors.{turned_net}
use Rattle.network.specs.Marks.{Marked}

-- the first i lines have shifted
abbrev pub shifted_up_to : List Line → ℕ → List Line
shifted_up_to ls i = map shifted_line (take i ls) ++ drop i ls

long_part : (ls : List Line) (i : ℕ) → i ≤ length ls → length (map shifted_line (take i ls)) ≡ i
long_part ls i l = length-map (take i ls) shifted_line ∙ (omega (arith, length-take i ls))

up_to_here : (ls : List Line) (i : ℕ) → i < length ls → shifted_up_to ls i ≡ map shifted_line (take i ls) ++ get_or ls i no_line ∷ drop (i + 1) ls
up_to_here ls i l = ap (λ r. map shifted_line (take i ls) ++ r) (drop_more ls i no_line l)

pub up_to_line : (ls : List Line) (i : ℕ) → i < length ls → get_or (shifted_up_to ls i) i no_line ≡ get_or ls i no_line
up_to_line ls i l = ap (λ q. get_or q i no_line) (up_to_here ls i l) ∙ get_or_at (map shifted_line (take i ls)) (get_or ls i no_line) (drop (i + 1) ls) no_line i (long_part ls i (omega arith))

up_to_more : (ls : List Line) (i : ℕ) → i < length ls → set (shifted_up_to ls i) i (shifted_line (get_or ls i no_line)) ≡ shifted_up_to ls (i + 1)
up_to_more ls i l =
    ap (λ q. set q i (shifted_line (get_or ls i no_line))) (up_to_here ls i l)
    ∙ set_at (map shifted_line (take i ls)) (get_or ls i no_line) (drop (i + 1) ls) (shifted_line (get_or ls i no_line)) i (long_part ls i (omega arith))
    ∙ sym (append_assoc (map shifted_line (take i ls)) (shifted_line (get_or ls i no_line) ∷ []) (drop (i + 1) ls))
    ∙ ap (λ q. q ++ drop (i + 1) ls) (sym (map_more shifted_line ls i no_line l))

pub same_many : (ls : List Line) (i : ℕ) → length (shifted_up_to ls i) ≡ length ls
same_many ls i =
    length-append (map shifted_line (take i ls)) (drop i ls)
    ∙ ap (λ k. k + length (drop i ls)) (length-map (take i ls) shifted_line)
    ∙ sym (length-append (take i ls) (drop i ls))
    ∙ ap length (take-append-drop i ls)

-- the network with one flow more shifted, and with all
pub one_shifted : (n m m' : Net) (i : ℕ) → i < flows n → m ≡ with_lines n (shifted_up_to n.lines i) → m' ≡ with_line m i (shifted_line (line m i)) →
    m' ≡ with_lines n (shifted_up_to n.lines (i + 1))
one_shifted n m m' i l e e' =
    e' ∙ ap (λ (k : Net). with_line k i (shifted_line (line k i))) e
    ∙ ap (λ t. with_lines n (set (shifted_up_to n.lines i) i (shifted_line t))) (up_to_line n.lines i l)
    ∙ ap (with_lines n) (up_to_more n.lines i l)

pub all_shifted : (n : Net) (i : ℕ) → flows n ≤ i → with_lines n (shifted_up_to n.lines i) ≡ with_lines n (map shifted_line n.lines)
all_shifted n i l =
    ap (λ ls. with_lines n (map shifted_line ls ++ drop i n.lines)) (take_all i n.lines l)
    ∙ ap (λ r. with_lines n (map shifted_line n.lines ++ r)) (drop_all i n.lines l)
    ∙ ap (with_lines n) (append-nil (map shifted_line n.lines))

-- a network whose head frame is empty
module _ (n : Net) (held : List ℕ) (ok : Sound n held) (none : head_empty n ≡ true) (made : n.head < n.cycles) where
  pub none_held : get_or held 0 0 ≡ 0
  none_held = eqb-true _ _ (sym (head_empty_tells n held ok) ∙ none)

  -- every flow may shift
  moves_on : (i : ℕ) → i < flows n → shifted_line (line n i) ≡ moved_on (line n i)
  moves_on i l =
      ap (λ b. cond b (moved_on (line n i)) (line n i))
      (and_from _ _ (eq-eqb _ _ (no_head_waits n held ok none_held i l)) (lt-ltb _ _ (omega (arith, ok.1 i l, ok.0))))

  all_move : (ls : List Line) → ((i : ℕ) → i < length ls → shifted_line (get_or ls i no_line) ≡ moved_on (get_or ls i no_line)) → map shifted_line ls ≡ map moved_on ls
  all_move [] each = refl
  all_move (x ∷ xs) each = ap (λ y. y ∷ map shifted_line xs) (each 0 (omega arith)) ∙ ap (λ ys. moved_on x ∷ ys) (all_move xs (λ i l. each (suc i) (omega arith)))

  -- each open frame is one nearer to the head, and the new one is empty
  closed : (c k : ℕ) → ltb k n.window ≡ false → n.lane c k ≡ []
  closed c k h = nil_from_length (n.lane c k) (ok.4 c k (and_right _ _ h))

  turn_by : (c k : ℕ) (b e : Bool) → ltb (suc k) n.window ≡ b → cond b (n.lane c (suc k)) (cond e (n.lane c 0) []) ≡ n.lane c (suc k)
  turn_by c k true e h = refl
  turn_by c k false true h = no_head_lies n held ok none_held c ∙ sym (closed c (suc k) h)
  turn_by c k false false h = sym (closed c (suc k) h)

  pub lanes_turn : turned n.window n.lane ≡ (λ c k. n.lane c (suc k))
  lanes_turn = fun_ext (λ c. fun_ext (λ k. turn_by c k (ltb (suc k) n.window) (eqb (suc k) n.window) refl))

  abbrev net_with : List Line → (ℕ → ℕ → List Flit) → Net
  net_with ls lane = record { window = n.window; depth = n.depth; head = n.head + 1; cycles = n.cycles; lines = ls; lane = lane }

  turned_is : turned_net n ≡ shifted_net n
  turned_is = ap (λ ls. net_with ls (turned n.window n.lane)) (all_move n.lines moves_on) ∙ ap (net_with (map moved_on n.lines)) lanes_turn

  -- m once it has shifted
  module _ (m : Net) (e : m ≡ turned_net n) where
    pub shifted : m ≡ shifted_net n
    shifted = e ∙ turned_is

    pub marked : (used : List Bool) → Marked n used → Marked m used
    marked used marks = (marks.0, λ c i h. ap (λ cs. is_some (crossing cs c)) (ap (λ k. route k i) shifted ∙ kept_on (λ l. l.route) (λ l. refl) n.lines i) ∙ marks.1 c i h)

    -- the count of the head frame is 0, and becomes that of the frame that opens
    pub sound : (hs : List ℕ) → hs ≡ drop 1 held ++ take 1 held → Sound m hs
    sound hs h =
        subst (λ k. Sound k hs) (sym shifted)
        (subst (Sound (shifted_net n)) (sym (h ∙ turned_counts held (omega (arith, ok.5.0)) none_held)) (shifted_sound n held ok none_held made))
