-- The moves depend on what each channel grants, and on nothing else.
use Rattle.std.proofs.Common.{◌≡◌, ℕ, ◌+◌, ◌≤◌, Bool, cond, List, [], ◌∷◌, ◌++◌, length, take, Some, None, Option, refl, ap, ◌∙◌, append-nil}
use mathlib.Core.Path.{fun_ext}
use Rattle.std.proofs.lemmas.List.{take_all}
use Rattle.folds.specs.Filled.{list_up}
use Rattle.folds.proofs.Ups.{up_same, up_list}
use Rattle.lanes.specs.declared.flits.Flit.{Flit}
use Rattle.routes.specs.Crossings.{next_channel, first_channel, last_channel}
use Rattle.sources.specs.Lines.{Line}
use Rattle.running.specs.Moves.{at_channel, gives, gives_to, goes_to, stay, enter, moved_lane, left_if, arrived_if, moved_line, moved}
use Rattle.running.specs.Nets.{Net, no_line, line, route, flows}
use Rattle.running.specs.declared.grant.Grant.{Grant}
use Rattle.running.proofs.Turns.{at_skipped}

-- a network with other lines and buffers, which are equal if they are buffer by buffer
abbrev pub with_both : Net → List Line → (ℕ → ℕ → List Flit) → Net
with_both n ls lane = record { window = n.window; depth = n.depth; head = n.head; cycles = n.cycles; lines = ls; lane = lane }

pub same_net : (n : Net) (ls ms : List Line) (f g : ℕ → ℕ → List Flit) → ls ≡ ms → ((d k : ℕ) → f d k ≡ g d k) → with_both n ls f ≡ with_both n ms g
same_net n ls ms f g p q =
    let e : f ≡ g = fun_ext (λ d. fun_ext (q d)) in
    ap (λ t. with_both n t f) p ∙ ap (with_both n ms) e

-- grants that are the same at every channel
module _ (n : Net) (gs hs : List (Option Grant)) (same : (d : ℕ) → at_channel gs d ≡ at_channel hs d) where
  goes_same : (k i : ℕ) (o : Option ℕ) → goes_to gs k i o ≡ goes_to hs k i o
  goes_same k i None = refl
  goes_same k i (Some d) = ap (λ (t : Option Grant). gives t k i) (same d)

  stay_same : (d k : ℕ) (q : List Flit) → stay n gs d k q ≡ stay n hs d k q
  stay_same d k [] = refl
  stay_same d k (x ∷ xs) = ap (λ (b : Bool). cond b xs (x ∷ xs)) (goes_same k x.flow (next_channel (route n x.flow) d))

  lane_same : (d k : ℕ) → moved_lane n gs d k ≡ moved_lane n hs d k
  lane_same d k = ap (λ (q : List Flit). q ++ enter n d k (at_channel gs d)) (stay_same d k (n.lane d k))
      ∙ ap (λ (t : Option Grant). stay n hs d k (n.lane d k) ++ enter n d k t) (same d)

  line_same : (i : ℕ) (l : Line) → moved_line gs i l ≡ moved_line hs i l
  line_same i l =
      let first : ℕ = first_channel l.route in
      let last : ℕ = last_channel l.route in
      ap (λ (t : Option Grant). arrived_if (gives_to t i) (left_if (gives_to (at_channel gs first) i) l)) (same last)
      ∙ ap (λ (t : Option Grant). arrived_if (gives_to (at_channel hs last) i) (left_if (gives_to t i) l)) (same first)

  pub moved_same : moved n gs ≡ moved n hs
  moved_same =
      let f : ℕ → Line = λ i. moved_line gs i (line n i) in
      let g : ℕ → Line = λ i. moved_line hs i (line n i) in
      same_net n (list_up f 0 (flows n)) (list_up g 0 (flows n)) (moved_lane n gs) (moved_lane n hs)
      (up_same f g (flows n) (λ i l. line_same i (line n i)))
      lane_same

-- no grants, no moves
stay_none : (n : Net) (d k : ℕ) (q : List Flit) → stay n [] d k q ≡ q
stay_none n d k [] = refl
stay_none n d k (x ∷ xs) = go (next_channel (route n x.flow) d)
  where
    go : (o : Option ℕ) → cond (goes_to [] k x.flow o) xs (x ∷ xs) ≡ x ∷ xs
    go None = refl
    go (Some c) = refl

pub moved_none : (n : Net) → moved n [] ≡ n
moved_none n =
    same_net n (list_up (λ i. moved_line [] i (line n i)) 0 (flows n)) n.lines (moved_lane n []) n.lane
    (up_list n.lines no_line)
    (λ d k. append-nil (stay n [] d k (n.lane d k)) ∙ stay_none n d k (n.lane d k))

-- a channel that grants nothing moves nothing
pub moved_skip : (n : Net) (gs : List (Option Grant)) (c : ℕ) → at_channel gs c ≡ None → moved n (take (c + 1) gs) ≡ moved n (take c gs)
moved_skip n gs c e = moved_same n (take (c + 1) gs) (take c gs) (at_skipped gs c e)

-- when all channels had their turn, all moves are made
pub moved_all : (n : Net) (gs : List (Option Grant)) (c : ℕ) → length gs ≤ c → moved n (take c gs) ≡ moved n gs
moved_all n gs c l = ap (moved n) (take_all c gs l)
