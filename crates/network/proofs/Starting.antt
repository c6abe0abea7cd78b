-- A network that starts from a plan.
use Rattle.std.proofs.Common.{◌≡◌, ℕ, zero, suc, ◌+◌, ◌<◌, ◌≤◌, Bool, true, false, cond, eqb, ltb, ◌⊎◌, List, [], ◌∷◌, ◌++◌, map, length, get_or, take, replicate, is_some, Some, None, Option, sym, refl, ap, ◌∙◌, subst, inl, inr, arith}
use Rattle.std.proofs.lemmas.List.{take_all, map_more, length-map, get_or-map, get_or_default}
use Rattle.std.proofs.lemmas.List.Sums.{get_or-le-sum_by}
use Rattle.std.proofs.lemmas.Bool.{cases_lt, or_left, or_right, eq-eqb, both_ways}
use Rattle.std.proofs.lemmas.Bool.Decides.{nat_tests}
use Rattle.folds.specs.Filled.{filled, list_up}
use Rattle.folds.proofs.Filled.{filled_all, length_up}
use Rattle.folds.proofs.Ups.{getD_up}
use Rattle.lanes.specs.Rings.{clamped}
use Rattle.plan.specs.Tables.{Flow, Table, SoundTable, load, slots_on}
use Rattle.plan.proofs.Ranges.{ranged_at, routed_at, frame_range, window_range}
use Rattle.routes.specs.Channels.{crosses}
use Rattle.routes.specs.Crossings.{hop, crossing, crossing_at}
use Rattle.routes.proofs.Crossings.{hop_place}
use Rattle.sources.specs.Lines.{Line}
use Rattle.running.specs.Cycles.{opened_flow, started}
use Rattle.running.specs.Nets.{Net, route, no_line}
use Rattle.running.specs.Sounds.{Sound}
use Rattle.running.proofs.Asking.{no_flow_crosses}
use Rattle.running.proofs.Starting.{started_sound}
use Rattle.network.specs.Marks.{Marks, Marked}
use Rattle.network.specs.Starting.{Reserved}

-- the marks
pub marks_end : (fs : List Flow) (used : List Bool) (c : ℕ) → used ≡ filled (λ d. ltb 0 (load fs d)) false c 320 → 320 ≤ c → c ≤ 320 → Marks fs used
marks_end fs used c e l u =
    let all : used ≡ list_up (λ d. ltb 0 (load fs d)) 0 320 = e ∙ filled_all _ false c 320 l u in
    (ap length all ∙ length_up _ 0 320, λ d h. ap (λ us. get_or us d false) all ∙ getD_up _ 320 d false h)

-- a window that fits is not clamped
pub not_clamped : (w : ℕ) → 2 ≤ w → w ≤ 8 → clamped w ≡ w
not_clamped w l u = grind (arith, nat_tests)

-- a channel that is not crossed is no hop
crosses_at : (cs : List ℕ) (h : ℕ) → h < length cs → crosses cs (get_or cs h 0) ≡ true
crosses_at [] h l = absurd (omega arith)
crosses_at (d ∷ cs) zero l = or_left (eqb d d) (crosses cs d) (eq-eqb d d refl)
crosses_at (d ∷ cs) (suc h) l = or_right (eqb d (get_or cs h 0)) (crosses cs (get_or cs h 0)) (crosses_at cs h (omega arith))

crossed_by : (cs : List ℕ) (c : ℕ) (o : Option ℕ) → hop cs c ≡ o → crosses cs c ≡ false → is_some (crossing_at cs o) ≡ false
crossed_by cs c None e n = refl
crossed_by cs c (Some h) e n =
    let p = hop_place cs c h e in
    absurd (both_ways (crosses cs c) n (ap (crosses cs) (sym p.1) ∙ crosses_at cs h p.0))

not_crossed : (cs : List ℕ) (c : ℕ) → crosses cs c ≡ false → is_some (crossing cs c) ≡ false
not_crossed cs c n = crossed_by cs c (hop cs c) refl n

module _ (t : Table) (sound : SoundTable t) where
  -- each flow is within the ranges of accounts
  pub reserved_at : (rows : List Flow) (window i : ℕ) (r : Flow) → rows ≡ t.flows → window ≡ t.settings.window → i < length rows → r ≡ get_or rows i r → Reserved r window
  reserved_at rows window i r e w l is =
      let g = ranged_at t.settings.frame t.flows i r sound.ranges (omega (arith, l, ap length e)) (is ∙ ap (λ fs. get_or fs i r) e) in
      let f = frame_range t.settings sound.set in
      let v = window_range t.settings sound.set in
      ((g.some_slots, omega (arith, g.most_slots, f)), (g.some_flits, g.most_flits), (omega (arith, w, v), omega (arith, w, v)))

  abbrev no_flow : Flow
  no_flow = record { slots = 0; largest = 0; route = [] }

  -- a channel without load is crossed by no flow
  off_by : (c i : ℕ) (b : Bool) → crosses (get_or t.flows i no_flow).route c ≡ b → i < length t.flows → load t.flows c ≡ 0 → crosses (get_or t.flows i no_flow).route c ≡ false
  off_by c i true e l none =
      let part : slots_on c (get_or t.flows i no_flow) ≡ (get_or t.flows i no_flow).slots = ap (λ b. cond b (get_or t.flows i no_flow).slots 0) e in
      let some = (ranged_at t.settings.frame t.flows i (get_or t.flows i no_flow) sound.ranges l (get_or_default t.flows i no_flow (get_or t.flows i no_flow) l)).some_slots in
      absurd (omega (arith, some, part, get_or-le-sum_by (slots_on c) t.flows i no_flow l, none))
  off_by c i false e l none = e

  route_at : (i : ℕ) → i < length t.flows → route (started t) i ≡ (get_or t.flows i no_flow).route
  route_at i l = ap (λ (m : Line). m.route) (get_or-map (opened_flow t.settings.window) t.flows i no_flow no_line l)

  unloaded : (c i : ℕ) → load t.flows c ≡ 0 → ((i < length t.flows) ⊎ (length t.flows ≤ i)) → is_some (crossing (route (started t) i) c) ≡ false
  unloaded c i none (inl l) = ap (λ cs. is_some (crossing cs c)) (route_at i l) ∙ not_crossed (get_or t.flows i no_flow).route c (off_by c i (crosses (get_or t.flows i no_flow).route c) refl l none)
  unloaded c i none (inr l) = ap is_some (no_flow_crosses (started t) c i (omega (arith, length-map t.flows (opened_flow t.settings.window))))

  -- m, a network just started
  module _ (m : Net) (e : m ≡ started t) where
    pub marked : (used : List Bool) → Marks t.flows used → Marked m used
    marked used marks = (
      marks.0,
      λ c i h.
          ap (λ k. is_some (crossing (route k i) c)) e
          ∙ unloaded c i (grind (arith, nat_tests, sym (marks.1 c h.0) ∙ h.1)) (cases_lt i (length t.flows)),
    )

    pub started_is_sound : Sound m (replicate 8 0)
    started_is_sound =
        subst (λ k. Sound k (replicate 8 0)) (sym e) (started_sound t no_flow sound.set sound.few (λ i l. routed_at t.flows i no_flow sound.routed l))

-- the sources opened so far
pub one_opened : (rows : List Flow) (window i : ℕ) (ls now : List Line) (l : Line) (r : Flow) → i < length rows → r ≡ get_or rows i r →
    ls ≡ map (opened_flow window) (take i rows) → l ≡ opened_flow window r → now ≡ ls ++ l ∷ [] → now ≡ map (opened_flow window) (take (i + 1) rows)
one_opened rows window i ls now l r low is e o h =
    h ∙ ap (λ xs. xs ++ l ∷ []) e ∙ ap (λ x. map (opened_flow window) (take i rows) ++ x ∷ []) (o ∙ ap (opened_flow window) is)
    ∙ sym (map_more (opened_flow window) rows i r low)

pub all_opened : (t : Table) (rows : List Flow) (window i : ℕ) (ls : List Line) → rows ≡ t.flows → window ≡ t.settings.window → length rows ≤ i →
    ls ≡ map (opened_flow window) (take i rows) → ls ≡ map (opened_flow t.settings.window) t.flows
all_opened t rows window i ls re we l e =
    e ∙ ap (map (opened_flow window)) (take_all i rows l ∙ re) ∙ ap (λ w. map (opened_flow w) t.flows) we
