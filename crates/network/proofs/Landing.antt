-- A flit that departs and lands has crossed its channel.
use Rattle.std.proofs.Common.{◌≡◌, ℕ, ◌<◌, Bool, true, false, cond, not, ◌&&◌, eqb, List, [], ◌∷◌, ◌++◌, get_or, set, is_some, Some, None, Option, sym, refl, ap, ◌∙◌, append-nil}
use mathlib.Core.Path.{fun_ext}
use Rattle.std.proofs.lemmas.List.{get_or-set_same, set-set, set-get_or}
use Rattle.std.proofs.lemmas.Bool.{eq-eqb, ne_eqb, eqb-true, true≢false}
use Rattle.lanes.specs.Lanes.{first_of, rest_of}
use Rattle.lanes.specs.declared.flits.Flit.{Flit}
use Rattle.routes.specs.Crossings.{crossing}
use Rattle.routes.specs.declared.crossing.Crossing.{Crossing}
use Rattle.sources.specs.Lines.{Line, first_place, left_by, number_at, delivering, deliver_answer, arrived}
use Rattle.running.specs.Crossed.{crossed, crossed_by, crossed_lane, without_front, with_flit}
use Rattle.running.specs.Moves.{ready_flit, left_if, no_flit}
use Rattle.running.specs.Nets.{Net, flows, line, route, no_line}
use Rattle.running.specs.Requests.{is_at, leads, stands}
use Rattle.running.specs.declared.grant.Grant.{Grant}
use Rattle.running.proofs.Fronts.{is_at_some}
use Rattle.network.specs.Landings.{numbered, departing, departed, takes_flit, landed}
use Rattle.lanes.specs.Rings.{with_lane}

abbrev Lanes : Type 0
Lanes = ℕ → ℕ → List Flit

-- one lane changed: read there, and elsewhere
with_here : (f : Lanes) (c k : ℕ) (q : List Flit) → with_lane f c k q c k ≡ q
with_here f c k q = ap (λ b. cond (b && eqb k k) q (f c k)) (eq-eqb c c refl) ∙ ap (λ b. cond b q (f c k)) (eq-eqb k k refl)

pub with_off : (f : Lanes) (c k : ℕ) (q : List Flit) (d j : ℕ) → eqb d c ≡ false → with_lane f c k q d j ≡ f d j
with_off f c k q d j h = ap (λ b. cond (b && eqb j k) q (f d j)) h

-- the flit that departs is the one that stands ready
leads_first : (q : List Flit) (i : ℕ) → leads q i ≡ true → first_of q ≡ Some (get_or q 0 no_flit)
leads_first [] i h = absurd (true≢false (sym h))
leads_first (x ∷ q) i h = refl

pub departs_ready : (n : Net) (g : Grant) (before : Option ℕ) → stands n g.ahead g.flow before ≡ true →
    departing n g before ≡ Some (ready_flit n g.ahead g.flow before)
departs_ready n g None h = ap (λ o. numbered g.flow (number_at (line n g.flow) o)) (is_at_some (first_place (line n g.flow)) g.ahead h)
departs_ready n g (Some d) h = leads_first (n.lane d g.ahead) g.flow h

-- the buffers once the flit has departed, and once it has landed
module _ (f : Lanes) (c k : ℕ) (x : Flit) where
  abbrev crossed_to : Option ℕ → Bool → ℕ → ℕ → List Flit
  crossed_to before last d j = cond (eqb j k) (without_front (is_at before d) (f d j) ++ with_flit (eqb d c && not last) x) (f d j)

  abbrev left_lane : Option ℕ → Lanes
  left_lane None = f
  left_lane (Some b) = with_lane f b k (rest_of (f b k))

  left_by_one : (b d j : ℕ) (p q : Bool) → eqb d b ≡ p → eqb j k ≡ q →
      cond (p && q) (rest_of (f b k)) (f d j) ≡ cond q (without_front (eqb b d) (f d j)) (f d j)
  left_by_one b d j true true hp hq =
      let e : d ≡ b = eqb-true d b hp in
      let e' : j ≡ k = eqb-true j k hq in
      ap (λ t. rest_of (f t k)) (sym e) ∙ ap (λ t. rest_of (f d t)) (sym e') ∙ sym (ap (λ t. cond t (rest_of (f d j)) (f d j)) (eq-eqb b d (sym e)))
  left_by_one b d j true false hp hq = refl
  left_by_one b d j false true hp hq = sym (ap (λ t. cond t (rest_of (f d j)) (f d j)) (ne_eqb b d (λ e. true≢false (sym (eq-eqb d b (sym e)) ∙ hp))))
  left_by_one b d j false false hp hq = refl

  front_stays : (before : Option ℕ) (d j : ℕ) → left_lane before d j ≡ cond (eqb j k) (without_front (is_at before d) (f d j)) (f d j)
  front_stays None d j = same (eqb j k)
    where
      same : (b : Bool) → f d j ≡ cond b (f d j) (f d j)
      same true = refl
      same false = refl
  front_stays (Some b) d j = left_by_one b d j (eqb d b) (eqb j k) refl refl

  -- delivered: nothing lands
  pub lanes_last : (before : Option ℕ) → left_lane before ≡ crossed_to before true
  lanes_last before = fun_ext (λ d. fun_ext (λ j. front_stays before d j ∙ ends d j (eqb j k) (eqb d c)))
    where
      ends : (d j : ℕ) (q e : Bool) → cond q (without_front (is_at before d) (f d j)) (f d j) ≡ cond q (without_front (is_at before d) (f d j) ++ with_flit (e && false) x) (f d j)
      ends d j true true = sym (append-nil (without_front (is_at before d) (f d j)))
      ends d j true false = sym (append-nil (without_front (is_at before d) (f d j)))
      ends d j false e = refl

  -- else it lands at the back of channel c's buffer
  pub lanes_on : (before : Option ℕ) → with_lane (left_lane before) c k (left_lane before c k ++ x ∷ []) ≡ crossed_to before false
  lanes_on before = fun_ext (λ d. fun_ext (λ j. at d j (eqb d c) (eqb j k) refl refl))
    where
      at : (d j : ℕ) (p q : Bool) → eqb d c ≡ p → eqb j k ≡ q →
          cond (p && q) (left_lane before c k ++ x ∷ []) (left_lane before d j) ≡ cond q (without_front (is_at before d) (f d j) ++ with_flit (p && true) x) (f d j)
      at d j true true hp hq =
          let e : d ≡ c = eqb-true d c hp in
          let e' : j ≡ k = eqb-true j k hq in
          ap (λ t. left_lane before t k ++ x ∷ []) (sym e) ∙ ap (λ t. left_lane before d t ++ x ∷ []) (sym e')
          ∙ ap (λ t. t ++ x ∷ []) (front_stays before d j ∙ ap (λ b. cond b (without_front (is_at before d) (f d j)) (f d j)) hq)
      at d j true false hp hq = front_stays before d j ∙ ap (λ b. cond b (without_front (is_at before d) (f d j)) (f d j)) hq
      at d j false true hp hq =
          front_stays before d j ∙ ap (λ b. cond b (without_front (is_at before d) (f d j)) (f d j)) hq ∙ sym (append-nil (without_front (is_at before d) (f d j)))
      at d j false false hp hq = front_stays before d j ∙ ap (λ b. cond b (without_front (is_at before d) (f d j)) (f d j)) hq

-- the whole network
module _ (n : Net) (c : ℕ) (g : Grant) (known : g.flow < flows n) where
  abbrev net_with : List Line → Lanes → Net
  net_with ls f = record { window = n.window; depth = n.depth; head = n.head; cycles = n.cycles; lines = ls; lane = f }

  abbrev flow_line : Line
  flow_line = line n g.flow

  -- the flit is read in the frame that is granted
  same_flit : (before : Option ℕ) (last : Bool) →
      crossed_to n.lane c g.ahead (ready_flit n g.ahead g.flow before) before last ≡ crossed_lane n c g (record { before = before; last = last })
  same_flit before last = fun_ext (λ d. fun_ext (λ j. at d j (eqb j g.ahead) refl))
    where
      at : (d j : ℕ) (q : Bool) → eqb j g.ahead ≡ q →
          cond q (without_front (is_at before d) (n.lane d j) ++ with_flit (eqb d c && not last) (ready_flit n g.ahead g.flow before)) (n.lane d j)
          ≡ cond q (without_front (is_at before d) (n.lane d j) ++ with_flit (eqb d c && not last) (ready_flit n j g.flow before)) (n.lane d j)
      at d j true h =
          ap (λ k. without_front (is_at before d) (n.lane d j) ++ with_flit (eqb d c && not last) (ready_flit n k g.flow before)) (sym (eqb-true j g.ahead h))
      at d j false h = refl

  arrived_is : (l : Line) → deliver_answer l ≡ true → delivering l ≡ arrived l
  arrived_is l h = ap (λ b. cond b (arrived l) l) h

  line_twice : (a : Line) → deliver_answer a ≡ true →
      set (set n.lines g.flow a) g.flow (delivering (get_or (set n.lines g.flow a) g.flow no_line)) ≡ set n.lines g.flow (arrived a)
  line_twice a h =
      set-set n.lines g.flow a _
      ∙ ap (λ l. set n.lines g.flow (delivering l)) (get_or-set_same n.lines g.flow a no_line known)
      ∙ ap (set n.lines g.flow) (arrived_is a h)

  landed_by : (before : Option ℕ) (last : Bool) →
      (last ≡ true → deliver_answer (left_if (not (is_some before)) flow_line) ≡ true) →
      (last ≡ false → takes_flit (departed n g before) c g.ahead ≡ true) →
      landed (departed n g before) c g (ready_flit n g.ahead g.flow before) last ≡ crossed_by n c g (Some (record { before = before; last = last }))
  landed_by None true d t =
      ap (λ ls. net_with ls n.lane) (line_twice (left_by flow_line) (d refl))
      ∙ ap (net_with (set n.lines g.flow (arrived (left_by flow_line)))) (lanes_last n.lane c g.ahead (ready_flit n g.ahead g.flow None) None ∙ same_flit None true)
  landed_by (Some b) true d t =
      ap (λ l. net_with (set n.lines g.flow l) (left_lane n.lane c g.ahead (ready_flit n g.ahead g.flow (Some b)) (Some b))) (arrived_is flow_line (d refl))
      ∙ ap (net_with (set n.lines g.flow (arrived flow_line))) (lanes_last n.lane c g.ahead (ready_flit n g.ahead g.flow (Some b)) (Some b) ∙ same_flit (Some b) true)
  landed_by None false d t =
      ap (net_with (set n.lines g.flow (left_by flow_line)))
      (ap (λ b. cond b (with_lane n.lane c g.ahead (n.lane c g.ahead ++ ready_flit n g.ahead g.flow None ∷ [])) n.lane) (t refl)
      ∙ lanes_on n.lane c g.ahead (ready_flit n g.ahead g.flow None) None ∙ same_flit None false)
  landed_by (Some b) false d t =
      let m = departed n g (Some b) in
      ap (λ ls. net_with ls (cond (takes_flit m c g.ahead) (with_lane m.lane c g.ahead (m.lane c g.ahead ++ ready_flit n g.ahead g.flow (Some b) ∷ [])) m.lane)) same_lines
      ∙ ap (net_with (set n.lines g.flow flow_line))
      (ap (λ b'. cond b' (with_lane m.lane c g.ahead (m.lane c g.ahead ++ ready_flit n g.ahead g.flow (Some b) ∷ [])) m.lane) (t refl)
      ∙ lanes_on n.lane c g.ahead (ready_flit n g.ahead g.flow (Some b)) (Some b) ∙ same_flit (Some b) false)
    where
      same_lines : n.lines ≡ set n.lines g.flow flow_line
      same_lines = sym (set-get_or n.lines g.flow no_line)

  pub landed_is : (x : Crossing) → crossing (route n g.flow) c ≡ Some x →
      (x.last ≡ true → deliver_answer (left_if (not (is_some x.before)) flow_line) ≡ true) →
      (x.last ≡ false → takes_flit (departed n g x.before) c g.ahead ≡ true) →
      landed (departed n g x.before) c g (ready_flit n g.ahead g.flow x.before) x.last ≡ crossed n c g
  landed_is x e d t = landed_by x.before x.last d t ∙ sym (ap (crossed_by n c g) e)
