-- The moves leave held what was held, each flit in its frame, or deliver it.
use Rattle.std.proofs.Common.{◌≡◌, ℕ, zero, suc, ◌+◌, ◌<◌, ◌≤◌, Bool, true, false, cond, not, ◌&&◌, eqb, ltb, ◌≢◌, ◌⊎◌, List, [], ◌∷◌, ◌++◌, length, get_or, take, is_some, Some, None, Option, sym, refl, ap, ◌∙◌, subst, inl, inr, ⊎_elim, add-one, arith}
use Rattle.std.proofs.lemmas.List.{get_or-set_same, get_or-set_other}
use Rattle.std.proofs.lemmas.Bool.{both_ways, cases_eq, eq-eqb, ltb-true, ltb-false, or_left, and_from}
use Rattle.folds.specs.Firsts.{first_up}
use Rattle.folds.proofs.Firsts.{first_passes}
use Rattle.lanes.specs.Lanes.{rest_of}
use Rattle.lanes.specs.declared.flits.Flit.{Flit}
use Rattle.routes.specs.declared.crossing.Crossing.{Crossing}
use Rattle.sources.specs.Lines.{Line, first_place, without_first}
use Rattle.running.specs.Crossed.{without_front, with_flit, crossed_line, crossed_by, crossed}
use Rattle.running.specs.Moves.{at_channel, no_flit, ready_flit, left_if, arrived_if, moved, arrives_by, arrive, arrivals}
use Rattle.running.specs.Nets.{Net, no_line, line, flows}
use Rattle.running.specs.Requests.{leads, is_at, stands, requests}
use Rattle.running.specs.Valid.{Valid, Routed}
use Rattle.running.specs.declared.grant.Grant.{Grant}
use Rattle.running.proofs.Fronts.{is_at_some, lane_here, lane_elsewhere}
use Rattle.running.proofs.Ready.{requested}
use Rattle.running.proofs.Same.{moved_none, moved_skip, moved_all}
use Rattle.running.proofs.Together.{moved_one, ready_one, ready_flow, arrivals_one}
use Rattle.guarantee.specs.Counts.{has_flit}
use Rattle.guarantee.proofs.Holding.{Waits, Holds, has_left, has_right, has_front, left_waits}

-- a search passes over what stands before its answer
module _ (p : ℕ → Bool) where
  below_by : (i k n j : ℕ) (b : Bool) → p i ≡ b → (first_up p (i + 1) n ≡ Some k → i + 1 ≤ j → j < k → p j ≡ false) →
      cond b (Some i) (first_up p (i + 1) n) ≡ Some k → i ≤ j → j < k → p j ≡ false
  below_by i k n j true e ih h l m = let q : i ≡ k = cc in absurd (omega arith)
  below_by i k n j false e ih h l m = ⊎_elim (λ q. ap p q ∙ e) (λ ne. ih h (omega arith) m) (cases_eq j i)

  first_below : (i n k j : ℕ) → first_up p i n ≡ Some k → i ≤ j → j < k → p j ≡ false
  unfolding first_up
  first_below i zero k j h l m = absurd cc
  first_below i (suc n) k j h l m = below_by i k n j (p i) refl (first_below (i + 1) n k j) h l m

-- the flit that leaves its source is the first one of those that wait
first_leaves : (l : Line) (a k num : ℕ) → first_place l ≡ Some a → Waits l k num →
    ((num ≡ l.sent) × (k ≡ a)) ⊎ Waits (without_first l (Some a)) k num
first_leaves l a k num e w =
    left_waits l.waiting l.sent a
    (λ j h. let z = ltb-false 0 (get_or l.waiting j 0) (first_below (λ m. ltb 0 (get_or l.waiting m 0)) 0 8 a j e (omega arith) h) in omega arith)
    (ltb-true 0 (get_or l.waiting a 0) (first_passes (λ m. ltb 0 (get_or l.waiting m 0)) 0 8 a e))
    k num w.0 w.1

arrived_waits : (b : Bool) (l : Line) (k num : ℕ) → Waits l k num → Waits (arrived_if b l) k num
arrived_waits true l k num w = w
arrived_waits false l k num w = w

-- a flit of a queue is the front, or one of those behind it
front_or_rest : (i num j : ℕ) (q : List Flit) → leads q j ≡ true → has_flit i num q ≡ true →
    (has_flit i num (get_or q 0 no_flit ∷ []) ≡ true) ⊎ (has_flit i num (rest_of q) ≡ true)
front_or_rest i num j [] s h = absurd (both_ways true (sym h) refl)
front_or_rest i num j (y ∷ q) s h = has_front i num y q h

-- channel c grants a flit that stands ready
module _ (m : Net) (c : ℕ) (g : Grant) (x : Crossing) (low : g.flow < flows m) (stood : stands m g.ahead g.flow x.before ≡ true) where
  abbrev after : Net
  after = crossed_by m c g (Some x)

  abbrev flit : Flit
  flit = ready_flit m g.ahead g.flow x.before

  -- flow i's flit of that number is held in the frame f, or it was delivered
  abbrev Follows : ℕ → ℕ → ℕ → Type 0
  Follows i num f = Holds after i num f ⊎ (has_flit i num (arrives_by m g (Some x)) ≡ true)

  -- the flit that crosses comes to channel c's buffer, or is delivered
  lands_by : (last : Bool) → x.last ≡ last → (i num : ℕ) → has_flit i num (flit ∷ []) ≡ true → Follows i num (m.head + g.ahead)
  lands_by true e i num h = inr (ap (λ b. has_flit i num (cond b (flit ∷ []) [])) e ∙ h)
  lands_by false e i num h =
      inl (
        g.ahead,
        refl,
        inr (
          c,
          ap (has_flit i num) (lane_here m c g x c)
              ∙ ap (λ b. has_flit i num (without_front (is_at x.before c) (m.lane c g.ahead) ++ with_flit b flit))
              (and_from (eqb c c) (not x.last) (eq-eqb c c refl) (ap not e))
              ∙ has_right i num (without_front (is_at x.before c) (m.lane c g.ahead)) (flit ∷ []) h,
        ),
      )

  lands : (i num : ℕ) → has_flit i num (flit ∷ []) ≡ true → Follows i num (m.head + g.ahead)
  lands i num h = lands_by x.last refl i num h

  -- a flit that waits at the flow's source: it is the one that leaves, or it still waits
  leaves_by : (o : Option ℕ) → x.before ≡ o → (k num : ℕ) → Waits (line m g.flow) k num →
      ((k ≡ g.ahead) × (has_flit g.flow num (ready_flit m g.ahead g.flow o ∷ []) ≡ true))
      ⊎ Waits (left_if (not (is_some o)) (line m g.flow)) k num
  leaves_by None e k num w =
      let here : is_at (first_place (line m g.flow)) g.ahead ≡ true = ap (stands m g.ahead g.flow) (sym e) ∙ stood in
      let place : first_place (line m g.flow) ≡ Some g.ahead = is_at_some (first_place (line m g.flow)) g.ahead here in
      ⊎_elim
      (λ q. inl (
        q.1,
        or_left (eqb g.flow g.flow && eqb (line m g.flow).sent num) false
            (and_from (eqb g.flow g.flow) (eqb (line m g.flow).sent num) (eq-eqb g.flow g.flow refl)
            (eq-eqb (line m g.flow).sent num (sym q.0))),
      ))
      (λ v. inr (subst (λ o. Waits (without_first (line m g.flow) o) k num) (sym place) v))
      (first_leaves (line m g.flow) g.ahead k num place w)
  leaves_by (Some d) e k num w = inr w

  line_mine : line after g.flow ≡ crossed_line x (line m g.flow)
  line_mine = get_or-set_same m.lines g.flow (crossed_line x (line m g.flow)) no_line low

  waits_mine : (k num f : ℕ) → f ≡ m.head + k → Waits (line m g.flow) k num → Follows g.flow num f
  waits_mine k num f e w =
      ⊎_elim
      (λ q. subst (Follows g.flow num) (ap (λ j. m.head + j) (sym q.0) ∙ sym e) (lands g.flow num q.1))
      (λ v. inl (k, e, inl (subst (λ l. Waits l k num) (sym line_mine) (arrived_waits x.last (left_if (not (is_some x.before)) (line m g.flow)) k num v))))
      (leaves_by x.before refl k num w)

  waits_by : (i k num f : ℕ) → f ≡ m.head + k → Waits (line m i) k num → ((i ≡ g.flow) ⊎ (i ≡ g.flow → ⊥)) → Follows i num f
  waits_by i k num f e w (inl p) =
      subst (λ j. Follows j num f) (sym p) (waits_mine k num f e (subst (λ j. Waits (line m j) k num) p w))
  waits_by i k num f e w (inr d) =
      let ne : i ≢ g.flow = d in
      inl (k, e, inl (subst (λ l. Waits l k num) (sym (get_or-set_other m.lines g.flow i (crossed_line x (line m g.flow)) no_line ne)) w))

  -- a flit in a buffer for the granted frame: it is the front that goes, or it stays there
  stays : (i num d : ℕ) (b : Bool) → is_at x.before d ≡ b → has_flit i num (without_front b (m.lane d g.ahead)) ≡ true →
      Follows i num (m.head + g.ahead)
  stays i num d b e h =
      inl (
        g.ahead,
        refl,
        inr (
          d,
          ap (has_flit i num) (lane_here m c g x d)
              ∙ ap (λ t. has_flit i num (without_front t (m.lane d g.ahead) ++ with_flit (eqb d c && not x.last) flit)) e
              ∙ has_left i num (without_front b (m.lane d g.ahead)) (with_flit (eqb d c && not x.last) flit) h,
        ),
      )

  lies_here : (i num d : ℕ) (b : Bool) → is_at x.before d ≡ b → has_flit i num (m.lane d g.ahead) ≡ true → Follows i num (m.head + g.ahead)
  lies_here i num d false e h = stays i num d false e h
  lies_here i num d true e h =
      let here : x.before ≡ Some d = is_at_some x.before d e in
      ⊎_elim
      (λ q. lands i num (ap (λ o. has_flit i num (ready_flit m g.ahead g.flow o ∷ [])) here ∙ q))
      (stays i num d true e)
      (front_or_rest i num g.flow (m.lane d g.ahead) (ap (stands m g.ahead g.flow) (sym here) ∙ stood) h)

  lies_by : (i k num f d : ℕ) → f ≡ m.head + k → has_flit i num (m.lane d k) ≡ true → ((k ≡ g.ahead) ⊎ (k ≡ g.ahead → ⊥)) → Follows i num f
  lies_by i k num f d e h (inl p) =
      subst (Follows i num) (ap (λ j. m.head + j) (sym p) ∙ sym e)
      (lies_here i num d (is_at x.before d) refl (ap (λ j. has_flit i num (m.lane d j)) (sym p) ∙ h))
  lies_by i k num f d e h (inr ne) = inl (k, e, inr (d, ap (has_flit i num) (lane_elsewhere m c g x d k ne) ∙ h))

  follows : (i num f : ℕ) → Holds m i num f → Follows i num f
  follows i num f (k, e, inl w) = waits_by i k num f e w (cases_eq i g.flow)
  follows i num f (k, e, inr (d, h)) = lies_by i k num f d e h (cases_eq k g.ahead)

-- one crossing
pub cross_holds : (m : Net) (c : ℕ) (g : Grant) → g.flow < flows m → requests m c g.ahead g.flow ≡ true →
    (i num f : ℕ) → Holds m i num f → Holds (crossed m c g) i num f ⊎ (has_flit i num (arrive m c (Some g)) ≡ true)
cross_holds m c g low asks i num f h =
    let r = requested m c g.ahead g.flow asks in
    subst (λ o. Holds (crossed_by m c g o) i num f ⊎ (has_flit i num (arrives_by m g o) ≡ true)) (sym r.1) (follows m c g r.0 low r.2 i num f h)

-- the moves together, which are the crossings one by one
module _ (n : Net) (gs : List (Option Grant)) (routed : Routed n) (valid : Valid n gs) (i num f : ℕ) where
  abbrev Followed : ℕ → Type 0
  Followed c = Holds (moved n (take c gs)) i num f ⊎ (has_flit i num (arrivals n gs c) ≡ true)

  turn_by : (c : ℕ) (o : Option Grant) → at_channel gs c ≡ o → Holds (moved n (take c gs)) i num f →
      Holds (moved n (take (c + 1) gs)) i num f ⊎ (has_flit i num (arrive n c (at_channel gs c)) ≡ true)
  turn_by c None e h = inl (subst (λ m. Holds m i num f) (sym (moved_skip n gs c e)) h)
  turn_by c (Some g) e h =
      ⊎_elim
      (λ q. inl (subst (λ m. Holds m i num f) (sym (moved_one n gs routed valid c g e)) q))
      (λ q. inr (ap (has_flit i num) (arrivals_one n gs routed valid c ∙ ap (arrive (moved n (take c gs)) c) e) ∙ q))
      (cross_holds (moved n (take c gs)) c g (ready_flow n gs routed valid c g e) (ready_one n gs routed valid c g e) i num f h)

  turn : (c : ℕ) → Followed c → Followed (suc c)
  unfolding arrivals
  turn c (inl h) =
      ⊎_elim
      (λ q. inl (subst (λ k. Holds (moved n (take k gs)) i num f) (add-one c) q))
      (λ q. inr (has_right i num (arrivals n gs c) (arrive n c (at_channel gs c)) q))
      (turn_by c (at_channel gs c) refl h)
  turn c (inr h) = inr (has_left i num (arrivals n gs c) (arrive n c (at_channel gs c)) h)

  turns : (c : ℕ) → Holds n i num f → Followed c
  turns zero h = inl (subst (λ m. Holds m i num f) (sym (moved_none n)) h)
  turns (suc c) h = turn c (turns c h)

  pub move_holds : length gs ≤ 320 → Holds n i num f → Holds (moved n gs) i num f ⊎ (has_flit i num (arrivals n gs 320) ≡ true)
  move_holds few h = ⊎_elim (λ q. inl (subst (λ m. Holds m i num f) (moved_all n gs 320 few) q)) (λ q. inr q) (turns 320 h)
