-- A network after one granted flit has crossed its channel.
use Rattle.std.proofs.Common.{◌≡◌, ℕ, ◌-◌, ◌<◌, ◌≤◌, Bool, true, false, ◌||◌, ltb, List, length, get_or, set, is_some, Some, None, Option, sym, refl, ap, ◌∙◌, subst, ⊎_elim, arith}
use Rattle.std.proofs.lemmas.Option.{same_Some}
use Rattle.std.proofs.lemmas.Bool.{and_from, lt-ltb, ltb-true, ne_eqb, cases_lt, true≢false}
use Rattle.lanes.specs.declared.flits.Flit.{Flit}
use Rattle.routes.specs.Channels.{well_formed}
use Rattle.routes.specs.Crossings.{crossing}
use Rattle.routes.specs.declared.crossing.Crossing.{Crossing}
use Rattle.routes.proofs.Crossings.{crossing_known, before_next}
use Rattle.running.specs.Crossed.{crossed, crossed_by, crossed_line}
use Rattle.running.specs.Moves.{ready_flit}
use Rattle.running.specs.Nets.{Net, flows, line, route}
use Rattle.running.specs.Requests.{requests, stands, has_space}
use Rattle.running.specs.Sounds.{Sound}
use Rattle.running.specs.declared.grant.Grant.{Grant}
use Rattle.running.proofs.Asking.{no_flow_requests}
use Rattle.running.proofs.Carrying.{crossed_sound_last, crossed_sound_on, crossed_held, crossed_delivers, line_carried}
use Rattle.running.proofs.Fronts.{asks_both}
use Rattle.running.proofs.Keeping.{kept_field}
use Rattle.network.specs.Landings.{departing, departed, takes_flit, landed}
use Rattle.network.specs.Marks.{Marked}
use Rattle.network.proofs.Landing.{departs_ready, landed_is, with_off}

-- the network m after channel c's grant g crossed it by x: what it is, and what holds of it with the counts of held flits
pub record Advanced (n : Net) (held : List ℕ) (used : List Bool) (c : ℕ) (g : Grant) (x : Crossing) (m : Net) : Type 0 where
  pub after : m ≡ crossed n c g
  pub marked : Marked m used
  pub last : x.last ≡ true → Sound m (set held g.ahead (get_or held g.ahead 0 - 1))
  pub on : x.last ≡ false → Sound m held

-- the network n, where channel c grants g, whose route crosses it by x
module _ (n : Net) (held : List ℕ) (used : List Bool) (c : ℕ) (g : Grant) (x : Crossing) (ok : Sound n held) (marks : Marked n used)
    (asks : requests n c g.ahead g.flow ≡ true) (inside : g.ahead < n.window) (is : Some x ≡ crossing (route n g.flow) c) where
  among : g.flow < flows n
  among = ⊎_elim (λ l. l) (λ p. absurd (true≢false (sym asks ∙ no_flow_requests n c g.ahead g.flow p))) (cases_lt g.flow (flows n))

  routed : well_formed (route n g.flow) ≡ true
  routed = (ok.1 g.flow among).3

  known : c < 320
  known = crossing_known (route n g.flow) c x routed (sym is)

  stood : stands n g.ahead g.flow x.before ≡ true
  stood = (asks_both n c g.ahead g.flow x (sym is) asks).0

  spared : has_space n c g.ahead x.last ≡ true
  spared = (asks_both n c g.ahead g.flow x (sym is) asks).1

  -- the flit that departs
  pub departs : departing n g x.before ≡ Some (ready_flit n g.ahead g.flow x.before)
  departs = departs_ready n g x.before stood

  -- the lane that it lands in has space still
  same_lane : (before : Option ℕ) → x.before ≡ before → (departed n g before).lane c g.ahead ≡ n.lane c g.ahead
  same_lane None e = refl
  same_lane (Some d) e =
      let below : d < c = (before_next (route n g.flow) c x routed (sym is) d e).1 in
      with_off n.lane d g.ahead _ c g.ahead (ne_eqb c d (λ q. omega arith))

  departed_window : (before : Option ℕ) → (departed n g before).window ≡ n.window
  departed_window None = refl
  departed_window (Some d) = refl

  short : x.last ≡ false → length (n.lane c g.ahead) < 8
  short e =
      let s : ltb (length (n.lane c g.ahead)) n.depth ≡ true = sym (ap (λ b. b || ltb (length (n.lane c g.ahead)) n.depth) e) ∙ spared in
      omega (arith, ltb-true _ _ s, ok.0)

  takes : x.last ≡ false → takes_flit (departed n g x.before) c g.ahead ≡ true
  takes e =
      and_from _ _ (lt-ltb c 320 known)
      (and_from _ _
      (ap (ltb g.ahead) (departed_window x.before) ∙ lt-ltb _ _ inside)
      (ap (λ q. ltb (length q) 8) (same_lane x.before refl) ∙ lt-ltb _ _ (short e)))

  pub lands : landed (departed n g x.before) c g (ready_flit n g.ahead g.flow x.before) x.last ≡ crossed n c g
  lands = landed_is n c g among x (sym is) (λ _. crossed_delivers n held c g x ok among (sym is) asks known inside) takes

  pub some_held : 1 ≤ get_or held g.ahead 0
  some_held = crossed_held n held c g x ok among (sym is) asks known inside

  -- routes stay
  same_route : (i : ℕ) → route (crossed n c g) i ≡ route n i
  same_route i =
      ap (λ o. route (crossed_by n c g o) i) (sym is)
      ∙ kept_field (λ l. l.route) n.lines g.flow (crossed_line x (line n g.flow)) among
      (line_carried n g.ahead g.flow x stood (ok.1 g.flow among).2).route i

  -- m1 once the flit y departed, m2 once it landed
  module _ (m1 m2 : Net) (y : Flit) (e1 : m1 ≡ departed n g x.before) (ey : Some y ≡ departing n g x.before) (e2 : m2 ≡ landed m1 c g y x.last) where
    flit : y ≡ ready_flit n g.ahead g.flow x.before
    flit = same_Some y _ (ey ∙ departs)

    pub after : m2 ≡ crossed n c g
    after = e2 ∙ ap (λ m. landed m c g y x.last) e1 ∙ ap (λ z. landed (departed n g x.before) c g z x.last) flit ∙ lands

    pub moved_on : Advanced n held used c g x m2
    moved_on = record {
      after = after;
      marked = (marks.0, λ d i h. ap (λ cs. is_some (crossing cs d)) (ap (λ m. route m i) after ∙ same_route i) ∙ marks.1 d i h);
      last = λ e. subst (λ m. Sound m (set held g.ahead (get_or held g.ahead 0 - 1))) (sym after) (crossed_sound_last n held c g x ok among (sym is) asks known inside e);
      on = λ e. subst (λ m. Sound m held) (sym after) (crossed_sound_on n held c g x ok among (sym is) asks known inside e);
    }
