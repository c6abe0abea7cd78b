-- What a reservation that passed its checks brings, and that the table with its flow is still sound.
use Rattle.std.proofs.Common.{◌≡◌, ℕ, ◌+◌, ◌<◌, ◌≤◌, Bool, true, false, cond, ◌&&◌, eqb, ltb, leb, ◌⊎◌, List, [], ◌∷◌, ◌++◌, length, Ok, Err, Result, sym, refl, ap, ◌∙◌, subst, inl, inr, length-append, arith}
use Rattle.std.proofs.lemmas.List.Recursion.{and_push}
use Rattle.std.proofs.lemmas.List.Sums.{sum_by_push}
use Rattle.std.proofs.lemmas.Bool.{ltb-true, lt-ltb, leb-true, eqb-true, or_cases, and_from}
use Rattle.lists.specs.Lists.{pushed}
use Rattle.routes.specs.Channels.{within, crosses, well_formed}
use Rattle.routes.specs.Routes.{route_checked}
use Rattle.routes.specs.declared.path.checks.RouteRefusal.{RouteRefusal}
use Rattle.routes.proofs.Routes.{passed_well_formed}
use Rattle.plan.specs.Tables.{Table, Flow, SoundTable, load, slots_on, all_fit, all_routed}
use Rattle.plan.specs.Reserving.{check, terms_checked, load_checked, and_then, of_route, admitted, with_flow}
use Rattle.plan.specs.declared.setting.Settings.{Settings}
use Rattle.plan.specs.declared.refusal.PlanRefusal.{PlanRefusal}
use Rattle.plan.specs.declared.refusal.PlanRefusal.TheVariants.{TableFull, Slots, Packet, Overload}

-- a check that was passed
passed : (b : Bool) (e : PlanRefusal) (next : Result (Unit {0}) PlanRefusal) → check b e next ≡ Ok tt → (b ≡ true) × (next ≡ Ok tt)
passed true e next h = (refl, h)
passed false e next h = absurd cc

went : (f g : Flow) (a d : Result (Unit {0}) PlanRefusal) (b : Result (Unit {0}) RouteRefusal) → Ok f ≡ and_then a (and_then (of_route b) (and_then d (Ok g))) → (a ≡ Ok tt) × (Ok tt ≡ b) × (d ≡ Ok tt) × (f ≡ g)
went f g (Ok x) (Ok z) (Ok y) h = (refl, refl, refl, cc)
went f g (Ok x) (Err e) (Ok y) h = absurd cc
went f g (Ok x) d (Err e) h = absurd cc
went f g (Err e) d b h = absurd cc

-- what the flow of an admitted reservation is
pub record Admitted (t : Table) (slots largest : ℕ) (route : List ℕ) (f : Flow) : Type 0 where
  pub room : length t.flows < 64
  pub some_slots : within 1 t.settings.frame slots ≡ true
  pub packet : within 1 64 largest ≡ true
  pub routed : well_formed route ≡ true
  pub fits : load_checked t slots route ≡ Ok tt
  pub is : f ≡ record { slots = slots; largest = largest; route = route }

pub admitted_is : (t : Table) (slots largest : ℕ) (route : List ℕ) (f : Flow) → Ok f ≡ admitted t slots largest route → Admitted t slots largest route f
admitted_is t slots largest route f h =
    let w = went f _ (terms_checked t slots largest) (load_checked t slots route) (route_checked route) h in
    let one = passed (ltb (length t.flows) 64) TableFull _ w.0 in
    let two = passed (within 1 t.settings.frame slots) Slots _ one.1 in
    let three = passed (within 1 64 largest) Packet _ two.1 in
    record { room = ltb-true _ _ one.0; some_slots = two.0; packet = three.0; routed = passed_well_formed route w.1; fits = w.2; is = w.3 }

-- a channel of a route that passed takes the slots
pub channel_fits : (t : Table) (slots : ℕ) (route : List ℕ) → load_checked t slots route ≡ Ok tt → (c : ℕ) → crosses route c ≡ true → load t.flows c + slots ≤ t.settings.frame
channel_fits t slots [] h c x = absurd cc
channel_fits t slots (d ∷ ds) h c x =
    let p = passed (leb (load t.flows d + slots) t.settings.frame) (Overload d) (load_checked t slots ds) h in
    here (leb-true _ _ p.0) (channel_fits t slots ds p.1 c) (or_cases (eqb d c) (crosses ds c) x)
  where
    here : load t.flows d + slots ≤ t.settings.frame → (crosses ds c ≡ true → load t.flows c + slots ≤ t.settings.frame) →
        ((eqb d c ≡ true) ⊎ (crosses ds c ≡ true)) → load t.flows c + slots ≤ t.settings.frame
    here l rest (inl e) = subst (λ k. load t.flows k + slots ≤ t.settings.frame) (eqb-true d c e) l
    here l rest (inr e) = rest e

pub all_fit_push : (frame : ℕ) (fs : List Flow) (f : Flow) → all_fit frame fs ≡ true → within 1 frame f.slots ≡ true → within 1 64 f.largest ≡ true → all_fit frame (fs ++ f ∷ []) ≡ true
all_fit_push frame fs f h s l =
    and_push (all_fit frame) (λ g. within 1 frame g.slots && within 1 64 g.largest) refl (λ _ _. refl) fs f
    ∙ and_from _ _ h (and_from _ _ s l)

module _ (t : Table) (slots largest : ℕ) (route : List ℕ) (f : Flow) (a : Admitted t slots largest route f) where
  pub still_fit : all_fit t.settings.frame t.flows ≡ true → all_fit t.settings.frame (t.flows ++ f ∷ []) ≡ true
  still_fit h =
      all_fit_push t.settings.frame t.flows f h
      (ap (λ (g : Flow). within 1 t.settings.frame g.slots) a.is ∙ a.some_slots)
      (ap (λ (g : Flow). within 1 64 g.largest) a.is ∙ a.packet)

  pub still_routed : all_routed t.flows ≡ true → all_routed (t.flows ++ f ∷ []) ≡ true
  still_routed h = and_push all_routed (λ g. well_formed g.route) refl (λ _ _. refl) t.flows f ∙ and_from _ _ h (ap (λ (g : Flow). well_formed g.route) a.is ∙ a.routed)

  under : (c : ℕ) → load t.flows c ≤ t.settings.frame → (x : Bool) → crosses route c ≡ x → load t.flows c + cond x slots 0 ≤ t.settings.frame
  under c h true e = channel_fits t slots route a.fits c e
  under c h false e = omega arith

  pub still_loaded : (c : ℕ) → load t.flows c ≤ t.settings.frame → load (t.flows ++ f ∷ []) c ≤ t.settings.frame
  still_loaded c h =
      subst (λ n. n ≤ t.settings.frame) (sym (sum_by_push (slots_on c) t.flows f ∙ ap (λ g. load t.flows c + slots_on c g) a.is))
      (under c h (crosses route c) refl)

  pub still_sound : SoundTable t → SoundTable (with_flow t f)
  still_sound s = record {
    set = s.set;
    few = omega (arith, length-append t.flows (f ∷ []), a.room);
    ranges = still_fit s.ranges;
    routed = still_routed s.routed;
    loads = λ c. still_loaded c (s.loads c);
  }

-- the flow behind the others, as a list of 64 places takes it
pub flows_pushed : (t : Table) (slots largest : ℕ) (route : List ℕ) (f : Flow) → Ok f ≡ admitted t slots largest route → pushed 64 t.flows f ≡ t.flows ++ f ∷ []
flows_pushed t slots largest route f h = ap (λ b. cond b (t.flows ++ f ∷ []) t.flows) (lt-ltb _ _ (admitted_is t slots largest route f h).room)

-- and the table that takes it, which is held as its parts
pub reserved_sound : {t : Table} (s : Settings) (fs : List Flow) (slots largest : ℕ) (route : List ℕ) (f : Flow) → record { settings = s; flows = fs } ≡ t →
    Ok f ≡ admitted t slots largest route → SoundTable (record { settings = s; flows = fs }) → SoundTable (record { settings = s; flows = pushed 64 fs f })
reserved_sound s fs slots largest route f same h sound =
    let u : Table = record { settings = s; flows = fs } in
    let g : Ok f ≡ admitted u slots largest route = h ∙ ap (λ v. admitted v slots largest route) (sym same) in
    subst (λ gs. SoundTable (record { settings = s; flows = gs })) (sym (flows_pushed u slots largest route f g))
    (still_sound u slots largest route f (admitted_is u slots largest route f g) sound)
