-- On a route each channel stands at one place: what it is crossed behind, and what it is crossed before.
use Rattle.std.proofs.Common.{◌≡◌, ℕ, zero, suc, ◌+◌, ◌-◌, ◌<◌, ◌≤◌, Bool, true, false, cond, not, ◌&&◌, eqb, ltb, leb, List, [], ◌∷◌, length, get_or, is_some, Some, None, Option, sym, refl, ap, ◌∙◌, subst, ⊎_elim, arith}
use Rattle.std.proofs.lemmas.Grind.{common_steps}
use Rattle.std.proofs.lemmas.Bool.{and_parts, both_ways, cases_eq, cases_lt, eqb-true, eqb-false, eq-eqb, ne_eqb, ltb-true, lt-ltb, le-ltb, leb-true, leb-false}
use Rattle.std.proofs.lemmas.Bool.Decides.{nat_tests}
use Rattle.std.proofs.lemmas.List.Quantifiers.{position-Some}
use Rattle.std.proofs.lemmas.List.Sums.{position_or_len_is, fails_before_first}
use Rattle.std.specs.Prelude.{position}
use Rattle.std.specs.Bool.{then_some}
use Rattle.std.specs.List.{position_or_len}
use Rattle.routes.specs.Channels.{few_hops, known, rises, well_formed}
use Rattle.routes.specs.Crossings.{hop, before_hop, crossing, crossing_at, after_hop, next_channel, first_channel, last_channel}
use Rattle.routes.specs.declared.crossing.Crossing.{Crossing}

-- the parts of a well-formed route
pub well_formed_some : (cs : List ℕ) → well_formed cs ≡ true → 1 ≤ length cs
well_formed_some cs e =
    leb-true 1 (length cs) (and_parts (leb 1 (length cs)) (leb (length cs) 16) (and_parts (few_hops cs) (known cs && rises cs) e).0).0

pub well_formed_known : (cs : List ℕ) → well_formed cs ≡ true → known cs ≡ true
well_formed_known cs e = (and_parts (known cs) (rises cs) (and_parts (few_hops cs) (known cs && rises cs) e).1).0

pub well_formed_rises : (cs : List ℕ) → well_formed cs ≡ true → rises cs ≡ true
well_formed_rises cs e = (and_parts (known cs) (rises cs) (and_parts (few_hops cs) (known cs && rises cs) e).1).1

-- every channel is one of the 320
pub known_at : (cs : List ℕ) (h : ℕ) → known cs ≡ true → h < length cs → get_or cs h 0 < 320
known_at [] h e l = absurd (omega arith)
known_at (c ∷ cs) zero e l = ltb-true c 320 (and_parts (ltb c 320) (known cs) e).0
known_at (c ∷ cs) (suc h) e l = known_at cs h (and_parts (ltb c 320) (known cs) e).1 (omega arith)

-- a later channel has a higher number
rises_rest : (c : ℕ) (cs : List ℕ) → rises (c ∷ cs) ≡ true → rises cs ≡ true
rises_rest c [] e = refl
rises_rest c (d ∷ ds) e = (and_parts (ltb c d) (rises (d ∷ ds)) e).1

rises_first : (c : ℕ) (cs : List ℕ) (j : ℕ) → rises (c ∷ cs) ≡ true → j < length cs → c < get_or cs j 0
rises_first c [] j e l = absurd (omega arith)
rises_first c (d ∷ ds) zero e l = ltb-true c d (and_parts (ltb c d) (rises (d ∷ ds)) e).0
rises_first c (d ∷ ds) (suc j) e l =
    let low : c < d = ltb-true c d (and_parts (ltb c d) (rises (d ∷ ds)) e).0 in
    let high = rises_first d ds j (and_parts (ltb c d) (rises (d ∷ ds)) e).1 (omega arith) in
    omega arith

pub rises_at : (cs : List ℕ) (i j : ℕ) → rises cs ≡ true → i < j → j < length cs → get_or cs i 0 < get_or cs j 0
rises_at [] i j e l m = absurd (omega arith)
rises_at (c ∷ cs) i zero e l m = absurd (omega arith)
rises_at (c ∷ cs) zero (suc j) e l m = rises_first c cs j e (omega arith)
rises_at (c ∷ cs) (suc i) (suc j) e l m = rises_at cs i j (rises_rest c cs e) (omega arith) (omega arith)

-- what a search for a channel answers is a place where it stands, and it finds the place h
pub hop_place : (cs : List ℕ) (c h : ℕ) → hop cs c ≡ Some h → (h < length cs) × (get_or cs h 0 ≡ c)
hop_place cs c h e = let p = position-Some (λ d. eqb d c) cs h 0 e in (p.0, eqb-true (get_or cs h 0) c p.1)

pub hop_at : (cs : List ℕ) (h : ℕ) → rises cs ≡ true → h < length cs → hop cs (get_or cs h 0) ≡ Some h
hop_at cs h e l =
    let c = get_or cs h 0 in
    let first : position_or_len (λ d. eqb d c) cs ≡ h =
    position_or_len_is (λ d. eqb d c) cs h 0 (omega arith) (λ j b. ne_eqb (get_or cs j 0) c (λ q. omega (arith, rises_at cs j h e b l))) (λ _. eq-eqb c c refl) in
    ap (λ k. cond (ltb k (length cs)) (Some k) None) first ∙ ap (λ b. cond b (Some h) None) (lt-ltb h (length cs) l)

-- the search for the first channel that is not below c: it meets c, or the route does not cross it
module _ (cs : List ℕ) (c : ℕ) where
  absent : ((k : ℕ) → k < length cs → eqb (get_or cs k 0) c ≡ false) → hop cs c ≡ None
  absent h =
      let none : position_or_len (λ d. eqb d c) cs ≡ length cs = position_or_len_is (λ d. eqb d c) cs (length cs) 0 (omega arith) h (λ l. absurd (omega arith)) in
      ap (λ k. cond (ltb k (length cs)) (Some k) None) none ∙ ap (λ b. cond b (Some (length cs)) None) (le-ltb (length cs) (length cs) (omega arith))

  pub hop_past : position (λ d. leb c d) cs ≡ None → hop cs c ≡ None
  hop_past e =
      let all : length cs ≤ position_or_len (λ d. leb c d) cs = grind (arith, common_steps) in
      absent (λ k l. ne_eqb (get_or cs k 0) c (λ q. omega (arith, leb-false c (get_or cs k 0) (fails_before_first (λ d. leb c d) cs k 0 (omega arith)))))

  module _ (h : ℕ) (up : rises cs ≡ true) (e : position (λ d. leb c d) cs ≡ Some h) where
    first : (h < length cs) × (leb c (get_or cs h 0) ≡ true) × ((k : ℕ) → k < h → leb c (get_or cs k 0) ≡ false)
    first = position-Some (λ d. leb c d) cs h 0 e

    missed : eqb (get_or cs h 0) c ≡ false → (k : ℕ) → k < length cs → eqb (get_or cs k 0) c ≡ false
    missed q k l =
        ⊎_elim (λ b. ne_eqb (get_or cs k 0) c (λ r. omega (arith, leb-false c (get_or cs k 0) (first.2 k b))))
        (λ nb. ⊎_elim (λ r. ap (λ j. eqb (get_or cs j 0) c) r ∙ q)
        (λ ne. ne_eqb (get_or cs k 0) c (λ r. omega (arith, rises_at cs h k up (omega arith) l, leb-true c (get_or cs h 0) first.1)))
        (cases_eq k h))
        (cases_lt k h)

    met : (b : Bool) → eqb (get_or cs h 0) c ≡ b → then_some b h ≡ hop cs c
    met true q = sym (hop_at cs h up first.0) ∙ ap (hop cs) (eqb-true (get_or cs h 0) c q)
    met false q = sym (absent (missed q))

    pub hop_met : then_some (eqb (get_or cs h 0) c) h ≡ hop cs c
    hop_met = met (eqb (get_or cs h 0) c) refl

-- how a hop crosses its channel
abbrev pub crossing_of : List ℕ → ℕ → Crossing
crossing_of cs h = record { before = before_hop cs h; last = eqb (h + 1) (length cs) }

pub crossing_here : (cs : List ℕ) (h : ℕ) → rises cs ≡ true → h < length cs → crossing cs (get_or cs h 0) ≡ Some (crossing_of cs h)
crossing_here cs h e l = ap (crossing_at cs) (hop_at cs h e l)

pub next_here : (cs : List ℕ) (h : ℕ) → rises cs ≡ true → h + 1 < length cs → next_channel cs (get_or cs h 0) ≡ Some (get_or cs (h + 1) 0)
next_here cs h e l =
    ap (after_hop cs) (hop_at cs h e (omega arith)) ∙ ap (λ b. cond b (Some (get_or cs (h + 1) 0)) None) (lt-ltb (h + 1) (length cs) l)

pub next_end : (cs : List ℕ) (h : ℕ) → rises cs ≡ true → h + 1 ≡ length cs → next_channel cs (get_or cs h 0) ≡ None
next_end cs h e l =
    ap (after_hop cs) (hop_at cs h e (omega arith)) ∙ ap (λ b. cond b (Some (get_or cs (h + 1) 0)) None) (le-ltb (h + 1) (length cs) (omega arith))

-- the hop that a crossing speaks of
abbrev pub AtHop : List ℕ → ℕ → Crossing → Type 0
AtHop cs c x = (h : ℕ) × (h < length cs) × (get_or cs h 0 ≡ c) × (crossing_of cs h ≡ x)

at_hop_by : (cs : List ℕ) (c : ℕ) (x : Crossing) (o : Option ℕ) → hop cs c ≡ o → crossing_at cs o ≡ Some x → AtHop cs c x
at_hop_by cs c x None e q = let z : ◌≡◌ {A = ℕ} 0 1 = cc in absurd (omega arith)
at_hop_by cs c x (Some h) e q = let r = hop_place cs c h e in (h, r.0, r.1, cc)

pub crossing_hop : (cs : List ℕ) (c : ℕ) (x : Crossing) → crossing cs c ≡ Some x → AtHop cs c x
crossing_hop cs c x e = at_hop_by cs c x (hop cs c) refl e

-- the hop of a channel that another follows
abbrev pub Goes_on : List ℕ → ℕ → ℕ → Type 0
Goes_on cs d c = (h : ℕ) × (h + 1 < length cs) × (get_or cs h 0 ≡ d) × (get_or cs (h + 1) 0 ≡ c)

goes_on_by : (cs : List ℕ) (d c h : ℕ) (b : Bool) → hop cs d ≡ Some h → ltb (h + 1) (length cs) ≡ b →
    cond b (Some (get_or cs (h + 1) 0)) None ≡ Some c → Goes_on cs d c
goes_on_by cs d c h true e t q = (h, ltb-true (h + 1) (length cs) t, (hop_place cs d h e).1, cc)
goes_on_by cs d c h false e t q = let z : ◌≡◌ {A = ℕ} 0 1 = cc in absurd (omega arith)

next_hop_by : (cs : List ℕ) (d c : ℕ) (o : Option ℕ) → hop cs d ≡ o → after_hop cs o ≡ Some c → Goes_on cs d c
next_hop_by cs d c None e q = let z : ◌≡◌ {A = ℕ} 0 1 = cc in absurd (omega arith)
next_hop_by cs d c (Some h) e q = goes_on_by cs d c h (ltb (h + 1) (length cs)) e refl q

pub next_hop : (cs : List ℕ) (d c : ℕ) → next_channel cs d ≡ Some c → Goes_on cs d c
next_hop cs d c e = next_hop_by cs d c (hop cs d) refl e

-- the channel before a hop
before_later : (cs : List ℕ) (h : ℕ) → before_hop cs (h + 1) ≡ Some (get_or cs h 0)
before_later cs h =
    let back : h + 1 - 1 ≡ h = omega arith in
    ap (λ b. cond b None (Some (get_or cs (h + 1 - 1) 0))) (ne_eqb (h + 1) 0 (λ q. omega arith)) ∙ ap (λ k. Some (get_or cs k 0)) back

before_some_by : (cs : List ℕ) (h d : ℕ) (b : Bool) → eqb h 0 ≡ b → cond b None (Some (get_or cs (h - 1) 0)) ≡ Some d → (1 ≤ h) × (get_or cs (h - 1) 0 ≡ d)
before_some_by cs h d true t q = let z : ◌≡◌ {A = ℕ} 0 1 = cc in absurd (omega arith)
before_some_by cs h d false t q = let ne = eqb-false h 0 t in (omega arith, cc)

before_some : (cs : List ℕ) (h d : ℕ) → before_hop cs h ≡ Some d → (1 ≤ h) × (get_or cs (h - 1) 0 ≡ d)
before_some cs h d q = before_some_by cs h d (eqb h 0) refl q

before_tells_by : (b : Bool) (d : ℕ) → b ≡ not (is_some (cond b None (Some d)))
before_tells_by true d = refl
before_tells_by false d = refl

before_tells : (cs : List ℕ) (h : ℕ) → eqb h 0 ≡ not (is_some (before_hop cs h))
before_tells cs h = before_tells_by (eqb h 0) (get_or cs (h - 1) 0)

none_tells : (o : Option ℕ) → not (is_some o) ≡ true → o ≡ None
none_tells None e = refl
none_tells (Some d) e = absurd (both_ways true (sym e) refl)

-- two places with one channel are one
one_place : (cs : List ℕ) (i j : ℕ) → rises cs ≡ true → i < length cs → j < length cs → get_or cs i 0 ≡ get_or cs j 0 → i ≡ j
one_place cs i j up l m e =
    ⊎_elim (λ q. absurd (omega (arith, rises_at cs i j up q m)))
    (λ q. ⊎_elim (λ r. sym r) (λ ne. absurd (omega (arith, rises_at cs j i up (omega arith) l))) (cases_eq j i))
    (cases_lt i j)

same_place : (cs : List ℕ) (i j : ℕ) → rises cs ≡ true → i < length cs → j < length cs → eqb (get_or cs i 0) (get_or cs j 0) ≡ eqb i j
same_place cs i j up l m =
    ⊎_elim (λ q. eq-eqb (get_or cs i 0) (get_or cs j 0) (ap (λ k. get_or cs k 0) q) ∙ sym (eq-eqb i j q))
    (λ ne. ne_eqb (get_or cs i 0) (get_or cs j 0) (λ q. ne (one_place cs i j up l m q)) ∙ sym (ne_eqb i j ne))
    (cases_eq i j)

flip_zero : (h : ℕ) → eqb 0 h ≡ eqb h 0
flip_zero h = grind (arith, nat_tests)

last_place : (h n : ℕ) → h < n → eqb (n - 1) h ≡ eqb (h + 1) n
last_place h n l = grind (arith, nat_tests)

-- a channel that the route crosses: the channel before it goes on to it, and only the first has none before and the last none after
module _ (cs : List ℕ) (c : ℕ) (x : Crossing) (ok : well_formed cs ≡ true) (e : crossing cs c ≡ Some x) where
  up : rises cs ≡ true
  up = well_formed_rises cs ok

  there : AtHop cs c x
  there = crossing_hop cs c x e

  next_by : (d : ℕ) (p : AtHop cs c x) → x.before ≡ Some d → (next_channel cs d ≡ Some c) × (d < c)
  next_by d p q =
      let h : ℕ = p.0 in
      let b = before_some cs h d (ap (λ y. y.before) p.3 ∙ q) in
      let l : h < length cs = p.1 in
      let on : h - 1 + 1 ≡ h = omega arith in
      let step = next_here cs (h - 1) up (omega arith) in (
        ap (next_channel cs) (sym b.1) ∙ step ∙ ap (λ k. Some (get_or cs k 0)) on ∙ ap Some p.2,
        omega (arith, rises_at cs (h - 1) h up (omega arith) l, b.1, p.2),
      )

  pub before_next : (d : ℕ) → x.before ≡ Some d → (next_channel cs d ≡ Some c) × (d < c)
  before_next d q = next_by d there q

  pub first_tells : eqb (first_channel cs) c ≡ not (is_some x.before)
  first_tells =
      let h : ℕ = there.0 in
      let l : h < length cs = there.1 in
      ap (eqb (first_channel cs)) (sym there.2) ∙ same_place cs 0 h up (omega arith) l ∙ flip_zero h
      ∙ before_tells cs h ∙ ap (λ y. not (is_some y.before)) there.3

  pub last_tells : eqb (last_channel cs) c ≡ x.last
  last_tells =
      let h : ℕ = there.0 in
      let l : h < length cs = there.1 in
      ap (eqb (last_channel cs)) (sym there.2) ∙ same_place cs (length cs - 1) h up (omega arith) l
      ∙ last_place h (length cs) l ∙ ap (λ y. y.last) there.3

  pub none_first : x.before ≡ None → first_channel cs ≡ c
  none_first q = eqb-true (first_channel cs) c (first_tells ∙ ap (λ o. not (is_some o)) q)

  pub first_none : first_channel cs ≡ c → x.before ≡ None
  first_none q = none_tells x.before (sym first_tells ∙ eq-eqb (first_channel cs) c q)

  pub ends_last : x.last ≡ true → last_channel cs ≡ c
  ends_last q = eqb-true (last_channel cs) c (last_tells ∙ q)

  pub last_ends : last_channel cs ≡ c → x.last ≡ true
  last_ends q = sym last_tells ∙ eq-eqb (last_channel cs) c q

  pub ends_next : x.last ≡ true → next_channel cs c ≡ None
  ends_next q =
      let h : ℕ = there.0 in
      ap (next_channel cs) (sym there.2) ∙ next_end cs h up (eqb-true (h + 1) (length cs) (ap (λ y. y.last) there.3 ∙ q))

  pub goes_on_next : x.last ≡ false → is_some (next_channel cs c) ≡ true
  goes_on_next q =
      let h : ℕ = there.0 in
      let l : h < length cs = there.1 in
      let ne = eqb-false (h + 1) (length cs) (ap (λ y. y.last) there.3 ∙ q) in
      ap (λ d. is_some (next_channel cs d)) (sym there.2) ∙ ap is_some (next_here cs h up (omega arith))

  pub crossing_known : c < 320
  crossing_known = subst (λ (d : ℕ). d < 320) there.2 (known_at cs there.0 (well_formed_known cs ok) there.1)

  pub before_known : (d : ℕ) → x.before ≡ Some d → d < 320
  before_known d q = let l = (before_next d q).1 in omega (arith, crossing_known)

-- the channel that comes next is crossed behind this one
module _ (cs : List ℕ) (d c : ℕ) (ok : well_formed cs ≡ true) (e : next_channel cs d ≡ Some c) where
  behind : (x : Crossing) × (crossing cs c ≡ Some x) × (x.before ≡ Some d)
  behind =
      let p = next_hop cs d c e in
      let h : ℕ = p.0 in (
        crossing_of cs (h + 1),
        ap (crossing cs) (sym p.3) ∙ crossing_here cs (h + 1) (well_formed_rises cs ok) p.1,
        before_later cs h ∙ ap Some p.2,
      )

  pub next_crossing : (x : Crossing) × (crossing cs c ≡ Some x) × (x.before ≡ Some d) × (d < c)
  next_crossing = (behind.0, behind.1, behind.2, (before_next cs c behind.0 ok behind.1 d behind.2).1)

  pub next_before : (x : Crossing) → crossing cs c ≡ Some x → x.before ≡ Some d
  next_before x q = let same : behind.0 ≡ x = (let f = behind.1 in cc) in ap (λ y. y.before) (sym same) ∙ behind.2

-- a route crosses its first channel with none before, and its last with none after
module _ (cs : List ℕ) (ok : well_formed cs ≡ true) where
  pub first_crossing : (x : Crossing) × (crossing cs (first_channel cs) ≡ Some x) × (x.before ≡ None)
  first_crossing = (crossing_of cs 0, crossing_here cs 0 (well_formed_rises cs ok) (well_formed_some cs ok), refl)

  pub last_crossing : (x : Crossing) × (crossing cs (last_channel cs) ≡ Some x) × (x.last ≡ true)
  last_crossing =
      let some = well_formed_some cs ok in (
        crossing_of cs (length cs - 1),
        crossing_here cs (length cs - 1) (well_formed_rises cs ok) (omega arith),
        eq-eqb (length cs - 1 + 1) (length cs) (omega arith),
      )
