-- The crossings fit their type, and the search for the busiest channel goes on.
use Rattle.std.proofs.Common.{◌≡◌, ℕ, zero, suc, ◌+◌, ◌-◌, ◌*◌, ◌<◌, ◌≤◌, Bool, true, false, cond, ◌&&◌, ltb, List, [], ◌∷◌, length, sum_by, sym, refl, ap, ◌∙◌, suc-mul, arith}
use Rattle.std.proofs.lemmas.Nat.{mul-le}
use Rattle.std.proofs.lemmas.List.Sums.{sum_by-cons}
use Rattle.std.proofs.lemmas.Bool.{and_parts, lt-ltb, le-ltb}
use Rattle.routes.specs.Channels.{within, well_formed}
use Rattle.routes.proofs.Routes.{well_formed_few}
use Rattle.plan.specs.Tables.{Flow, Table, SoundTable, all_fit, all_routed}
use Rattle.plan.specs.Sheets.{flow_crossings, crossings, heaviest}
use Rattle.plan.proofs.Ranges.{Ranged, ranged, frame_range}

-- a flow makes few crossings, and so do all flows together
flow_few : (frame : ℕ) (f : Flow) → frame ≤ 4096 → Ranged frame f → well_formed f.route ≡ true → flow_crossings f ≤ 66544
flow_few frame f l g r = mul-le (f.slots + f.largest - 1) (length f.route) 4159 16 (omega (arith, g)) (well_formed_few f.route r)

pub crossings_few : (frame : ℕ) (fs : List Flow) → frame ≤ 4096 → all_fit frame fs ≡ true → all_routed fs ≡ true → sum_by flow_crossings fs ≤ length fs * 66544
crossings_few frame [] l h r = omega arith
crossings_few frame (f ∷ fs) l h r =
    let p = and_parts (within 1 frame f.slots && within 1 64 f.largest) (all_fit frame fs) h in
    let q = and_parts (well_formed f.route) (all_routed fs) r in
    omega (arith, sum_by-cons flow_crossings f fs, flow_few frame f l (ranged frame f p.0) q.0, crossings_few frame fs l p.1 q.1, suc-mul (length fs) 66544)

pub crossings_bounded : (t : Table) → SoundTable t → crossings t.flows ≤ 64 * 66544
crossings_bounded t s =
    omega (arith, crossings_few t.settings.frame t.flows (frame_range t.settings s.set).1 s.ranges s.routed, mul-le (length t.flows) 66544 64 66544 s.few (omega arith))

-- the search for the busiest channel, one channel on
module _ (loads : ℕ → ℕ) where
  pub heaviest_none : heaviest loads 0 ≡ 0
  unfolding heaviest
  heaviest_none = refl

  next : (n : ℕ) (b : Bool) → ltb (loads (heaviest loads n)) (loads (suc n)) ≡ b → heaviest loads (suc n) ≡ cond b (suc n) (heaviest loads n)
  unfolding heaviest
  next n b e = ap (λ t. cond t (suc n) (heaviest loads n)) e

  step : (k : ℕ) (b : Bool) → 1 ≤ k → ltb (loads (heaviest loads (k - 1))) (loads k) ≡ b → heaviest loads (k + 1 - 1) ≡ cond b k (heaviest loads (k - 1))
  step zero b l e = absurd (omega arith)
  step (suc n) b l e =
      let here : suc n + 1 - 1 ≡ suc n = omega arith in
      let back : suc n - 1 ≡ n = omega arith in
      ap (heaviest loads) here ∙ next n b (ap (λ m. ltb (loads (heaviest loads m)) (loads (suc n))) (sym back) ∙ e) ∙ ap (λ m. cond b (suc n) (heaviest loads m)) (sym back)

  pub heaviest_takes : (k : ℕ) → 1 ≤ k → loads (heaviest loads (k - 1)) < loads k → heaviest loads (k + 1 - 1) ≡ k
  heaviest_takes k l h = step k true l (lt-ltb _ _ h)

  pub heaviest_keeps : (k : ℕ) → 1 ≤ k → loads k ≤ loads (heaviest loads (k - 1)) → heaviest loads (k + 1 - 1) ≡ heaviest loads (k - 1)
  heaviest_keeps k l h = step k false l (le-ltb _ _ h)
