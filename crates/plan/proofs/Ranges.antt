-- The ranges, as orders.
use Rattle.std.proofs.Common.{◌≡◌, ℕ, ◌<◌, ◌≤◌, true, ◌&&◌, leb, List, length, get_or, sym, subst, refl, arith}
use Rattle.std.proofs.lemmas.Bool.{and_parts, leb-true}
use Rattle.std.proofs.lemmas.List.Recursion.{and_at}
use Rattle.routes.specs.Channels.{within, well_formed}
use Rattle.plan.specs.Settings.{settings_fit}
use Rattle.plan.specs.Tables.{Flow, Table, SoundTable, load, all_fit, all_routed}
use Rattle.plan.specs.declared.setting.Settings.{Settings}

pub within_parts : (low high n : ℕ) → within low high n ≡ true → (low ≤ n) × (n ≤ high)
within_parts low high n e = let p = and_parts (leb low n) (leb n high) e in (leb-true low n p.0, leb-true n high p.1)

pub frame_range : (s : Settings) → settings_fit s ≡ true → (1 ≤ s.frame) × (s.frame ≤ 4096)
frame_range s e =
    let rest = (and_parts (within 2 8 s.window) (within 1 4096 s.frame && within 1 8 s.depth) e).1 in
    within_parts 1 4096 s.frame (and_parts (within 1 4096 s.frame) (within 1 8 s.depth) rest).0

pub window_range : (s : Settings) → settings_fit s ≡ true → (2 ≤ s.window) × (s.window ≤ 8)
window_range s e = within_parts 2 8 s.window (and_parts (within 2 8 s.window) (within 1 4096 s.frame && within 1 8 s.depth) e).0

-- the ranges of a flow
pub record Ranged (frame : ℕ) (f : Flow) : Type 0 where
  pub some_slots : 1 ≤ f.slots
  pub most_slots : f.slots ≤ frame
  pub some_flits : 1 ≤ f.largest
  pub most_flits : f.largest ≤ 64

pub ranged : (frame : ℕ) (f : Flow) → (within 1 frame f.slots && within 1 64 f.largest) ≡ true → Ranged frame f
ranged frame f h =
    let both = and_parts (within 1 frame f.slots) (within 1 64 f.largest) h in
    let s = within_parts 1 frame f.slots both.0 in
    let l = within_parts 1 64 f.largest both.1 in
    record { some_slots = s.0; most_slots = s.1; some_flits = l.0; most_flits = l.1 }

-- those of each flow of a table, and its route
pub ranged_at : (frame : ℕ) (fs : List Flow) (i : ℕ) (f : Flow) → all_fit frame fs ≡ true → i < length fs → f ≡ get_or fs i f → Ranged frame f
ranged_at frame fs i f h l e =
    subst (Ranged frame) (sym e) (ranged frame (get_or fs i f) (and_at (all_fit frame) (λ f. within 1 frame f.slots && within 1 64 f.largest) refl (λ _ _. refl) fs i f l h))

pub routed_at : (fs : List Flow) (i : ℕ) (d : Flow) → all_routed fs ≡ true → i < length fs → well_formed (get_or fs i d).route ≡ true
routed_at fs i d h l = and_at all_routed (λ f. well_formed f.route) refl (λ _ _. refl) fs i d l h

-- no load passes a frame
pub load_below : (t : Table) (c : ℕ) → SoundTable t → load t.flows c ≤ 4096
load_below t c s = omega (arith, s.loads c, frame_range t.settings s.set)
