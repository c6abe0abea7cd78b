-- The slot table that a plan stands for: its settings and its flows, in the order of reservation.
use Rattle.std.specs.Prelude.{◌≡◌, ℕ, ◌≤◌, Bool, true, cond, ◌&&◌, List, length, sum_by}
use Rattle.std.specs.List.{list_all}
use Rattle.routes.specs.Channels.{within, crosses, well_formed}
use Rattle.plan.specs.Settings.{settings_fit}
use Rattle.plan.specs.declared.rows.Row.{Row}
use Rattle.plan.specs.declared.setting.Settings.{Settings}

-- a flow: its slots in every frame, its largest packet, the channels it crosses
abbrev pub Flow : Type 0
Flow = Row

pub record Table : Type 0 where
  pub settings : Settings
  pub flows : List Flow

-- the slots that a flow takes on a channel
abbrev pub slots_on : ℕ → Flow → ℕ
slots_on c f = cond (crosses f.route c) f.slots 0

-- the load of a channel: the slots of all flows routed over it
abbrev pub load : List Flow → ℕ → ℕ
load fs c = sum_by (slots_on c) fs

-- slots and largest packets in their ranges, for frames of the given slots
abbrev pub all_fit : ℕ → List Flow → Bool
all_fit frame fs = list_all (λ f. within 1 frame f.slots && within 1 64 f.largest) fs

-- each flow goes over a route
abbrev pub all_routed : List Flow → Bool
all_routed fs = list_all (λ f. well_formed f.route) fs

-- what the table of every plan is: settings in their ranges, up to 64 flows in theirs, and no channel loaded above a frame
pub record SoundTable (t : Table) : Type 0 where
  pub set : settings_fit t.settings ≡ true
  pub few : length t.flows ≤ 64
  pub ranges : all_fit t.settings.frame t.flows ≡ true
  pub routed : all_routed t.flows ≡ true
  pub loads : (c : ℕ) → load t.flows c ≤ t.settings.frame
