-- What holds of a table made by calls on a plan, and of every network that runs on it.
use Rattle.std.proofs.Common.{◌≡◌, ℕ, ◌+◌, ◌-◌, ◌*◌, ◌<◌, ◌≤◌, true, List, [], ◌∷◌, length, get_or, Some, None, sum, Option}
use Rattle.accounts.specs.Accounts.{fresh}
use Rattle.accounts.proofs.Steps.{Kept}
use Rattle.folds.specs.Sums.{total}
use Rattle.lanes.specs.declared.flits.Flit.{Flit}
use Rattle.plan.specs.Settings.{settings_fit}
use Rattle.plan.specs.Tables.{Flow, Table, load}
use Rattle.routes.specs.Channels.{well_formed}
use Rattle.routes.specs.Crossings.{hop}
use Rattle.running.specs.Nets.{Net, flows, line, route}
use Rattle.running.specs.Sounds.{Sound}
use Rattle.guarantee.specs.Calls.{Call, offer, cycle}
use Rattle.guarantee.specs.Promises.{flow, flow_count}

-- a flow within its ranges
pub record FlowOk (frame : ℕ) (f : Flow) : Type 0 where
  pub slots : (1 ≤ f.slots) × (f.slots ≤ frame)
  pub largest : (1 ≤ f.largest) × (f.largest ≤ 64)
  pub routed : well_formed f.route ≡ true

pub record TableOk (t : Table) : Type 0 where
  pub fit : settings_fit t.settings ≡ true
  pub few : flow_count t ≤ 64
  pub each : (i : ℕ) → i < flow_count t → FlowOk t.settings.frame (flow t i)
  pub loads : (c : ℕ) → load t.flows c ≤ t.settings.frame

-- flow i at its source: its account keeps to its terms, and the counts agree
pub record LineOk (t : Table) (n : Net) (i : ℕ) : Type 0 where
  pub routed : route n i ≡ (flow t i).route
  pub kept : Kept (fresh (flow t i).slots (flow t i).largest t.settings.window) (line n i).ledger
  pub counted : (line n i).sent + sum (line n i).waiting ≡ (line n i).accepted
  pub ordered : (k : ℕ) → (line n i).ledger.frame < (line n i).ledger.head + k → get_or (line n i).waiting k 0 ≡ 0

-- a network that runs on the table
pub record Good (t : Table) (n : Net) : Type 0 where
  pub window : n.window ≡ t.settings.window
  pub depth : n.depth ≡ t.settings.depth
  pub flows : flows n ≡ flow_count t
  pub lines : (i : ℕ) → i < flow_count t → LineOk t n i
  pub held : List ℕ
  pub sound : Sound n held

-- a single call: an offer or a cycle; a bounded run is so many cycles
pub data Step : Type 0 where
  offers : ℕ → ℕ → Step
  cycles : Step

abbrev pub as_call : Step → Call
as_call (offers i size) = offer i size
as_call cycles = cycle

abbrev pub as_calls : List Step → List Call
as_calls [] = []
as_calls (s ∷ ss) = as_call s ∷ as_calls ss

-- the crossings that the flits of the k-th open frame still need: all hops from the source, those after c from channel c's buffer
abbrev pub after_hop : List ℕ → Option ℕ → ℕ
after_hop cs None = 0
after_hop cs (Some h) = length cs - (h + 1)

abbrev pub to_go : List ℕ → ℕ → ℕ
to_go cs c = after_hop cs (hop cs c)

abbrev pub all_to_go : Net → ℕ → List Flit → ℕ
all_to_go n c [] = 0
all_to_go n c (x ∷ xs) = to_go (route n x.flow) c + all_to_go n c xs

abbrev pub work : Net → ℕ → ℕ
work n k = total (λ i. get_or (line n i).waiting k 0 * length (route n i)) (flows n) + total (λ c. all_to_go n c (n.lane c k)) 320
