-- What a network promises over every list of calls.
use Rattle.std.specs.Prelude.{◌≡◌, ℕ, ◌+◌, ◌-◌, ◌*◌, ◌<◌, ◌≤◌, true, cond, List, [], ◌∷◌, ◌++◌, length, slice_index_or}
use Rattle.arbiters.specs.declared.arbiter.Arbiter as arbiter
use Rattle.clocks.specs.declared.clock.WindowClock as clock
use Rattle.folds.specs.Sums.{total}
use Rattle.plan.specs.Sheets.{crossings}
use Rattle.plan.specs.Tables.{Flow, Table}
use Rattle.routes.specs.Channels.{crosses}
use Rattle.guarantee.specs.Calls.{PlanCall, Call, Event, planned, start, events}
use Rattle.guarantee.specs.Counts.{spent, accepted_by, accepted_in, cycles, shifts, deliveries, has_flit, Pressed}

abbrev pub no_flow : Flow
no_flow = record { slots = 0; largest = 0; route = [] }

-- flow i of a table
abbrev pub flow : Table → ℕ → Flow
flow t i = slice_index_or t.flows i no_flow

abbrev pub flow_count : Table → ℕ
flow_count t = length t.flows

-- the sum over the flows routed over channel c
abbrev pub over : Table → ℕ → (ℕ → ℕ) → ℕ
over t c amount = total (λ i. cond (crosses (flow t i).route c) (amount i) 0) (flow_count t)

-- the figures: a flow's share of n frames, the longest epoch, the longest way to delivery
abbrev pub share : Flow → ℕ → ℕ
share f n = n * f.slots + f.largest - 1

abbrev pub longest_epoch : Table → ℕ → ℕ
longest_epoch t lag = crossings t.flows + lag

abbrev pub longest_delivery : Table → ℕ → ℕ
longest_delivery t lag = t.settings.window * longest_epoch t lag

-- at most n × R + L - 1 of a flow's accepted flits belong to any n successive frames
abbrev pub Shared : Table → List Event → Type 0
Shared t es = (i : ℕ) → i < flow_count t → (first n : ℕ) → accepted_in i first (first + n) es ≤ share (flow t i) n

-- and at most n × F, with L - 1 for each of them, of all flows routed over one channel
abbrev pub ChannelsShared : Table → List Event → Type 0
ChannelsShared t es =
    (c first n : ℕ) →
    over t c (λ i. accepted_in i first (first + n) es) ≤ n * t.settings.frame + over t c (λ i. (flow t i).largest - 1)

-- every accepted flit has been delivered once W × (D + G) cycles are made after its offer
abbrev pub DeliveredInTime : Table → ℕ → List Event → Type 0
DeliveredInTime t lag es =
    (before since later : List Event) → es ≡ before ++ (since ++ later) → longest_delivery t lag ≤ cycles since →
    (i : ℕ) → i < flow_count t → (number : ℕ) → number < accepted_by i before → has_flit i number (deliveries (before ++ since)) ≡ true

-- any D + G successive cycles hold a shift
abbrev pub Shifting : Table → ℕ → List Event → Type 0
Shifting t lag es =
    (before since later : List Event) → es ≡ before ++ (since ++ later) → longest_epoch t lag ≤ cycles since → 1 ≤ shifts since

-- a stretch between two offers of the flow refused for a spent window, with another such refusal between any two neighbouring
-- shifts: s shifts come with s × R accepted flits, give or take L - 1
abbrev pub KeptUp : Table → List Event → Type 0
KeptUp t es =
    (i : ℕ) → i < flow_count t →
    (before stretch later : List Event) → es ≡ before ++ (spent i ∷ (stretch ++ (spent i ∷ later))) → Pressed i stretch →
    (accepted_by i stretch ≤ shifts stretch * (flow t i).slots + ((flow t i).largest - 1))
    × (shifts stretch * (flow t i).slots ≤ accepted_by i stretch + ((flow t i).largest - 1))

-- the whole promise of what comes of a list of calls
pub record Promise (t : Table) (lag : ℕ) (es : List Event) : Type 0 where
  pub shared : Shared t es
  pub channels : ChannelsShared t es
  pub delivered : DeliveredInTime t lag es
  pub shifting : Shifting t lag es
  pub kept_up : KeptUp t es

-- every plan made by calls from a new one, every arbiter and clock, whatever they hold at starting, every list of calls
module _ {A C : Type 0} (arbiters : arbiter.Ghosts A) (clocks : clock.Ghosts C) where
  abbrev pub Promised : Type 0
  Promised =
      (plan : List PlanCall) (a : A) (c : C) (calls : List Call) →
      Promise (planned plan) (clocks.lag c) (events arbiters clocks (start arbiters clocks (planned plan) a c) calls)

  -- the same for one table and one clock at hand
  abbrev pub PromisedFor : Table → C → Type 0
  PromisedFor t c = (a : A) (calls : List Call) → Promise t (clocks.lag c) (events arbiters clocks (start arbiters clocks t a c) calls)
