-- The figures of a table.
use Rattle.std.specs.Prelude.{◌≡◌, ℕ, zero, suc, ◌+◌, ◌-◌, ◌*◌, ◌<◌, ◌≤◌, cond, List, [], map, length, Some, None, sum_by, Option, ◌==◌, nat_lt}
use Rattle.plan.specs.Tables.{Flow, Table, load}
use Rattle.plan.specs.declared.sheets.FlowFigures.{FlowFigures}
use Rattle.plan.specs.declared.sheets.ChannelLoad.{ChannelLoad}
use Rattle.plan.specs.declared.sheets.Sheet.{Sheet}

-- the crossings that the flits of a flow in one frame can need: R + L - 1 flits, each over every hop
abbrev pub flow_crossings : Flow → ℕ
flow_crossings f = (f.slots + f.largest - 1) * length f.route

-- the same for all flows together
abbrev pub crossings : List Flow → ℕ
crossings fs = sum_by flow_crossings fs

-- a flow's hops, and its slots in a window of frames
abbrev pub flow_figures : ℕ → Flow → FlowFigures
flow_figures window f = record { hops = length f.route; inflight = window * f.slots }

-- of the channels 0 to n the one with the greatest load, the lowest number among equals
unfoldable pub heaviest : (ℕ → ℕ) → ℕ → ℕ
heaviest loads zero = 0
heaviest loads (suc n) = cond (nat_lt (loads (heaviest loads n)) (loads (suc n))) (suc n) (heaviest loads n)

abbrev pub channel_load : (ℕ → ℕ) → ℕ → ChannelLoad
channel_load loads c = record { channel = c; load = loads c }

-- the busiest of the 320 channels; none for an empty plan
abbrev pub busiest : List Flow → Option ChannelLoad
busiest fs = cond (length fs == 0) None (Some (channel_load (load fs) (heaviest (load fs) 319)))

abbrev pub sheet_figures : Table → Sheet
sheet_figures t = record {
  crossings = crossings t.flows;
  busiest = busiest t.flows;
  flows = map (flow_figures t.settings.window) t.flows;
}

-- no channel is more loaded than the one that is told, and those with lower numbers are less loaded
abbrev pub MostLoaded : List Flow → Option ChannelLoad → Type 0
MostLoaded fs None = fs ≡ []
MostLoaded fs (Some b) =
    (b.channel < 320)
    × (b.load ≡ load fs b.channel)
    × ((c : ℕ) → c < 320 → load fs c ≤ b.load)
    × ((c : ℕ) → c < b.channel → load fs c < b.load)
