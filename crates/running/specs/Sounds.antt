-- What a running network keeps from cycle to cycle.
use Rattle.std.specs.Prelude.{◌≡◌, ℕ, ◌+◌, ◌<◌, ◌≤◌, Bool, true, false, cond, ◌&&◌, List, [], ◌∷◌, length, is_some, sum_by, ◌==◌, nat_lt, slice_index}
use Rattle.folds.specs.Sums.{total}
use Rattle.lanes.specs.declared.flits.Flit.{Flit}
use Rattle.routes.specs.Channels.{well_formed}
use Rattle.routes.specs.Crossings.{next_channel}
use Rattle.running.specs.Nets.{Net, line, route, flows}

-- settings and counters in their ranges; a window shifts at most once a cycle
abbrev pub Ranges : Net → Type 0
Ranges n =
    ((2 ≤ n.window) × (n.window ≤ 8)) × ((1 ≤ n.depth) × (n.depth ≤ 8)) × ((n.head ≤ n.cycles) × (n.cycles ≤ 16777216)) × (flows n ≤ 64)

-- every flow has the network's head frame and window, a count for each open frame, and a route
abbrev pub InStep : Net → Type 0
InStep n =
    (i : ℕ) → i < flows n →
    ((line n i).ledger.head ≡ n.head) × ((line n i).ledger.window ≡ n.window) × (length (line n i).waiting ≡ 8) × (well_formed (route n i) ≡ true)

-- a flit in channel c's buffer belongs to a flow whose route crosses c and goes on
abbrev pub goes_on : Net → ℕ → Flit → Bool
goes_on n c x = nat_lt x.flow (flows n) && is_some (next_channel (route n x.flow) c)

abbrev pub all_go_on : Net → ℕ → List Flit → Bool
all_go_on n c [] = true
all_go_on n c (x ∷ xs) = goes_on n c x && all_go_on n c xs

abbrev pub Placed : Net → Type 0
Placed n = (c k : ℕ) → all_go_on n c (n.lane c k) ≡ true

-- no buffer is deeper than set, and there are none but those of the 320 channels and the open frames
abbrev pub Shallow : Net → Type 0
Shallow n = (c k : ℕ) → length (n.lane c k) ≤ n.depth

abbrev pub Bounded : Net → Type 0
Bounded n = (c k : ℕ) → (nat_lt c 320 && nat_lt k n.window) ≡ false → length (n.lane c k) ≡ 0

-- the flits of the k-th open frame that wait at sources, and those in buffers
abbrev pub waiting_in : Net → ℕ → ℕ
waiting_in n k = sum_by (λ l. slice_index l.waiting k) n.lines

abbrev pub buffered_in : Net → ℕ → ℕ
buffered_in n k = total (λ c. length (n.lane c k)) 320

-- the counts of held flits agree with them
abbrev pub Tallied : Net → List ℕ → Type 0
Tallied n held = (length held ≡ 8) × ((k : ℕ) → slice_index held k ≡ waiting_in n k + buffered_in n k)

-- the flits that the network holds, in all open frames
abbrev pub held_flits : Net → ℕ
held_flits n = total (λ k. waiting_in n k + buffered_in n k) 8

-- the flits of flow i in a buffer, and in all buffers
abbrev pub of_flow : ℕ → List Flit → ℕ
of_flow i [] = 0
of_flow i (x ∷ xs) = cond (x.flow == i) 1 0 + of_flow i xs

abbrev pub under_way : Net → ℕ → ℕ
under_way n i = total (λ k. total (λ c. of_flow i (n.lane c k)) 320) 8

-- a flit that left its source is delivered or under way
abbrev pub Accounted : Net → Type 0
Accounted n = (i : ℕ) → i < flows n → (line n i).sent ≡ (line n i).delivered + under_way n i

abbrev pub Sound : Net → List ℕ → Type 0
Sound n held = Ranges n × InStep n × Placed n × Shallow n × Bounded n × Tallied n held × Accounted n
