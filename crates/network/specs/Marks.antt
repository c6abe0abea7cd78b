-- The channels that are marked as used.
use Rattle.std.specs.Prelude.{◌≡◌, ℕ, ◌<◌, Bool, false, List, length, is_some, nat_lt, slice_index_or}
use Rattle.plan.specs.Tables.{Flow, load}
use Rattle.routes.specs.Crossings.{crossing}
use Rattle.running.specs.Nets.{Net, route}

-- they are those that carry a load in the plan
abbrev pub Marks : List Flow → List Bool → Type 0
Marks fs used = (length used ≡ 320) × ((c : ℕ) → c < 320 → slice_index_or used c false ≡ nat_lt 0 (load fs c))

-- no flow crosses a channel that is not marked
abbrev pub Marked : Net → List Bool → Type 0
Marked n used = (length used ≡ 320) × ((c i : ℕ) → (c < 320) × (slice_index_or used c false ≡ false) → is_some (crossing (route n i) c) ≡ false)
