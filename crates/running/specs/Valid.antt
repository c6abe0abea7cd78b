-- Grants that a network can follow.
use Rattle.std.specs.Prelude.{◌≡◌, ℕ, ◌<◌, true, List, Some, Option}
use Rattle.routes.specs.Channels.{well_formed}
use Rattle.running.specs.Moves.{at_channel}
use Rattle.running.specs.Nets.{Net, route, flows}
use Rattle.running.specs.Requests.{requests}
use Rattle.running.specs.declared.grant.Grant.{Grant}

-- what a channel grants was requested of it
abbrev pub Valid : Net → List (Option Grant) → Type 0
Valid n gs = (c : ℕ) (g : Grant) → at_channel gs c ≡ Some g → (g.flow < flows n) × (requests n c g.ahead g.flow ≡ true)

-- every flow has a route
abbrev pub Routed : Net → Type 0
Routed n = (i : ℕ) → i < flows n → well_formed (route n i) ≡ true

-- all in open frames, and on the 320 channels
abbrev pub InWindow : Net → List (Option Grant) → Type 0
InWindow n gs = (c : ℕ) (g : Grant) → at_channel gs c ≡ Some g → (g.ahead < n.window) × (c < 320)
