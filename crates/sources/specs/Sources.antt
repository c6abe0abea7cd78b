-- What a source keeps.
use Rattle.std.specs.Prelude.{◌≡◌, ℕ, ◌+◌, ◌*◌, ◌<◌, ◌≤◌, true, length, pos, ◌+ℤ◌, ◌≤ℤ◌, sum, slice_index}
use Rattle.accounts.specs.Ledgers.{Sound}
use Rattle.routes.specs.Channels.{well_formed}
use Rattle.sources.specs.Lines.{Line}

-- the account keeps its limits; the flow goes over a route; each frame that can be open has its count; a flit that was accepted waits or
-- has left; none waits for a frame past the injection frame; what was accepted is paid from the slots up to that frame; a flit has left
-- before it arrives
pub record SoundLine (l : Line) : Type 0 where
  pub sound : Sound l.ledger
  pub routed : well_formed l.route ≡ true
  pub sized : length l.waiting ≡ 8
  pub counted : l.sent + sum l.waiting ≡ l.accepted
  pub ordered : (k : ℕ) → l.ledger.frame < l.ledger.head + k → slice_index l.waiting k ≡ 0
  pub owed : (pos l.accepted +ℤ l.ledger.balance) ≤ℤ pos (l.ledger.frame * l.ledger.slots)
  pub arrived : l.delivered ≤ l.sent
