-- What a floor keeps of its flows, and where the next packet of one goes.
use Rattle.std.specs.Prelude.{ℕ, ◌+◌, ◌<◌, List, length, slice_index_or}
use Rattle.sources.specs.Lines.{Line}
use Rattle.sources.specs.Sources.{SoundLine}
use Rattle.running.specs.Nets.{no_line}

-- each keeps what a source keeps
abbrev pub SoundLines : List Line → Type 0
SoundLines ls = (i : ℕ) → i < length ls → SoundLine (slice_index_or ls i no_line)

-- a packet's frame is past the head frame, and one of the 8 that follow from it on
abbrev pub InReach : Line → ℕ → Type 0
InReach l frame = (l.ledger.head < frame) × (frame < l.ledger.head + 8)
