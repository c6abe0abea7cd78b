-- The counts that a network tells of a flow.
use Rattle.std.specs.Prelude.{ℕ, cond, Some, None, Option, nat_lt}
use Rattle.sources.specs.Lines.{Line}
use Rattle.running.specs.Nets.{Net, flows, line}
use Rattle.network.specs.declared.counts.Counts.{Counts}

abbrev pub line_counts : Line → Counts
line_counts l = record { accepted = l.accepted; delivered = l.delivered; refused = l.refused }

-- those of flow i, where there is one
abbrev pub counts_of : Net → ℕ → Option Counts
counts_of n i = cond (nat_lt i (flows n)) (Some (line_counts (line n i))) None
