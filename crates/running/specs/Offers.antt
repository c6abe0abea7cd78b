-- An offer to a running network: it changes one flow's line.
use Rattle.std.specs.Prelude.{ℕ, cond, List, Ok, Err, Result, nat_lt, slice_set}
use Rattle.sources.specs.Lines as source
use Rattle.sources.specs.declared.refusal.OfferRefusal.{OfferRefusal}
use Rattle.running.specs.Nets.{Net, line, flows}
use Rattle.running.specs.Refusals.{as_run}
use Rattle.running.specs.declared.refusal.RunRefusal.{RunRefusal}
use Rattle.running.specs.declared.refusal.RunRefusal.TheVariants.{NoSuchFlow}

abbrev pub from_source : Result ℕ OfferRefusal → Result ℕ RunRefusal
from_source (Ok frame) = Ok frame
from_source (Err refusal) = Err (as_run refusal)

-- the frame that a packet of flow i gets, or why it gets none
abbrev pub offer_answer : Net → ℕ → ℕ → Result ℕ RunRefusal
offer_answer n i size = cond (nat_lt i (flows n)) (from_source (source.offer_answer (line n i) size)) (Err NoSuchFlow)

-- the network with other lines, and with one other line
abbrev pub with_lines : Net → List source.Line → Net
with_lines n ls = record { window = n.window; depth = n.depth; head = n.head; cycles = n.cycles; lines = ls; lane = n.lane }

abbrev pub with_line : Net → ℕ → source.Line → Net
with_line n i l = with_lines n (slice_set n.lines i l)

-- what the offer leaves
abbrev pub offer_leaves : Net → ℕ → ℕ → Net
offer_leaves n i size = cond (nat_lt i (flows n)) (with_line n i (source.offered (line n i) size)) n
