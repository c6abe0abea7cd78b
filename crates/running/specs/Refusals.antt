-- The number under which callers know each refusal of a running network.
use Rattle.std.specs.Prelude.{ℕ, List, codes}
use Rattle.sources.specs.declared.refusal.OfferRefusal as source
use Rattle.sources.specs.declared.refusal.OfferRefusal.TheVariants as from_source
use Rattle.running.specs.declared.refusal.RunRefusal.{RunRefusal}
use Rattle.running.specs.declared.refusal.RunRefusal.TheVariants.{NoSuchFlow, PacketSize, WindowSpent, RunOver}

abbrev pub run_refusal_number : RunRefusal → ℕ
run_refusal_number NoSuchFlow = 9
run_refusal_number PacketSize = 10
run_refusal_number WindowSpent = 11
run_refusal_number RunOver = 12

-- and its text
abbrev pub run_refusal_text : RunRefusal → List ℕ
run_refusal_text NoSuchFlow = codes "no such flow"
run_refusal_text PacketSize = codes "packet empty or too large"
run_refusal_text WindowSpent = codes "window spent"
run_refusal_text RunOver = codes "run over"

-- a source's refusal is the network's
abbrev pub as_run : source.OfferRefusal → RunRefusal
as_run from_source.PacketSize = PacketSize
as_run from_source.WindowSpent = WindowSpent
