-- The number under which callers know each refusal of a packet.
use Rattle.std.specs.Prelude.{ℕ, List, codes}
use Rattle.sources.specs.declared.refusal.OfferRefusal.{OfferRefusal}
use Rattle.sources.specs.declared.refusal.OfferRefusal.TheVariants.{PacketSize, WindowSpent}

-- the number of a refusal
abbrev pub offer_refusal_number : OfferRefusal → ℕ
offer_refusal_number PacketSize = 10
offer_refusal_number WindowSpent = 11

-- and its text
abbrev pub offer_refusal_text : OfferRefusal → List ℕ
offer_refusal_text PacketSize = codes "packet empty or too large"
offer_refusal_text WindowSpent = codes "window spent"
