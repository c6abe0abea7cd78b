-- What the answer to an offer tells, and what an offer keeps.
use Rattle.std.proofs.Common.{◌≡◌, ℕ, ltb, Bool, true, false, cond, Ok, Err, Result, refl}
use Rattle.sources.specs.declared.refusal.OfferRefusal.TheVariants.{PacketSize, WindowSpent}
use Rattle.sources.specs.Lines.{Line, joined, turned_away, offered}
use Rattle.running.specs.Nets.{Net, line, flows}
use Rattle.running.specs.Offers.{from_source, with_line, offer_leaves}
use Rattle.running.specs.declared.refusal.RunRefusal.{RunRefusal}
use Rattle.running.specs.declared.refusal.RunRefusal.TheVariants.{NoSuchFlow}

-- where it gives a frame, the flow is there, the size is within its range, and the account pays
pub answered : (there bad good : Bool) (f g : ℕ) →
    ◌≡◌ {A = Result ℕ RunRefusal} (Ok f) (cond there (from_source (cond bad (Err PacketSize) (cond good (Ok g) (Err WindowSpent)))) (Err NoSuchFlow)) →
    (there ≡ true) × (bad ≡ false) × (good ≡ true) × (f ≡ g)
answered false bad good f g h = absurd cc
answered true true good f g h = absurd cc
answered true false true f g h = (refl, refl, refl, cc)
answered true false false f g h = absurd cc

-- the route of a flow stays, whatever the answer
pub offered_route : (l : Line) (size : ℕ) (bad good : Bool) → (cond bad l (cond good (joined l size) (turned_away l))).route ≡ l.route
offered_route l size true good = refl
offered_route l size false true = refl
offered_route l size false false = refl

-- and so does what a network with another line has as before
pub offer_keeps : {Y : Type 0} (field : Net → Y) (n : Net) (i size : ℕ) → ((l : Line) → field (with_line n i l) ≡ field n) →
    field (offer_leaves n i size) ≡ field n
offer_keeps field n i size same = go (ltb i (flows n))
  where
    go : (b : Bool) → field (cond b (with_line n i (offered (line n i) size)) n) ≡ field n
    go true = same (offered (line n i) size)
    go false = refl
