-- A flow at its source as its flits leave and arrive.
use Rattle.std.proofs.Common.{◌≡◌, ℕ, ◌<◌, ◌≤◌, Bool, true, false, ◌||◌, List, Some, None, Option, sym, refl, ap, ◌∙◌, ⊎_elim}
use Rattle.std.proofs.lemmas.List.{get_or_past}
use Rattle.std.proofs.lemmas.Bool.{both_ways, cases_lt}
use Rattle.folds.proofs.Filled.{length_up}
use Rattle.folds.proofs.Ups.{getD_up, getD_up_past}
use Rattle.routes.specs.Crossings.{first_channel, last_channel}
use Rattle.sources.specs.Lines.{Line, first_place, without_first, left_by, arrived}
use Rattle.running.specs.Moves.{at_channel, gives_to, left_if, arrived_if, moved_line, moved}
use Rattle.running.specs.Nets.{Net, no_line, line, route, flows}
use Rattle.running.specs.declared.grant.Grant.{Grant}

-- a flit that arrives changes nothing at the source
without_arrived : (l : Line) (o : Option ℕ) → without_first (arrived l) o ≡ arrived (without_first l o)
without_arrived l None = refl
without_arrived l (Some k) = refl

pub left_arrived : (l : Line) → left_by (arrived l) ≡ arrived (left_by l)
left_arrived l = without_arrived l (first_place l)

pub arrived_sent : (b : Bool) (l : Line) → (arrived_if b l).sent ≡ l.sent
arrived_sent true l = refl
arrived_sent false l = refl

pub arrived_first : (b : Bool) (l : Line) → first_place (arrived_if b l) ≡ first_place l
arrived_first true l = refl
arrived_first false l = refl

-- what is done at once can be done in two turns: `last` and `first` tell of the later one
pub two_turns : (last first a b : Bool) (l : Line) → (last ≡ true → a ≡ false) → (first ≡ true → b ≡ false) →
    arrived_if (last || a) (left_if (first || b) l) ≡ arrived_if last (left_if first (arrived_if a (left_if b l)))
two_turns false false a b l p q = refl
two_turns false true a true l p q = absurd (both_ways true (q refl) refl)
two_turns false true true false l p q = sym (left_arrived l)
two_turns false true false false l p q = refl
two_turns true first true b l p q = absurd (both_ways true (p refl) refl)
two_turns true true false true l p q = absurd (both_ways true (q refl) refl)
two_turns true true false false l p q = refl
two_turns true false false b l p q = refl

-- moves leave the flows, and move the lines one by one
module _ (n : Net) (gs : List (Option Grant)) where
  pub moved_flows : flows (moved n gs) ≡ flows n
  moved_flows = length_up (λ i. moved_line gs i (line n i)) 0 (flows n)

  pub line_moved : (i : ℕ) → i < flows n → line (moved n gs) i ≡ moved_line gs i (line n i)
  line_moved i l = getD_up (λ j. moved_line gs j (line n j)) (flows n) i no_line l

  pub line_none : (i : ℕ) → flows n ≤ i → line (moved n gs) i ≡ line n i
  line_none i l = getD_up_past (λ j. moved_line gs j (line n j)) (flows n) i no_line l ∙ sym (get_or_past n.lines i no_line l)

-- what a flit that leaves and one that arrives keep of a line, moves keep of every line
module _
    {Y : Type 0} (field : Line → Y) (leaves : (l : Line) (o : Option ℕ) → field (without_first l o) ≡ field l)
    (arrives : (l : Line) → field (arrived l) ≡ field l) where
  both_keep : (a b : Bool) (l : Line) → field (arrived_if a (left_if b l)) ≡ field l
  both_keep true true l = arrives (left_by l) ∙ leaves l (first_place l)
  both_keep true false l = arrives l
  both_keep false true l = leaves l (first_place l)
  both_keep false false l = refl

  pub line_keeps : (gs : List (Option Grant)) (i : ℕ) (l : Line) → field (moved_line gs i l) ≡ field l
  line_keeps gs i l = both_keep (gives_to (at_channel gs (last_channel l.route)) i) (gives_to (at_channel gs (first_channel l.route)) i) l

  pub moved_keeps : (n : Net) (gs : List (Option Grant)) (i : ℕ) → field (line (moved n gs) i) ≡ field (line n i)
  moved_keeps n gs i =
      ⊎_elim (λ l. ap field (line_moved n gs i l) ∙ line_keeps gs i (line n i)) (λ l. ap field (line_none n gs i l)) (cases_lt i (flows n))

-- so routes stay
without_route : (l : Line) (o : Option ℕ) → (without_first l o).route ≡ l.route
without_route l None = refl
without_route l (Some k) = refl

pub moved_route : (n : Net) (gs : List (Option Grant)) (i : ℕ) → route (moved n gs) i ≡ route n i
moved_route = moved_keeps (λ l. l.route) without_route (λ l. refl)
