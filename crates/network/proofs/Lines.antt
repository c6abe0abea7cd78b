-- The lines of a floor: where no flow is, and after one of them changed.
use Rattle.std.proofs.Common.{◌≡◌, ℕ, zero, suc, ◌≤◌, List, [], ◌∷◌, ◌++◌, set, None, Ok, true, refl, ap, ◌∙◌, sym, subst, arith}
use Rattle.accounts.specs.Offers.{ready, bad_size, paid}
use Rattle.folds.specs.Firsts.{first_up}
use Rattle.sources.proofs.Reach.{ready_near}
use Rattle.sources.specs.Lines.{Line, first_place, leave_answer, number_at, offer_answer}
use Rattle.sources.specs.Sources.{SoundLine}
use Rattle.running.specs.Nets.{Net, flows, line, no_line}
use Rattle.running.specs.Offers.{from_source}
use Rattle.running.proofs.Answering.{answered}
use Rattle.running.proofs.Asking.{no_flow}
use Rattle.network.specs.Lines.{SoundLines, InReach}

-- where no flow is, nothing waits
nothing_first : first_place no_line ≡ None
unfolding first_up
nothing_first = refl

pub no_first : (n : Net) (i : ℕ) → flows n ≤ i → None ≡ first_place (line n i)
no_first n i l = sym (ap first_place (no_flow n i l) ∙ nothing_first)

pub no_leaving : (n : Net) (i : ℕ) → flows n ≤ i → None ≡ leave_answer (line n i)
no_leaving n i l = sym (ap leave_answer (no_flow n i l) ∙ ap (number_at no_line) nothing_first)

-- one line changed
pub sound_set : (ls : List Line) (i : ℕ) (l : Line) → SoundLines ls → SoundLine l → SoundLines (set ls i l)
sound_set [] i l ok one j m = ok j m
sound_set (x ∷ xs) zero l ok one zero m = one
sound_set (x ∷ xs) zero l ok one (suc j) m = ok (suc j) m
sound_set (x ∷ xs) (suc i) l ok one zero m = ok zero (omega arith)
sound_set (x ∷ xs) (suc i) l ok one (suc j) m = sound_set xs i l (λ k h. ok (suc k) (omega arith)) one j (omega arith)

-- no line, and one line more
pub sound_none : SoundLines []
sound_none i l = absurd (omega arith)

pub sound_push : (ls : List Line) (l : Line) → SoundLines ls → SoundLine l → SoundLines (ls ++ l ∷ [])
sound_push [] l ok one zero m = one
sound_push [] l ok one (suc j) m = absurd (omega arith)
sound_push (x ∷ xs) l ok one zero m = ok zero (omega arith)
sound_push (x ∷ xs) l ok one (suc j) m = sound_push xs l (λ k h. ok (suc k) (omega arith)) one j (omega arith)

-- the frame that an offer is answered
pub offer_reaches : (l : Line) (size frame : ℕ) → SoundLine l → Ok frame ≡ offer_answer l size → InReach l frame
offer_reaches l size frame ok h =
    subst (InReach l) (sym (answered true (bad_size l.ledger size) (paid l.ledger) frame (ready l.ledger).frame (ap from_source h)).3) (ready_near ok)
