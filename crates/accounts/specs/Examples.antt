-- Worked examples of the rules.
use Rattle.std.specs.Prelude.{◌≡◌, [], ◌∷◌}
use Rattle.accounts.specs.Accounts.{fresh}
use Rattle.accounts.specs.Calls.{offer, shift, accepted, shift_made, spent, events}

-- window 3, 2 slots, packets of 1: five offers of 1 get the frames 1, 1, 2, 2 and a refusal for a spent window
abbrev pub TwoFramesFilled : Type 0
TwoFramesFilled =
    events (fresh 2 1 3) (offer 1 ∷ offer 1 ∷ offer 1 ∷ offer 1 ∷ offer 1 ∷ [])
    ≡ accepted 1 1 ∷ accepted 1 1 ∷ accepted 1 2 ∷ accepted 1 2 ∷ spent ∷ []

-- window 3, 2 slots, packets up to 4: an offer of 4 gets frame 1, an offer of 1 then finds the window spent, and after one shift it gets frame 3
abbrev pub OverdraftPaidBack : Type 0
OverdraftPaidBack =
    events (fresh 2 4 3) (offer 4 ∷ offer 1 ∷ shift ∷ offer 1 ∷ [])
    ≡ accepted 4 1 ∷ spent ∷ shift_made ∷ accepted 1 3 ∷ []

-- window 2, 3 slots, packets of 1: one offer, a shift, then the frames 2, 2, 2 and a refusal, since a shift carries no slots over
abbrev pub NothingCarriedOver : Type 0
NothingCarriedOver =
    events (fresh 3 1 2) (offer 1 ∷ shift ∷ offer 1 ∷ offer 1 ∷ offer 1 ∷ offer 1 ∷ [])
    ≡ accepted 1 1 ∷ shift_made ∷ accepted 1 2 ∷ accepted 1 2 ∷ accepted 1 2 ∷ spent ∷ []
