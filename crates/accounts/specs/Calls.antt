-- Lists of calls on an account, and what comes of them.
use Rattle.std.specs.Prelude.{ℕ, List, [], ◌∷◌, Ok, Err, Result}
use Rattle.accounts.specs.Ledgers.{Ledger}
use Rattle.accounts.specs.Offers.{offer_answer, offer_leaves}
use Rattle.accounts.specs.Shifts.{shift_answer, shift_leaves}
use Rattle.accounts.specs.declared.refusal.AccountRefusal.{AccountRefusal}
use Rattle.accounts.specs.declared.refusal.AccountRefusal.TheVariants.{WindowSpent}

-- a call: an offer of a packet of so many flits, or a shift
pub data Call : Type 0 where
  offer : ℕ → Call
  shift : Call

-- what comes of a call: a packet of so many flits is accepted into a frame, the call is refused, or the window has shifted
pub data Event : Type 0 where
  accepted : ℕ → ℕ → Event
  refused : AccountRefusal → Event
  shift_made : Event

-- an offer refused for a spent window
abbrev pub spent : Event
spent = refused WindowSpent

-- an offer of `size` flits with its answer
abbrev pub offer_event : ℕ → Result ℕ AccountRefusal → Event
offer_event size (Ok frame) = accepted size frame
offer_event size (Err refusal) = refused refusal

-- a shift with its answer
abbrev pub shift_event : Result (Unit {0}) AccountRefusal → Event
shift_event (Ok done) = shift_made
shift_event (Err refusal) = refused refusal

-- what comes of a call on an account
abbrev pub event : Ledger → Call → Event
event l (offer size) = offer_event size (offer_answer l size)
event l shift = shift_event (shift_answer l)

-- what the call leaves
abbrev pub leaves : Ledger → Call → Ledger
leaves l (offer size) = offer_leaves l size
leaves l shift = shift_leaves l

-- what comes of a list of calls, each made on what the one before left
abbrev pub events : Ledger → List Call → List Event
events l [] = []
events l (c ∷ cs) = event l c ∷ events (leaves l c) cs

-- what the list of calls leaves
abbrev pub after : Ledger → List Call → Ledger
after l [] = l
after l (c ∷ cs) = after (leaves l c) cs
