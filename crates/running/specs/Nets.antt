-- What a running network holds.
use Rattle.std.specs.Prelude.{ℕ, List, [], length, slice_index_or}
use Rattle.accounts.specs.Accounts.{fresh}
use Rattle.lanes.specs.declared.flits.Flit.{Flit}
use Rattle.sources.specs.Lines.{Line, fresh_line}

-- `head` is the head frame, `cycles` are those made; `lines` are the flows at their sources, in the order of reservation;
-- `lane c k` is the buffer of channel c for the k-th open frame, counted from the head frame on
pub record Net : Type 0 where
  pub window : ℕ
  pub depth : ℕ
  pub head : ℕ
  pub cycles : ℕ
  pub lines : List Line
  pub lane : ℕ → ℕ → List Flit

-- what stands where no flow is: no route, no slots
abbrev pub no_line : Line
no_line = fresh_line (fresh 0 0 0) []

abbrev pub flows : Net → ℕ
flows n = length n.lines

abbrev pub line : Net → ℕ → Line
line n i = slice_index_or n.lines i no_line

abbrev pub route : Net → ℕ → List ℕ
route n i = (line n i).route
