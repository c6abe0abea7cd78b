-- A cycle: the clock is told, the window may shift, the channels grant, the granted flits move.
use Rattle.std.specs.Prelude.{ℕ, suc, ◌+◌, Bool, cond, not, ◌&&◌, List, [], map, length, is_some, Ok, Err, Option, Result, nat_le, nat_lt, slice_index}
use Rattle.accounts.specs.Accounts.{fresh}
use Rattle.arbiters.specs.declared.arbiter.Arbiter as arbiter
use Rattle.clocks.specs.declared.clock.WindowClock as clock
use Rattle.folds.specs.Firsts.{first_up}
use Rattle.lanes.specs.declared.flits.Flit.{Flit}
use Rattle.plan.specs.Tables.{Flow, Table}
use Rattle.sources.specs.Lines.{Line, fresh_line, moved_on}
use Rattle.running.specs.Grants.{grants, arbiter_at}
use Rattle.running.specs.Moves.{moved, arrivals}
use Rattle.running.specs.Nets.{Net, line, flows}
use Rattle.running.specs.Offers.{offer_leaves}
use Rattle.running.specs.declared.grant.Grant.{Grant}
use Rattle.running.specs.declared.refusal.RunRefusal.{RunRefusal}
use Rattle.running.specs.declared.refusal.RunRefusal.TheVariants.{RunOver}

-- a flow of the plan at its source, as the network starts
abbrev pub opened_flow : ℕ → Flow → Line
opened_flow window f = fresh_line (fresh f.slots f.largest window) f.route

-- a network just started from a table: head frame 0, no cycle made, nothing held
abbrev pub started : Table → Net
started t = record {
  window = t.settings.window;
  depth = t.settings.depth;
  head = 0;
  cycles = 0;
  lines = map (opened_flow t.settings.window) t.flows;
  lane = λ c k. [];
}

-- a flit of the head frame waits at flow i's source, or lies in channel c's buffer
abbrev pub waits_now : Net → ℕ → Bool
waits_now n i = nat_lt 0 (slice_index (line n i).waiting 0)

abbrev pub lies_now : Net → ℕ → Bool
lies_now n c = nat_lt 0 (length (n.lane c 0))

-- the head frame is empty
abbrev pub head_empty : Net → Bool
head_empty n = not (is_some (first_up (waits_now n) 0 (flows n))) && not (is_some (first_up (lies_now n) 0 320))

-- the window shifts: every account by its rule, and each open frame is one nearer to the head
abbrev pub shifted_net : Net → Net
shifted_net n = record {
  window = n.window;
  depth = n.depth;
  head = n.head + 1;
  cycles = n.cycles;
  lines = map moved_on n.lines;
  lane = λ c k. n.lane c (suc k);
}

-- one cycle more is counted
abbrev pub cycle_made : Net → Net
cycle_made n = record { window = n.window; depth = n.depth; head = n.head; cycles = n.cycles + 1; lines = n.lines; lane = n.lane }

-- the cycle is counted, and the window shifts if the clock says so
abbrev pub clocked : Net → Bool → Net
clocked n shifts = cond shifts (shifted_net (cycle_made n)) (cycle_made n)

-- after 16,777,216 cycles the run is over
abbrev pub run_over : Net → Bool
run_over n = nat_le 16777216 n.cycles

-- a network with its arbiter and its clock
pub record Run (A C : Type 0) : Type 0 where
  pub net : Net
  pub arbiter : A
  pub clock : C

module _ {A C : Type 0} where
  -- just started from a table
  abbrev pub started_run : Table → A → C → Run A C
  started_run t a c = record { net = started t; arbiter = a; clock = c }

  -- after an offer, of which the arbiter and the clock are not told
  abbrev pub offered_run : Run A C → ℕ → ℕ → Run A C
  offered_run r i size = record { net = offer_leaves r.net i size; arbiter = r.arbiter; clock = r.clock }

module _ {A C : Type 0} (arbiters : arbiter.Ghosts A) (clocks : clock.Ghosts C) where
  -- first the cycle is counted, the clock is told whether the head frame is empty, and the shift follows if it says so
  abbrev pub shifts_now : Run A C → Bool
  shifts_now r = clocks.shifts r.clock (head_empty r.net)

  abbrev pub after_clock : Run A C → Net
  after_clock r = clocked r.net (shifts_now r)

  -- then the channels grant
  abbrev pub grants_now : Run A C → List (Option Grant)
  grants_now r = grants arbiters (after_clock r) r.arbiter

  -- the flits that are delivered
  abbrev pub delivered_now : Run A C → List Flit
  delivered_now r = arrivals (after_clock r) (grants_now r) 320

  -- then the granted flits move
  abbrev pub cycled : Run A C → Run A C
  cycled r = record {
    net = moved (after_clock r) (grants_now r);
    arbiter = arbiter_at arbiters (after_clock r) r.arbiter 320;
    clock = clocks.told r.clock (head_empty r.net);
  }

  -- the answer: whether the window shifted, and how many flits were delivered
  abbrev pub cycle_answer : Run A C → Result (Bool × ℕ) RunRefusal
  cycle_answer r = cond (run_over r.net) (Err RunOver) (Ok (shifts_now r, length (delivered_now r)))

  abbrev pub cycle_leaves : Run A C → Run A C
  cycle_leaves r = cond (run_over r.net) r (cycled r)
