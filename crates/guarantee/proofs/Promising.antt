-- The whole promise, put together.
use Rattle.std.proofs.Common.{◌≡◌, ℕ, ◌+◌, ◌-◌, ◌*◌, ◌<◌, ◌≤◌, true, List, ◌++◌, sym, refl, subst, one-mul, arith}
use Rattle.arbiters.specs.declared.arbiter.Arbiter as arbiter
use Rattle.clocks.specs.declared.clock.WindowClock as clock
use Rattle.plan.specs.Tables.{Table}
use Rattle.running.specs.Cycles.{Run}
use Rattle.running.proofs.Choosing.{grants_valid}
use Rattle.guarantee.specs.Calls.{Call, Event, start, events, after}
use Rattle.guarantee.specs.Counts.{accepted_by, accepted_in, cycles, shifts, deliveries, has_flit}
use Rattle.guarantee.specs.Promises.{flow, flow_count, longest_epoch, longest_delivery, Promise, Promised, DeliveredInTime, Shifting}
use Rattle.guarantee.proofs.Goods.{TableOk, Good, Step, as_calls}
use Rattle.guarantee.proofs.Meanings.{Meant}
use Rattle.guarantee.proofs.Keeping.{good_started, good_steps}
use Rattle.guarantee.proofs.Tables.{planned_ok}
use Rattle.guarantee.proofs.Singles.{singles, single_events, split_events}
use Rattle.guarantee.proofs.Sharing.{shared, channels_shared, kept_up}
use Rattle.guarantee.proofs.Busy.{granted_work, busy_works}
use Rattle.guarantee.proofs.Working.{work_none_empty, empty_work_none, offer_work}
use Rattle.guarantee.proofs.Waiting.{many_shifts}
use Rattle.guarantee.proofs.Following.{closed_delivered}

module _ {A C : Type 0} (arbiters : arbiter.Ghosts A) (clocks : clock.Ghosts C) (meant : Meant arbiters clocks) (t : Table) (ok : TableOk t) (a : A) (c : C) where
  abbrev run : Run A C
  run = start arbiters clocks t a c

  abbrev seen_by : List Step → List Event
  seen_by ss = events arbiters clocks run (as_calls ss)

  abbrev then : List Step → List Step → List Event
  then ss ts = events arbiters clocks (after arbiters clocks run (as_calls ss)) (as_calls ts)

  good : (ss : List Step) → Good t (after arbiters clocks run (as_calls ss)).net
  good = good_steps arbiters clocks meant t run (good_started t ok)

  one_share : (ss : List Step) (i : ℕ) → i < flow_count t → (f : ℕ) → accepted_in i f (f + 1) (seen_by ss) ≤ (flow t i).slots + (flow t i).largest - 1
  one_share ss i l f = omega (arith, shared arbiters clocks t a c ok (as_calls ss) i l f 1, one-mul (flow t i).slots)

  -- n × (D + G) cycles hold n shifts
  shifts_come : (ss ts : List Step) (n : ℕ) → n * longest_epoch t (clocks.lag c) ≤ cycles (then ss ts) → n ≤ shifts (then ss ts)
  shifts_come =
      many_shifts arbiters clocks t meant.positive meant.within meant.steady meant.busy meant.falls
      (λ n held s b. busy_works arbiters meant.belongs n held s b meant.chooses)
      (λ n held s b. granted_work arbiters meant.belongs n held s b 0)
      empty_work_none work_none_empty (λ n i size g. offer_work n i size t g)
      (λ n b. grants_valid arbiters n b meant.belongs) a c good one_share

  delivers : (ss ts : List Step) → longest_delivery t (clocks.lag c) ≤ cycles (then ss ts) →
      (i : ℕ) → i < flow_count t → (number : ℕ) → number < accepted_by i (seen_by ss) → has_flit i number (deliveries (seen_by ss ++ then ss ts)) ≡ true
  delivers ss ts h i l number m =
      closed_delivered arbiters clocks meant.belongs meant.busy t run refl good i l number ss ts m (shifts_come ss ts t.settings.window h)

  -- the events of steps, split in three
  delivered_by : (ss : List Step) → DeliveredInTime t (clocks.lag c) (seen_by ss)
  delivered_by ss before since later e h i l number m = go (split_events arbiters clocks run ss before (since ++ later) e)
    where
      deeper : (s1 s2 : List Step) → seen_by s1 ≡ before →
          (ts1 : List Step) × (ts2 : List Step) × (s2 ≡ ts1 ++ ts2) × (then s1 ts1 ≡ since) × (events arbiters clocks (after arbiters clocks (after arbiters clocks run (as_calls s1)) (as_calls ts1)) (as_calls ts2) ≡ later) →
          has_flit i number (deliveries (before ++ since)) ≡ true
      deeper s1 s2 e1 (ts1, ts2, _, e2, _) =
          subst (λ es. has_flit i number (deliveries (es ++ since)) ≡ true) e1
          (subst (λ es. has_flit i number (deliveries (seen_by s1 ++ es)) ≡ true) e2
          (delivers s1 ts1 (subst (λ es. longest_delivery t (clocks.lag c) ≤ cycles es) (sym e2) h) i l number (subst (λ es. number < accepted_by i es) (sym e1) m)))

      go : (ss1 : List Step) × (ss2 : List Step) × (ss ≡ ss1 ++ ss2) × (seen_by ss1 ≡ before) × (then ss1 ss2 ≡ since ++ later) →
          has_flit i number (deliveries (before ++ since)) ≡ true
      go (ss1, ss2, _, e1, e2) = deeper ss1 ss2 e1 (split_events arbiters clocks (after arbiters clocks run (as_calls ss1)) ss2 since later e2)

  shifting_by : (ss : List Step) → Shifting t (clocks.lag c) (seen_by ss)
  shifting_by ss before since later e h = go (split_events arbiters clocks run ss before (since ++ later) e)
    where
      deeper : (s1 s2 : List Step) →
          (ts1 : List Step) × (ts2 : List Step) × (s2 ≡ ts1 ++ ts2) × (then s1 ts1 ≡ since) × (events arbiters clocks (after arbiters clocks (after arbiters clocks run (as_calls s1)) (as_calls ts1)) (as_calls ts2) ≡ later) →
          1 ≤ shifts since
      deeper s1 s2 (ts1, ts2, _, e2, _) =
          subst (λ es. 1 ≤ shifts es) e2
          (shifts_come s1 ts1 1 (subst (λ k. k ≤ cycles (then s1 ts1)) (sym (one-mul (longest_epoch t (clocks.lag c)))) (subst (λ es. longest_epoch t (clocks.lag c) ≤ cycles es) (sym e2) h)))

      go : (ss1 : List Step) × (ss2 : List Step) × (ss ≡ ss1 ++ ss2) × (seen_by ss1 ≡ before) × (then ss1 ss2 ≡ since ++ later) → 1 ≤ shifts since
      go (ss1, ss2, _, e1, e2) = deeper ss1 ss2 (split_events arbiters clocks (after arbiters clocks run (as_calls ss1)) ss2 since later e2)

  pub promise : (calls : List Call) → Promise t (clocks.lag c) (events arbiters clocks run calls)
  promise calls = record {
    shared = shared arbiters clocks t a c ok calls;
    channels = channels_shared arbiters clocks t a c ok calls;
    delivered = subst (DeliveredInTime t (clocks.lag c)) (sym (single_events arbiters clocks run calls)) (delivered_by (singles arbiters clocks run calls));
    shifting = subst (Shifting t (clocks.lag c)) (sym (single_events arbiters clocks run calls)) (shifting_by (singles arbiters clocks run calls));
    kept_up = kept_up arbiters clocks t a c ok calls;
  }

pub promised : {A C : Type 0} (arbiters : arbiter.Ghosts A) (clocks : clock.Ghosts C) → Meant arbiters clocks → Promised arbiters clocks
promised arbiters clocks meant plan a c calls = promise arbiters clocks meant _ (planned_ok plan) a c calls
