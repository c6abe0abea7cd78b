-- The head frame's work is 0 exactly where it is empty; what an offer, a shift and the count of a cycle leave of the work.
use Rattle.std.proofs.Common.{◌≡◌, ℕ, suc, ◌+◌, ◌-◌, ◌*◌, ◌<◌, ◌≤◌, Bool, true, false, cond, ltb, ◌≢◌, List, [], ◌∷◌, length, get_or, is_some, sym, refl, ap, ◌∙◌, mul-le-mul_left, zero-mul, mul-one, arith}
use Rattle.std.proofs.lemmas.List.{length-map, length-set, get_or-map, get_or-set_other}
use Rattle.std.proofs.lemmas.Bool.{and_parts, eq-eqb, eqb-true, ltb-true}
use Rattle.accounts.specs.Ledgers.{Ledger, Limits}
use Rattle.accounts.specs.Offers.{ready, bad_size, paid}
use Rattle.accounts.proofs.Ready.{ready_is}
use Rattle.folds.proofs.Sums.{total_le, total_none, sumBy_total}
use Rattle.lanes.specs.declared.flits.Flit.{Flit}
use Rattle.plan.specs.Tables.{Table}
use Rattle.routes.specs.Crossings.{next_channel}
use Rattle.routes.proofs.Crossings.{well_formed_some}
use Rattle.sources.specs.Lines.{Line, joined, turned_away, offered, moved_on}
use Rattle.running.specs.Cycles.{head_empty, shifted_net, cycle_made}
use Rattle.running.specs.Nets.{Net, no_line, line, route, flows}
use Rattle.running.specs.Offers.{with_line, offer_leaves}
use Rattle.running.specs.Sounds.{goes_on, all_go_on, waiting_in, buffered_in, Sound}
use Rattle.running.proofs.Answering.{offered_route}
use Rattle.running.proofs.Emptying.{head_empty_tells, no_head_waits, no_head_lies}
use Rattle.running.proofs.Keeping.{kept_field}
use Rattle.running.proofs.Shifting.{kept_on, moved_place}
use Rattle.guarantee.proofs.Draining.{source_work, buffer_work, work_alike}
use Rattle.guarantee.proofs.Goods.{all_to_go, work, Good}
use Rattle.guarantee.proofs.Hops.{some_to_go}

-- every flit that is held needs a crossing at least
queue_needs : (n : Net) (c : ℕ) (q : List Flit) → all_go_on n c q ≡ true → length q ≤ all_to_go n c q
queue_needs n c [] h = omega arith
queue_needs n c (x ∷ xs) h =
    let p = and_parts (goes_on n c x) (all_go_on n c xs) h in
    let r = and_parts (ltb x.flow (flows n)) (is_some (next_channel (route n x.flow) c)) p.0 in
    omega (arith, queue_needs n c xs p.1, some_to_go (route n x.flow) c r.1)

factor : (w r : ℕ) → 1 ≤ r → w ≤ w * r
factor w r l = omega (arith, mul-le-mul_left w l, mul-one w)

module _ (n : Net) (held : List ℕ) (ok : Sound n held) where
  waiting_needs : (k : ℕ) → waiting_in n k ≤ source_work n k
  waiting_needs k =
      omega (
        arith,
        sumBy_total (λ l. get_or l.waiting k 0) no_line n.lines,
        total_le (λ i. get_or (line n i).waiting k 0) (λ i. get_or (line n i).waiting k 0 * length (route n i)) (flows n)
            (λ i l. factor (get_or (line n i).waiting k 0) (length (route n i)) (well_formed_some (route n i) (ok.1 i l).3)),
      )

  buffers_need : (k : ℕ) → buffered_in n k ≤ buffer_work n k
  buffers_need k = total_le (λ c. length (n.lane c k)) (λ c. all_to_go n c (n.lane c k)) 320 (λ c l. queue_needs n c (n.lane c k) (ok.2 c k))

  pub held_work : (k : ℕ) → waiting_in n k + buffered_in n k ≤ work n k
  held_work k = omega (arith, waiting_needs k, buffers_need k)

  -- none needed in the head frame, none held there
  pub work_none_empty : work n 0 ≡ 0 → head_empty n ≡ true
  work_none_empty z = head_empty_tells n held ok ∙ eq-eqb (get_or held 0 0) 0 (omega (arith, held_work 0, ok.5.1 0))

  pub empty_work_none : head_empty n ≡ true → work n 0 ≡ 0
  empty_work_none e =
      let none : get_or held 0 0 ≡ 0 = eqb-true (get_or held 0 0) 0 (sym (head_empty_tells n held ok) ∙ e) in
      omega (
        arith,
        total_none (λ i. get_or (line n i).waiting 0 0 * length (route n i)) (flows n)
            (λ i l. ap (λ w. w * length (route n i)) (no_head_waits n held ok none i l) ∙ zero-mul (length (route n i))),
        total_none (λ c. all_to_go n c (n.lane c 0)) 320 (λ c l. ap (all_to_go n c) (no_head_lies n held ok none c)),
      )

  pub work_empty : (work n 0 ≡ 0 → head_empty n ≡ true) × (head_empty n ≡ true → work n 0 ≡ 0)
  work_empty = (work_none_empty, empty_work_none)

-- the count of a cycle changes none
pub counted_work : (n : Net) (k : ℕ) → work (cycle_made n) k ≡ work n k
counted_work n k = work_alike (cycle_made n) n k k refl (λ i. refl) (λ i l. refl) (λ c. refl)

-- a shift makes each open frame the one before
pub shift_work : (n : Net) (k : ℕ) → work (shifted_net n) k ≡ work n (suc k)
shift_work n k =
    work_alike (shifted_net n) n k (suc k) (length-map n.lines moved_on) (kept_on (λ l. l.route) (λ l. refl) n.lines)
    (λ i l. ap (λ m. get_or m.waiting k 0) (get_or-map moved_on n.lines i no_line no_line l) ∙ moved_place (line n i).waiting k) (λ c. refl)

-- an offer adds to no head frame: a packet's frame is past it
past_head : (l : Ledger) → Limits l → (ready l).frame - l.head ≡ 0 → ⊥
past_head l ok e = let r = ready_is l in omega (arith, ok.2, ap (λ m. m.frame) r.is)

joined_head : (l : Line) (size : ℕ) → Limits l.ledger → get_or (joined l size).waiting 0 0 ≡ get_or l.waiting 0 0
joined_head l size ok =
    let place : ℕ = (ready l.ledger).frame - l.ledger.head in
    let ne : 0 ≢ place = λ q. past_head l.ledger ok (sym q) in
    get_or-set_other l.waiting place 0 (get_or l.waiting place 0 + size) 0 ne

offered_head : (l : Line) (size : ℕ) (bad good : Bool) → Limits l.ledger →
    get_or (cond bad l (cond good (joined l size) (turned_away l))).waiting 0 0 ≡ get_or l.waiting 0 0
offered_head l size true good ok = refl
offered_head l size false true ok = joined_head l size ok
offered_head l size false false ok = refl

module _ (n : Net) (i size : ℕ) where
  with_line_work : i < flows n → Limits (line n i).ledger → work (with_line n i (offered (line n i) size)) 0 ≡ work n 0
  with_line_work low ok =
      let new : Line = offered (line n i) size in
      let bad = bad_size (line n i).ledger size in
      let good = paid (line n i).ledger in
      work_alike (with_line n i new) n 0 0 (length-set n.lines i new)
      (kept_field (λ l. l.route) n.lines i new low (offered_route (line n i) size bad good))
      (λ j l. kept_field (λ l. get_or l.waiting 0 0) n.lines i new low (offered_head (line n i) size bad good ok) j) (λ c. refl)

  offer_work_by : (b : Bool) → ltb i (flows n) ≡ b → (i < flows n → Limits (line n i).ledger) →
      work (cond b (with_line n i (offered (line n i) size)) n) 0 ≡ work n 0
  offer_work_by true e ok = let l = ltb-true i (flows n) e in with_line_work l (ok l)
  offer_work_by false e ok = refl

  pub offer_work : (t : Table) → Good t n → work (offer_leaves n i size) 0 ≡ work n 0
  offer_work t good = offer_work_by (ltb i (flows n)) refl (λ l. (good.lines i (omega (arith, good.flows))).kept.limits)
