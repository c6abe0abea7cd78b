-- A shift of the window leaves held what was held, each flit in its frame.
use Rattle.std.proofs.Common.{◌≡◌, ℕ, zero, suc, ◌+◌, ◌<◌, true, get_or, take, sum, sym, ap, ◌∙◌, subst, inl, inr, arith}
use Rattle.std.proofs.lemmas.List.{get_or-map}
use Rattle.std.proofs.lemmas.Bool.{both_ways, eqb-true}
use Rattle.plan.specs.Tables.{Table}
use Rattle.sources.specs.Lines.{moved_on}
use Rattle.running.specs.Cycles.{head_empty, shifted_net}
use Rattle.running.specs.Nets.{Net, no_line, line, flows}
use Rattle.running.proofs.Emptying.{head_empty_tells, no_head_waits, no_head_lies}
use Rattle.guarantee.specs.Counts.{has_flit}
use Rattle.guarantee.proofs.Goods.{Good}
use Rattle.guarantee.proofs.Holding.{Waits, Holds, up_next, up_moved}

module _ (t : Table) (n : Net) (good : Good t n) (empty : head_empty n ≡ true) (i : ℕ) (among : i < flows n) where
  none : get_or good.held 0 0 ≡ 0
  none = eqb-true (get_or good.held 0 0) 0 (sym (head_empty_tells n good.held good.sound) ∙ empty)

  -- no flit waits for the head frame
  first_none : get_or (line n i).waiting 0 0 ≡ 0
  first_none = no_head_waits n good.held good.sound none i among

  -- those of the later frames wait as they did, one place nearer
  waits_on : (k num : ℕ) → Waits (line n i) (suc k) num → Waits (moved_on (line n i)) k num
  waits_on k num w =
      let e : suc k + 1 ≡ suc (k + 1) = omega arith in
      let low = up_moved (line n i).waiting k first_none in
      let high = up_moved (line n i).waiting (k + 1) first_none in
      let next = ap (λ m. sum (take m (line n i).waiting)) e in
      (omega (arith, w.0), omega (arith, w.1))

  line_on : line (shifted_net n) i ≡ moved_on (line n i)
  line_on = get_or-map moved_on n.lines i no_line no_line among

  waits_by : (k num f : ℕ) → f ≡ n.head + k → Waits (line n i) k num → Holds (shifted_net n) i num f
  waits_by zero num f e w = absurd (omega (arith, w.0, w.1, up_next (line n i).waiting 0, first_none))
  waits_by (suc k) num f e w = (k, omega arith, inl (subst (λ m. Waits m k num) (sym line_on) (waits_on k num w)))

  lies_by : (k num f c : ℕ) → f ≡ n.head + k → has_flit i num (n.lane c k) ≡ true → Holds (shifted_net n) i num f
  lies_by zero num f c e h = absurd (both_ways (has_flit i num (n.lane c 0)) (ap (has_flit i num) (no_head_lies n good.held good.sound none c)) h)
  lies_by (suc k) num f c e h = (k, omega arith, inr (c, h))

  pub shift_holds : (num f : ℕ) → Holds n i num f → Holds (shifted_net n) i num f
  shift_holds num f (k, e, inl w) = waits_by k num f e w
  shift_holds num f (k, e, inr (c, h)) = lies_by k num f c e h
