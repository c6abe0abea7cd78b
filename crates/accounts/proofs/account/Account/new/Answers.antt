use Rattle.std.proofs.Common.{[], ◌≡◌, ℕ, ◌≤◌, false, w64, of_z, to_z, sym, ◌∙◌, arith, rules}
use Rattle.std.proofs.lemmas.Bool.{or_parts, ltb-false}
use Rattle.std.proofs.lemmas.Int.{ints}
use Rattle.accounts.specs.Ledgers.{Terms}
use Rattle.accounts.specs.Accounts.{fresh, outside}
use Rattle.accounts.proofs.Opened.{promise_at}
use Rattle.accounts.proofs.Worked.{two_frames_filled, overdraft_paid_back, nothing_carried_over}
use Rattle.accounts.proofs.account.Account.new.Goals as goal

inside : (low high n : ℕ) → outside low high n ≡ false → (low ≤ n) × (n ≤ high)
inside low high n h = let p = or_parts _ _ h in (ltb-false n low p.0, ltb-false high n p.1)

pub returns : goal.returns
returns c =
    let slots = inside _ _ c.args.slots (sym c.is_outside-2.ensures ∙ c.if-is_outside-2.false) in
    let largest = inside _ _ c.args.largest (sym c.is_outside-3.ensures ∙ c.if-is_outside-3.false) in
    let window = inside _ _ c.args.window (sym c.is_outside.ensures ∙ c.if-is_outside.false) in
    let terms : Terms (fresh c.args.slots c.args.largest c.args.window) = search rules in
    let p = promise_at c.args.slots c.args.largest c.args.window (to_z w64 (of_z w64 c.from.result)) terms (omega (arith, ints)) in
    record {
      answer = search rules;
      sound = (terms, p.limits [], omega arith);
      limits = p.limits;
      spent = p.spent;
      frames = p.frames;
      shares = p.shares;
      stretches = p.stretches;
      filled = two_frames_filled;
      overdraft = overdraft_paid_back;
      carried = nothing_carried_over;
    }
