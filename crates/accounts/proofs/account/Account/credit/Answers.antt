use Rattle.std.proofs.Common.{◌+◌, ◌-◌, ◌*◌, ◌≤◌, ap, ◌∙◌, subst, mul_comm, mul-le-mul, arith}
use Rattle.std.proofs.lemmas.Int.{ints}
use Rattle.accounts.specs.Ledgers.{Ledger, Sound}
use Rattle.accounts.proofs.Ready.{spent_exactly, frame_given}
use Rattle.accounts.proofs.account.Account.credit.Goals as goal

pub returns : goal.returns
returns c =
    let a = c.args.self.now in
    let ok = subst Sound c.self.view_is c.self.invariant in
    let balance = ap (λ (l : Ledger). l.balance) c.self.view_is in
    let ahead = a.head + a.window - 1 - a.frame in
    let few : ahead ≤ 6 = omega arith in
    let most : a.slots ≤ 4096 = omega arith in
    let fits = mul-le-mul few most in
    let product = c.slots_in.ensures ∙ ap (λ n. n * a.slots) c.frames_ahead.ensures ∙ mul_comm ahead a.slots in
    record { figure = omega (arith, ints); spent = spent_exactly a; frame = frame_given a (omega arith); sound = ok }
