use Rattle.std.proofs.Common.{arith}
use Rattle.accounts.specs.Accounts.{fresh}
use Rattle.accounts.proofs.Opened.{fresh_limits}
use Rattle.accounts.proofs.Stretches.{brings}
use Rattle.accounts.proofs.account.Account.stretch.Goals as goal

pub returns-clause-holds : goal.returns-clause-holds
returns-clause-holds c es s e =
    let a = c.args.self.now in
    let terms = c.slack-slack.ensures.sound.0 in
    let ok = fresh_limits a.slots a.largest a.window terms in
    let q = brings (fresh a.slots a.largest a.window) terms.2.0 ok c.args.shifts es s e in
    (omega arith, omega arith)
