use Rattle.std.proofs.Common.{arith}
use Rattle.accounts.proofs.Opened.{fresh_limits}
use Rattle.accounts.proofs.Shares.{shares}
use Rattle.accounts.proofs.account.Account.share.Goals as goal

pub returns-clause-holds : goal.returns-clause-holds
returns-clause-holds c cs first =
    let a = c.args.self.now in
    let terms = c.slack.ensures.sound.0 in
    let q = shares a.slots a.largest a.window terms.2.0 (fresh_limits a.slots a.largest a.window terms) c.args.frames cs first in
    omega arith
