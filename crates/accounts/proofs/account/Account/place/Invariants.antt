use Rattle.std.proofs.Common.{◌+◌, ◌-◌}
use Rattle.accounts.proofs.Refills.{Found}
use Rattle.accounts.proofs.account.Account.place.Given as goal

abbrev pub invariant-loop-balance : goal.invariant-loop-balance
invariant-loop-balance l = Found l.self l.frame l.balance

abbrev pub decreases-loop-balance : goal.decreases-loop-balance
decreases-loop-balance l = l.head + l.window - 1 - l.frame
