use Rattle.std.proofs.Common.{arith}
use Rattle.std.proofs.lemmas.Int.{ints}
use Rattle.accounts.proofs.Refills.{found_first, found_more}
use Rattle.accounts.proofs.account.Account.place.Goals as goal

pub loop-balance-init : goal.loop-balance-init
loop-balance-init c = rw (← c.self.view_is) (found_first _ _ c.self.invariant.1 (omega (arith, ints)))

pub loop-balance-preserved : goal.loop-balance-preserved
loop-balance-preserved c =
    let s = rw (← c.self.view_is) at c.loop-balance.invariant in
    rw (← c.self.view_is) (found_more _ s (omega arith) (omega (arith, ints)) (omega (arith, ints)))
