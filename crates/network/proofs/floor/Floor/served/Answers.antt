use Rattle.std.proofs.Common.{rules}
use Rattle.folds.proofs.Anys.{any_hit, any_miss, any_end}
use Rattle.folds.proofs.Firsts.{first_hit, first_miss, first_end}
use Rattle.network.proofs.Requesting.{asked_from}
use Rattle.network.proofs.floor.Floor.served.Goals as goal

pub loop-flow-init : goal.loop-flow-init
loop-flow-init c = search (rules, asked_from)

pub loop-flow-preserved : goal.loop-flow-preserved
loop-flow-preserved c = search (rules, any_miss)

pub search-preserved : goal.search-preserved
search-preserved c = search (rules, first_miss, any_end)

pub returns-then-requests : goal.returns-then-requests
returns-then-requests c = search (rules, first_hit, any_hit)

pub returns-after-search : goal.returns-after-search
returns-after-search c = search (rules, first_end)
