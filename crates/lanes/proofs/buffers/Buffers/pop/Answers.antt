use Rattle.std.proofs.Common.{◌≤◌, length, rules}
use Rattle.std.proofs.lemmas.List.Elements.{All-set}
use Rattle.lanes.proofs.Held.{lane_none, lane_read, pop_none, pop_leaves}
use Rattle.lanes.proofs.buffers.Buffers.pop.Goals as goal

pub returns-in_err-place : goal.returns-in_err-place
returns-in_err-place c = search (rules, lane_none, pop_none)

pub returns : goal.returns
returns c = search (rules, lane_read, pop_leaves)

pub invariant_of-self-clause-few : goal.invariant_of-self-clause-few
invariant_of-self-clause-few c = All-set (λ lane. length lane ≤ 8) _ _ _ c.pop.ensures.within c.args.self.now.few
