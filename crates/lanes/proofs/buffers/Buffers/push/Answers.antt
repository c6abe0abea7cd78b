use Rattle.std.proofs.Common.{◌≤◌, length, rules}
use Rattle.std.proofs.lemmas.List.Elements.{All-set}
use Rattle.lanes.proofs.Held.{lane_read, push_taken, push_leaves}
use Rattle.lanes.proofs.buffers.Buffers.push.Goals as goal

pub returns : goal.returns
returns c = search (rules, lane_read, push_taken, push_leaves)

pub invariant_of-self-clause-few : goal.invariant_of-self-clause-few
invariant_of-self-clause-few c = All-set (λ lane. length lane ≤ 8) _ _ _ c.push.ensures.within c.args.self.now.few
