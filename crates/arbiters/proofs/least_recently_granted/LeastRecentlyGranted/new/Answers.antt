use Rattle.arbiters.proofs.Edges.{recency_of_two}
use Rattle.arbiters.proofs.Rules.{recency_rule}
use Rattle.arbiters.proofs.least_recently_granted.LeastRecentlyGranted.new.Goals as goal

pub returns-clause-rule : goal.returns-clause-rule
returns-clause-rule c = recency_rule

pub returns-clause-edge : goal.returns-clause-edge
returns-clause-edge c = recency_of_two
