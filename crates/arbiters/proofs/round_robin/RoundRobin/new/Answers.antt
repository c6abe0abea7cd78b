use Rattle.arbiters.proofs.Edges.{round_of_two}
use Rattle.arbiters.proofs.Rules.{round_rule}
use Rattle.arbiters.proofs.round_robin.RoundRobin.new.Goals as goal

pub returns-clause-rule : goal.returns-clause-rule
returns-clause-rule c = round_rule

pub returns-clause-edge : goal.returns-clause-edge
returns-clause-edge c = round_of_two
