use Rattle.std.proofs.Common.{rules}
use Rattle.routes.proofs.Channels.{contains_crosses}
use Rattle.routes.proofs.path.Route.crosses.Goals as goal

pub returns-clause-answer : goal.returns-clause-answer
returns-clause-answer c = search (rules, contains_crosses)
