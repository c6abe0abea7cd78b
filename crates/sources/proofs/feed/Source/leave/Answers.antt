use Rattle.std.proofs.Common.{rules}
use Rattle.sources.proofs.Leaving.{left_sound}
use Rattle.sources.proofs.feed.Source.leave.Goals as goal

pub invariant_of-self : goal.invariant_of-self
invariant_of-self c = search (rules, left_sound)
