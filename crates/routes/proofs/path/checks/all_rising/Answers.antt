use Rattle.std.proofs.Common.{ltb, rules}
use Rattle.std.proofs.lemmas.List.Sorted.{answers_always}
use Rattle.routes.proofs.Channels.{sorted_rises}
use Rattle.routes.proofs.path.checks.all_rising.Goals as goal

pub returns : goal.returns
returns c = sorted_rises _ _ (c.is_sorted_by.ensures.cases ltb (answers_always _ _ _ (λ f a r f' k. search rules)))
