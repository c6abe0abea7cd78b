use Rattle.std.proofs.Common.{◌≡◌, true, false, rules}
use Rattle.std.proofs.lemmas.Iterator.{first_from_Range}
use Rattle.arbiters.specs.FlowSets.{has}
use Rattle.arbiters.proofs.Searches.{found_up}
use Rattle.arbiters.proofs.flow_set.FlowSet.first_between.Goals as goal

pub returns : goal.returns
returns c =
    let s = c.args.self.now in
    found_up (has s) _ _ _
    (first_from_Range _ _ _ _ (λ f. has s f ≡ true) (λ f. has s f ≡ false) c.find.ensures.ran (λ x q k. search rules) (λ x q k. search rules))
