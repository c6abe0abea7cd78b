use Rattle.std.proofs.Common.{◌≡◌, true, false, map, map-id, ap, ◌∙◌, rules}
use Rattle.std.proofs.lemmas.Iterator.{YieldsList-from_slice, YieldsList-from_map, first_from_find}
use Rattle.arbiters.specs.FlowSets.{has}
use Rattle.folds.specs.Firsts.{first_of}
use Rattle.arbiters.proofs.Searches.{found_in}
use Rattle.arbiters.proofs.order.Order.first_in.Goals as goal

pub returns : goal.returns
returns c =
    let s = c.args.flows.now in
    let fs = c.args.self.now.flows in
    found_in (has s) _ (map (λ f. f) fs)
    (
    first_from_find _ _ _ (λ f. has s f ≡ true) (λ f. has s f ≡ false) c.find.ensures.ran
    (YieldsList-from_map _ (λ f. f) (YieldsList-from_slice fs (search rules)) (search rules) (λ x r q k. search rules))
    (λ x q k. search rules)
    (λ x q k. search rules)
    )
    ∙ ap (first_of (has s)) (map-id fs)
