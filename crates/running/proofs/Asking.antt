-- Where no flow is, nothing is requested.
use Rattle.std.proofs.Common.{◌≡◌, ℕ, ◌≤◌, false, [], None, refl, ap, ◌∙◌}
use Rattle.std.proofs.lemmas.List.{get_or_past}
use Rattle.folds.specs.Firsts.{first_up}
use Rattle.routes.specs.Crossings.{crossing}
use Rattle.sources.specs.Lines.{Line}
use Rattle.running.specs.Nets.{Net, flows, line, route, no_line}
use Rattle.running.specs.Requests.{requests, requests_by}

no_crossing : (c : ℕ) → crossing [] c ≡ None
unfolding first_up
no_crossing c = refl

pub no_flow : (n : Net) (i : ℕ) → flows n ≤ i → line n i ≡ no_line
no_flow n i l = get_or_past n.lines i no_line l

pub no_flow_crosses : (n : Net) (c i : ℕ) → flows n ≤ i → crossing (route n i) c ≡ None
no_flow_crosses n c i l = ap (λ (m : Line). crossing m.route c) (no_flow n i l) ∙ no_crossing c

pub no_flow_requests : (n : Net) (c k i : ℕ) → flows n ≤ i → requests n c k i ≡ false
no_flow_requests n c k i l = ap (requests_by n c k i) (no_flow_crosses n c i l)
