-- The turns of the channels: one granted flit after the other moves, and together they have moved.
use Rattle.std.proofs.Common.{◌≡◌, ℕ, ◌+◌, ◌≤◌, List, ◌++◌, length, get_or, take, Some, None, Option, sym, refl, ap, ◌∙◌, subst, add-one, arith}
use Rattle.std.proofs.lemmas.List.{length-append}
use Rattle.running.specs.Moves.{at_channel, moved, arrive, arrivals}
use Rattle.running.specs.Nets.{Net}
use Rattle.running.specs.Valid.{Valid, Routed, InWindow}
use Rattle.running.specs.declared.grant.Grant.{Grant}
use Rattle.running.proofs.Same.{moved_none, moved_skip, moved_all}
use Rattle.running.proofs.Together.{moved_one, ready_one, ready_flow, arrivals_one}
use Rattle.network.specs.Landings.{carried, Granted}

-- the walk over the channels
module _ (n : Net) (gs : List (Option Grant)) (routed : Routed n) (valid : Valid n gs) (window : InWindow n gs) where
  granted_by : (c : ℕ) (o : Option Grant) → at_channel gs c ≡ o → Granted (moved n (take c gs)) c o
  granted_by c None e = tt
  granted_by c (Some g) e = (ready_flow n gs routed valid c g e, ready_one n gs routed valid c g e, (window c g e).0)

  carried_by : (c : ℕ) (o : Option Grant) → at_channel gs c ≡ o → carried (moved n (take c gs)) c o ≡ moved n (take (c + 1) gs)
  carried_by c None e = sym (moved_skip n gs c e)
  carried_by c (Some g) e = sym (moved_one n gs routed valid c g e)

  arrivals_more : (c : ℕ) → arrivals n gs (c + 1) ≡ arrivals n gs c ++ arrive n c (at_channel gs c)
  unfolding arrivals
  arrivals_more c = ap (arrivals n gs) (add-one c)

  module _ (m : Net) (c : ℕ) (at : m ≡ moved n (take c gs)) where
    pub granted_now : Granted m c (get_or gs c None)
    granted_now = subst (λ t. Granted t c (at_channel gs c)) (sym at) (granted_by c (at_channel gs c) refl)

    pub carried_on : (m' : Net) → m' ≡ carried m c (get_or gs c None) → m' ≡ moved n (take (c + 1) gs)
    carried_on m' e = e ∙ ap (λ t. carried t c (at_channel gs c)) at ∙ carried_by c (at_channel gs c) refl

    pub counted_on : (d r : ℕ) → d ≡ length (arrivals n gs c) → r ≡ length (arrive m c (get_or gs c None)) → d + r ≡ length (arrivals n gs (c + 1))
    counted_on d r de re =
        let one : length (arrive m c (at_channel gs c)) ≡ length (arrive n c (at_channel gs c)) =
        ap length (ap (λ t. arrive t c (at_channel gs c)) at ∙ sym (arrivals_one n gs routed valid c)) in
        omega (arith, ap length (arrivals_more c), length-append (arrivals n gs c) (arrive n c (at_channel gs c)), one, de, re)

pub none_moved : (n : Net) (gs : List (Option Grant)) → (n ≡ moved n (take 0 gs)) × (◌≡◌ {A = ℕ} 0 (length (arrivals n gs 0)))
unfolding arrivals
none_moved n gs = (sym (moved_none n), refl)

pub all_moved : (n m : Net) (gs : List (Option Grant)) (c d : ℕ) → length gs ≡ 320 → 320 ≤ c → c ≤ 320 → m ≡ moved n (take c gs) → d ≡ length (arrivals n gs c) →
    (d ≡ length (arrivals n gs 320)) × (m ≡ moved n gs)
all_moved n m gs c d long l u e f =
    let q : c ≡ 320 = omega arith in
    (f ∙ ap (λ k. length (arrivals n gs k)) q, e ∙ moved_all n gs c (omega arith))
