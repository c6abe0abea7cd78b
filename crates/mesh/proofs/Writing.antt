-- A walk that is written place by place into a lent list.
use Rattle.std.proofs.Common.{◌≡◌, ℕ, ◌+◌, ◌-◌, ◌<◌, ◌≤◌, Bool, true, false, cond, ◌&&◌, leb, List, [], ◌∷◌, ◌++◌, length, take, drop, set, Ok, Err, sym, refl, ap, ◌∙◌, subst, arith}
use Rattle.std.proofs.lemmas.List.{append-nil, append_assoc, take_all, take_at, take_more_set, drop-set-lt, drop-drop}
use Rattle.std.proofs.lemmas.Bool.{and_parts, and_from, le-leb, lt-leb, cond-true, cond-false}
use Rattle.mesh.specs.Numbering.{inside, leaving}
use Rattle.mesh.specs.Routes.{route, hops, hops_answer, route_answer}
use Rattle.mesh.specs.Travels.{Travels}
use Rattle.mesh.specs.Walks.{towards, onward}
use Rattle.mesh.specs.declared.node.Node.{Node}
use Rattle.mesh.specs.declared.refusal.MeshRefusal.TheVariants.{OutOfRange, ListTooShort}
use Rattle.mesh.proofs.Numbers.{inside_parts, inside_from}
use Rattle.mesh.proofs.Travelling.{step_in, travels}
use Rattle.mesh.proofs.Walking.{walk, walk_is_route, walk_more, length_route}

-- two nodes between which the hops were counted
pub record Counted (k : ℕ) (a b : Node) (n : ℕ) : Type 0 where
  pub starts : inside k a ≡ true
  pub ends : inside k b ≡ true
  pub many : n ≡ hops a b

ok_parts : (t : Bool) (n m : ℕ) → Ok n ≡ cond t (Ok m) (Err OutOfRange) → (t ≡ true) × (n ≡ m)
ok_parts true n m e = (refl, cc)
ok_parts false n m e = absurd cc

pub counted : (k : ℕ) (a b : Node) (n : ℕ) → Ok n ≡ hops_answer k a b → Counted k a b n
counted k a b n e =
    let p = ok_parts (inside k a && inside k b) n (hops a b) e in
    let q = and_parts (inside k a) (inside k b) p.0 in
    record { starts = q.0; ends = q.1; many = p.1 }

-- the answer at a list of l places
both_in : (k : ℕ) (a b : Node) (l n : ℕ) → Counted k a b n →
    route_answer k a b l ≡ cond (leb (length (route k a b)) l) (Ok (length (route k a b))) (Err ListTooShort)
both_in k a b l n c = cond-true (inside k a && inside k b) _ _ (and_from (inside k a) (inside k b) c.starts c.ends)

pub too_short : (k : ℕ) (a b : Node) (l n : ℕ) → Counted k a b n → l < n → Err ListTooShort ≡ route_answer k a b l
too_short k a b l n c p =
    sym (both_in k a b l n c ∙ cond-false (leb (length (route k a b)) l) _ _ (lt-leb (length (route k a b)) l (omega (arith, length_route k a b))))

pub long_enough : (k : ℕ) (a b : Node) (l n : ℕ) → Counted k a b n → n ≤ l → Ok n ≡ route_answer k a b l
long_enough k a b l n c p =
    let e : length (route k a b) ≡ n = length_route k a b ∙ sym c.many in
    sym (both_in k a b l n c ∙ cond-true (leb (length (route k a b)) l) _ _ (le-leb (length (route k a b)) l (omega arith)) ∙ ap Ok e)

-- one place is written: the next node is inside, and what is written and the walk that is left give the whole walk
pub next_inside : (k : ℕ) (a b next : Node) → next ≡ onward a b → inside k a ≡ true → inside k b ≡ true → inside k next ≡ true
next_inside k a b next e i j =
    let p = step_in k a b (inside_parts k a i) (inside_parts k b j) in
    ap (inside k) e ∙ inside_from k (onward a b) p.0 p.1

pub written_more : (k n i c : ℕ) (a b next : Node) (cs all : List ℕ) →
    next ≡ onward a b → c ≡ leaving k a (towards a b) → i < n → n ≤ length cs → take i cs ++ walk k a b (n - i) ≡ all →
    take (i + 1) (set cs i c) ++ walk k next b (n - (i + 1)) ≡ all
written_more k n i c a b next cs all p q l m e =
    let rest = walk k next b (n - (i + 1)) in
    let left : walk k a b (n - i) ≡ c ∷ rest =
    walk_more k n i a b l ∙ sym (ap (λ d. d ∷ walk k (onward a b) b (n - (i + 1))) q) ∙ sym (ap (λ d. c ∷ walk k d b (n - (i + 1))) p) in
    ap (λ t. t ++ rest) (take_more_set cs i c (omega arith))
    ∙ append_assoc (take i cs) (c ∷ []) rest
    ∙ sym (ap (λ t. take i cs ++ t) left)
    ∙ e

-- and what lies behind that place stays
pub rest_more : (i c : ℕ) (cs old : List ℕ) → drop i cs ≡ drop i old → drop (i + 1) (set cs i c) ≡ drop (i + 1) old
rest_more i c cs old e = drop-set-lt (i + 1) cs i c (omega arith) ∙ sym (drop-drop 1 i cs) ∙ ap (drop 1) e ∙ drop-drop 1 i old

-- all places are written
pub written_all : (k n : ℕ) (a b h : Node) (i : ℕ) (cs : List ℕ) →
    Counted k a b n → length cs ≡ n → n ≤ i → take i cs ++ walk k h b (n - i) ≡ walk k a b n → cs ≡ route k a b
written_all k n a b h i cs c l m e =
    let none : n - i ≡ 0 = omega arith in
    sym (take_all i cs (omega arith))
    ∙ sym (append-nil (take i cs))
    ∙ sym (ap (λ j. take i cs ++ walk k h b j) none)
    ∙ e
    ∙ ap (walk k a b) c.many
    ∙ walk_is_route k a b

pub travelled : (k n : ℕ) (a b : Node) (cs rest : List ℕ) → k ≤ 8 → Counted k a b n → cs ≡ route k a b ++ rest → Travels k a b (take n cs)
travelled k n a b cs rest few c e =
    subst (Travels k a b)
    (sym (ap (take n) e ∙ take_at (route k a b) rest n (length_route k a b ∙ sym c.many)))
    (travels k a b few c.starts c.ends)
