-- The walk from node to node joins, rises, and ends with the out channel of its target.
use Rattle.std.proofs.Common.{◌≡◌, ℕ, zero, suc, ◌-◌, ◌<◌, ◌≤◌, true, ltb, leb, length, get_or, Some, sym, refl, ap, ◌∙◌, subst, add-one, arith}
use Rattle.std.proofs.lemmas.Bool.{and_from, lt-ltb, le-leb}
use Rattle.routes.specs.Channels.{known, rises}
use Rattle.routes.proofs.Routes.{passes}
use Rattle.mesh.specs.Numbering.{inside, per_heading, leaving}
use Rattle.mesh.specs.Routes.{hops, route}
use Rattle.mesh.specs.Travels.{Step, Leaves, Joins, Travels}
use Rattle.mesh.specs.Walks.{towards, onward}
use Rattle.mesh.specs.declared.node.Node.{Node}
use Rattle.mesh.specs.declared.node.Heading.{Heading}
use Rattle.mesh.specs.declared.node.Heading.TheVariants.{Out}
use Rattle.mesh.proofs.Numbers.{Open, Band, in_band, inside_parts, inside_from, same_node, channel_there, below_320}
use Rattle.mesh.proofs.Walking.{walk, Way, right, left, higher, lower, arrived, way, hops_more, walk_is_route, length_walk}

abbrev In : ℕ → Node → Type 0
In k a = (a.x < k) × (a.y < k)

-- the way on stays in the mesh
way_open : (k : ℕ) (a b : Node) (h : Heading) (n : Node) → Way a b h n → In k a → In k b → Open k a h
way_open k a b _ _ (right p) i j = (i.1, omega arith)
way_open k a b _ _ (left p) i j = (i.1, i.0, omega arith)
way_open k a b _ _ (higher q p) i j = (i.0, omega arith)
way_open k a b _ _ (lower q p) i j = (i.0, i.1, omega arith)
way_open k a b _ _ (arrived q p) i j = i

pub way_in : (k : ℕ) (a b : Node) (h : Heading) (n : Node) → Way a b h n → In k a → In k b → In k n
way_in k a b _ _ (right p) i j = (omega arith, i.1)
way_in k a b _ _ (left p) i j = (omega arith, i.1)
way_in k a b _ _ (higher q p) i j = (i.0, omega arith)
way_in k a b _ _ (lower q p) i j = (i.0, omega arith)
way_in k a b _ _ (arrived q p) i j = i

way_step : (a b : Node) (h : Heading) (n : Node) (d : ℕ) → Way a b h n → hops a b ≡ suc (suc d) → Step h a n
way_step a b _ _ d (right p) e = (refl, refl)
way_step a b _ _ d (left p) e = (omega arith, refl)
way_step a b _ _ d (higher q p) e = (refl, refl)
way_step a b _ _ d (lower q p) e = (refl, omega arith)
way_step a b _ _ d (arrived q p) e = absurd (omega arith)

-- the channel after it has a higher number: in the same heading the next one, in a later heading any
higher_number : (k : ℕ) (a b : Node) (h g : Heading) (n m : Node) (d : ℕ) → Way a b h n → Way n b g m → hops a b ≡ suc (suc d) →
    Open k a h → Band (per_heading k) h (leaving k a h) → Band (per_heading k) g (leaving k n g) → leaving k a h < leaving k n g
higher_number k a b _ _ _ _ d (right p) (right q) e o s t = omega arith
higher_number k a b _ _ _ _ d (right p) (left q) e o s t = absurd (omega arith)
higher_number k a b _ _ _ _ d (right p) (higher q r) e o s t = omega arith
higher_number k a b _ _ _ _ d (right p) (lower q r) e o s t = omega arith
higher_number k a b _ _ _ _ d (right p) (arrived q r) e o s t = omega arith
higher_number k a b _ _ _ _ d (left p) (right q) e o s t = absurd (omega arith)
higher_number k a b _ _ _ _ d (left p) (left q) e o s t = omega arith
higher_number k a b _ _ _ _ d (left p) (higher q r) e o s t = omega arith
higher_number k a b _ _ _ _ d (left p) (lower q r) e o s t = omega arith
higher_number k a b _ _ _ _ d (left p) (arrived q r) e o s t = omega arith
higher_number k a b _ _ _ _ d (higher u p) (right q) e o s t = absurd (omega arith)
higher_number k a b _ _ _ _ d (higher u p) (left q) e o s t = absurd (omega arith)
higher_number k a b _ _ _ _ d (higher u p) (higher q r) e o s t = omega arith
higher_number k a b _ _ _ _ d (higher u p) (lower q r) e o s t = absurd (omega arith)
higher_number k a b _ _ _ _ d (higher u p) (arrived q r) e o s t = omega arith
higher_number k a b _ _ _ _ d (lower u p) (right q) e o s t = absurd (omega arith)
higher_number k a b _ _ _ _ d (lower u p) (left q) e o s t = absurd (omega arith)
higher_number k a b _ _ _ _ d (lower u p) (higher q r) e o s t = absurd (omega arith)
higher_number k a b _ _ _ _ d (lower u p) (lower q r) e o s t = omega arith
higher_number k a b _ _ _ _ d (lower u p) (arrived q r) e o s t = omega arith
higher_number k a b _ _ _ _ d (arrived u p) w e o s t = absurd (omega arith)

-- the facts of the step from a on a walk to b
step_open : (k : ℕ) (a b : Node) → In k a → In k b → Open k a (towards a b)
step_open k a b i j = way_open k a b _ _ (way a b) i j

pub step_in : (k : ℕ) (a b : Node) → In k a → In k b → In k (onward a b)
step_in k a b i j = way_in k a b _ _ (way a b) i j

step_rises : (k : ℕ) (a b : Node) (d : ℕ) → hops a b ≡ suc (suc d) → In k a → In k b →
    leaving k a (towards a b) < leaving k (onward a b) (towards (onward a b) b)
step_rises k a b d e i j =
    let n = onward a b in
    let o = step_open k a b i j in
    let p = step_open k n b (step_in k a b i j) j in
    higher_number k a b _ _ n _ d (way a b) (way n b) e o (in_band k a (towards a b) o) (in_band k n (towards n b) p)

step_leaves : (k : ℕ) (a b : Node) → In k a → In k b → Leaves k (leaving k a (towards a b)) a
step_leaves k a b i j = record { heading = towards a b; number = channel_there k a (towards a b) (step_open k a b i j) }

step_joins : (k : ℕ) (a b : Node) (d : ℕ) → hops a b ≡ suc (suc d) → In k a → In k b →
    Joins k (leaving k a (towards a b)) (leaving k (onward a b) (towards (onward a b) b))
step_joins k a b d e i j =
    let n = onward a b in
    let l = step_in k a b i j in
    record {
      source = a;
      meeting = n;
      runs = record {
        heading = towards a b;
        number = channel_there k a (towards a b) (step_open k a b i j);
        step = way_step a b _ _ d (way a b) e;
        arrives = inside_from k n l.0 l.1;
      };
      leaves = step_leaves k n b l j;
    }

-- the walk as a whole
walk_known : (k n : ℕ) (a b : Node) → k ≤ 8 → In k a → In k b → known (walk k a b n) ≡ true
walk_known k zero a b few i j = refl
walk_known k (suc n) a b few i j =
    let c = leaving k a (towards a b) in
    and_from (ltb c 320) (known (walk k (onward a b) b n))
    (lt-ltb c 320 (below_320 k a (towards a b) few (step_open k a b i j)))
    (walk_known k n (onward a b) b few (step_in k a b i j) j)

walk_rises : (k n : ℕ) (a b : Node) → hops a b ≡ suc n → In k a → In k b → rises (walk k a b (suc n)) ≡ true
walk_rises k zero a b e i j = refl
walk_rises k (suc n) a b e i j =
    let next = onward a b in
    let c = leaving k a (towards a b) in
    let d = leaving k next (towards next b) in
    and_from (ltb c d) (rises (walk k next b (suc n)))
    (lt-ltb c d (step_rises k a b n e i j))
    (walk_rises k n next b (hops_more a b _ _ n (way a b) e) (step_in k a b i j) j)

walk_joins : (k n : ℕ) (a b : Node) → hops a b ≡ suc n → In k a → In k b → (i : ℕ) → i < n →
    Joins k (get_or (walk k a b (suc n)) i 0) (get_or (walk k a b (suc n)) (suc i) 0)
walk_joins k zero a b e p q i l = absurd (omega arith)
walk_joins k (suc n) a b e p q zero l = step_joins k a b n e p q
walk_joins k (suc n) a b e p q (suc i) l =
    walk_joins k n (onward a b) b (hops_more a b _ _ n (way a b) e) (step_in k a b p q) q i (omega arith)

out_at : (k : ℕ) (a b : Node) (h : Heading) (n : Node) → Way a b h n → hops a b ≡ 1 → leaving k a h ≡ leaving k b Out
out_at k a b _ _ (right p) e = absurd (omega arith)
out_at k a b _ _ (left p) e = absurd (omega arith)
out_at k a b _ _ (higher q p) e = absurd (omega arith)
out_at k a b _ _ (lower q p) e = absurd (omega arith)
out_at k a b _ _ (arrived q p) e = ap (λ c. leaving k c Out) (same_node a b q p)

walk_last : (k n : ℕ) (a b : Node) → hops a b ≡ suc n → get_or (walk k a b (suc n)) n 0 ≡ leaving k b Out
walk_last k zero a b e = out_at k a b _ _ (way a b) e
walk_last k (suc n) a b e = walk_last k n (onward a b) b (hops_more a b _ _ n (way a b) e)

-- few enough to be reserved
few : (k : ℕ) (a b : Node) → k ≤ 8 → In k a → In k b → hops a b ≤ 16
few k a b l i j = omega arith

walk_travels : (k n : ℕ) (a b : Node) → k ≤ 8 → hops a b ≡ suc n → In k a → In k b → Travels k a b (walk k a b (suc n))
walk_travels k n a b l e i j =
    let cs = walk k a b (suc n) in
    let long : length cs ≡ suc n = length_walk k (suc n) a b in
    let small : suc n ≤ 16 = omega (arith, few k a b l i j) in
    record {
      count = long ∙ sym e;
      reservable = passes cs
          (and_from (leb 1 (length cs)) (leb (length cs) 16) (le-leb 1 (length cs) (omega arith)) (le-leb (length cs) 16 (omega arith)))
          (walk_known k (suc n) a b l i j) (walk_rises k n a b e i j);
      joined = λ m q. subst (λ (t : ℕ). Joins k (get_or cs m 0) (get_or cs t 0)) (sym (add-one m)) (walk_joins k n a b e i j m (omega arith));
      first = step_leaves k a b i j;
      last =
          let at-end : length cs - 1 ≡ n = omega arith in
          channel_there k b Out j ∙ ap Some (sym (ap (λ m. get_or cs m 0) at-end ∙ walk_last k n a b e));
    }

-- the route between two nodes of a mesh travels from the one to the other
pub travels : (k : ℕ) (a b : Node) → k ≤ 8 → inside k a ≡ true → inside k b ≡ true → Travels k a b (route k a b)
travels k a b l i j =
    let e : hops a b ≡ suc (hops a b - 1) = omega arith in
    subst (Travels k a b) (sym (ap (walk k a b) e) ∙ walk_is_route k a b)
    (walk_travels k (hops a b - 1) a b l e (inside_parts k a i) (inside_parts k b j))
