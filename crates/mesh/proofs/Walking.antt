-- A walk node by node gives the legs of the route.
use Rattle.std.proofs.Common.{◌≡◌, ℕ, zero, suc, ◌+◌, ◌-◌, ◌<◌, ◌≤◌, List, [], ◌∷◌, length, sym, refl, ap, ◌∙◌, inl, inr, arith}
use Rattle.std.specs.List.{range_with_len}
use Rattle.std.proofs.lemmas.Bool.{lt-ltb, le-ltb, cases_lt}
use Rattle.mesh.specs.Numbering.{at, leaving}
use Rattle.mesh.specs.Routes.{counting_down, up_to, down_to, route, hops}
use Rattle.mesh.specs.Walks.{towards, onward}
use Rattle.mesh.specs.declared.node.Node.{Node}
use Rattle.mesh.specs.declared.node.Heading.{Heading}
use Rattle.mesh.specs.declared.node.Heading.TheVariants.{RisingX, FallingX, RisingY, FallingY, Out}

-- the first n channels of the walk from a to b
abbrev pub walk : ℕ → Node → Node → ℕ → List ℕ
walk k a b zero = []
walk k a b (suc n) = leaving k a (towards a b) ∷ walk k (onward a b) b n

-- the way on from a to b, by what it does
pub data Way (a b : Node) : Heading → Node → Type 0 where
  right : a.x < b.x → Way a b RisingX (at (a.x + 1) a.y)
  left : b.x < a.x → Way a b FallingX (at (a.x - 1) a.y)
  higher : a.x ≡ b.x → a.y < b.y → Way a b RisingY (at a.x (a.y + 1))
  lower : a.x ≡ b.x → b.y < a.y → Way a b FallingY (at a.x (a.y - 1))
  arrived : a.x ≡ b.x → a.y ≡ b.y → Way a b Out a

pub way : (a b : Node) → Way a b (towards a b) (onward a b)
way a b =
    elim (cases_lt a.x b.x) [
      | inl p ↦ simp (lt-ltb a.x b.x p) (right p)
      | inr p ↦ elim (cases_lt b.x a.x) [
        | inl q ↦ simp (le-ltb a.x b.x p, lt-ltb b.x a.x q) (left q)
        | inr q ↦ let e : a.x ≡ b.x = omega arith in elim (cases_lt a.y b.y) [
          | inl r ↦ simp (le-ltb a.x b.x p, le-ltb b.x a.x q, lt-ltb a.y b.y r) (higher e r)
          | inr r ↦ elim (cases_lt b.y a.y) [
            | inl s ↦ simp (le-ltb a.x b.x p, le-ltb b.x a.x q, le-ltb a.y b.y r, lt-ltb b.y a.y s) (lower e s)
            | inr s ↦ simp (le-ltb a.x b.x p, le-ltb b.x a.x q, le-ltb a.y b.y r, le-ltb b.y a.y s) (arrived e (omega arith))
          ]
        ]
      ]
    ]

-- the numbers passed, one step on and at the end
up_more : (a b : ℕ) → a < b → up_to a b ≡ a ∷ up_to (a + 1) b
up_more a b p = let e : b - a ≡ suc (b - (a + 1)) = omega arith in ap (range_with_len a) e

up_none : (a b : ℕ) → b ≤ a → up_to a b ≡ []
up_none a b p = let e : b - a ≡ 0 = omega arith in ap (range_with_len a) e

down_more : (a b : ℕ) → b < a → down_to a b ≡ a ∷ down_to (a - 1) b
down_more a b p = let e : a - b ≡ suc (a - 1 - b) = omega arith in ap (counting_down a) e

down_none : (a b : ℕ) → a ≤ b → down_to a b ≡ []
down_none a b p = let e : a - b ≡ 0 = omega arith in ap (counting_down a) e

-- a route that is not at its end: one channel, then the route from the next node
pub route_more : (k : ℕ) (a b : Node) (h : Heading) (n : Node) (d : ℕ) → Way a b h n → hops a b ≡ suc (suc d) →
    route k a b ≡ leaving k a h ∷ route k n b
unfolding route
route_more k a b _ _ d (right p) e =
    simp (up_more a.x b.x p, down_none a.x b.x (omega arith), down_none (a.x + 1) b.x (omega arith))
route_more k a b _ _ d (left p) e =
    simp (down_more a.x b.x p, up_none a.x b.x (omega arith), up_none (a.x - 1) b.x (omega arith))
route_more k a b _ _ d (higher q p) e =
    simp (
      q,
      up_none b.x b.x (omega arith),
      down_none b.x b.x (omega arith),
      up_more a.y b.y p,
      down_none a.y b.y (omega arith),
      down_none (a.y + 1) b.y (omega arith),
    )
route_more k a b _ _ d (lower q p) e =
    simp (
      q,
      up_none b.x b.x (omega arith),
      down_none b.x b.x (omega arith),
      down_more a.y b.y p,
      up_none a.y b.y (omega arith),
      up_none (a.y - 1) b.y (omega arith),
    )
route_more k a b _ _ d (arrived q p) e = absurd (omega arith)

pub hops_more : (a b : Node) (h : Heading) (n : Node) (d : ℕ) → Way a b h n → hops a b ≡ suc (suc d) → hops n b ≡ suc d
hops_more a b _ _ d (right p) e = omega arith
hops_more a b _ _ d (left p) e = omega arith
hops_more a b _ _ d (higher q p) e = omega arith
hops_more a b _ _ d (lower q p) e = omega arith
hops_more a b _ _ d (arrived q p) e = absurd (omega arith)

-- a route at its end: out
pub route_last : (k : ℕ) (a b : Node) (h : Heading) (n : Node) → Way a b h n → hops a b ≡ 1 → route k a b ≡ leaving k a h ∷ []
unfolding route
route_last k a b _ _ (right p) e = absurd (omega arith)
route_last k a b _ _ (left p) e = absurd (omega arith)
route_last k a b _ _ (higher q p) e = absurd (omega arith)
route_last k a b _ _ (lower q p) e = absurd (omega arith)
route_last k a b _ _ (arrived q p) e =
    simp (
      q,
      p,
      up_none b.x b.x (omega arith),
      down_none b.x b.x (omega arith),
      up_none b.y b.y (omega arith),
      down_none b.y b.y (omega arith),
    )

walked : (k n : ℕ) (a b : Node) → hops a b ≡ suc n → walk k a b (suc n) ≡ route k a b
walked k zero a b e = sym (route_last k a b _ _ (way a b) e)
walked k (suc n) a b e =
    ap (λ cs. leaving k a (towards a b) ∷ cs) (walked k n (onward a b) b (hops_more a b _ _ n (way a b) e))
    ∙ sym (route_more k a b _ _ n (way a b) e)

-- as many steps as there are hops walk the route
pub walk_is_route : (k : ℕ) (a b : Node) → walk k a b (hops a b) ≡ route k a b
walk_is_route k a b =
    let d : ℕ = hops a b - 1 in
    let e : hops a b ≡ suc d = omega arith in
    ap (walk k a b) e ∙ walked k d a b e

pub length_walk : (k n : ℕ) (a b : Node) → length (walk k a b n) ≡ n
length_walk k zero a b = refl
length_walk k (suc n) a b = ap suc (length_walk k n (onward a b) b)

pub length_route : (k : ℕ) (a b : Node) → length (route k a b) ≡ hops a b
length_route k a b = sym (ap length (walk_is_route k a b)) ∙ length_walk k (hops a b) a b

-- the walk that is left after i of n steps, one step on
pub walk_more : (k n i : ℕ) (a b : Node) → i < n → walk k a b (n - i) ≡ leaving k a (towards a b) ∷ walk k (onward a b) b (n - (i + 1))
walk_more k n i a b l = let e : n - i ≡ suc (n - (i + 1)) = omega arith in ap (walk k a b) e
