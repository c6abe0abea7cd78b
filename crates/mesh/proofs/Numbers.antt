-- The numbers of the channels: each heading has numbers of its own, and in it each node has one.
use Rattle.std.proofs.Common.{◌≡◌, ℕ, ◌+◌, ◌-◌, ◌*◌, ◌/◌, ◌%◌, ◌<◌, ◌≤◌, true, cond, ◌&&◌, ltb, Some, None, sym, refl, ap, ◌∙◌, subst, mul-le-mul, arith}
use lib.Arith.{digits_lt, digits_div, digits_mod}
use Rattle.std.proofs.lemmas.Option.{cond_some}
use Rattle.std.proofs.lemmas.Bool.{and_parts, and_from, ltb-true, lt-ltb, le-ltb, cond-true, cond-false}
use Rattle.mesh.specs.Numbering.{at, inside, per_heading, leaving, leads, channel_of, Unambiguous}
use Rattle.mesh.specs.declared.node.Node.{Node}
use Rattle.mesh.specs.declared.node.Heading.{Heading}
use Rattle.mesh.specs.declared.node.Heading.TheVariants.{RisingX, FallingX, RisingY, FallingY, Out}

pub inside_parts : (k : ℕ) (a : Node) → inside k a ≡ true → (a.x < k) × (a.y < k)
inside_parts k a e =
    let p = and_parts (ltb a.x k) (ltb a.y k) e in
    (ltb-true a.x k p.0, ltb-true a.y k p.1)

-- what the heading asks of a node that it leads from
abbrev pub Open : ℕ → Node → Heading → Type 0
Open k a RisingX = (a.y < k) × (a.x + 1 < k)
Open k a FallingX = (a.y < k) × (a.x < k) × (0 < a.x)
Open k a RisingY = (a.x < k) × (a.y + 1 < k)
Open k a FallingY = (a.x < k) × (a.y < k) × (0 < a.y)
Open k a Out = (a.x < k) × (a.y < k)

pub open_from : (k : ℕ) (a : Node) (h : Heading) → inside k a ≡ true → leads k a h ≡ true → Open k a h
open_from k a RisingX e l = ((inside_parts k a e).1, ltb-true _ _ l)
open_from k a FallingX e l = ((inside_parts k a e).1, (inside_parts k a e).0, ltb-true _ _ l)
open_from k a RisingY e l = ((inside_parts k a e).0, ltb-true _ _ l)
open_from k a FallingY e l = ((inside_parts k a e).0, (inside_parts k a e).1, ltb-true _ _ l)
open_from k a Out e l = inside_parts k a e

-- the numbers of a heading
abbrev pub Band : ℕ → Heading → ℕ → Type 0
Band m RisingX c = c < m
Band m FallingX c = (m ≤ c) × (c < 2 * m)
Band m RisingY c = (2 * m ≤ c) × (c < 3 * m)
Band m FallingY c = (3 * m ≤ c) × (c < 4 * m)
Band m Out c = 4 * m ≤ c

pub in_band : (k : ℕ) (a : Node) (h : Heading) → Open k a h → Band (per_heading k) h (leaving k a h)
in_band k a RisingX o = digits_lt o.0 (omega arith)
in_band k a FallingX o = (omega arith, omega (arith, digits_lt {q = a.y} {m = k} {r = k - 1 - a.x} {c = k - 1} o.0 (omega arith)))
in_band k a RisingY o = (omega arith, omega (arith, digits_lt {q = a.x} {m = k} {r = a.y} {c = k - 1} o.0 (omega arith)))
in_band k a FallingY o = (omega arith, omega (arith, digits_lt {q = a.x} {m = k} {r = k - 1 - a.y} {c = k - 1} o.0 (omega arith)))
in_band k a Out o = omega arith

-- the heading of a number
heading_of : ℕ → ℕ → Heading
heading_of m c = cond (ltb c m) RisingX (cond (ltb c (2 * m)) FallingX (cond (ltb c (3 * m)) RisingY (cond (ltb c (4 * m)) FallingY Out)))

heading_is : (m : ℕ) (h : Heading) (c : ℕ) → Band m h c → heading_of m c ≡ h
unfolding heading_of
heading_is m RisingX c o = cond-true _ _ _ (lt-ltb c m o)
heading_is m FallingX c o = cond-false _ _ _ (le-ltb c m o.0) ∙ cond-true _ _ _ (lt-ltb c (2 * m) o.1)
heading_is m RisingY c o =
    cond-false _ _ _ (le-ltb c m (omega arith)) ∙ cond-false _ _ _ (le-ltb c (2 * m) o.0) ∙ cond-true _ _ _ (lt-ltb c (3 * m) o.1)
heading_is m FallingY c o =
    cond-false _ _ _ (le-ltb c m (omega arith)) ∙ cond-false _ _ _ (le-ltb c (2 * m) (omega arith)) ∙ cond-false _ _ _ (le-ltb c (3 * m) o.0)
    ∙ cond-true _ _ _ (lt-ltb c (4 * m) o.1)
heading_is m Out c o =
    cond-false _ _ _ (le-ltb c m (omega arith)) ∙ cond-false _ _ _ (le-ltb c (2 * m) (omega arith)) ∙ cond-false _ _ _ (le-ltb c (3 * m) (omega arith))
    ∙ cond-false _ _ _ (le-ltb c (4 * m) o)

-- a row and a place in it are told from one number
cells : (w : ℕ) (q r p s : ℕ) → r < w → s < w → q * w + r ≡ p * w + s → (q ≡ p) × (r ≡ s)
cells w q r p s l m e =
    (sym (digits_div q l) ∙ ap (λ n. n / w) e ∙ digits_div p m, sym (digits_mod q l) ∙ ap (λ n. n % w) e ∙ digits_mod p m)

pub same_node : (a b : Node) → a.x ≡ b.x → a.y ≡ b.y → a ≡ b
same_node a b p q = ap (λ x. at x a.y) p ∙ ap (λ y. at b.x y) q

node_is : (k : ℕ) (a b : Node) (h : Heading) → Open k a h → Open k b h → leaving k a h ≡ leaving k b h → a ≡ b
node_is k a b RisingX o p e =
    let t = cells (k - 1) a.y a.x b.y b.x (omega arith) (omega arith) e in same_node a b t.1 t.0
node_is k a b FallingX o p e =
    let t = cells (k - 1) a.y (k - 1 - a.x) b.y (k - 1 - b.x) (omega arith) (omega arith) (omega arith) in
    same_node a b (omega arith) t.0
node_is k a b RisingY o p e =
    let t = cells (k - 1) a.x a.y b.x b.y (omega arith) (omega arith) (omega arith) in same_node a b t.0 t.1
node_is k a b FallingY o p e =
    let t = cells (k - 1) a.x (k - 1 - a.y) b.x (k - 1 - b.y) (omega arith) (omega arith) (omega arith) in
    same_node a b t.0 (omega arith)
node_is k a b Out o p e =
    let t = cells k a.y a.x b.y b.x o.0 p.0 (omega arith) in same_node a b t.1 t.0

-- a channel that is there: its heading leads on from its node, and this is its number
pub record There (k : ℕ) (a : Node) (h : Heading) (c : ℕ) : Type 0 where
  pub opens : Open k a h
  pub number : leaving k a h ≡ c

pub there : (k : ℕ) (a : Node) (h : Heading) (c : ℕ) → channel_of k a h ≡ Some c → There k a h c
there k a h c e =
    let s = cond_some (inside k a && leads k a h) (leaving k a h) c e in
    let p = and_parts (inside k a) (leads k a h) s.0 in
    record { opens = open_from k a h p.0 p.1; number = s.1 }

pub unambiguous : (k : ℕ) → Unambiguous k
unambiguous k a b g h c d e =
    let s = there k a g c d in
    let t = there k b h c e in
    let headed : (n : Node) (f : Heading) → There k n f c → heading_of (per_heading k) c ≡ f =
    λ n f u. ap (heading_of (per_heading k)) (sym u.number) ∙ heading_is (per_heading k) f (leaving k n f) (in_band k n f u.opens) in
    let same : g ≡ h = sym (headed a g s) ∙ headed b h t in
    let back : There k b g c = subst (λ f. There k b f c) (sym same) t in
    (node_is k a b g s.opens back.opens (s.number ∙ sym back.number), same)

pub inside_from : (k : ℕ) (a : Node) → a.x < k → a.y < k → inside k a ≡ true
inside_from k a p q = and_from (ltb a.x k) (ltb a.y k) (lt-ltb a.x k p) (lt-ltb a.y k q)

leads_from : (k : ℕ) (a : Node) (h : Heading) → Open k a h → (inside k a ≡ true) × (leads k a h ≡ true)
leads_from k a RisingX o = (inside_from k a (omega arith) o.0, lt-ltb (a.x + 1) k o.1)
leads_from k a FallingX o = (inside_from k a o.1 o.0, lt-ltb 0 a.x o.2)
leads_from k a RisingY o = (inside_from k a o.0 (omega arith), lt-ltb (a.y + 1) k o.1)
leads_from k a FallingY o = (inside_from k a o.0 o.1, lt-ltb 0 a.y o.2)
leads_from k a Out o = (inside_from k a o.0 o.1, refl)

pub channel_there : (k : ℕ) (a : Node) (h : Heading) → Open k a h → channel_of k a h ≡ Some (leaving k a h)
channel_there k a h o =
    let p = leads_from k a h o in
    cond-true (inside k a && leads k a h) (Some (leaving k a h)) None (and_from (inside k a) (leads k a h) p.0 p.1)

-- every channel of a mesh is one of the 320
pub below_320 : (k : ℕ) (a : Node) (h : Heading) → k ≤ 8 → Open k a h → leaving k a h < 320
below_320 k a h few o =
    let short : k - 1 ≤ 7 = omega arith in
    let m : per_heading k ≤ 8 * 7 = mul-le-mul few short in
    bounded h o (in_band k a h o) m
  where
    bounded : (h : Heading) → Open k a h → Band (per_heading k) h (leaving k a h) → per_heading k ≤ 56 → leaving k a h < 320
    bounded RisingX o b m = omega arith
    bounded FallingX o b m = omega arith
    bounded RisingY o b m = omega arith
    bounded FallingY o b m = omega arith
    bounded Out o b m =
        let s : k * k ≤ 8 * 8 = mul-le-mul few few in
        omega (arith, digits_lt {q = a.y} {m = k} {r = a.x} {c = k} o.1 o.0)
