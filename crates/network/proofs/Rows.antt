-- The flows of a floor, read off its table of sources and changed there.
use Rattle.std.proofs.Common.{◌≡◌, ℕ, zero, suc, ◌<◌, cond, List, [], ◌∷◌, get_or, take, set, sym, refl, ap, ◌∙◌, subst, arith}
use Rattle.std.proofs.lemmas.Bool.{lt-ltb}
use Rattle.std.proofs.lemmas.List.{length-take-le, get_or-take, get_or_default}
use Rattle.sources.specs.Lines.{Line, offered}
use Rattle.sources.specs.Sources.{SoundLine}
use Rattle.running.specs.Nets.{flows, line, no_line}
use Rattle.running.specs.Offers.{with_lines, with_line, offer_leaves}
use Rattle.network.specs.Floors.{net_of}
use Rattle.network.specs.Lines.{SoundLines}
use Rattle.network.specs.declared.floor.Floor.{Floor}
use Rattle.network.proofs.Lines.{sound_set}

pub flow_count : (f : Floor) → flows (net_of f) ≡ f.count
flow_count f = length-take-le f.count f.sources (omega (arith, f.few, f.sized))

pub line_at : (f : Floor) (i : ℕ) (d : Line) → i < f.count → line (net_of f) i ≡ get_or f.sources i d
line_at f i d l = get_or-take f.count f.sources i no_line l ∙ get_or_default f.sources i no_line d (omega (arith, f.few, f.sized))

-- a row changed
take_set_in : {X : Type 0} (n : ℕ) (xs : List X) (i : ℕ) (y : X) → take n (set xs i y) ≡ set (take n xs) i y
take_set_in zero xs i y = refl
take_set_in (suc n) [] i y = refl
take_set_in (suc n) (x ∷ xs) zero y = refl
take_set_in (suc n) (x ∷ xs) (suc i) y = ap (λ t. x ∷ t) (take_set_in n xs i y)

pub row_changed : (f : Floor) (i : ℕ) (d l : Line) (F : Line → Line) → i < f.count → l ≡ F (get_or f.sources i d) →
    with_lines (net_of f) (take f.count (set f.sources i l)) ≡ with_line (net_of f) i (F (line (net_of f) i))
row_changed f i d l F low e =
    ap (with_lines (net_of f)) (take_set_in f.count f.sources i l ∙ ap (set (take f.count f.sources) i) (e ∙ ap F (sym (line_at f i d low))))

pub row_offered : (f : Floor) (i size : ℕ) (d l : Line) → i < f.count → l ≡ offered (get_or f.sources i d) size →
    with_lines (net_of f) (take f.count (set f.sources i l)) ≡ offer_leaves (net_of f) i size
row_offered f i size d l low e =
    row_changed f i d l (λ m. offered m size) low e
    ∙ sym (ap (λ b. cond b (with_line (net_of f) i (offered (line (net_of f) i) size)) (net_of f)) (lt-ltb i (flows (net_of f)) (omega (arith, flow_count f))))

pub row_sound : (f : Floor) (i : ℕ) (l : Line) → SoundLine l → SoundLines (take f.count (set f.sources i l))
row_sound f i l one = subst SoundLines (sym (take_set_in f.count f.sources i l)) (sound_set (take f.count f.sources) i l f.lines one)
