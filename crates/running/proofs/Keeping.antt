-- What stays as it was where a network changes in one line, or in no route.
use Rattle.std.proofs.Common.{◌≡◌, ℕ, ◌<◌, true, ◌&&◌, ltb, ◌≢◌, ◌⊎◌, List, [], ◌∷◌, ◌++◌, length, get_or, set, is_some, sym, refl, ap, ◌∙◌, inl, inr}
use Rattle.std.proofs.lemmas.List.{get_or-set_same, get_or-set_other}
use Rattle.std.proofs.lemmas.Bool.{and_parts, and_from, cases_eq}
use Rattle.lanes.specs.Lanes.{rest_of}
use Rattle.lanes.specs.declared.flits.Flit.{Flit}
use Rattle.routes.specs.Crossings.{next_channel}
use Rattle.sources.specs.Lines.{Line}
use Rattle.running.specs.Nets.{Net, no_line, route, flows}
use Rattle.running.specs.Sounds.{goes_on, all_go_on}

-- a field that a changed line keeps stands in every line as it did
module _ {Y : Type 0} (field : Line → Y) (ls : List Line) (i : ℕ) (new : Line) (inside : i < length ls) where
  kept_by_cases : field new ≡ field (get_or ls i no_line) → (j : ℕ) → ((j ≡ i) ⊎ (j ≡ i → ⊥)) →
      field (get_or (set ls i new) j no_line) ≡ field (get_or ls j no_line)
  kept_by_cases same j (inl e) =
      ap (λ k. field (get_or (set ls i new) k no_line)) e ∙ ap field (get_or-set_same ls i new no_line inside) ∙ same ∙ ap (λ k. field (get_or ls k no_line)) (sym e)
  kept_by_cases same j (inr d) = let ne : j ≢ i = d in ap field (get_or-set_other ls i j new no_line ne)

  pub kept_field : field new ≡ field (get_or ls i no_line) → (j : ℕ) → field (get_or (set ls i new) j no_line) ≡ field (get_or ls j no_line)
  kept_field same j = kept_by_cases same j (cases_eq j i)

  -- and in the changed line itself it is the new one
  pub new_field : field (get_or (set ls i new) i no_line) ≡ field new
  new_field = ap field (get_or-set_same ls i new no_line inside)

  pub other_field : (j : ℕ) → (j ≡ i → ⊥) → field (get_or (set ls i new) j no_line) ≡ field (get_or ls j no_line)
  other_field j d = let ne : j ≢ i = d in ap field (get_or-set_other ls i j new no_line ne)

-- where two networks have the same routes, a buffer's flits go on in the one as in the other
pub all_alike : (m n : Net) → flows m ≡ flows n → ((j : ℕ) → route m j ≡ route n j) → (c : ℕ) (q : List Flit) → all_go_on m c q ≡ all_go_on n c q
all_alike m n e r c [] = refl
all_alike m n e r c (x ∷ xs) =
    λ i. (ltb x.flow (e i) && is_some (next_channel (r x.flow i) c)) && all_alike m n e r c xs i

-- a queue whose flits all go on, without its front and with one more that does
pub rest_goes_on : (n : Net) (c : ℕ) (q : List Flit) → all_go_on n c q ≡ true → all_go_on n c (rest_of q) ≡ true
rest_goes_on n c [] h = refl
rest_goes_on n c (x ∷ xs) h = (and_parts (goes_on n c x) (all_go_on n c xs) h).1

pub push_goes_on : (n : Net) (c : ℕ) (q : List Flit) (x : Flit) → all_go_on n c q ≡ true → goes_on n c x ≡ true → all_go_on n c (q ++ x ∷ []) ≡ true
push_goes_on n c [] x h e = and_from (goes_on n c x) true e refl
push_goes_on n c (y ∷ ys) x h e =
    let p = and_parts (goes_on n c y) (all_go_on n c ys) h in
    and_from (goes_on n c y) (all_go_on n c (ys ++ x ∷ [])) p.0 (push_goes_on n c ys x p.1 e)
