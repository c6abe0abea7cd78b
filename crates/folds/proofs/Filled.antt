use Rattle.std.proofs.Common.{◌≡◌, ℕ, zero, suc, ◌+◌, ◌-◌, ◌<◌, ◌≤◌, [], ◌∷◌, ◌++◌, length, set, replicate, sym, refl, ap, ◌∙◌, append_assoc, append-nil, arith}
use Rattle.std.proofs.lemmas.List.{set_at}
use Rattle.folds.specs.Filled.{list_up, filled}
use Rattle.folds.proofs.Counts.{more_left, none_left}

module _ {X : Type 0} (f : ℕ → X) where
  pub length_up : (i n : ℕ) → length (list_up f i n) ≡ n
  unfolding list_up
  length_up i zero = refl
  length_up i (suc n) = ap suc (length_up (i + 1) n)

  up_push : (i n : ℕ) → list_up f i (n + 1) ≡ list_up f i n ++ f (i + n) ∷ []
  unfolding list_up
  up_push i zero = ap (λ k. f k ∷ []) (let q : i ≡ i + 0 = omega arith in q)
  up_push i (suc n) =
      let e : suc n + 1 ≡ suc (n + 1) = omega arith in
      let q : (i + 1) + n ≡ i + suc n = omega arith in
      ap (list_up f i) e ∙ ap (λ t. f i ∷ t) (up_push (i + 1) n ∙ ap (λ k. list_up f (i + 1) n ++ f k ∷ []) q)

  -- the turns of a loop that fills n places
  module _ (d : X) where
    pub filled_none : (n : ℕ) → filled f d 0 n ≡ replicate n d
    unfolding filled list_up
    filled_none n = ap (λ k. replicate k d) (let q : n - 0 ≡ n = omega arith in q)

    -- the place i holds d as yet, and with what belongs there one more is filled
    pub filled_here : (i n : ℕ) → i < n → filled f d i n ≡ list_up f 0 i ++ d ∷ replicate (n - (i + 1)) d
    unfolding filled
    filled_here i n l = ap (λ k. list_up f 0 i ++ replicate k d) (more_left i n l)

    pub filled_next : (i n : ℕ) (x : X) → f i ≡ x → list_up f 0 i ++ x ∷ replicate (n - (i + 1)) d ≡ filled f d (i + 1) n
    unfolding filled
    filled_next i n x e =
        let z : 0 + i ≡ i = omega arith in
        sym (append_assoc (list_up f 0 i) (x ∷ []) (replicate (n - (i + 1)) d))
        ∙ ap (λ t. t ++ replicate (n - (i + 1)) d) (sym (up_push 0 i ∙ ap (λ y. list_up f 0 i ++ y ∷ []) (ap f z ∙ e)))

    pub filled_more : (i n : ℕ) (x : X) → i < n → f i ≡ x → set (filled f d i n) i x ≡ filled f d (i + 1) n
    filled_more i n x l e =
        ap (λ s. set s i x) (filled_here i n l) ∙ set_at (list_up f 0 i) d (replicate (n - (i + 1)) d) x i (length_up 0 i) ∙ filled_next i n x e

    pub filled_skip : (i n : ℕ) → i < n → f i ≡ d → filled f d i n ≡ filled f d (i + 1) n
    filled_skip i n l e = filled_here i n l ∙ filled_next i n d e

    pub filled_all : (i n : ℕ) → n ≤ i → i ≤ n → filled f d i n ≡ list_up f 0 n
    unfolding filled
    filled_all i n l m =
        let q : i ≡ n = omega arith in
        ap (λ k. list_up f 0 i ++ replicate k d) (none_left i n l) ∙ append-nil (list_up f 0 i) ∙ ap (list_up f 0) q

    -- places past m that hold d rightly need not be filled
    filled_on : (m j n : ℕ) → ((k : ℕ) → m ≤ k → f k ≡ d) → m + j ≤ n → filled f d m n ≡ filled f d (m + j) n
    filled_on m zero n all l = ap (λ k. filled f d k n) (let q : m ≡ m + 0 = omega arith in q)
    filled_on m (suc j) n all l =
        filled_on m j n all (omega arith)
        ∙ filled_skip (m + j) n (omega arith) (all (m + j) (omega arith))
        ∙ ap (λ k. filled f d k n) (let q : (m + j) + 1 ≡ m + suc j = omega arith in q)

    pub filled_rest : (m n : ℕ) → ((k : ℕ) → m ≤ k → f k ≡ d) → m ≤ n → filled f d m n ≡ list_up f 0 n
    filled_rest m n all l =
        let q : m + (n - m) ≡ n = omega arith in
        filled_on m (n - m) n all (omega arith) ∙ filled_all (m + (n - m)) n (omega arith) (omega arith)
