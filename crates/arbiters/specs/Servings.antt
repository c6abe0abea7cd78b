use Rattle.std.specs.Prelude.{ℕ, zero, suc, Bool, List, [], ◌∷◌, Some, None, Option}
use Rattle.arbiters.specs.FlowSets.{no_flows, with_flow}

-- the set of these flows
abbrev pub flows_of : List ℕ → List Bool
flows_of [] = no_flows
flows_of (f ∷ rest) = with_flow (flows_of rest) f

module _ {A : Type 0} where
  -- what an arbiter holds once its answer is granted
  abbrev pub served : (A → ℕ → ℕ → A) → A → ℕ → Option ℕ → A
  served granted a c None = a
  served granted a c (Some f) = granted a c f

  -- the answers where a channel asks for the same set so many times, and each answer is granted
  abbrev pub servings : (A → ℕ → List Bool → Option ℕ) → (A → ℕ → ℕ → A) → A → ℕ → List Bool → ℕ → List (Option ℕ)
  servings choice granted a c s zero = []
  servings choice granted a c s (suc n) = choice a c s ∷ servings choice granted (served granted a c (choice a c s)) c s n
