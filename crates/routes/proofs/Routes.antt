-- What a list that passed the checks is, which list passes them, and a list that was copied to the front of another.
use Rattle.std.proofs.Common.{◌≡◌, ℕ, ◌≤◌, Bool, true, false, cond, ◌&&◌, leb, List, ◌++◌, length, take, Ok, Err, Result, refl, ap, ◌∙◌, arith}
use Rattle.std.proofs.lemmas.List.{take_at}
use Rattle.std.proofs.lemmas.Bool.{and_parts, leb-true}
use Rattle.routes.specs.Channels.{few_hops, known, rises, well_formed}
use Rattle.routes.specs.Routes.{route_checked}
use Rattle.routes.specs.declared.path.checks.RouteRefusal.{RouteRefusal}
use Rattle.routes.specs.declared.path.checks.RouteRefusal.TheVariants.{Length, UnknownChannel, NotRising}

all_pass : (a b d : Bool) → ◌≡◌ {A = Result (Unit {0}) RouteRefusal} (Ok tt) (cond a (cond b (cond d (Ok tt) (Err NotRising)) (Err UnknownChannel)) (Err Length)) → (a && (b && d)) ≡ true
all_pass true true true e = refl
all_pass true true false e = absurd (let z : ◌≡◌ {A = ℕ} 0 1 = cc in omega arith)
all_pass true false d e = absurd (let z : ◌≡◌ {A = ℕ} 0 1 = cc in omega arith)
all_pass false b d e = absurd (let z : ◌≡◌ {A = ℕ} 0 1 = cc in omega arith)

pub passed_well_formed : (cs : List ℕ) → Ok tt ≡ route_checked cs → well_formed cs ≡ true
passed_well_formed cs e = all_pass (few_hops cs) (known cs) (rises cs) e

pub well_formed_few : (cs : List ℕ) → well_formed cs ≡ true → length cs ≤ 16
well_formed_few cs e =
    let few = (and_parts (few_hops cs) (known cs && rises cs) e).0 in
    leb-true (length cs) 16 (and_parts (leb 1 (length cs)) (leb (length cs) 16) few).1

pub copied : (cs xs rest : List ℕ) → xs ≡ cs → take (length cs) (xs ++ rest) ≡ cs
copied cs xs rest e = take_at xs rest (length cs) (ap length e) ∙ e

-- a list that passes each of the checks passes them all
pub passes : (cs : List ℕ) → few_hops cs ≡ true → known cs ≡ true → rises cs ≡ true → route_checked cs ≡ Ok tt
passes cs few all up = rw (few, all, up) refl
