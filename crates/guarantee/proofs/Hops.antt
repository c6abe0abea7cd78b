-- How many crossings a flit still needs, by where it stands on its route.
use Rattle.std.proofs.Common.{◌≡◌, ℕ, ◌+◌, ◌-◌, ◌<◌, ◌≤◌, Bool, true, false, cond, ltb, List, length, get_or, is_some, Some, None, Option, sym, refl, ap, arith}
use Rattle.std.proofs.lemmas.Bool.{both_ways, ltb-true}
use Rattle.routes.specs.Channels.{rises, well_formed}
use Rattle.routes.specs.Crossings.{hop, crossing, next_channel}
use Rattle.routes.specs.Crossings as route
use Rattle.routes.specs.declared.crossing.Crossing.{Crossing}
use Rattle.routes.proofs.Crossings.{well_formed_some, well_formed_rises, hop_at, next_hop, Goes_on, before_next, none_first, ends_last}
use Rattle.guarantee.proofs.Goods.{after_hop, to_go}

to_go_here : (cs : List ℕ) (h : ℕ) → rises cs ≡ true → h < length cs → to_go cs (get_or cs h 0) ≡ length cs - (h + 1)
to_go_here cs h up l = ap (after_hop cs) (hop_at cs h up l)

-- behind the first channel one fewer than the route has, and one fewer with each channel, down to none
module _ (cs : List ℕ) (c : ℕ) (x : Crossing) (ok : well_formed cs ≡ true) (e : crossing cs c ≡ Some x) where
  up : rises cs ≡ true
  up = well_formed_rises cs ok

  pub first_to_go : x.before ≡ None → to_go cs c + 1 ≡ length cs
  first_to_go b =
      let some = well_formed_some cs ok in
      omega (arith, ap (to_go cs) (none_first cs c x ok e b), to_go_here cs 0 up some)

  next_by : (d : ℕ) → Goes_on cs d c → to_go cs c + 1 ≡ to_go cs d
  next_by d p =
      let l : p.0 + 1 < length cs = p.1 in
      omega (arith, ap (to_go cs) p.2, ap (to_go cs) p.3, to_go_here cs p.0 up (omega arith), to_go_here cs (p.0 + 1) up l)

  pub next_to_go : (d : ℕ) → x.before ≡ Some d → to_go cs c + 1 ≡ to_go cs d
  next_to_go d b = next_by d (next_hop cs d c (before_next cs c x ok e d b).0)

  pub last_to_go : x.last ≡ true → to_go cs c ≡ 0
  last_to_go b =
      let some = well_formed_some cs ok in
      omega (arith, ap (to_go cs) (ends_last cs c x ok e b), to_go_here cs (length cs - 1) up (omega arith))

-- a flit that goes on needs one at least
some_at : (cs : List ℕ) (h : ℕ) (b : Bool) → ltb (h + 1) (length cs) ≡ b → is_some (cond b (Some (get_or cs (h + 1) 0)) None) ≡ true →
    1 ≤ length cs - (h + 1)
some_at cs h true t e = let l = ltb-true (h + 1) (length cs) t in omega arith
some_at cs h false t e = absurd (both_ways true (sym e) refl)

some_by : (cs : List ℕ) (o : Option ℕ) → is_some (route.after_hop cs o) ≡ true → 1 ≤ after_hop cs o
some_by cs None e = absurd (both_ways true (sym e) refl)
some_by cs (Some h) e = some_at cs h (ltb (h + 1) (length cs)) refl e

pub some_to_go : (cs : List ℕ) (c : ℕ) → is_some (next_channel cs c) ≡ true → 1 ≤ to_go cs c
some_to_go cs c e = some_by cs (hop cs c) e
