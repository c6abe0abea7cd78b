-- A flit that crosses its channel needs one crossing fewer, and no other flit is touched.
use Rattle.std.proofs.Common.{◌≡◌, ℕ, ◌+◌, ◌*◌, ◌<◌, Bool, true, false, cond, not, eqb, ◌⊎◌, List, [], ◌∷◌, ◌++◌, length, get_or, is_some, Some, None, Option, sym, refl, ap, ◌∙◌, subst, inl, inr, add-mul, one-mul, arith}
use Rattle.std.proofs.lemmas.List.{length-set}
use Rattle.std.proofs.lemmas.Bool.{cases_eq, eq-eqb, ne_eqb}
use Rattle.folds.specs.Sums.{total}
use Rattle.folds.proofs.Sums.{total_balance, total_same, total_none, total_one}
use Rattle.lanes.specs.declared.flits.Flit.{Flit}
use Rattle.routes.specs.Channels.{well_formed}
use Rattle.routes.specs.Crossings.{crossing}
use Rattle.routes.specs.declared.crossing.Crossing.{Crossing}
use Rattle.sources.specs.Lines.{Line}
use Rattle.running.specs.Crossed.{crossed_lane, crossed_line, crossed_by, crossed}
use Rattle.running.specs.Nets.{Net, line, route, flows}
use Rattle.running.specs.Requests.{stands, requests}
use Rattle.running.specs.Sounds.{Sound}
use Rattle.running.specs.declared.grant.Grant.{Grant}
use Rattle.running.proofs.Carrying.{Carried, line_carried}
use Rattle.running.proofs.Fronts.{at_before, lane_elsewhere, frame_balance}
use Rattle.running.proofs.Keeping.{kept_field, new_field, other_field}
use Rattle.running.proofs.Ready.{Requested, requested}
use Rattle.guarantee.proofs.Goods.{to_go, all_to_go, work}
use Rattle.guarantee.proofs.Hops.{first_to_go, next_to_go, last_to_go}

-- the work of a frame: of the flits that wait at sources, and of those in buffers
abbrev pub source_work : Net → ℕ → ℕ
source_work n k = total (λ i. get_or (line n i).waiting k 0 * length (route n i)) (flows n)

abbrev pub buffer_work : Net → ℕ → ℕ
buffer_work n k = total (λ c. all_to_go n c (n.lane c k)) 320

-- where two networks have the same routes, a buffer's flits need the same in both
pub to_go_alike : (m n : Net) → ((j : ℕ) → route m j ≡ route n j) → (c : ℕ) (q : List Flit) → all_to_go m c q ≡ all_to_go n c q
to_go_alike m n r c [] = refl
to_go_alike m n r c (x ∷ xs) = λ i. to_go (r x.flow i) c + to_go_alike m n r c xs i

-- networks with the same flows, routes, waiting flits and buffers of a frame have the same work there
pub work_alike : (m n : Net) (j k : ℕ) → flows m ≡ flows n → ((i : ℕ) → route m i ≡ route n i) →
    ((i : ℕ) → i < flows n → get_or (line m i).waiting j 0 ≡ get_or (line n i).waiting k 0) → ((c : ℕ) → m.lane c j ≡ n.lane c k) → work m j ≡ work n k
work_alike m n j k f r w l =
    let sources : source_work m j ≡ source_work n k =
    ap (total (λ i. get_or (line m i).waiting j 0 * length (route m i))) f
    ∙ total_same (λ i. get_or (line m i).waiting j 0 * length (route m i)) (λ i. get_or (line n i).waiting k 0 * length (route n i)) (flows n)
    (λ i h. λ t. w i h t * length (r i t)) in
    let buffers : buffer_work m j ≡ buffer_work n k =
    total_same (λ c. all_to_go m c (m.lane c j)) (λ c. all_to_go n c (n.lane c k)) 320
    (λ c h. to_go_alike m n r c (m.lane c j) ∙ ap (all_to_go n c) (l c)) in
    λ t. sources t + buffers t

-- a queue that gets a flit at its back
push_to_go : (n : Net) (d : ℕ) (q : List Flit) (y : Flit) → all_to_go n d (q ++ y ∷ []) ≡ all_to_go n d q + to_go (route n y.flow) d
push_to_go n d [] y = omega arith
push_to_go n d (z ∷ q) y = omega (arith, push_to_go n d q y)

-- a product whose first factor falls by one, where it does
less_by : (b : Bool) (w' w r : ℕ) → w' + cond b 1 0 ≡ w → w' * r + cond b r 0 ≡ w * r
less_by true w' w r e = omega (arith, add-mul w' 1 r, one-mul r, ap (λ t. t * r) e)
less_by false w' w r e = omega (arith, ap (λ t. t * r) (let q : w' ≡ w = omega arith in q))

-- what the source gives up, the buffers gain and lose, and one crossing come out even
even : (o : Option ℕ) (e : ℕ → ℕ) (r t : ℕ) (last : Bool) → (o ≡ None → t + 1 ≡ r) → ((d : ℕ) → o ≡ Some d → t + 1 ≡ e d) → (last ≡ true → t ≡ 0) →
    (w' b' w b : ℕ) → w' + cond (not (is_some o)) r 0 ≡ w → b' + at_before e o ≡ b + cond (not last) t 0 → w' + b' + 1 ≡ w + b
even None e r t true first next ends w' b' w b p q = omega (arith, first refl, ends refl)
even None e r t false first next ends w' b' w b p q = omega (arith, first refl)
even (Some d) e r t true first next ends w' b' w b p q = omega (arith, next d refl, ends refl)
even (Some d) e r t false first next ends w' b' w b p q = omega (arith, next d refl)

-- channel c grants a flit of flow g .flow, which crosses it as x says
module _
    (n : Net) (held : List ℕ) (ok : Sound n held) (c : ℕ) (g : Grant) (among : g.flow < flows n) (x : Crossing)
    (is : crossing (route n g.flow) c ≡ Some x) (stood : stands n g.ahead g.flow x.before ≡ true) where
  abbrev after : Net
  after = crossed_by n c g (Some x)

  abbrev carried_line : Line
  carried_line = crossed_line x (line n g.flow)

  abbrev way : List ℕ
  way = route n g.flow

  routed : well_formed way ≡ true
  routed = (ok.1 g.flow among).3

  carried : Carried g.ahead (not (is_some x.before)) x.last (line n g.flow) carried_line
  carried = line_carried n g.ahead g.flow x stood (ok.1 g.flow among).2

  same_flows : flows after ≡ flows n
  same_flows = length-set n.lines g.flow carried_line

  same_route : (j : ℕ) → route after j ≡ route n j
  same_route j = kept_field (λ l. l.route) n.lines g.flow carried_line among carried.route j

  -- the other frames
  waiting_elsewhere : (k : ℕ) → (k ≡ g.ahead → ⊥) → (i : ℕ) → get_or (line after i).waiting k 0 ≡ get_or (line n i).waiting k 0
  waiting_elsewhere k ne i = kept_field (λ l. get_or l.waiting k 0) n.lines g.flow carried_line among (carried.elsewhere k ne) i

  others : (k : ℕ) → (k ≡ g.ahead → ⊥) → work after k ≡ work n k
  others k ne = work_alike after n k k same_flows same_route (λ i l. waiting_elsewhere k ne i) (λ d. lane_elsewhere n c g x d k ne)

  -- the granted frame: what waits at the source
  abbrev leaves : ℕ
  leaves = cond (not (is_some x.before)) (length way) 0

  waiting_by : (i : ℕ) → ((i ≡ g.flow) ⊎ (i ≡ g.flow → ⊥)) →
      get_or (line after i).waiting g.ahead 0 * length (route n i) + cond (eqb i g.flow) leaves 0
      ≡ get_or (line n i).waiting g.ahead 0 * length (route n i)
  waiting_by i (inl e) =
      subst (λ j. get_or (line after j).waiting g.ahead 0 * length (route n j) + cond (eqb j g.flow) leaves 0
      ≡ get_or (line n j).waiting g.ahead 0 * length (route n j)) (sym e)
      (ap (λ b. get_or (line after g.flow).waiting g.ahead 0 * length way + cond b leaves 0) (eq-eqb g.flow g.flow refl)
      ∙ less_by (not (is_some x.before)) (get_or (line after g.flow).waiting g.ahead 0) (get_or (line n g.flow).waiting g.ahead 0) (length way)
      (ap (λ w. w + cond (not (is_some x.before)) 1 0) (new_field (λ l. get_or l.waiting g.ahead 0) n.lines g.flow carried_line among)
      ∙ carried.here))
  waiting_by i (inr ne) =
      omega (
        arith,
        ap (λ b. cond b leaves 0) (ne_eqb i g.flow ne),
        ap (λ w. w * length (route n i)) (other_field (λ l. get_or l.waiting g.ahead 0) n.lines g.flow carried_line among i ne),
      )

  sources : source_work after g.ahead + leaves ≡ source_work n g.ahead
  sources =
      let f : ℕ → ℕ = λ i. get_or (line after i).waiting g.ahead 0 * length (route n i) in
      omega (
        arith,
        ap (total (λ i. get_or (line after i).waiting g.ahead 0 * length (route after i))) same_flows,
        total_same (λ i. get_or (line after i).waiting g.ahead 0 * length (route after i)) f (flows n)
            (λ i l. ap (λ r. get_or (line after i).waiting g.ahead 0 * length r) (same_route i)),
        total_balance f (λ i. cond (eqb i g.flow) leaves 0) (λ i. get_or (line n i).waiting g.ahead 0 * length (route n i)) (λ i. 0) (flows n)
            (λ i l. waiting_by i (cases_eq i g.flow) ∙ let z : (w : ℕ) → w ≡ w + 0 = λ w. omega arith in z _),
        total_none (λ i. 0) (flows n) (λ i l. refl),
        total_one leaves g.flow (flows n) among,
      )

  -- and what lies in buffers
  buffers : buffer_work after g.ahead + at_before (to_go way) x.before ≡ buffer_work n g.ahead + cond (not x.last) (to_go way c) 0
  buffers =
      ap (λ t. t + at_before (to_go way) x.before)
      (total_same (λ d. all_to_go after d (crossed_lane n c g x d g.ahead)) (λ d. all_to_go n d (crossed_lane n c g x d g.ahead)) 320
      (λ d l. to_go_alike after n same_route d (crossed_lane n c g x d g.ahead)))
      ∙ frame_balance n c g x routed is stood (to_go way) (all_to_go n)
      (λ d y q f. ap (λ j. to_go (route n j) d + all_to_go n d q) f)
      (λ d y q f. push_to_go n d q y ∙ ap (λ j. all_to_go n d q + to_go (route n j) d) f)

  here : work after g.ahead + 1 ≡ work n g.ahead
  here =
      even x.before (to_go way) (length way) (to_go way c) x.last
      (first_to_go way c x routed is) (next_to_go way c x routed is) (last_to_go way c x routed is)
      (source_work after g.ahead) (buffer_work after g.ahead) (source_work n g.ahead) (buffer_work n g.ahead) sources buffers

-- a granted flit that was requested crosses: its frame needs one crossing fewer, the others what they needed
module _
    (n : Net) (held : List ℕ) (ok : Sound n held) (c : ℕ) (g : Grant) (among : g.flow < flows n)
    (asks : requests n c g.ahead g.flow ≡ true) where
  asked : Requested n c g.ahead g.flow
  asked = requested n c g.ahead g.flow asks

  pub crossed_work : work (crossed n c g) g.ahead + 1 ≡ work n g.ahead
  crossed_work =
      subst (λ o. work (crossed_by n c g o) g.ahead + 1 ≡ work n g.ahead) (sym asked.1)
      (here n held ok c g among asked.0 asked.1 asked.2)

  pub crossed_work_elsewhere : (k : ℕ) → (k ≡ g.ahead → ⊥) → work (crossed n c g) k ≡ work n k
  crossed_work_elsewhere k ne =
      subst (λ o. work (crossed_by n c g o) k ≡ work n k) (sym asked.1)
      (others n held ok c g among asked.0 asked.1 asked.2 k ne)
