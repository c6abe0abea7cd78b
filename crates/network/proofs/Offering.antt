-- A network after an offer to one of its flows.
use Rattle.std.proofs.Common.{◌≡◌, ℕ, zero, suc, ◌+◌, ◌-◌, ◌*◌, ◌<◌, ◌≤◌, Bool, true, false, cond, ltb, ◌⊎◌, List, [], ◌∷◌, length, get_or, set, is_some, sum, sum_by, Ok, Err, Result, sym, refl, ap, ◌∙◌, subst, suc-mul, inl, inr, arith}
use Rattle.std.proofs.lemmas.Nat.{mul-le}
use Rattle.std.proofs.lemmas.List.Sums.{sum_by-cons}
use Rattle.std.proofs.lemmas.Bool.{lt-ltb, le-ltb, ltb-true, cases_lt}
use Rattle.accounts.specs.Offers.{ready, bad_size, paid}
use Rattle.folds.specs.Sums.{total}
use Rattle.folds.proofs.Sums.{sumBy_total}
use Rattle.routes.specs.Crossings.{crossing}
use Rattle.sources.specs.Lines as source
use Rattle.sources.specs.declared.refusal.OfferRefusal.TheVariants.{PacketSize, WindowSpent}
use Rattle.sources.proofs.Reach.{few_waiting, ready_near}
use Rattle.running.specs.Nets.{Net, flows, line, route}
use Rattle.running.specs.Offers.{offer_answer, offer_leaves, from_source, with_line}
use Rattle.running.specs.Sounds.{Sound}
use Rattle.running.specs.declared.refusal.RunRefusal.{RunRefusal}
use Rattle.running.specs.declared.refusal.RunRefusal.TheVariants.{NoSuchFlow}
use Rattle.running.proofs.Answering.{answered, offered_route}
use Rattle.running.proofs.Joining.{offered_sound, held_more, packet_place}
use Rattle.running.proofs.Keeping.{kept_field}
use Rattle.network.specs.Lines.{SoundLines}
use Rattle.network.specs.Marks.{Marked}

-- no count of held flits comes near the end of its range
waiting_few : (k : ℕ) (ls : List source.Line) → SoundLines ls → sum_by (λ (l : source.Line). get_or l.waiting k 0) ls ≤ length ls * 68719509568
waiting_few k [] ok = omega arith
waiting_few k (x ∷ xs) ok =
    omega (arith, sum_by-cons (λ (l : source.Line). get_or l.waiting k 0) x xs, few_waiting (ok 0 (omega arith)) k, waiting_few k xs (λ i l. ok (suc i) (omega arith)), suc-mul (length xs) 68719509568)

total_few : (f : ℕ → ℕ) (m n : ℕ) → ((k : ℕ) → f k ≤ m) → total f n ≤ n * m
unfolding total
total_few f m zero all = omega arith
total_few f m (suc n) all = omega (arith, total_few f m n all, all n, suc-mul n m)

pub few_held : (n : Net) (held : List ℕ) (k : ℕ) → Sound n held → SoundLines n.lines → get_or held k 0 ≤ 4398048614912
few_held n held k ok lines =
    let waiting = waiting_few k n.lines lines in
    let many = mul-le (length n.lines) 68719509568 64 68719509568 (omega (arith, ok.0)) (omega arith) in
    let lying = total_few (λ c. length (n.lane c k)) 8 320 (λ c. omega (arith, ok.3 c k, ok.0)) in
    omega (arith, many, waiting, lying, ok.5.1 k)

pub few_together : (n : Net) (held : List ℕ) → Sound n held → SoundLines n.lines → sum held ≤ 35184388919296
few_together n held ok lines =
    omega (arith, sumBy_total (λ k. k) 0 held, total_few (λ k. get_or held k 0) 4398048614912 (length held) (λ k. few_held n held k ok lines), ok.5.0)

-- what a refusal tells
stays : (bad good : Bool) (r : RunRefusal) (g : ℕ) (hs js : List ℕ) →
    ◌≡◌ {A = Result ℕ RunRefusal} (Err r) (from_source (cond bad (Err PacketSize) (cond good (Ok g) (Err WindowSpent)))) → cond bad hs (cond good js hs) ≡ hs
stays true good r g hs js h = refl
stays false true r g hs js h = absurd cc
stays false false r g hs js h = refl

module _ (n : Net) (held : List ℕ) (ok : Sound n held) (lines : SoundLines n.lines) (i size : ℕ) where
  -- an offer to a flow that there is
  module _ (among : i < flows n) where
    there : ltb i (flows n) ≡ true
    there = lt-ltb i (flows n) among

    pub leaves : offer_leaves n i size ≡ with_line n i (source.offered (line n i) size)
    leaves = ap (λ b. cond b (with_line n i (source.offered (line n i) size)) n) there

    abbrev held_then : List ℕ
    held_then = cond (bad_size (line n i).ledger size) held (cond (paid (line n i).ledger) (held_more n held i size) held)

    then_sound : Sound (offer_leaves n i size) held_then
    then_sound = subst (λ m. Sound m held_then) (sym leaves) (offered_sound n held ok i size among (omega (arith, ready_near (lines i among))))

    there_route : (j : ℕ) → route (offer_leaves n i size) j ≡ route n j
    there_route j = ap (λ m. route m j) leaves ∙ kept_field (λ (l : source.Line). l.route) n.lines i (source.offered (line n i) size) among
        (offered_route (line n i) size (bad_size (line n i).ledger size) (paid (line n i).ledger)) j

    there_refused : (r : RunRefusal) → Err r ≡ offer_answer n i size → Sound (offer_leaves n i size) held
    there_refused r a =
        subst (λ hs. Sound (offer_leaves n i size) hs)
        (stays (bad_size (line n i).ledger size) (paid (line n i).ledger) r (ready (line n i).ledger).frame held (held_more n held i size)
        (a ∙ ap (λ b. cond b (from_source (source.offer_answer (line n i) size)) (Err NoSuchFlow)) there))
        then_sound

  -- none where there is no such flow
  nothing : flows n ≤ i → offer_leaves n i size ≡ n
  nothing l = ap (λ b. cond b (with_line n i (source.offered (line n i) size)) n) (le-ltb i (flows n) l)

  route_by : (i < flows n) ⊎ (flows n ≤ i) → (j : ℕ) → route (offer_leaves n i size) j ≡ route n j
  route_by (inl l) j = there_route l j
  route_by (inr l) j = ap (λ m. route m j) (nothing l)

  refused_by : (i < flows n) ⊎ (flows n ≤ i) → (r : RunRefusal) → Err r ≡ offer_answer n i size → Sound (offer_leaves n i size) held
  refused_by (inl l) r a = there_refused l r a
  refused_by (inr l) r a = subst (λ m. Sound m held) (sym (nothing l)) ok

  -- m after the offer
  module _ (m : Net) (e : m ≡ offer_leaves n i size) where
    pub marked : (used : List Bool) → Marked n used → Marked m used
    marked used marks = (marks.0, λ c j h. ap (λ cs. is_some (crossing cs c)) (ap (λ k. route k j) e ∙ route_by (cases_lt i (flows n)) j) ∙ marks.1 c j h)

    pub refused_sound : (r : RunRefusal) → Err r ≡ offer_answer n i size → Sound m held
    refused_sound r a = subst (λ k. Sound k held) (sym e) (refused_by (cases_lt i (flows n)) r a)

    pub accepted_sound : (frame head : ℕ) → Ok frame ≡ offer_answer n i size → head ≡ m.head → Sound m (set held (frame - head) (get_or held (frame - head) 0 + size))
    accepted_sound frame head a same =
        let told = answered (ltb i (flows n)) (bad_size (line n i).ledger size) (paid (line n i).ledger) frame (ready (line n i).ledger).frame a in
        let among = ltb-true i (flows n) told.0 in
        let here : m.head ≡ n.head = ap (λ (k : Net). k.head) (e ∙ leaves among) in
        let place : frame - head ≡ packet_place n i = omega (arith, same, here, told.3, ok.1 i among) in
        subst (λ k. Sound m (set held k (get_or held k 0 + size))) (sym place)
        (subst (λ k. Sound k (held_more n held i size)) (sym e)
        (subst (λ hs. Sound (offer_leaves n i size) hs)
        (ap (λ b. cond b held (cond (paid (line n i).ledger) (held_more n held i size) held)) told.1 ∙ ap (λ b. cond b (held_more n held i size) held) told.2)
        (then_sound among)))
