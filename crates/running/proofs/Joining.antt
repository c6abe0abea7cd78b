-- An offer leaves the network sound.
use Rattle.std.proofs.Common.{◌≡◌, ℕ, ◌+◌, ◌-◌, ◌<◌, Bool, true, false, cond, ◌≢◌, ◌⊎◌, List, length, get_or, set, sym, refl, ap, ◌∙◌, subst, inl, inr, arith}
use Rattle.std.proofs.lemmas.List.{get_or-set_same, get_or-set_other, length-set, set-get_or}
use Rattle.std.proofs.lemmas.List.Sums.{sum_by-set}
use Rattle.std.proofs.lemmas.Bool.{cases_eq}
use Rattle.accounts.specs.Offers.{ready, bad_size, paid}
use Rattle.routes.specs.Channels.{well_formed}
use Rattle.sources.specs.Lines.{Line, joined, turned_away, offered}
use Rattle.running.specs.Nets.{Net, no_line, line, flows}
use Rattle.running.specs.Offers.{with_lines}
use Rattle.running.specs.Sounds.{waiting_in, buffered_in, under_way, Tallied, Sound}
use Rattle.running.proofs.Keeping.{kept_field, all_alike}

-- what a line keeps where nothing leaves it, arrives or shifts
pub record Stays (l m : Line) : Type 0 where
  pub head : m.ledger.head ≡ l.ledger.head
  pub window : m.ledger.window ≡ l.ledger.window
  pub route : m.route ≡ l.route
  pub places : length m.waiting ≡ length l.waiting
  pub sent : m.sent ≡ l.sent
  pub delivered : m.delivered ≡ l.delivered

-- a network with one line changed so is sound, with counts that agree
module _ (n : Net) (held : List ℕ) (ok : Sound n held) (i : ℕ) (among : i < flows n) (new : Line) (stays : Stays (line n i) new) (now : List ℕ) where
  abbrev changed : Net
  changed = with_lines n (set n.lines i new)

  same_flows : flows changed ≡ flows n
  same_flows = length-set n.lines i new

  same : {Y : Type 0} (field : Line → Y) → field new ≡ field (line n i) → (j : ℕ) → field (line changed j) ≡ field (line n j)
  same field e j = kept_field field n.lines i new among e j

  pub changed_sound : Tallied (with_lines n (set n.lines i new)) now → Sound (with_lines n (set n.lines i new)) now
  changed_sound tallied = (
    (ok.0.0, ok.0.1, ok.0.2, omega (arith, same_flows, ok.0.3)),
    λ j l. let s = ok.1 j (omega (arith, same_flows)) in (
      same (λ m. m.ledger.head) stays.head j ∙ s.0,
      same (λ m. m.ledger.window) stays.window j ∙ s.1,
      same (λ m. length m.waiting) stays.places j ∙ s.2,
      same (λ m. well_formed m.route) (ap well_formed stays.route) j ∙ s.3,
    ),
    λ c k. all_alike changed n same_flows (same (λ m. m.route) stays.route) c (n.lane c k) ∙ ok.2 c k,
    ok.3,
    ok.4,
    tallied,
    λ j l. same (λ m. m.sent) stays.sent j ∙ ok.6 j (omega (arith, same_flows))
        ∙ ap (λ d. d + under_way n j) (sym (same (λ m. m.delivered) stays.delivered j)),
  )

-- the place of the frame that a packet of flow i gets, and the counts of held flits with its flits
abbrev pub packet_place : Net → ℕ → ℕ
packet_place n i = (ready (line n i).ledger).frame - (line n i).ledger.head

abbrev pub held_more : Net → List ℕ → ℕ → ℕ → List ℕ
held_more n held i size = set held (packet_place n i) (get_or held (packet_place n i) 0 + size)

module _ (n : Net) (held : List ℕ) (ok : Sound n held) (i size : ℕ) (among : i < flows n) where
  abbrev place : ℕ
  place = packet_place n i

  joined_stays : Stays (line n i) (joined (line n i) size)
  joined_stays = record {
    head = refl;
    window = refl;
    route = refl;
    places = length-set (line n i).waiting place (get_or (line n i).waiting place 0 + size);
    sent = refl;
    delivered = refl;
  }

  with_joined : (k : ℕ) →
      waiting_in (with_lines n (set n.lines i (joined (line n i) size))) k + get_or (line n i).waiting k 0
      ≡ waiting_in n k + get_or (joined (line n i) size).waiting k 0
  with_joined k = sum_by-set (λ l. get_or l.waiting k 0) n.lines i (joined (line n i) size) no_line among

  tally_by : place < 8 → (k : ℕ) → ((k ≡ place) ⊎ (k ≡ place → ⊥)) →
      get_or (held_more n held i size) k 0 ≡ waiting_in (with_lines n (set n.lines i (joined (line n i) size))) k + buffered_in n k
  tally_by few k (inl e) = subst (λ j. get_or (held_more n held i size) j 0
      ≡ waiting_in (with_lines n (set n.lines i (joined (line n i) size))) j + buffered_in n j) (sym e)
      (omega (
        arith,
        with_joined place,
        ok.5.1 place,
        get_or-set_same held place (get_or held place 0 + size) 0 (omega (arith, ok.5.0)),
        get_or-set_same (line n i).waiting place (get_or (line n i).waiting place 0 + size) 0 (omega (arith, (ok.1 i among).2)),
      ))
  tally_by few k (inr d) =
      let ne : k ≢ place = d in
      omega (
        arith,
        with_joined k,
        ok.5.1 k,
        get_or-set_other held place k (get_or held place 0 + size) 0 ne,
        get_or-set_other (line n i).waiting place k (get_or (line n i).waiting place 0 + size) 0 ne,
      )

  -- an accepted packet: its flits are held in its frame
  pub joined_sound : packet_place n i < 8 → Sound (with_lines n (set n.lines i (joined (line n i) size))) (held_more n held i size)
  joined_sound few = changed_sound n held ok i among (joined (line n i) size) joined_stays (held_more n held i size)
      (length-set held place (get_or held place 0 + size) ∙ ok.5.0, λ k. tally_by few k (cases_eq k place))

  -- a packet that finds the window spent: nothing more is held
  pub turned_away_sound : Sound (with_lines n (set n.lines i (turned_away (line n i)))) held
  turned_away_sound = changed_sound n held ok i among (turned_away (line n i))
      (record { head = refl; window = refl; route = refl; places = refl; sent = refl; delivered = refl }) held
      (ok.5.0, λ k. omega (arith, ok.5.1 k, sum_by-set (λ l. get_or l.waiting k 0) n.lines i (turned_away (line n i)) no_line among))

  -- a packet of a bad size: nothing changes
  pub unchanged_sound : Sound (with_lines n (set n.lines i (line n i))) held
  unchanged_sound = subst (λ ls. Sound (with_lines n ls) held) (sym (set-get_or n.lines i no_line)) ok

  offered_by : (bad good : Bool) → place < 8 →
      Sound (with_lines n (set n.lines i (cond bad (line n i) (cond good (joined (line n i) size) (turned_away (line n i))))))
      (cond bad held (cond good (held_more n held i size) held))
  offered_by true good few = unchanged_sound
  offered_by false true few = joined_sound few
  offered_by false false few = turned_away_sound

  pub offered_sound : packet_place n i < 8 →
      Sound (with_lines n (set n.lines i (offered (line n i) size)))
      (cond (bad_size (line n i).ledger size) held (cond (paid (line n i).ledger) (held_more n held i size) held))
  offered_sound few = offered_by (bad_size (line n i).ledger size) (paid (line n i).ledger) few
