-- Of a client's entry: whether it concerns a peer is told by its fate, and the peer is listed then.
use Rattle.std.proofs.Common.{◌≡◌, ℕ, Bool, true, false, List, Option, Some, None, refl, sym, ap, subst, ◌∙◌, ◌&&◌, ◌++◌}
use Rattle.std.specs.Prelude.{◌||◌, if◌then◌else◌, is_some, not, drop}
use Rattle.std.proofs.lemmas.Bool.{false≢true, le-leb}
use Rattle.td_base.specs.declared.ipv6.Ip6.{Ip6}
use Rattle.td_base.specs.declared.endpoint.Ep.{Ep}
use Rattle.ipv6_packet.specs.Reads.{is_packet, fields_in}
use Rattle.bubble.specs.Payloads.{Value}
use Rattle.bubble.specs.Reads.{is_payload, value_in}
use Rattle.bubble.specs.PacketsIn.{packet_in, source_in, destination_in}
use Rattle.teredo_node.specs.declared.fate.Fate.{Fate}
use Rattle.teredo_node.specs.declared.fate.Fate.TheVariants as fate
use Rattle.teredo_node.specs.Journal.{Input, arrived, given, from_six, ticked, Entry, Journal, Words, is_changed}
use Rattle.peer_list.specs.Mentions.{Mention, concerns_peer}
use Rattle.peer_list.specs.Judged.{due_of}
use Rattle.peer_list.proofs.LawProofs.{first_waits, listed_is_known}
use Rattle.qualify.specs.declared.settings.Settings.{Settings}
use Rattle.qualify.specs.declared.phase.Phase.{Phase}
use Rattle.qualify.specs.declared.phase.Phase.TheVariants as phase
use Rattle.qualify.specs.Qualification.{Qualification, qualification}
use Rattle.qualify.specs.Advertisements.{heard, advert_lines, advert_row, phase_line}
use Rattle.client_rules.specs.Bearings.{bearing_of, mention, mentions, held_of}
use Rattle.client_rules.specs.Standing.{Standing, standing_at, standing_of}
use Rattle.client_rules.specs.Reception.{Seen, seen, seen_of, datagram_lines, server_lines, packet_lines, indirect_lines, direct_lines, reception_row, reception_fate}
use Rattle.client_rules.specs.Transmission.{Given, given_of, host_lines, destination_lines, transmission_row}
use Rattle.client_rules.specs.Transmission as table
use Rattle.client_rules.specs.Ticks.{Due, asks, tries, nothing, peer_due, due_at, peer_of_due, tick}
use Rattle.client_rules.specs.Warrants.{ReceivedOnlyIf}
use Rattle.client_rules.specs.TickWarrants.{TickedOnlyIf, IsPeersTurn}
use Rattle.client_rules.specs.Journals.{client_in, client_out, client_tick, client_entry, first_peer, ticks}
use Rattle.client_rules.proofs.LawProofs.{fate_of_reception, fate_of_transmission, reception_is_warranted, tick_is_warranted}
use Rattle.states.specs.PeerFates.{changes_peer}
use Rattle.states.proofs.OneMention.{ConcernsOne, by_touch, by_listed, first_passes, goes_on, no_hold}

-- WHICH FATES

pub unconcerned : (f : Fate) (e : Entry) → changes_peer f ≡ false → concerns_peer (bearing_of f e) ≡ false
unconcerned fate.Sent e is = absurd (false≢true (sym is))
unconcerned fate.Queued e is = absurd (false≢true (sym is))
unconcerned fate.Indirect e is = absurd (false≢true (sym is))
unconcerned fate.Rule1 e is = absurd (false≢true (sym is))
unconcerned fate.Rule1Bubble e is = absurd (false≢true (sym is))
unconcerned fate.Rule2 e is = absurd (false≢true (sym is))
unconcerned fate.Rule3 e is = absurd (false≢true (sym is))
unconcerned fate.Rule3Bubble e is = absurd (false≢true (sym is))
unconcerned fate.HeldTest e is = absurd (false≢true (sym is))
unconcerned fate.SuspiciousTest e is = absurd (false≢true (sym is))
unconcerned fate.Held e is = absurd (false≢true (sym is))
unconcerned fate.Bubbles e is = absurd (false≢true (sym is))
unconcerned fate.Test e is = absurd (false≢true (sym is))
unconcerned fate.GiveUp e is = absurd (false≢true (sym is))
unconcerned _ e is = refl

-- an entry with a peer, by its fate: it touches, holds or gives up
by_fate : (j : List Mention) (e : Entry) (who : Ip6) (f : Fate) → e.step.fate ≡ f → e.peer ≡ Some who → changes_peer f ≡ true
    → (f ≡ fate.Held → ConcernsOne j (mention e)) → (f ≡ fate.GiveUp → ConcernsOne j (mention e)) → ConcernsOne j (mention e)
by_fate j e who fate.Held is about so held gave_up = held refl
by_fate j e who fate.GiveUp is about so held gave_up = gave_up refl
by_fate j e who fate.Sent is about so held gave_up = by_touch j (mention e) who about (ap (λ (f : Fate). (bearing_of f e).touches) is)
by_fate j e who fate.Queued is about so held gave_up = by_touch j (mention e) who about (ap (λ (f : Fate). (bearing_of f e).touches) is)
by_fate j e who fate.Indirect is about so held gave_up = by_touch j (mention e) who about (ap (λ (f : Fate). (bearing_of f e).touches) is)
by_fate j e who fate.Rule1 is about so held gave_up = by_touch j (mention e) who about (ap (λ (f : Fate). (bearing_of f e).touches) is)
by_fate j e who fate.Rule1Bubble is about so held gave_up = by_touch j (mention e) who about (ap (λ (f : Fate). (bearing_of f e).touches) is)
by_fate j e who fate.Rule2 is about so held gave_up = by_touch j (mention e) who about (ap (λ (f : Fate). (bearing_of f e).touches) is)
by_fate j e who fate.Rule3 is about so held gave_up = by_touch j (mention e) who about (ap (λ (f : Fate). (bearing_of f e).touches) is)
by_fate j e who fate.Rule3Bubble is about so held gave_up = by_touch j (mention e) who about (ap (λ (f : Fate). (bearing_of f e).touches) is)
by_fate j e who fate.HeldTest is about so held gave_up = by_touch j (mention e) who about (ap (λ (f : Fate). (bearing_of f e).touches) is)
by_fate j e who fate.SuspiciousTest is about so held gave_up = by_touch j (mention e) who about (ap (λ (f : Fate). (bearing_of f e).touches) is)
by_fate j e who fate.Bubbles is about so held gave_up = by_touch j (mention e) who about (ap (λ (f : Fate). (bearing_of f e).touches) is)
by_fate j e who fate.Test is about so held gave_up = by_touch j (mention e) who about (ap (λ (f : Fate). (bearing_of f e).touches) is)
by_fate j e who _ is about so held gave_up = absurd (false≢true so)

-- DATAGRAMS

phase_goes_on : (p : Phase) (same : Bool) → goes_on (phase_line p same) ≡ true
phase_goes_on phase.Cone same = refl
phase_goes_on phase.Restricted same = refl
phase_goes_on phase.Secondary true = refl
phase_goes_on phase.Secondary false = refl
phase_goes_on phase.Qualified true = refl
phase_goes_on phase.Qualified false = refl
phase_goes_on phase.Symmetric same = refl
phase_goes_on phase.OffLine same = refl

advert_goes_on : (s : Settings) (q : Qualification) (from : Ep) (v : Value) → goes_on (advert_row s q from v) ≡ true
unfolding advert_row
advert_goes_on s q from v =
    let a = heard s q from v in
    first_passes goes_on (advert_lines a) (phase_line a.phase a.same_origin) refl (phase_goes_on a.phase a.same_origin)

-- no datagram is one of giving up
row_goes_on : (a : Seen) (advert : Fate) → goes_on advert ≡ true → goes_on (reception_row a advert) ≡ true
row_goes_on a advert on =
    first_passes goes_on (datagram_lines a ++ (server_lines a advert ++ (packet_lines a ++ (indirect_lines a ++ direct_lines a)))) fate.Suspicious
    (ap (λ (b : Bool). b && true) on) refl

module _ (s : Settings) (j : Journal) (n : ℕ) (from : Ep) (x : List ℕ) (w : Words) where
  abbrev a : Standing
  a = standing_of s j n (source_in x)

  is_row : (client_in s j n from x w).step.fate ≡ reception_fate s a from x
  unfolding client_in
  is_row = fate_of_reception s a from x w

  -- what isn't a payload concerns nobody
  malformed : is_payload x ≡ false → reception_fate s a from x ≡ fate.Malformed
  unfolding reception_fate seen
  malformed none = ap (λ (b : Bool). reception_row (seen_of s a from b (value_in x)) (advert_row s a.qualification from (value_in x))) none

  payload : changes_peer (reception_fate s a from x) ≡ true → (b : Bool) → is_payload x ≡ b → is_payload x ≡ true
  payload so true is = is
  payload so false is = absurd (false≢true (sym (ap changes_peer (malformed is)) ∙ so))

  from_source : is_payload x ≡ true → source_in x ≡ Some (value_in x).packet.src
  unfolding source_in
  from_source is = ap (λ (b : Bool). if b then Some (value_in x).packet.src else None) is

  has_packet : is_payload x ≡ true → is_some (packet_in x) ≡ true
  unfolding packet_in
  has_packet is = ap (λ (b : Bool). is_some (if b then Some (drop (value_in x).lead.at x) else None)) is

  held_some : (o : Option (List ℕ)) → is_some o ≡ true → is_some (held_of (Some from) o) ≡ true
  held_some None there = absurd (false≢true there)
  held_some (Some y) there = refl

  was_listed : reception_fate s a from x ≡ fate.Held → is_some a.peer ≡ true
  unfolding seen
  was_listed is = (subst (λ (f : Fate). ReceivedOnlyIf f (seen s a from x) (heard s a.qualification from (value_in x))) is (reception_is_warranted s a from x)).listed

  goes : goes_on (reception_fate s a from x) ≡ true
  unfolding reception_fate
  goes = row_goes_on (seen s a from x) (advert_row s a.qualification from (value_in x)) (advert_goes_on s a.qualification from (value_in x))

  about : is_payload x ≡ true → (client_in s j n from x w).peer ≡ Some (value_in x).packet.src
  unfolding client_in
  about is = from_source is

  held : is_payload x ≡ true → reception_fate s a from x ≡ fate.Held → ConcernsOne (mentions j.entries) (mention (client_in s j n from x w))
  unfolding client_in standing_at
  held is f =
      let e = client_in s j n from x w in
      let fate_is : e.step.fate ≡ fate.Held = is_row ∙ f in
      by_listed (mentions j.entries) (mention e) (value_in x).packet.src (from_source is)
      (ap (λ (f : Fate). (bearing_of f e).touches) fate_is)
      (ap (λ (f : Fate). concerns_peer (bearing_of f e)) fate_is ∙ ap (λ (b : Bool). b || false) (held_some (packet_in x) (has_packet is)))
      (sym (ap (λ (o : Option Ip6). is_some (standing_of s j n o).peer) (from_source is)) ∙ was_listed f)

  pub datagram_concerns : changes_peer (client_in s j n from x w).step.fate ≡ true → ConcernsOne (mentions j.entries) (mention (client_in s j n from x w))
  datagram_concerns so =
      let row : changes_peer (reception_fate s a from x) ≡ true = sym (ap changes_peer is_row) ∙ so in
      let is = payload row (is_payload x) refl in
      by_fate (mentions j.entries) (client_in s j n from x w) (value_in x).packet.src (reception_fate s a from x) is_row (about is) row (held is)
      (λ f. absurd (false≢true (sym (ap goes_on f) ∙ goes)))

-- PACKETS OF THE HOST

-- none is one of holding, or of giving up
given_passes : (a : Given) → no_hold (transmission_row a) ≡ true
given_passes a = first_passes no_hold (host_lines a ++ destination_lines a) fate.Queued refl refl

module _ (s : Settings) (j : Journal) (n : ℕ) (x : List ℕ) (w : Words) where
  abbrev b : Standing
  b = standing_of s j n (destination_in x)

  given_row : (client_out s j n x w).step.fate ≡ transmission_row (table.given s b x)
  unfolding client_out
  given_row = fate_of_transmission s b x w

  -- what isn't a packet concerns nobody
  no_packet_by : (qualified : Bool) → changes_peer (if not qualified then fate.Off else fate.Malformed) ≡ false
  no_packet_by true = refl
  no_packet_by false = refl

  no_packet : is_packet x ≡ false → changes_peer (transmission_row (table.given s b x)) ≡ false
  unfolding table.given
  no_packet none = ap (λ (p : Bool). changes_peer (transmission_row (given_of s b p (fields_in x)))) none ∙ no_packet_by (given_of s b false (fields_in x)).qualified

  packet : changes_peer (transmission_row (table.given s b x)) ≡ true → (p : Bool) → is_packet x ≡ p → is_packet x ≡ true
  packet so true is = is
  packet so false is = absurd (false≢true (sym (no_packet is) ∙ so))

  given_about : is_packet x ≡ true → (client_out s j n x w).peer ≡ Some (fields_in x).dst
  unfolding client_out destination_in
  given_about is = ap (λ (p : Bool). if p then Some (fields_in x).dst else None) is

  pub packet_concerns : changes_peer (client_out s j n x w).step.fate ≡ true → ConcernsOne (mentions j.entries) (mention (client_out s j n x w))
  packet_concerns so =
      let row : changes_peer (transmission_row (table.given s b x)) ≡ true = sym (ap changes_peer given_row) ∙ so in
      let is = packet row (is_packet x) refl in
      by_fate (mentions j.entries) (client_out s j n x w) (fields_in x).dst (transmission_row (table.given s b x)) given_row (given_about is) row
      (λ f. absurd (false≢true (sym (ap no_hold f) ∙ given_passes (table.given s b x))))
      (λ f. absurd (false≢true (sym (ap no_hold f) ∙ given_passes (table.given s b x))))

-- TICKS

module _ (s : Settings) (j : Journal) (n : ℕ) (w : Words) where
  abbrev q : Qualification
  q = qualification s j

  abbrev due : Due
  due = due_at n q (first_peer j n)

  -- it is the turn of the peer that is due first
  turn : (spent : Bool) (t : IsPeersTurn spent n q (first_peer j n)) → due ≡ tries t.listing
  unfolding due_at
  turn spent t =
      ap (λ (b : Bool). if b then asks else peer_due n (first_peer j n)) t.calm
      ∙ ap (peer_due n) t.is_first
      ∙ ap (λ (b : Bool). if b then tries t.listing else nothing) (le-leb (due_of t.listing.peer) n t.due)

  pub tick_concerns : changes_peer (client_tick s j n w).step.fate ≡ true → ConcernsOne (mentions j.entries) (mention (client_tick s j n w))
  unfolding client_tick
  tick_concerns so = by (tick s n q w due).fate refl so (tick_is_warranted s n q w (first_peer j n)) where
    about_turn : (spent : Bool) (t : IsPeersTurn spent n q (first_peer j n)) → peer_of_due due ≡ Some t.listing.who
    about_turn spent t = ap peer_of_due (turn spent t)

    tried : (f : Fate) → (tick s n q w due).fate ≡ f → ((e : Entry) → (bearing_of f e).touches ≡ true) → IsPeersTurn false n q (first_peer j n) → ConcernsOne (mentions j.entries) (mention (ticks s j n w due))
    tried f is touches t =
        by_touch (mentions j.entries) (mention (ticks s j n w due)) t.listing.who (about_turn false t)
        (ap (λ (f : Fate). (bearing_of f (ticks s j n w due)).touches) is ∙ touches (ticks s j n w due))

    by : (f : Fate) → (tick s n q w due).fate ≡ f → changes_peer f ≡ true → TickedOnlyIf f n q (first_peer j n) → ConcernsOne (mentions j.entries) (mention (ticks s j n w due))
    by fate.Bubbles is sure only = tried fate.Bubbles is (λ e. refl) only.turn
    by fate.Test is sure only = tried fate.Test is (λ e. refl) only.turn
    by fate.GiveUp is sure only =
        let e = ticks s j n w due in
        by_listed (mentions j.entries) (mention e) only.listing.who (about_turn true only)
        (ap (λ (f : Fate). (bearing_of f e).touches) is)
        (ap (λ (f : Fate). concerns_peer (bearing_of f e)) is)
        (listed_is_known (mentions j.entries) n only.listing.who ∙ (first_waits (mentions j.entries) n only.listing only.is_first).listed)
    by fate.Sent is sure only = absurd only
    by fate.Queued is sure only = absurd only
    by fate.Indirect is sure only = absurd only
    by fate.Rule1 is sure only = absurd only
    by fate.Rule1Bubble is sure only = absurd only
    by fate.Rule2 is sure only = absurd only
    by fate.Rule3 is sure only = absurd only
    by fate.Rule3Bubble is sure only = absurd only
    by fate.HeldTest is sure only = absurd only
    by fate.SuspiciousTest is sure only = absurd only
    by fate.Held is sure only = absurd only
    by _ is sure only = absurd (false≢true sure)

-- EACH ENTRY

pub entry_concerns : (s : Settings) (j : Journal) (n : ℕ) (input : Input) (w : Words) → changes_peer (client_entry s j n input w).step.fate ≡ true
    → ConcernsOne (mentions j.entries) (mention (client_entry s j n input w))
entry_concerns s j n (arrived from x) w so = datagram_concerns s j n from x w so
entry_concerns s j n (given x) w so = packet_concerns s j n x w so
entry_concerns s j n ticked w so = tick_concerns s j n w so
entry_concerns s j n (from_six x) w so = absurd (false≢true so)

pub entry_moment : (s : Settings) (j : Journal) (n : ℕ) (input : Input) (w : Words) → (client_entry s j n input w).moment ≡ n
unfolding client_in client_out client_tick
entry_moment s j n (arrived from x) w = refl
entry_moment s j n (given x) w = refl
entry_moment s j n ticked w = refl
entry_moment s j n (from_six x) w = refl

-- a fate that concerns a peer isn't that of another address
pub same_epoch : (f : Fate) → changes_peer f ≡ true → is_changed f ≡ false
same_epoch fate.Changed so = absurd (false≢true so)
same_epoch _ so = refl
