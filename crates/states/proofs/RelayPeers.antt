-- Of a relay's entry: whether it concerns a peer is told by its fate, and the peer is listed then.
use Rattle.std.proofs.Common.{◌≡◌, ℕ, Bool, true, false, List, Option, Some, None, refl, sym, ap, ◌∙◌, ◌++◌}
use Rattle.std.specs.Prelude.{if◌then◌else◌, is_some, nat_le}
use Rattle.std.proofs.lemmas.Bool.{false≢true}
use Rattle.td_base.specs.declared.ipv6.Ip6.{Ip6}
use Rattle.td_base.specs.declared.endpoint.Ep.{Ep}
use Rattle.ipv6_packet.specs.Reads.{is_packet, fields_in}
use Rattle.bubble.specs.Reads.{is_payload, value_in}
use Rattle.bubble.specs.PacketsIn.{source_in, destination_in}
use Rattle.teredo_node.specs.declared.fate.Fate.{Fate}
use Rattle.teredo_node.specs.declared.fate.Fate.TheVariants as fate
use Rattle.teredo_node.specs.Journal.{Input, arrived, given, from_six, ticked, Entry}
use Rattle.peer_list.specs.Mentions.{Mention, concerns_peer}
use Rattle.peer_list.specs.Judged.{due_of}
use Rattle.peer_list.specs.Overdue.{due_by}
use Rattle.peer_list.specs.Waiting.{Listing}
use Rattle.peer_list.proofs.LawProofs.{first_waits, listed_is_known}
use Rattle.relay_rules.specs.Bearings.{relay_bearing_of, relay_mention, relay_mentions}
use Rattle.relay_rules.specs.Standing.{RelaySettings, RelayStanding, relay_standing_of}
use Rattle.relay_rules.specs.Reception.{RelaySeen, relay_seen, relay_seen_of, reception_lines, relay_reception_row}
use Rattle.relay_rules.specs.Transmission.{RelayGiven, relay_given, relay_given_of, relay_packet_lines, relay_destination_lines, relay_transmission_row}
use Rattle.relay_rules.specs.Ticks.{relay_peer_of_due, relay_tick_step}
use Rattle.relay_rules.specs.TickWarrants.{RelayTickedOnlyIf}
use Rattle.relay_rules.specs.Journals.{relay_in, relay_six, relay_tick, relay_ticks, relay_entry, relay_first_peer}
use Rattle.relay_rules.proofs.LawProofs.{fate_of_reception, fate_of_transmission, tick_is_warranted}
use Rattle.states.specs.PeerFates.{changes_client}
use Rattle.states.proofs.OneMention.{ConcernsOne, by_touch, by_listed, first_passes, goes_on}

-- WHICH FATES

pub unconcerned : (f : Fate) (e : Entry) → changes_client f ≡ false → concerns_peer (relay_bearing_of f e) ≡ false
unconcerned fate.Sent e is = absurd (false≢true (sym is))
unconcerned fate.SentCone e is = absurd (false≢true (sym is))
unconcerned fate.Queued e is = absurd (false≢true (sym is))
unconcerned fate.FromClient e is = absurd (false≢true (sym is))
unconcerned fate.FromClientBubble e is = absurd (false≢true (sym is))
unconcerned fate.Unserved e is = absurd (false≢true (sym is))
unconcerned fate.Bubbles e is = absurd (false≢true (sym is))
unconcerned fate.GiveUp e is = absurd (false≢true (sym is))
unconcerned _ e is = refl

-- an entry with a peer, by its fate: it touches or gives up
by_fate : (j : List Mention) (e : Entry) (who : Ip6) (f : Fate) → e.step.fate ≡ f → e.peer ≡ Some who → changes_client f ≡ true
    → (f ≡ fate.GiveUp → ConcernsOne j (relay_mention e)) → ConcernsOne j (relay_mention e)
by_fate j e who fate.GiveUp is about so gave_up = gave_up refl
by_fate j e who fate.Sent is about so gave_up = by_touch j (relay_mention e) who about (ap (λ (f : Fate). (relay_bearing_of f e).touches) is)
by_fate j e who fate.SentCone is about so gave_up = by_touch j (relay_mention e) who about (ap (λ (f : Fate). (relay_bearing_of f e).touches) is)
by_fate j e who fate.Queued is about so gave_up = by_touch j (relay_mention e) who about (ap (λ (f : Fate). (relay_bearing_of f e).touches) is)
by_fate j e who fate.FromClient is about so gave_up = by_touch j (relay_mention e) who about (ap (λ (f : Fate). (relay_bearing_of f e).touches) is)
by_fate j e who fate.FromClientBubble is about so gave_up = by_touch j (relay_mention e) who about (ap (λ (f : Fate). (relay_bearing_of f e).touches) is)
by_fate j e who fate.Unserved is about so gave_up = by_touch j (relay_mention e) who about (ap (λ (f : Fate). (relay_bearing_of f e).touches) is)
by_fate j e who fate.Bubbles is about so gave_up = by_touch j (relay_mention e) who about (ap (λ (f : Fate). (relay_bearing_of f e).touches) is)
by_fate j e who _ is about so gave_up = absurd (false≢true so)

-- DATAGRAMS

-- none is one of giving up
row_goes_on : (a : RelaySeen) → goes_on (relay_reception_row a) ≡ true
row_goes_on a = first_passes goes_on (reception_lines a) fate.Unserved refl refl

module _ (s : RelaySettings) (j : List Entry) (n : ℕ) (from : Ep) (x : List ℕ) where
  abbrev a : RelayStanding
  a = relay_standing_of j n (source_in x)

  is_row : (relay_in s j n from x).step.fate ≡ relay_reception_row (relay_seen s a from x)
  unfolding relay_in
  is_row = fate_of_reception s a from x

  -- what isn't a payload concerns nobody
  malformed : is_payload x ≡ false → relay_reception_row (relay_seen s a from x) ≡ fate.Malformed
  unfolding relay_seen
  malformed none = ap (λ (b : Bool). relay_reception_row (relay_seen_of s a from b (value_in x))) none

  payload : changes_client (relay_reception_row (relay_seen s a from x)) ≡ true → (b : Bool) → is_payload x ≡ b → is_payload x ≡ true
  payload so true is = is
  payload so false is = absurd (false≢true (sym (ap changes_client (malformed is)) ∙ so))

  about : is_payload x ≡ true → (relay_in s j n from x).peer ≡ Some (value_in x).packet.src
  unfolding relay_in source_in
  about is = ap (λ (b : Bool). if b then Some (value_in x).packet.src else None) is

  pub datagram_concerns : changes_client (relay_in s j n from x).step.fate ≡ true → ConcernsOne (relay_mentions j) (relay_mention (relay_in s j n from x))
  datagram_concerns so =
      let row : changes_client (relay_reception_row (relay_seen s a from x)) ≡ true = sym (ap changes_client is_row) ∙ so in
      let is = payload row (is_payload x) refl in
      by_fate (relay_mentions j) (relay_in s j n from x) (value_in x).packet.src (relay_reception_row (relay_seen s a from x)) is_row (about is) row
      (λ f. absurd (false≢true (sym (ap goes_on f) ∙ row_goes_on (relay_seen s a from x))))

-- PACKETS OF THE IPV6 SIDE

given_goes_on : (a : RelayGiven) → goes_on (relay_transmission_row a) ≡ true
given_goes_on a = first_passes goes_on (relay_packet_lines a ++ relay_destination_lines a) fate.Queued refl refl

module _ (s : RelaySettings) (j : List Entry) (n : ℕ) (x : List ℕ) where
  abbrev b : RelayStanding
  b = relay_standing_of j n (destination_in x)

  given_row : (relay_six s j n x).step.fate ≡ relay_transmission_row (relay_given s b x)
  unfolding relay_six
  given_row = fate_of_transmission s b x

  -- what isn't a packet concerns nobody
  no_packet : is_packet x ≡ false → relay_transmission_row (relay_given s b x) ≡ fate.Malformed
  unfolding relay_given
  no_packet none = ap (λ (p : Bool). relay_transmission_row (relay_given_of s b p (fields_in x))) none

  packet : changes_client (relay_transmission_row (relay_given s b x)) ≡ true → (p : Bool) → is_packet x ≡ p → is_packet x ≡ true
  packet so true is = is
  packet so false is = absurd (false≢true (sym (ap changes_client (no_packet is)) ∙ so))

  given_about : is_packet x ≡ true → (relay_six s j n x).peer ≡ Some (fields_in x).dst
  unfolding relay_six destination_in
  given_about is = ap (λ (p : Bool). if p then Some (fields_in x).dst else None) is

  pub packet_concerns : changes_client (relay_six s j n x).step.fate ≡ true → ConcernsOne (relay_mentions j) (relay_mention (relay_six s j n x))
  packet_concerns so =
      let row : changes_client (relay_transmission_row (relay_given s b x)) ≡ true = sym (ap changes_client given_row) ∙ so in
      let is = packet row (is_packet x) refl in
      by_fate (relay_mentions j) (relay_six s j n x) (fields_in x).dst (relay_transmission_row (relay_given s b x)) given_row (given_about is) row
      (λ f. absurd (false≢true (sym (ap goes_on f) ∙ given_goes_on (relay_given s b x))))

-- TICKS

-- whoever is due by a moment is the one that is due first
first_by : (n : ℕ) (o : Option Listing) (l : Listing) → due_by n o ≡ Some l → o ≡ Some l
first_by n None l is = is
first_by n (Some k) l is = by (nat_le (due_of k.peer) n) is where
  by : (b : Bool) → (if b then Some k else None) ≡ Some l → Some k ≡ Some l
  by true same = same
  by false none = absurd (false≢true (ap is_some none))

module _ (s : RelaySettings) (j : List Entry) (n : ℕ) where
  abbrev due : Option Listing
  due = due_by n (relay_first_peer j n)

  pub tick_concerns : changes_client (relay_tick s j n).step.fate ≡ true → ConcernsOne (relay_mentions j) (relay_mention (relay_tick s j n))
  unfolding relay_tick
  tick_concerns so = by (relay_tick_step s n due).fate refl so (tick_is_warranted s n due) where
    by : (f : Fate) → (relay_tick_step s n due).fate ≡ f → changes_client f ≡ true → RelayTickedOnlyIf f n due → ConcernsOne (relay_mentions j) (relay_mention (relay_ticks s n due))
    by fate.Bubbles is sure only =
        let e = relay_ticks s n due in
        by_touch (relay_mentions j) (relay_mention e) only.listing.who (ap relay_peer_of_due only.is_due) (ap (λ (f : Fate). (relay_bearing_of f e).touches) is)
    by fate.GiveUp is sure only =
        let e = relay_ticks s n due in
        by_listed (relay_mentions j) (relay_mention e) only.listing.who (ap relay_peer_of_due only.is_due)
        (ap (λ (f : Fate). (relay_bearing_of f e).touches) is)
        (ap (λ (f : Fate). concerns_peer (relay_bearing_of f e)) is)
        (listed_is_known (relay_mentions j) n only.listing.who
        ∙ (first_waits (relay_mentions j) n only.listing (first_by n (relay_first_peer j n) only.listing only.is_due)).listed)
    by fate.Sent is sure only = absurd only
    by fate.SentCone is sure only = absurd only
    by fate.Queued is sure only = absurd only
    by fate.FromClient is sure only = absurd only
    by fate.FromClientBubble is sure only = absurd only
    by fate.Unserved is sure only = absurd only
    by _ is sure only = absurd (false≢true sure)

-- EACH ENTRY

pub entry_concerns : (s : RelaySettings) (j : List Entry) (n : ℕ) (input : Input) → changes_client (relay_entry s j n input).step.fate ≡ true
    → ConcernsOne (relay_mentions j) (relay_mention (relay_entry s j n input))
entry_concerns s j n (arrived from x) so = datagram_concerns s j n from x so
entry_concerns s j n (from_six x) so = packet_concerns s j n x so
entry_concerns s j n ticked so = tick_concerns s j n so
entry_concerns s j n (given x) so = absurd (false≢true so)

pub entry_moment : (s : RelaySettings) (j : List Entry) (n : ℕ) (input : Input) → (relay_entry s j n input).moment ≡ n
unfolding relay_in relay_six relay_tick
entry_moment s j n (arrived from x) = refl
entry_moment s j n (from_six x) = refl
entry_moment s j n ticked = refl
entry_moment s j n (given x) = refl
