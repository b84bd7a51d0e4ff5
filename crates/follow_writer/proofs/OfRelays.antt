-- What a relay's entry keeps, and whom it is about.
use Rattle.follow_writer.proofs.Words.{Bool, Entry, Ep, Fate, Input, KeepsItsPacket, List, Listing, None, Option, RelayGiven, RelaySeen, RelaySettings, RelayStanding, RelayTickedOnlyIf, Some, ap, arrived, destination_in, drop, due_by, false, fields_in, first_of_each, from_six, given, if◌then◌else◌, is_packet, is_payload, is_some, packet_given, packet_in, reception_lines, refl, relay_destination_lines, relay_effect, relay_entry, relay_first_peer, relay_given, relay_given_of, relay_in, relay_packet_lines, relay_reception_row, relay_seen, relay_seen_of, relay_six, relay_standing_of, relay_tick, relay_tick_step, relay_transmission_row, source_in, source_of, subst, sym, ticked, true, value_in, ℕ, ◌++◌, ◌∙◌, ◌≡◌}
use Rattle.teredo_node.specs.declared.fate.Fate.TheVariants as fate
use Rattle.relay_rules.proofs.LawProofs.{fate_of_reception, fate_of_transmission, tick_is_warranted}
use Rattle.follow_writer.proofs.RelayFates.{is_relays, relay_holds_nothing}
use Rattle.follow_writer.proofs.KeepsPackets.{keeps_all, keeps_queued, keeps_none, keeps_no_packet}

-- DATAGRAMS

-- the lines of a table are passed by
abbrev Is : Fate → Type 0
Is f = is_relays f ≡ true

row_is : (a : RelaySeen) → is_relays (relay_reception_row a) ≡ true
row_is a = first_of_each Is (reception_lines a) fate.Unserved (refl, (refl, (refl, (refl, (refl, (refl, (refl, (refl, tt)))))))) refl

module _ (s : RelaySettings) (j : List Entry) (n : ℕ) (from : Ep) (x : List ℕ) where
  abbrev a : RelayStanding
  a = relay_standing_of j n (source_in x)

  is_row : (relay_in s j n from x).step.fate ≡ relay_reception_row (relay_seen s a from x)
  unfolding relay_in
  is_row = fate_of_reception s a from x

  -- what isn't a payload keeps nothing
  malformed : is_payload x ≡ false → relay_reception_row (relay_seen s a from x) ≡ fate.Malformed
  unfolding relay_seen
  malformed none = ap (λ (b : Bool). relay_reception_row (relay_seen_of s a from b (value_in x))) none

  has_packet : is_payload x ≡ true → is_some (packet_in x) ≡ true
  unfolding packet_in
  has_packet is = ap (λ (b : Bool). is_some (if b then Some (drop (value_in x).lead.at x) else None)) is

  pub datagram_keeps : KeepsItsPacket (relay_effect (relay_in s j n from x).step.fate) (relay_in s j n from x).packet (source_of (relay_in s j n from x).input)
  unfolding relay_in
  datagram_keeps = by (is_payload x) refl where
    by : (b : Bool) → is_payload x ≡ b → KeepsItsPacket (relay_effect (relay_in s j n from x).step.fate) (packet_in x) (Some from)
    by true is = keeps_all (relay_effect (relay_in s j n from x).step.fate) (packet_in x) (Some from) (has_packet is) refl
    by false is = subst (λ (f : Fate). KeepsItsPacket (relay_effect f) (packet_in x) (Some from)) (sym (is_row ∙ malformed is)) tt

  pub datagram_is : is_relays (relay_in s j n from x).step.fate ≡ true
  datagram_is = ap is_relays is_row ∙ row_is (relay_seen s a from x)

-- PACKETS OF THE IPV6 SIDE

given_is : (a : RelayGiven) → is_relays (relay_transmission_row a) ≡ true
given_is a = first_of_each Is (relay_packet_lines a ++ relay_destination_lines a) fate.Queued (refl, (refl, (refl, (refl, (refl, (refl, (refl, (refl, (refl, (refl, (refl, tt))))))))))) refl

module _ (s : RelaySettings) (j : List Entry) (n : ℕ) (x : List ℕ) where
  abbrev b : RelayStanding
  b = relay_standing_of j n (destination_in x)

  given_row : (relay_six s j n x).step.fate ≡ relay_transmission_row (relay_given s b x)
  unfolding relay_six
  given_row = fate_of_transmission s b x

  -- what isn't a packet keeps nothing
  no_packet : is_packet x ≡ false → relay_transmission_row (relay_given s b x) ≡ fate.Malformed
  unfolding relay_given
  no_packet none = ap (λ (p : Bool). relay_transmission_row (relay_given_of s b p (fields_in x))) none

  given_has : is_packet x ≡ true → is_some (packet_given x) ≡ true
  unfolding packet_given
  given_has is = ap (λ (p : Bool). is_some (if p then Some x else None)) is

  pub packet_keeps : KeepsItsPacket (relay_effect (relay_six s j n x).step.fate) (relay_six s j n x).packet (source_of (relay_six s j n x).input)
  unfolding relay_six
  packet_keeps = by (is_packet x) refl where
    by : (p : Bool) → is_packet x ≡ p → KeepsItsPacket (relay_effect (relay_six s j n x).step.fate) (packet_given x) None
    by true is = keeps_queued (relay_effect (relay_six s j n x).step.fate) (packet_given x) None (relay_holds_nothing (relay_six s j n x).step.fate) (given_has is)
    by false is = subst (λ (f : Fate). KeepsItsPacket (relay_effect f) (packet_given x) None) (sym (given_row ∙ no_packet is)) tt

  pub packet_is : is_relays (relay_six s j n x).step.fate ≡ true
  packet_is = ap is_relays given_row ∙ given_is (relay_given s b x)

-- TICKS

-- it is no fate by which a packet is kept
abbrev pub is_of_tick : Fate → Bool
is_of_tick fate.Queued = false
is_of_tick f = is_relays f

tick_keeps_none : (f : Fate) → is_of_tick f ≡ true → keeps_none (relay_effect f) ≡ true
tick_keeps_none fate.Queued is = absurd (cc is)
tick_keeps_none fate.Sent is = refl
tick_keeps_none fate.SentCone is = refl
tick_keeps_none fate.FromClient is = refl
tick_keeps_none fate.FromClientBubble is = refl
tick_keeps_none fate.Unserved is = refl
tick_keeps_none fate.Bubbles is = refl
tick_keeps_none fate.GiveUp is = refl
tick_keeps_none _ is = refl

tick_is_relays : (f : Fate) → is_of_tick f ≡ true → is_relays f ≡ true
tick_is_relays fate.Queued is = refl
tick_is_relays _ is = is

module _ (s : RelaySettings) (j : List Entry) (n : ℕ) where
  abbrev due : Option Listing
  due = due_by n (relay_first_peer j n)

  ticks_so : is_of_tick (relay_tick s j n).step.fate ≡ true
  unfolding relay_tick
  ticks_so = by (relay_tick_step s n due).fate (tick_is_warranted s n due) where
    by : (f : Fate) → RelayTickedOnlyIf f n due → is_of_tick f ≡ true
    by fate.Queued only = absurd only
    by fate.Rule1 only = absurd only
    by fate.Rule1Bubble only = absurd only
    by fate.Rule2 only = absurd only
    by fate.Rule3 only = absurd only
    by fate.Rule3Bubble only = absurd only
    by _ only = refl

  pub tick_keeps : KeepsItsPacket (relay_effect (relay_tick s j n).step.fate) (relay_tick s j n).packet (source_of (relay_tick s j n).input)
  tick_keeps = keeps_no_packet (relay_effect (relay_tick s j n).step.fate) (relay_tick s j n).packet (source_of (relay_tick s j n).input)
      (tick_keeps_none (relay_tick s j n).step.fate ticks_so)

  pub tick_is : is_relays (relay_tick s j n).step.fate ≡ true
  tick_is = tick_is_relays (relay_tick s j n).step.fate ticks_so

-- EACH ENTRY

pub entry_keeps : (s : RelaySettings) (j : List Entry) (n : ℕ) (input : Input)
    → KeepsItsPacket (relay_effect (relay_entry s j n input).step.fate) (relay_entry s j n input).packet (source_of (relay_entry s j n input).input)
entry_keeps s j n (arrived from x) = datagram_keeps s j n from x
entry_keeps s j n (from_six x) = packet_keeps s j n x
entry_keeps s j n ticked = tick_keeps s j n
entry_keeps s j n (given x) = tt

pub entry_is : (s : RelaySettings) (j : List Entry) (n : ℕ) (input : Input) → is_relays (relay_entry s j n input).step.fate ≡ true
entry_is s j n (arrived from x) = datagram_is s j n from x
entry_is s j n (from_six x) = packet_is s j n x
entry_is s j n ticked = tick_is s j n
entry_is s j n (given x) = refl

-- its moment and its input
pub entry_at : (s : RelaySettings) (j : List Entry) (n : ℕ) (input : Input) → ((relay_entry s j n input).moment ≡ n) × ((relay_entry s j n input).input ≡ input)
unfolding relay_in relay_six relay_tick
entry_at s j n (arrived from x) = (refl, refl)
entry_at s j n (from_six x) = (refl, refl)
entry_at s j n ticked = (refl, refl)
entry_at s j n (given x) = (refl, refl)
