-- What a client's entry keeps, and whom it is about.
use Rattle.follow_writer.proofs.Words.{Bool, Due, Ep, Fate, Given, Input, Journal, KeepsItsPacket, List, None, Phase, Qualification, Seen, Settings, Some, Standing, TickedOnlyIf, Value, Words, advert_lines, advert_row, ap, arrived, client_effect, client_entry, client_in, client_out, client_tick, datagram_lines, destination_in, destination_lines, direct_lines, drop, due_at, false, fields_in, first_of_each, first_peer, from_six, given, given_of, heard, host_lines, if◌then◌else◌, indirect_lines, is_packet, is_payload, is_some, not, packet_given, packet_in, packet_lines, phase_line, qualification, reception_fate, reception_row, refl, seen, seen_of, server_lines, source_in, source_of, standing_of, subst, sym, tick, ticked, transmission_row, true, value_in, ℕ, ◌++◌, ◌∙◌, ◌≡◌}
use Rattle.teredo_node.specs.declared.fate.Fate.TheVariants as fate
use Rattle.qualify.specs.declared.phase.Phase.TheVariants as phase
use Rattle.client_rules.specs.Transmission as table
use Rattle.client_rules.proofs.LawProofs.{fate_of_reception, fate_of_transmission, tick_is_warranted}
use Rattle.follow_writer.proofs.ClientFates.{is_clients, is_of_host, host_is_clients, host_holds_nothing}
use Rattle.follow_writer.proofs.KeepsPackets.{keeps_all, keeps_queued, keeps_none, keeps_no_packet}

-- DATAGRAMS

phase_is : (p : Phase) (same : Bool) → is_clients (phase_line p same) ≡ true
phase_is phase.Cone same = refl
phase_is phase.Restricted same = refl
phase_is phase.Secondary true = refl
phase_is phase.Secondary false = refl
phase_is phase.Qualified true = refl
phase_is phase.Qualified false = refl
phase_is phase.Symmetric same = refl
phase_is phase.OffLine same = refl

-- the lines of a table are passed by
abbrev Is : Fate → Type 0
Is f = is_clients f ≡ true

advert_is : (s : Settings) (q : Qualification) (from : Ep) (v : Value) → is_clients (advert_row s q from v) ≡ true
unfolding advert_row
advert_is s q from v =
    let a = heard s q from v in
    first_of_each Is (advert_lines a) (phase_line a.phase a.same_origin) (refl, (refl, (refl, (refl, (refl, tt))))) (phase_is a.phase a.same_origin)

row_is : (a : Seen) (advert : Fate) → is_clients advert ≡ true → is_clients (reception_row a advert) ≡ true
row_is a advert on = first_of_each Is (datagram_lines a ++ (server_lines a advert ++ (packet_lines a ++ (indirect_lines a ++ direct_lines a)))) fate.Suspicious
    (refl, (refl, (refl, (refl, (refl, (on, (refl, (refl, (refl, (refl, (refl, (refl, (refl, (refl, (refl, (refl, (refl, (refl, (refl, (refl, (refl, (refl, (refl, (refl, tt)))))))))))))))))))))))) refl

module _ (s : Settings) (j : Journal) (n : ℕ) (from : Ep) (x : List ℕ) (w : Words) where
  abbrev a : Standing
  a = standing_of s j n (source_in x)

  is_row : (client_in s j n from x w).step.fate ≡ reception_fate s a from x
  unfolding client_in
  is_row = fate_of_reception s a from x w

  -- what isn't a payload keeps nothing
  malformed : is_payload x ≡ false → reception_fate s a from x ≡ fate.Malformed
  unfolding reception_fate seen
  malformed none = ap (λ (b : Bool). reception_row (seen_of s a from b (value_in x)) (advert_row s a.qualification from (value_in x))) none

  has_packet : is_payload x ≡ true → is_some (packet_in x) ≡ true
  unfolding packet_in
  has_packet is = ap (λ (b : Bool). is_some (if b then Some (drop (value_in x).lead.at x) else None)) is

  pub datagram_keeps : KeepsItsPacket (client_effect (client_in s j n from x w).step.fate) (client_in s j n from x w).packet (source_of (client_in s j n from x w).input)
  unfolding client_in
  datagram_keeps = by (is_payload x) refl where
    by : (b : Bool) → is_payload x ≡ b → KeepsItsPacket (client_effect (client_in s j n from x w).step.fate) (packet_in x) (Some from)
    by true is = keeps_all (client_effect (client_in s j n from x w).step.fate) (packet_in x) (Some from) (has_packet is) refl
    by false is = subst (λ (f : Fate). KeepsItsPacket (client_effect f) (packet_in x) (Some from)) (sym (is_row ∙ malformed is)) tt

  pub datagram_is : is_clients (client_in s j n from x w).step.fate ≡ true
  unfolding reception_fate
  datagram_is = ap is_clients is_row ∙ row_is (seen s a from x) (advert_row s a.qualification from (value_in x)) (advert_is s a.qualification from (value_in x))

-- PACKETS OF THE HOST

-- the same of a packet of the host
abbrev Hosts : Fate → Type 0
Hosts f = is_of_host f ≡ true

given_is : (a : Given) → is_of_host (transmission_row a) ≡ true
given_is a = first_of_each Hosts (host_lines a ++ destination_lines a) fate.Queued (refl, (refl, (refl, (refl, (refl, (refl, (refl, (refl, (refl, (refl, (refl, (refl, (refl, tt))))))))))))) refl

module _ (s : Settings) (j : Journal) (n : ℕ) (x : List ℕ) (w : Words) where
  abbrev b : Standing
  b = standing_of s j n (destination_in x)

  given_row : (client_out s j n x w).step.fate ≡ transmission_row (table.given s b x)
  unfolding client_out
  given_row = fate_of_transmission s b x w

  is_hosts : is_of_host (client_out s j n x w).step.fate ≡ true
  is_hosts = ap is_of_host given_row ∙ given_is (table.given s b x)

  -- what isn't a packet keeps nothing
  no_packet_by : (qualified : Bool) → keeps_none (client_effect (if not qualified then fate.Off else fate.Malformed)) ≡ true
  no_packet_by true = refl
  no_packet_by false = refl

  no_packet : is_packet x ≡ false → keeps_none (client_effect (transmission_row (table.given s b x))) ≡ true
  unfolding table.given
  no_packet none = ap (λ (p : Bool). keeps_none (client_effect (transmission_row (given_of s b p (fields_in x))))) none ∙ no_packet_by (given_of s b false (fields_in x)).qualified

  given_has : is_packet x ≡ true → is_some (packet_given x) ≡ true
  unfolding packet_given
  given_has is = ap (λ (p : Bool). is_some (if p then Some x else None)) is

  pub packet_keeps : KeepsItsPacket (client_effect (client_out s j n x w).step.fate) (client_out s j n x w).packet (source_of (client_out s j n x w).input)
  unfolding client_out
  packet_keeps = by (is_packet x) refl where
    by : (p : Bool) → is_packet x ≡ p → KeepsItsPacket (client_effect (client_out s j n x w).step.fate) (packet_given x) None
    by true is = keeps_queued (client_effect (client_out s j n x w).step.fate) (packet_given x) None (host_holds_nothing (client_out s j n x w).step.fate is_hosts) (given_has is)
    by false is = keeps_no_packet (client_effect (client_out s j n x w).step.fate) (packet_given x) None (ap (λ (f : Fate). keeps_none (client_effect f)) given_row ∙ no_packet is)

  pub packet_is : is_clients (client_out s j n x w).step.fate ≡ true
  packet_is = host_is_clients (client_out s j n x w).step.fate is_hosts

-- TICKS

-- it is no fate by which a packet is kept
abbrev pub is_of_tick : Fate → Bool
is_of_tick fate.Queued = false
is_of_tick f = is_of_host f

tick_keeps_none : (f : Fate) → is_of_tick f ≡ true → keeps_none (client_effect f) ≡ true
tick_keeps_none fate.Queued is = absurd (cc is)
tick_keeps_none fate.HeldTest is = absurd (cc is)
tick_keeps_none fate.Held is = absurd (cc is)
tick_keeps_none _ is = refl

tick_is_clients : (f : Fate) → is_of_tick f ≡ true → is_clients f ≡ true
tick_is_clients fate.Queued is = refl
tick_is_clients f is = host_is_clients f is

module _ (s : Settings) (j : Journal) (n : ℕ) (w : Words) where
  abbrev q : Qualification
  q = qualification s j

  abbrev due : Due
  due = due_at n q (first_peer j n)

  ticks_so : is_of_tick (client_tick s j n w).step.fate ≡ true
  unfolding client_tick
  ticks_so = by (tick s n q w due).fate (tick_is_warranted s n q w (first_peer j n)) where
    by : (f : Fate) → TickedOnlyIf f n q (first_peer j n) → is_of_tick f ≡ true
    by fate.Queued only = absurd only
    by fate.HeldTest only = absurd only
    by fate.Held only = absurd only
    by fate.FromClient only = absurd only
    by fate.FromClientBubble only = absurd only
    by fate.Unserved only = absurd only
    by _ only = refl

  pub tick_keeps : KeepsItsPacket (client_effect (client_tick s j n w).step.fate) (client_tick s j n w).packet (source_of (client_tick s j n w).input)
  tick_keeps = keeps_no_packet (client_effect (client_tick s j n w).step.fate) (client_tick s j n w).packet (source_of (client_tick s j n w).input)
      (tick_keeps_none (client_tick s j n w).step.fate ticks_so)

  pub tick_is : is_clients (client_tick s j n w).step.fate ≡ true
  tick_is = tick_is_clients (client_tick s j n w).step.fate ticks_so

-- EACH ENTRY

pub entry_keeps : (s : Settings) (j : Journal) (n : ℕ) (input : Input) (w : Words)
    → KeepsItsPacket (client_effect (client_entry s j n input w).step.fate) (client_entry s j n input w).packet (source_of (client_entry s j n input w).input)
entry_keeps s j n (arrived from x) w = datagram_keeps s j n from x w
entry_keeps s j n (given x) w = packet_keeps s j n x w
entry_keeps s j n ticked w = tick_keeps s j n w
entry_keeps s j n (from_six x) w = tt

pub entry_is : (s : Settings) (j : Journal) (n : ℕ) (input : Input) (w : Words) → is_clients (client_entry s j n input w).step.fate ≡ true
entry_is s j n (arrived from x) w = datagram_is s j n from x w
entry_is s j n (given x) w = packet_is s j n x w
entry_is s j n ticked w = tick_is s j n w
entry_is s j n (from_six x) w = refl

-- its moment and its input
pub entry_at : (s : Settings) (j : Journal) (n : ℕ) (input : Input) (w : Words) → ((client_entry s j n input w).moment ≡ n) × ((client_entry s j n input w).input ≡ input)
unfolding client_in client_out client_tick
entry_at s j n (arrived from x) w = (refl, refl)
entry_at s j n (given x) w = (refl, refl)
entry_at s j n ticked w = (refl, refl)
entry_at s j n (from_six x) w = (refl, refl)
