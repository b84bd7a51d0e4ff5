-- The lines of a client's tables as they are found, and what holds where one is.
use Rattle.std.specs.Prelude.{◌≡◌, ◌≤◌, Bool, true, false, ℕ, List, [], ◌∷◌, Some, is_some}
use Rattle.td_base.specs.declared.ipv6.Ip6.{Ip6}
use Rattle.td_base.specs.declared.endpoint.Ep.{Ep}
use Rattle.ipv6_packet.specs.Packets.{Fields}
use Rattle.ipv6_packet.specs.Reads.{is_big}
use Rattle.indications.specs.Leads.{origin_in}
use Rattle.bubble.specs.Payloads.{Value}
use Rattle.teredo_node.specs.declared.fate.Fate.{Fate}
use Rattle.teredo_node.specs.declared.fate.Fate.TheVariants as fate
use Rattle.teredo_node.specs.Step.{Step, just}
use Rattle.teredo_node.specs.Sends.{sending}
use Rattle.teredo_node.specs.Words.{nonce_from}
use Rattle.teredo_node.specs.Journal.{Entry, Words, is_changed}
use Rattle.peer_list.specs.Mentions.{no_bearing}
use Rattle.peer_list.specs.Peers.{Peer}
use Rattle.peer_list.specs.Calls.{Updates}
use Rattle.peer_list.specs.Judged.{is_full, holds_most}
use Rattle.qualify.specs.declared.settings.Settings.{Settings}
use Rattle.qualify.specs.Turns.{turn, says_nothing}
use Rattle.qualify.specs.Solicitations.{own_address}
use Rattle.client_core.specs.declared.client.Client.{Client}
use Rattle.client_core.specs.declared.reception_line.ReceptionLine.{ReceptionLine}
use Rattle.client_core.specs.declared.reception_line.ReceptionLine.TheVariants as line
use Rattle.client_core.specs.declared.transmission_line.TransmissionLine.{TransmissionLine}
use Rattle.client_core.specs.declared.transmission_line.TransmissionLine.TheVariants as host
use Rattle.client_rules.specs.Bearings.{bearing_of}
use Rattle.client_rules.specs.Standing.{Standing, known_in}
use Rattle.client_rules.specs.Tries.{test}
use Rattle.client_rules.specs.Reception.{Seen, seen_of, reception_step}
use Rattle.client_rules.specs.Transmission.{Given, given_of, transmission_step}
use Rattle.client_core.specs.Client.{settings_of, words_ahead, standing_in}

-- a fate that means nothing for any peer, and nothing for qualification
pub record SaysNothing (f : Fate) : Type 0 where
  pub turn : turn f ≡ says_nothing
  pub epoch : is_changed f ≡ false
  pub bearing : (e : Entry) → bearing_of f e ≡ no_bearing

-- DATAGRAMS

-- the fate of a line, where an advertisement has this one
abbrev pub fate_of : ReceptionLine → (told : Fate) → Fate
fate_of (line.Drop f) told = f
fate_of line.Advert told = told
fate_of (line.Indirect to) told = fate.Indirect
fate_of line.Rule1 told = fate.Rule1
fate_of line.Rule1Bubble told = fate.Rule1Bubble
fate_of line.Rule2 told = fate.Rule2
fate_of line.Rule3 told = fate.Rule3
fate_of line.Rule3Bubble told = fate.Rule3Bubble
fate_of line.HeldTest told = fate.HeldTest
fate_of line.SuspiciousTest told = fate.SuspiciousTest
fate_of line.Held told = fate.Held

-- the packet is held
abbrev pub keeps : ReceptionLine → Bool
keeps line.HeldTest = true
keeps line.Held = true
keeps _ = false

-- what a client sees of a payload from `from` at n
abbrev pub seen_by : Client → ℕ → Ep → Value → Seen
seen_by c n from v = seen_of (settings_of c) (standing_in c n v.packet.src) from true v

-- it does nothing with a datagram
pub record DropsDatagram (f : Fate) : Type 0 where
  pub nothing : SaysNothing f
  pub step : (s : Settings) (a : Standing) (from : Ep) (x : List ℕ) (v : Value) (w : Words) → reception_step s a from x v w f ≡ just f

-- where a bubble goes, and that its source may be tried
pub record MayAnswer (a : Standing) (v : Value) (to : Ep) : Type 0 where
  pub origin : origin_in v.lead ≡ Some to
  pub room : a.room ≡ true

-- that a packet may be held
pub record MayHold (a : Standing) : Type 0 where
  pub room : a.room ≡ true
  pub free : holds_most (known_in a) ≡ false

-- that a further one of a listed address may be
pub record MayHoldMore (a : Standing) : Type 0 where
  pub listed : is_some a.peer ≡ true
  pub free : holds_most (known_in a) ≡ false

-- what holds where a line is found, at this standing to the payload's source
abbrev pub WarrantsDatagram : Standing → Value → ReceptionLine → Type 0
WarrantsDatagram a v (line.Drop f) = DropsDatagram f
WarrantsDatagram a v line.Advert = Unit {0}
WarrantsDatagram a v (line.Indirect to) = MayAnswer a v to
WarrantsDatagram a v line.Rule1 = is_some a.peer ≡ true
WarrantsDatagram a v line.Rule1Bubble = is_some a.peer ≡ true
WarrantsDatagram a v line.Rule2 = is_some a.peer ≡ true
WarrantsDatagram a v line.Rule3 = a.room ≡ true
WarrantsDatagram a v line.Rule3Bubble = a.room ≡ true
WarrantsDatagram a v line.HeldTest = MayHold a
WarrantsDatagram a v line.SuspiciousTest = is_some a.peer ≡ true
WarrantsDatagram a v line.Held = MayHoldMore a

-- what a test of a peer sends
abbrev pub tested : Client → Ip6 → Fate → Step
tested c p f = record (sending f (test (settings_of c) (own_address c.qualifier.now) p (nonce_from (words_ahead c)) ∷ [])) { drawn = 2 }

-- this is known of a peer then, and all else is as it was
pub record OnlyPeers (old : Client) (n : ℕ) (who : Ip6) (peer : Peer) (new : Client) : Type 0 where
  pub clock : old.peers.moment ≤ n
  pub peers : Updates old.peers new.peers n who peer
  pub qualifier : new.qualifier ≡ old.qualifier
  pub rng : new.rng ≡ old.rng

-- PACKETS OF THE HOST

-- the fate of a line of the table for the host's packets
abbrev pub fate_for : TransmissionLine → Fate
fate_for (host.Drop f) = f
fate_for (host.Sent to) = fate.Sent
fate_for host.SentCone = fate.SentCone
fate_for host.Queued = fate.Queued

-- what a client sees of a packet at n
abbrev pub given_to : Client → ℕ → Fields → Given
given_to c n p = given_of (settings_of c) (standing_in c n p.dst) true p

-- it does nothing with a packet
pub record DropsPacket (f : Fate) : Type 0 where
  pub nothing : SaysNothing f
  pub step : (s : Settings) (a : Standing) (x : List ℕ) (p : Ip6) (w : Words) → transmission_step s a x p w f ≡ just f

-- where a packet goes, and that its destination is listed
pub record IsSentTo (a : Standing) (to : Ep) : Type 0 where
  pub trusted : (known_in a).trusted ≡ Some to
  pub listed : is_some a.peer ≡ true

-- that a packet may wait
pub record MayWait (a : Standing) : Type 0 where
  pub room : a.room ≡ true
  pub free : is_full (known_in a) ≡ false

-- what holds where a line is found, at this standing to the packet's destination
abbrev pub WarrantsPacket : Standing → TransmissionLine → Type 0
WarrantsPacket a (host.Drop f) = DropsPacket f
WarrantsPacket a (host.Sent to) = IsSentTo a to
WarrantsPacket a host.SentCone = Unit {0}
WarrantsPacket a host.Queued = MayWait a

-- a packet that is sent or waits isn't big
abbrev pub IsCarried : Fields → TransmissionLine → Type 0
IsCarried p (host.Drop f) = Unit {0}
IsCarried p (host.Sent to) = is_big p ≡ false
IsCarried p host.SentCone = is_big p ≡ false
IsCarried p host.Queued = is_big p ≡ false
