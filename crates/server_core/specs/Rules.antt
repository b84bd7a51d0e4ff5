-- The server's table (RFC 4380, sections 5.3.1 and 5.3.2): the first line whose condition holds decides.
use Rattle.std.specs.Prelude.{◌≡◌, ◌≤◌, length, not, Bool, true, false, List, [], ◌∷◌, ◌++◌}
use Rattle.td_base.specs.Reach.{is_usable, is_global6}
use Rattle.td_base.specs.declared.endpoint.Ep.{Ep}
use Rattle.icmp6.specs.declared.numbers.TheConstants.{SOLICIT_LEN}
use Rattle.bubble.specs.Payloads.{Value}
use Rattle.teredo_addr.specs.Teredo.{is_teredo, embedded}
use Rattle.teredo_node.specs.declared.fate.Fate.TheVariants as fate
use Rattle.teredo_node.specs.Fate.{is_drop}
use Rattle.teredo_node.specs.Rows.{first_line}
use Rattle.server_core.specs.declared.server.ServerSettings.{ServerSettings}
use Rattle.server_core.specs.declared.rules.Rule.{Rule}
use Rattle.server_core.specs.declared.rules.Rule.TheVariants.{Dropped, Advert, ForwardOrigin, Forward, Six}
use Rattle.ipv6_packet.specs.Reads.{is_big}
use Rattle.indications.specs.Leads.{is_keyed}
use Rattle.bubble.specs.Messages.{is_ill_formed}
use Rattle.server_core.specs.Conditions.{is_other_kind, is_own, is_for_server, is_solicitation, is_forged, is_for_client, is_not_ours, is_unusable, is_looped}

-- what the lines ask, in their order
pub record ServerSeen : Type 0 where
  pub keyed : Bool
  pub big : Bool
  pub other_kind : Bool
  pub ill_formed : Bool
  pub unusable_source : Bool
  pub from_server : Bool
  pub for_server : Bool
  pub solicitation : Bool
  pub forged : Bool
  pub not_ours : Bool
  pub unusable_dest : Bool
  pub looped : Bool
  pub for_client : Bool
  pub for_teredo : Bool
  pub for_global : Bool

-- what is seen of a payload from `from`
abbrev pub server_seen : ServerSettings → Ep → Value → ServerSeen
server_seen s from v = record {
  keyed = is_keyed v.lead;
  big = is_big v.packet;
  other_kind = is_other_kind v.packet;
  ill_formed = is_ill_formed v.packet;
  unusable_source = not (is_usable s.policy from);
  from_server = is_own s from.ip;
  for_server = is_for_server s v.packet;
  solicitation = is_solicitation v.packet;
  forged = is_forged from v.packet;
  not_ours = is_not_ours s v.packet;
  unusable_dest = is_unusable s v.packet;
  looped = is_looped s v.packet;
  for_client = is_for_client s v.packet;
  for_teredo = is_teredo v.packet.dst;
  for_global = is_global6 v.packet.dst;
}

-- what is asked of the datagram
abbrev pub server_datagram_lines : ServerSeen → List (Bool × Rule)
server_datagram_lines a =
    (a.keyed, Dropped fate.Keyed)
    ∷ (a.big, Dropped fate.Big)
    ∷ (a.other_kind, Dropped fate.Kind)
    ∷ (a.ill_formed, Dropped fate.Icmp)
    ∷ (a.unusable_source, Dropped fate.Source)
    ∷ (a.from_server, Dropped fate.Loop)
    ∷ []

-- who sent the packet to whom
abbrev pub server_packet_lines : ServerSeen → List (Bool × Rule)
server_packet_lines a =
    (a.for_server, Dropped fate.OwnEcho)
    ∷ (a.solicitation, Advert)
    ∷ (a.forged, Dropped fate.Mismatch)
    ∷ (a.not_ours, Dropped fate.NotOurs)
    ∷ []

-- where the packet goes
abbrev pub server_destination_lines : ServerSeen → List (Bool × Rule)
server_destination_lines a =
    (a.unusable_dest, Dropped fate.Embedded)
    ∷ (a.looped, Dropped fate.Loop)
    ∷ (a.for_client, ForwardOrigin)
    ∷ (a.for_teredo, Forward)
    ∷ (a.for_global, Six)
    ∷ []

-- where no line holds
abbrev pub last_line : Rule
last_line = Dropped fate.Dest

-- the table
unfoldable pub rule_of : ServerSettings → Ep → Value → Rule
rule_of s from v = let a = server_seen s from v in first_line (server_datagram_lines a ++ (server_packet_lines a ++ server_destination_lines a)) last_line

-- an endpoint that the server may send to
abbrev pub IsPeer : ServerSettings → Ep → Type 0
IsPeer s ep = (is_usable s.policy ep ≡ true) × (is_own s ep.ip ≡ false)

-- what is known where the table gave a rule
abbrev pub Warrants : ServerSettings → Ep → Value → Rule → Type 0
Warrants s from v (Dropped fate) = is_drop fate ≡ true
Warrants s from v Advert = IsPeer s from × (SOLICIT_LEN ≤ length v.packet.body)
Warrants s from v ForwardOrigin = IsPeer s (embedded v.packet.dst) × (is_big v.packet ≡ false)
Warrants s from v Forward = IsPeer s (embedded v.packet.dst) × (is_big v.packet ≡ false)
Warrants s from v Six = is_big v.packet ≡ false
