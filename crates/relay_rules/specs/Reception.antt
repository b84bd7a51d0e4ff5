-- What a relay does with a datagram: the first line whose condition holds decides (RFC 4380, section 5.4.2).
use Rattle.std.specs.Prelude.{ℕ, not, Bool, List, [], ◌∷◌, Some, is_some}
use Rattle.std.specs.List.{list_any}
use Rattle.td_base.specs.Ip6.{same_ip6}
use Rattle.td_base.specs.Ep.{same_ep}
use Rattle.td_base.specs.declared.endpoint.Ep.{Ep}
use Rattle.ipv6_packet.specs.Reads.{is_big}
use Rattle.teredo_addr.specs.Teredo.{is_teredo, embedded}
use Rattle.indications.specs.Leads.{is_keyed}
use Rattle.bubble.specs.Bubbles.{is_bubble}
use Rattle.bubble.specs.Payloads.{Value}
use Rattle.bubble.specs.Reads.{is_payload, value_in}
use Rattle.teredo_node.specs.declared.fate.Fate.{Fate}
use Rattle.teredo_node.specs.declared.fate.Fate.TheVariants as fate
use Rattle.teredo_node.specs.Step.{Send, Step, just, rest_of}
use Rattle.teredo_node.specs.Sends.{releases, sending}
use Rattle.teredo_node.specs.Rows.{first_line}
use Rattle.relay_rules.specs.Standing.{RelaySettings, RelayStanding, relay_known_in}

-- what the lines ask, in their order
pub record RelaySeen : Type 0 where
  pub payload : Bool
  pub keyed : Bool
  pub big : Bool
  pub teredo : Bool
  pub embedded_here : Bool
  pub listed : Bool
  pub bubble : Bool
  pub served : Bool

-- what is seen of a payload from `from`
abbrev pub relay_seen_of : RelaySettings → RelayStanding → Ep → Bool → Value → RelaySeen
relay_seen_of s a from payload v = record {
  payload = payload;
  keyed = is_keyed v.lead;
  big = is_big v.packet;
  teredo = is_teredo v.packet.src;
  embedded_here = same_ep (embedded v.packet.src) from;
  listed = is_some a.peer;
  bubble = is_bubble v.packet;
  served = list_any (same_ip6 v.packet.dst) s.served;
}

-- what the table of datagrams observes
unfoldable pub relay_seen : RelaySettings → RelayStanding → Ep → List ℕ → RelaySeen
relay_seen s a from x = relay_seen_of s a from (is_payload x) (value_in x)

-- the lines of the table of datagrams, in order
abbrev pub reception_lines : RelaySeen → List (Bool × Fate)
reception_lines a =
    (not a.payload, fate.Malformed)
    ∷ (a.keyed, fate.Keyed)
    ∷ (a.big, fate.Big)
    ∷ (not a.teredo, fate.Source)
    ∷ (not a.embedded_here, fate.Mismatch)
    ∷ (not a.listed, fate.Unlisted)
    ∷ (a.bubble, fate.FromClientBubble)
    ∷ (a.served, fate.FromClient)
    ∷ []

-- the fate of a datagram
abbrev pub relay_reception_row : RelaySeen → Fate
relay_reception_row a = first_line (reception_lines a) fate.Unserved

-- the packets that wait for the peer, in order, to its embedded endpoint
abbrev pub released : RelayStanding → Value → List Send
released a v = releases (embedded v.packet.src) (relay_known_in a).waiting

-- what a relay does with a datagram of this fate
abbrev pub relay_reception_step : RelayStanding → List ℕ → Value → Fate → Step
relay_reception_step a x v fate.FromClientBubble = sending fate.FromClientBubble (released a v)
relay_reception_step a x v fate.FromClient = record (sending fate.FromClient (released a v)) { six = Some (rest_of v.lead.at x) }
relay_reception_step a x v fate.Unserved = sending fate.Unserved (released a v)
relay_reception_step a x v fate = just fate

-- what a relay does with a datagram x from `from`, standing so to the packet's source
unfoldable pub relay_reception : RelaySettings → RelayStanding → Ep → List ℕ → Step
relay_reception s a from x = relay_reception_step a x (value_in x) (relay_reception_row (relay_seen s a from x))
