-- The lines of a payload: RFC 4380, section 5.1.1.
use Rattle.std.specs.Prelude.{ℕ, ◌+◌, ◌≤◌, ◌==◌, List, [], ◌++◌, length, codes, decimal, slice_range, Option, Some, None, if◌then◌else◌}
use Rattle.byteorder.specs.Endian.{big_bytes}
use Rattle.hex.specs.Hex.{encode_lower}
use Rattle.td_base.specs.declared.ipv6.Ip6.{Ip6}
use Rattle.td_base.specs.declared.span.Span.{Span}
use Rattle.td_base.specs.Texts.{ip4_text, ep_text}
use Rattle.td_base.specs.Ip6Texts.{ip6_text}
use Rattle.teredo_addr.specs.declared.address.TeredoAddr.{TeredoAddr}
use Rattle.teredo_addr.specs.Teredo.{addr_in}
use Rattle.ipv6_packet.specs.Packets.{Fields}
use Rattle.indications.specs.declared.blocks.Auth.{Auth}
use Rattle.indications.specs.declared.blocks.Origin.{Origin}
use Rattle.indications.specs.declared.blocks.TheConstants.{NONCE}
use Rattle.bubble.specs.declared.kinds.Kind.{Kind}
use Rattle.bubble.specs.declared.kinds.Kind.TheVariants as kinds
use Rattle.bubble.specs.Bubbles.{packet_kind}
use Rattle.bubble.specs.Payloads.{Value}
use Rattle.show.specs.declared.payload_lines.TheConstants.{FLAGS, KEY_MAX}

-- a word and a number
abbrev pub field : List ℕ → ℕ → List ℕ
field word number = word ++ decimal number

-- two lower-case digits a byte, or `-`
abbrev pub hex_text : List ℕ → List ℕ
hex_text bytes = if length bytes == 0 then codes "-" else encode_lower bytes

-- a number in so many bytes, two digits a byte
abbrev pub number_digits : ℕ → ℕ → List ℕ
number_digits bytes number = encode_lower (big_bytes bytes number)

-- the bytes of a part of a datagram
abbrev pub span_bytes : List ℕ → Span → List ℕ
span_bytes x span = slice_range x span.at (span.at + span.len)

-- identifier and value are parts of x, of as many bytes as they may have
pub record AreShortSpans (x : List ℕ) (a : Auth) : Type 0 where
  pub id : a.id.at + a.id.len ≤ length x
  pub value : a.value.at + a.value.len ≤ length x
  pub id_short : a.id.len ≤ KEY_MAX
  pub value_short : a.value.len ≤ KEY_MAX

-- an authentication: identifier, value, nonce and confirmation
abbrev pub keys_line : List ℕ → Auth → List ℕ
keys_line x a =
    codes "auth id " ++ (hex_text (span_bytes x a.id) ++ (codes " value "
    ++ (hex_text (span_bytes x a.value) ++ (codes " nonce "
    ++ (number_digits NONCE a.nonce ++ (field (codes " confirmation ") a.confirmation ++ codes "\n"))))))

-- the line of an authentication, or of none
abbrev pub auth_line : List ℕ → Option Auth → List ℕ
auth_line x None = codes "auth none\n"
auth_line x (Some a) = keys_line x a

-- the endpoint in an origin, in clear
abbrev pub origin_line : Option Origin → List ℕ
origin_line None = codes "origin none\n"
origin_line (Some origin) = codes "origin " ++ (ep_text origin.ep ++ codes "\n")

-- the numbers of the IPv6 header
abbrev pub packet_line : Fields → List ℕ
packet_line p =
    field (codes "packet class ") p.class ++ (field (codes " flow ") p.flow
    ++ (field (codes " next ") p.next ++ (field (codes " hop ") p.hop
    ++ (field (codes " length ") (length p.body) ++ codes "\n"))))

-- what a Teredo address embeds
abbrev pub embedded_line : TeredoAddr → List ℕ
embedded_line a = codes "teredo server " ++ (ip4_text a.server
    ++ (codes " flags " ++ (number_digits FLAGS a.flags ++ (codes " mapped " ++ (ep_text a.mapped ++ codes "\n")))))

-- the line of an address's Teredo parts; nothing where it has none
abbrev pub teredo_line : Option TeredoAddr → List ℕ
teredo_line None = []
teredo_line (Some a) = embedded_line a

-- an address behind its word; a Teredo address has a second line
abbrev pub address_lines : List ℕ → Ip6 → List ℕ
address_lines word ip = word ++ (ip6_text ip ++ (codes "\n" ++ teredo_line (addr_in ip)))

-- the word of a packet's kind
abbrev pub kind_word : Kind → List ℕ
kind_word kinds.Bubble = codes "bubble"
kind_word kinds.Icmp = codes "icmp"
kind_word kinds.Data = codes "data"

-- what the packet is, and its body
abbrev pub body_line : Fields → List ℕ
body_line p = codes "body " ++ (kind_word (packet_kind p) ++ (codes " " ++ (hex_text p.body ++ codes "\n")))

-- the lines of a payload that the datagram x spells
unfoldable pub payload_lines : List ℕ → Value → List ℕ
payload_lines x v =
    auth_line x v.lead.auth ++ (origin_line v.lead.origin
    ++ (packet_line v.packet ++ (address_lines (codes "source ") v.packet.src
    ++ (address_lines (codes "destination ") v.packet.dst ++ body_line v.packet))))
