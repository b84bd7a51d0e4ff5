-- What an address that was made tells: RFC 4380, section 4.
use Rattle.std.specs.Prelude.{◌≡◌, ◌/◌, ◌%◌, ◌<◌, ◌^◌, ℕ, Bool, true, false, Option}
use Rattle.td_base.specs.Ip4.{IsIp4}
use Rattle.td_base.specs.Ip6.{IsIp6}
use Rattle.td_base.specs.Ep.{IsEp}
use Rattle.td_base.specs.Reach.{is_global6, is_link_local}
use Rattle.td_base.specs.declared.ipv4.Ip4.{Ip4}
use Rattle.td_base.specs.declared.ipv6.Ip6.{Ip6}
use Rattle.td_base.specs.declared.endpoint.Ep.{Ep}
use Rattle.teredo_addr.specs.Teredo.{is_teredo, server_in, flags_in, cone_in, has_cone, embedded, teredo_ip, parts_in, TeredoBytes, flags_of, link_local}

-- an address with the service's prefix, which tells these parts
pub record IsTeredoOf (server : Ip4) (flags : ℕ) (mapped : Ep) (ip : Ip6) : Type 0 where
  pub sixteen : IsIp6 ip
  pub teredo : is_teredo ip ≡ true
  pub global : is_global6 ip ≡ true
  pub not_link : is_link_local ip ≡ false
  pub server_is : server_in ip ≡ server
  pub flags_are : flags_in ip ≡ flags
  pub cone_is : has_cone ip ≡ cone_in flags
  pub mapped_is : embedded ip ≡ mapped

-- a Teredo address tells what it was made of
abbrev pub TeredoTells : Type 0
TeredoTells = (server : Ip4) (flags : ℕ) (mapped : Ep) → IsIp4 server → flags < 2 ^ 16 → IsEp mapped
    → IsTeredoOf server flags mapped (teredo_ip server flags mapped)

-- and each address with the prefix is made of what it tells
abbrev pub TeredoIsMade : Type 0
TeredoIsMade = (ip : Ip6) → IsIp6 ip → is_teredo ip ≡ true → TeredoBytes (parts_in ip) ip

-- a link-local address that tells the cone bit and an endpoint; it is neither a Teredo address nor a global one
pub record IsLinkLocalOf (cone : Bool) (ep : Ep) (ip : Ip6) : Type 0 where
  pub sixteen : IsIp6 ip
  pub link : is_link_local ip ≡ true
  pub not_teredo : is_teredo ip ≡ false
  pub not_global : is_global6 ip ≡ false
  pub cone_is : has_cone ip ≡ cone
  pub mapped_is : embedded ip ≡ ep

-- a link-local address tells the cone bit and the endpoint that it was made of
abbrev pub LinkLocalTells : Type 0
LinkLocalTells = (cone : Bool) (ep : Ep) → IsEp ep → IsLinkLocalOf cone ep (link_local cone ep)

-- flags that are made have the cone bit as asked; the bits 0x4000, 0x0200 and 0x0100 are 0, whatever the word
pub record AreFlagsOf (cone : Bool) (flags : ℕ) : Type 0 where
  pub sixteen : flags < 2 ^ 16
  pub cone_is : cone_in flags ≡ cone
  pub reserved : flags / 0x4000 % 2 ≡ 0
  pub no_group : flags / 0x100 % 4 ≡ 0

-- flags that are made have the cone bit as asked, and none of the three that stay 0
abbrev pub FlagsTell : Type 0
FlagsTell = (cone : Bool) (word : Option ℕ) → AreFlagsOf cone (flags_of cone word)
