-- Which addresses are global, usable or link-local.
use Rattle.std.specs.Prelude.{◌/◌, Bool, true, false, not, ◌&&◌, ◌||◌, ◌==◌, nat_le, slice_index}
use Rattle.td_base.specs.declared.ipv4.Ip4.{Ip4}
use Rattle.td_base.specs.declared.ipv6.Ip6.{Ip6}
use Rattle.td_base.specs.declared.endpoint.Ep.{Ep}
use Rattle.td_base.specs.declared.reach.Policy.{Policy}
use Rattle.td_base.specs.declared.reach.Policy.TheVariants.{Strict, Loopback}

-- may addresses of the loopback be used under the policy?
abbrev pub is_loopback_allowed : Policy → Bool
is_loopback_allowed Strict = false
is_loopback_allowed Loopback = true

-- not in 0/8, 10/8, 127/8 unless the policy allows it, 169.254/16, 172.16/12, 192.168/16, 224/4 and 240/4
unfoldable pub is_global : Policy → Ip4 → Bool
is_global policy ip =
    let a = slice_index ip.0 0 in
    let b = slice_index ip.0 1 in
    not ((a == 0) || (a == 10) || ((a == 127) && not (is_loopback_allowed policy)) || ((a == 169) && (b == 254))
    || ((a == 172) && (b / 16 == 1)) || ((a == 192) && (b == 168)) || nat_le 224 a)

-- *usable endpoint*: its address is global under the policy, and its port isn't 0.
-- a global address and a port other than 0
unfoldable pub is_usable : Policy → Ep → Bool
is_usable policy ep = is_global policy ep.ip && not (ep.port == 0)

-- the first three bits are 001
unfoldable pub is_global6 : Ip6 → Bool
is_global6 ip = slice_index ip.0 0 / 32 == 1

-- fe80::/10
unfoldable pub is_link_local : Ip6 → Bool
is_link_local ip = (slice_index ip.0 0 == 0xfe) && (slice_index ip.0 1 / 64 == 2)
