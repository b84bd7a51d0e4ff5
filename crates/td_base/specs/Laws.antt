-- What holds of every text.
use Rattle.std.specs.Prelude.{◌≡◌, ℕ, List, Some}
use Rattle.td_base.specs.declared.ipv4.Ip4.{Ip4}
use Rattle.td_base.specs.declared.ipv6.Ip6.{Ip6}
use Rattle.td_base.specs.declared.endpoint.Ep.{Ep}
use Rattle.td_base.specs.Ip4.{IsIp4}
use Rattle.td_base.specs.Ip6.{IsIp6}
use Rattle.td_base.specs.Ep.{IsEp}
use Rattle.td_base.specs.Values.{ip4_of, ep_of}
use Rattle.td_base.specs.Ip6Values.{ip6_of}

-- an address or an endpoint that a text is, is made as its type asks
pub record TextsAreMade : Type 0 where
  pub ip4 : (text : List ℕ) (ip : Ip4) → ip4_of text ≡ Some ip → IsIp4 ip
  pub ep : (text : List ℕ) (at : Ep) → ep_of text ≡ Some at → IsEp at
  pub ip6 : (text : List ℕ) (ip : Ip6) → ip6_of text ≡ Some ip → IsIp6 ip
