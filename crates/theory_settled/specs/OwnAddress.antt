-- What a client's address is made of: its server, and an origin that it was told (RFC 4380, sections 4 and 5.2.1).
use Rattle.std.specs.Prelude.{◌≡◌, Bool, List, Contains, Option, Some, ℕ}
use Rattle.td_base.specs.declared.ipv6.Ip6.{Ip6}
use Rattle.td_base.specs.declared.endpoint.Ep.{Ep}
use Rattle.teredo_addr.specs.Teredo.{teredo_ip, flags_of}
use Rattle.teredo_node.specs.Journal.{Entry, Journal}
use Rattle.qualify.specs.declared.settings.Settings.{Settings}
use Rattle.qualify.specs.Turns.{origin_given}
use Rattle.qualify.specs.Qualification.{qualification}

-- an entry of these had this origin
abbrev pub WasTold : List Entry → Ep → Type 0
WasTold es origin = (e : Entry) × Contains es e × (origin_given e.input ≡ Some origin)

-- the server's address, the flags of a cone bit and a word, and an origin that was told
pub record IsOwnAddress (s : Settings) (es : List Entry) (own : Ip6) : Type 0 where
  pub cone : Bool
  pub word : Option ℕ
  pub origin : Ep
  pub told : WasTold es origin
  pub made : own ≡ teredo_ip s.primary (flags_of cone word) origin

-- each address of a client is
abbrev pub EachAddressIsOwn : Type 0
EachAddressIsOwn = (s : Settings) (j : Journal) (own : Ip6) → (qualification s j).address ≡ Some own → IsOwnAddress s j.entries own
