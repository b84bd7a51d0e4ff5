-- What sets a client's address: an advertisement of its server, which tells the endpoint that the address embeds (RFC 4380,
-- section 5.2.1).
use Rattle.std.specs.Prelude.{◌≡◌, ℕ, Bool, true, false, is_some, List, [], Some}
use Rattle.td_base.specs.declared.endpoint.Ep.{Ep}
use Rattle.td_base.specs.declared.ipv6.Ip6.{Ip6}
use Rattle.teredo_addr.specs.Teredo.{embedded}
use Rattle.indications.specs.Leads.{origin_in}
use Rattle.bubble.specs.Reads.{value_in}
use Rattle.teredo_node.specs.Journal.{arrived, Entry, Journal, with_entry}
use Rattle.teredo_node.specs.MadeInputs.{IsMadeInput}
use Rattle.qualify.specs.declared.settings.Settings.{Settings}
use Rattle.qualify.specs.Turns.{Turn, qualifies, is_changed, turn_of}
use Rattle.qualify.specs.Qualification.{qualification}
use Rattle.qualify.specs.Solicitations.{expected}
use Rattle.client_rules.specs.Journals.{IsJournal}
use Rattle.client_rules.specs.MadeSends.{IsMadeClient}

-- a turn that sets the address
abbrev pub sets_address : Turn → Bool
sets_address (qualifies cone) = true
sets_address is_changed = true
sets_address _ = false

-- the entry is of a datagram from the endpoint that the client's phase expects, with an authentication, and the address
-- embeds the origin in it. Nothing is sent
pub record IsToldAddress (s : Settings) (j : Journal) (e : Entry) (own : Ip6) : Type 0 where
  pub from : Ep
  pub bytes : List ℕ
  pub came : e.input ≡ arrived from bytes
  pub source : from ≡ expected s (qualification s j)
  pub auth : is_some (value_in bytes).lead.auth ≡ true
  pub told : origin_in (value_in bytes).lead ≡ Some (embedded own)
  pub quiet : e.step.sends ≡ []

-- each address that an entry sets was told so
abbrev pub EachAddressIsTold : Type 0
EachAddressIsTold = (s : Settings) (j : Journal) (e : Entry) (own : Ip6) → IsJournal s (with_entry j e) → IsMadeClient s → IsMadeInput e.input
    → sets_address (turn_of e) ≡ true → (qualification s (with_entry j e)).address ≡ Some own → IsToldAddress s j e own
