-- What a client sends: four kinds of datagrams (RFC 4380, sections 5.2.1, 5.2.3, 5.2.4, 5.2.6 and 5.2.9).
use Rattle.std.specs.Prelude.{◌≡◌, ℕ, Bool, true, false, List, Option, Some}
use Rattle.std.specs.List.{AllByRecursion}
use Rattle.td_base.specs.declared.ipv6.Ip6.{Ip6}
use Rattle.td_base.specs.declared.endpoint.Ep.{Ep}
use Rattle.td_base.specs.Ep.{server_ep}
use Rattle.ipv6_packet.specs.Reads.{fields_in}
use Rattle.teredo_addr.specs.Teredo.{server_in, embedded}
use Rattle.indications.specs.Leads.{origin_in}
use Rattle.bubble.specs.Bubbles.{bubble_bytes}
use Rattle.bubble.specs.Reads.{value_in}
use Rattle.teredo_node.specs.declared.fate.Fate.TheVariants as fate
use Rattle.teredo_node.specs.Step.{Send}
use Rattle.teredo_node.specs.Sends.{send}
use Rattle.teredo_node.specs.Journal.{arrived, given, Entry, Journal, with_entry, epoch}
use Rattle.peer_list.specs.Peers.{known}
use Rattle.qualify.specs.declared.settings.Settings.{Settings}
use Rattle.qualify.specs.declared.phase.Phase.{Phase}
use Rattle.qualify.specs.declared.phase.Phase.TheVariants.{Cone, Qualified}
use Rattle.qualify.specs.Qualification.{Qualification, qualification}
use Rattle.qualify.specs.Solicitations.{is_cone, server_asked, solicitation}
use Rattle.client_rules.specs.Tries.{test}
use Rattle.client_rules.specs.Journals.{IsJournal}
use Rattle.client_rules.specs.Bearings.{mentions}
use Rattle.client_rules.specs.Epochs.{IsOwnTo, WasHandedIn}

-- whether the solicitations of a phase have the cone bit
abbrev pub asks_as_cone : Qualification → Phase → Bool
asks_as_cone q Cone = true
asks_as_cone q Qualified = is_cone q
asks_as_cone q _ = false

-- where a bubble to p goes: to the endpoint that p embeds, to p's server, or, in answer to an indirect bubble, to the
-- origin that this told
pub data IsBubbleTo (e : Entry) (p : Ip6) (to : Ep) : Type 0 where
  direct : to ≡ embedded p → IsBubbleTo e p to
  indirect : to ≡ server_ep (server_in p) → IsBubbleTo e p to
  answer : (from : Ep) (x : List ℕ) → e.input ≡ arrived from x → e.step.fate ≡ fate.Indirect → origin_in (value_in x).lead ≡ Some to → IsBubbleTo e p to

-- whose a packet with nothing in front is, and where it goes: the packet that the host hands in, to where its destination
-- is trusted or to the endpoint that this embeds; or one that waited, to where the datagram came from that releases it
pub data IsCarriedTo (j : Journal) (e : Entry) (to : Ep) (bytes : List ℕ) : Type 0 where
  to_trusted : e.input ≡ given bytes → e.step.fate ≡ fate.Sent
      → (known (mentions j.entries) e.moment (fields_in bytes).dst).trusted ≡ Some to → IsCarriedTo j e to bytes
  to_cone : e.input ≡ given bytes → e.step.fate ≡ fate.SentCone → to ≡ embedded (fields_in bytes).dst → IsCarriedTo j e to bytes
  released : (x : List ℕ) → e.input ≡ arrived to x → WasHandedIn (epoch j.entries) e.peer bytes → IsCarriedTo j e to bytes

-- a datagram of an entry about this peer, after a journal that says this, where the client is in this phase then:
-- a solicitation of the phase, a bubble or a test from the client's address to the peer, or a packet of the host with
-- nothing in front. Bubbles and packets go where these say
pub data IsSending (s : Settings) (q : Qualification) (phase : Phase) (peer : Option Ip6)
    (bubbled : Ip6 → Ep → Type 0) (carried : Ep → List ℕ → Type 0) (x : Send) : Type 0 where
  solicits : (nonce : ℕ) → x ≡ send (server_asked s phase) (solicitation s (asks_as_cone q phase) nonce) → IsSending s q phase peer bubbled carried x
  bubbles : (own p : Ip6) (to : Ep) → q.address ≡ Some own → peer ≡ Some p → bubbled p to
      → x ≡ send to (bubble_bytes own p) → IsSending s q phase peer bubbled carried x
  tests : (own p : Ip6) (nonce : ℕ) → q.address ≡ Some own → peer ≡ Some p → x ≡ test s own p nonce → IsSending s q phase peer bubbled carried x
  carries : (to : Ep) (bytes : List ℕ) → IsOwnTo q.address peer bytes → carried to bytes → x ≡ send to bytes → IsSending s q phase peer bubbled carried x

-- so is each datagram of each entry
abbrev pub EachSend : Type 0
EachSend = (s : Settings) (j : Journal) (e : Entry) → IsJournal s (with_entry j e)
    → AllByRecursion (IsSending s (qualification s j) (qualification s (with_entry j e)).phase e.peer (IsBubbleTo e) (IsCarriedTo j e)) e.step.sends
