-- What a client keeps, the journals that it stands for, and what a call does for each of them (RFC 4380, section 5.2).
use Rattle.std.specs.Prelude.{◌≡◌, ◌≤◌, ◌<◌, ℕ, true, List, map, Option, Some, is_some, unwrap_or}
use Rattle.rand_chacha.specs.ChaCha.{ChaCha}
use Rattle.td_base.specs.declared.ipv6.Ip6.{Ip6}
use Rattle.td_base.specs.declared.endpoint.Ep.{Ep}
use Rattle.td_base.specs.declared.millis.TheConstants.{CLOCK_END_MS}
use Rattle.teredo_addr.specs.Teredo.{unspecified}
use Rattle.bubble.specs.Payloads.{Value}
use Rattle.bubble.specs.PayloadOf.{IsPayloadOf}
use Rattle.bubble.specs.PacketsIn.{packet_in, source_in}
use Rattle.ipv6_packet.specs.Packets.{packet_bytes}
use Rattle.teredo_node.specs.declared.fate.Fate.{Fate}
use Rattle.teredo_node.specs.declared.fate.Fate.TheVariants as fate
use Rattle.teredo_node.specs.Step.{Step}
use Rattle.teredo_node.specs.Journal.{Input, arrived, given, Entry, Journal, with_entry, Words}
use Rattle.peer_list.specs.Peers.{Peer, peer_at}
use Rattle.peer_list.specs.Table.{peer_in, known_to, listed_in, has_room_in, waiting_in}
use Rattle.peer_list.specs.Calls.{Keeps}
use Rattle.peer_list.specs.Stands.{StandsForMentions}
use Rattle.qualify.specs.declared.settings.Settings.{Settings}
use Rattle.qualify.specs.Advertisements.{advert_row}
use Rattle.qualify.specs.Generator.{words_of, after_words}
use Rattle.qualify.specs.Qualifier.{QualifierStandsFor}
use Rattle.client_core.specs.declared.client.Client.{Client}
use Rattle.client_rules.specs.Bearings.{mentions}
use Rattle.client_rules.specs.Standing.{Standing}
use Rattle.client_rules.specs.Reception.{seen_of, reception_row, reception_step}
use Rattle.client_rules.specs.Journals.{entry, client_entry}
use Rattle.client_rules.specs.TakenPlaces.{TakesPlace}

-- how it is set up
abbrev pub settings_of : Client → Settings
settings_of c = c.qualifier.settings

-- whence it draws its words
abbrev pub generator_of : Client → ChaCha
generator_of c = c.rng

-- the words that it draws next
abbrev pub words_ahead : Client → Words
words_ahead c = words_of (generator_of c)

-- it may be called from this moment on: the one of its latest call since it started
abbrev pub callable_from : Client → ℕ
callable_from c = c.peers.moment

-- when its phase or its refresh is due
abbrev pub own_due : Client → Option ℕ
own_due c = c.qualifier.now.due

-- what it knows of each peer that is listed at a moment
abbrev pub listed_peers : Client → ℕ → List Peer
listed_peers c n = map (known_to c.peers n) (listed_in c.peers n)

-- *stands for*, of a client: its qualification is what the journal says, and so is what its peers' table knows of each
-- address.
-- qualification is what the journal says, and so is what is known of each address
pub record ClientStandsFor (c : Client) (j : Journal) : Type 0 where
  pub qualification : QualifierStandsFor c.qualifier j
  pub peers : StandsForMentions c.peers (mentions j.entries)

-- it may be called at n: at no moment before that of an earlier call, and while a clock runs
pub record IsCallable (c : Client) (n : ℕ) : Type 0 where
  pub clock : callable_from c ≤ n
  pub early : n < CLOCK_END_MS

-- how it stands to an address at n: what the tables read
abbrev pub standing_in : Client → ℕ → Ip6 → Standing
standing_in c n p = record {
  moment = n;
  qualification = c.qualifier.now;
  peer = peer_in c.peers n p;
  room = has_room_in c.peers n p;
  waiting = waiting_in c.peers n;
}

-- WHAT A CALL DOES

-- the entry of an input at n, after a journal
abbrev pub next_entry : Client → Journal → ℕ → Input → Entry
next_entry c j n input = client_entry (settings_of c) j n input (words_ahead c)

-- *does*, of a client: for each journal that it stood for the step is that of the next entry, it stands for the journal
-- with it, and the words drawn are the next ones.
-- for each journal that it stood for it did what the next entry says, and stands for the journal with that entry
pub record Does (old : Client) (n : ℕ) (input : Input) (step : Step) (new : Client) : Type 0 where
  pub did : (j : Journal) → ClientStandsFor old j → step ≡ (next_entry old j n input).step
  pub stands : (j : Journal) → ClientStandsFor old j → ClientStandsFor new (with_entry j (next_entry old j n input))
  pub place : generator_of new ≡ after_words step.drawn (generator_of old)
  pub settings : settings_of new ≡ settings_of old
  pub clock : callable_from new ≤ n

-- *as before*, of a client: it stands for each journal that it stood for, and draws the same words next.
-- it is as before: it stands for what it stood for, and draws the same words next
pub record AsBefore (old new : Client) : Type 0 where
  pub stands : (j : Journal) → ClientStandsFor old j → ClientStandsFor new j
  pub words : generator_of new ≡ generator_of old
  pub settings : settings_of new ≡ settings_of old

-- WHERE MEMORY MAY BE WANTING

-- the datagram is held, or its source is listed and wasn't yet
abbrev pub WantsPlace : Client → ℕ → Ep → List ℕ → Type 0
WantsPlace c n from x = (j : Journal) → ClientStandsFor c j
    → TakesPlace (next_entry c j n (arrived from x)).step.fate (is_some (peer_at (mentions j.entries) n (unwrap_or (source_in x) unspecified)))

-- the line of a packet of the host lets it wait
abbrev pub WantsQueue : Client → ℕ → List ℕ → Type 0
WantsQueue c n x = (j : Journal) → ClientStandsFor c j → (next_entry c j n (given x)).step.fate ≡ fate.Queued

-- THE LAST ENTRY OF ITS JOURNALS

-- for each journal that it stood for it stands for that journal with this entry, whose words were drawn
pub record Enters (old : Client) (e : Entry) (new : Client) : Type 0 where
  pub stands : (j : Journal) → ClientStandsFor old j → ClientStandsFor new (with_entry j e)
  pub place : generator_of new ≡ after_words e.step.drawn (generator_of old)
  pub settings : settings_of new ≡ settings_of old
  pub clock : callable_from new ≤ e.moment

-- memory was wanting, and nothing changed but that those who aren't listed may have been taken out
pub record KeepsAll (old : Client) (n : ℕ) (new : Client) : Type 0 where
  pub peers : Keeps old.peers new.peers n
  pub qualifier : new.qualifier ≡ old.qualifier
  pub rng : new.rng ≡ old.rng

-- DATAGRAMS

-- a datagram of this payload from `from` has this fate, by what a client sees
abbrev pub fate_in : Client → ℕ → Ep → Value → Fate
fate_in c n from v = reception_row (seen_of (settings_of c) (standing_in c n v.packet.src) from true v) (advert_row (settings_of c) c.qualifier.now from v)

-- the entry of a datagram x about `who`, where this was done
abbrev pub entry_about : Client → ℕ → Ep → List ℕ → Ip6 → Step → Entry
entry_about c n from x who step = entry n (arrived from x) (packet_in x) (Some who) (words_ahead c) step

-- x spells this payload, and ends in its packet
pub record IsDatagramOf (x : List ℕ) (v : Value) : Type 0 where
  pub of : IsPayloadOf x v
  pub packet : packet_in x ≡ Some (packet_bytes v.packet)

-- what was done with a payload by the line of a fate
pub record TakesPayload (old : Client) (n : ℕ) (from : Ep) (v : Value) (f : Fate) (step : Step) (new : Client) : Type 0 where
  pub did : (j : Journal) (x : List ℕ) → ClientStandsFor old j → IsDatagramOf x v
      → step ≡ reception_step (settings_of old) (standing_in old n v.packet.src) from x v (words_ahead old) f
  pub stands : (j : Journal) (x : List ℕ) → ClientStandsFor old j → IsDatagramOf x v
      → ClientStandsFor new (with_entry j (entry_about old n from x v.packet.src step))
  pub place : generator_of new ≡ after_words step.drawn (generator_of old)
  pub settings : settings_of new ≡ settings_of old
  pub clock : callable_from new ≤ n

-- memory was wanting by the line of a fate of a payload, and all is kept
pub record KeepsPlace (old : Client) (n : ℕ) (v : Value) (f : Fate) (new : Client) : Type 0 where
  pub room : TakesPlace f (is_some (peer_in old.peers n v.packet.src))
  pub kept : KeepsAll old n new
