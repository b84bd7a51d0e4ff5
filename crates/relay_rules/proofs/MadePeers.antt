-- Whom a relay heard or was given a packet for, and whom it tries to reach, has an address of sixteen bytes.
use Rattle.relay_rules.proofs.Words.{AllByRecursion, AreMadeInputs, Bool, Entry, Fate, IfSome, Input, IsBytes, IsIp6, IsMadeInput, IsMadeMention, IsRelayJournal, List, Listing, None, Option, RelaySettings, Some, [], arrived, cond, destination_is, due_by, due_of, false, first_waits, from_six, given, listed_peer, map, nat_le, packet_came, packet_is, packet_is_spelled, payload_is_spelled, refl, relay_bearing_of, relay_entry, relay_first_peer, relay_in, relay_mention, relay_mentions, relay_peer_of_due, relay_six, relay_tick, source_is, subst, sym, ticked, true, ℕ, ◌∷◌, ◌≡◌}
use Rattle.teredo_node.specs.declared.fate.Fate.TheVariants as fate

pub record IsMadeRelayEntry (e : Entry) : Type 0 where
  pub peer : IfSome e.peer IsIp6
  pub packet : IfSome e.packet IsBytes

queues_of : (f : Fate) (e : Entry) → IfSome e.packet IsBytes → IfSome (relay_bearing_of f e).queues IsBytes
queues_of fate.Queued e h = h
queues_of _ e h = tt

mentioned : (es : List Entry) → AllByRecursion IsMadeRelayEntry es → AllByRecursion IsMadeMention (map relay_mention es)
mentioned [] a = tt
mentioned (e ∷ es) a = (record { peer = a.0.peer; packet = queues_of e.step.fate e a.0.packet }, mentioned es a.1)

pub all_mentions : (es : List Entry) → AllByRecursion IsMadeRelayEntry es → AllByRecursion IsMadeMention (relay_mentions es)
unfolding relay_mentions
all_mentions es a = mentioned es a

pub due_peer : (j : List Entry) (n : ℕ) → AllByRecursion IsMadeMention (relay_mentions j)
    → IfSome (relay_peer_of_due (due_by n (relay_first_peer j n))) IsIp6
due_peer j n a = by (relay_first_peer j n) refl where
  by : (o : Option Listing) → relay_first_peer j n ≡ o → IfSome (relay_peer_of_due (due_by n o)) IsIp6
  by None e = tt
  by (Some l) e = at (nat_le (due_of l.peer) n) where
    at : (b : Bool) → IfSome (relay_peer_of_due (cond b (Some l) None)) IsIp6
    at true = listed_peer l.who n (relay_mentions j) a ((first_waits (relay_mentions j) n l e).listed)
    at false = tt

pub entry_is : (s : RelaySettings) (j : List Entry) (n : ℕ) (input : Input) → AllByRecursion IsMadeMention (relay_mentions j)
    → IsMadeInput input → IsMadeRelayEntry (relay_entry s j n input)
unfolding relay_in relay_six relay_tick
entry_is s j n (arrived from x) a h = record { peer = source_is x h.1; packet = packet_came x h.1 }
entry_is s j n (from_six x) a h = record { peer = destination_is x h; packet = packet_is x h }
entry_is s j n (given x) a h = record { peer = tt; packet = tt }
entry_is s j n ticked a h = record { peer = due_peer j n a; packet = tt }

pub entries_are : (s : RelaySettings) (es : List Entry) → IsRelayJournal s es → AreMadeInputs es → AllByRecursion IsMadeRelayEntry es
entries_are s [] is a = tt
entries_are s (e ∷ es) is a =
    let rest = entries_are s es is.1 a.1 in
    (subst IsMadeRelayEntry (sym is.0.is) (entry_is s es e.moment e.input (all_mentions es rest) a.0), rest)

-- that of a tick
pub due_is : (s : RelaySettings) (j : List Entry) (n : ℕ) → IsRelayJournal s j → AreMadeInputs j
    → IfSome (relay_peer_of_due (due_by n (relay_first_peer j n))) IsIp6
due_is s j n is a = due_peer j n (all_mentions j (entries_are s j is a))
