-- What a journal of made inputs says: of its client's address, of its peers, of the packets that wait.
use Rattle.client_rules.proofs.Words.{AllByRecursion, AreMadeInputs, Bool, EachStandingIsMade, Entry, Ep, Fate, IfSome, Input, Ip6, IsBytes, IsEp, IsIp6, IsJournal, IsMadeClient, IsMadeInput, IsMadeMention, Journal, List, Listing, None, Option, Qualification, Settings, Some, Turn, Words, [], address_after, address_told, arrived, asks, bearing_of, begins, client_entry, client_in, client_out, client_tick, cond, destination_is, due_at, due_of, epoch, false, first_peer, first_waits, flags_of, flags_tell, flags_word, fresh, from_six, goes_on, has_cone, is_due, known, leaves, listed_peer, map, mention, mentions, nat_le, origin_given, origin_is, packet_came, packet_is, packet_is_spelled, payload_is_spelled, peer_due, peer_of_due, qualification, qualifies, refl, source_is, subst, sym, teredo_tells, ticked, tidings, tries, true, turn_of, turns, turns_at_start, unwrap_or, waiting_is, ℕ, ◌∷◌, ◌≡◌}
use Rattle.teredo_node.specs.declared.fate.Fate.TheVariants as fate
use Rattle.teredo_node.specs.Journal.{given, is_changed}
use Rattle.qualify.specs.Turns.{is_changed as changes}
use Rattle.client_rules.specs.Ticks.{nothing}

-- THE ADDRESS

made_address : (s : Settings) (cone : Bool) (w : Option ℕ) (o : Option Ep) → IsMadeClient s → IfSome o IsEp → IfSome (address_told s cone w o) IsIp6
made_address s cone w None made h = tt
made_address s cone w (Some ep) made h = (teredo_tells s.primary (flags_of cone w) ep made.primary (flags_tell cone w).sixteen h).sixteen

after : (s : Settings) (t : Turn) (w : Option ℕ) (o : Option Ep) (a : Option Ip6) → IsMadeClient s → IfSome o IsEp → IfSome a IsIp6 → IfSome (address_after s t w o a) IsIp6
after s (qualifies cone) w o a made h before = made_address s cone w o made h
after s changes w o None made h before = tt
after s changes w o (Some p) made h before = made_address s (has_cone p) w o made h
after s _ w o a made h before = before

pub origin_made : (input : Input) → IsMadeInput input → IfSome (origin_given input) IsEp
origin_made (arrived from x) h = origin_is x h.1
origin_made (given x) h = tt
origin_made (from_six x) h = tt
origin_made ticked h = tt

pub address_is : (s : Settings) (start : ℕ) (es : List Entry) → IsMadeClient s → AreMadeInputs es → IfSome (qualification s (record { start = start; entries = es })).address IsIp6
address_is s start [] made a = subst (λ (q : Qualification). IfSome q.address IsIp6) (sym (turns_at_start s start)) tt
address_is s start (e ∷ es) made a =
    subst (λ (q : Qualification). IfSome q.address IsIp6) (sym (turns s (record { start = start; entries = es }) e))
    (by (leaves (qualification s (record { start = start; entries = es })).phase (turn_of e)) (address_is s start es made a.1))
  where
    by : (b : Bool) → IfSome (qualification s (record { start = start; entries = es })).address IsIp6
        → IfSome (goes_on s (tidings s e) (cond b (fresh (unwrap_or (begins (turn_of e)) (qualification s (record { start = start; entries = es })).phase) e.moment) (qualification s (record { start = start; entries = es })))).address IsIp6
    by true before = after s (turn_of e) (flags_word s e.words) (origin_given e.input) None made (origin_made e.input a.0) tt
    by false before = after s (turn_of e) (flags_word s e.words) (origin_given e.input) (qualification s (record { start = start; entries = es })).address made (origin_made e.input a.0) before

-- MENTIONS

-- an entry with a made peer and a packet of bytes
record IsMadeEntry (e : Entry) : Type 0 where
  peer : IfSome e.peer IsIp6
  packet : IfSome e.packet IsBytes

queues_of : (f : Fate) (e : Entry) → IfSome e.packet IsBytes → IfSome (bearing_of f e).queues IsBytes
queues_of fate.Queued e h = h
queues_of _ e h = tt

mentioned : (es : List Entry) → AllByRecursion IsMadeEntry es → AllByRecursion IsMadeMention (map mention es)
mentioned [] a = tt
mentioned (e ∷ es) a = (record { peer = a.0.peer; packet = queues_of e.step.fate e a.0.packet }, mentioned es a.1)

in_epoch : (es : List Entry) → AllByRecursion IsMadeEntry es → AllByRecursion IsMadeEntry (epoch es)
in_epoch [] a = tt
in_epoch (e ∷ es) a = by (is_changed e.step.fate) (in_epoch es a.1) where
  by : (b : Bool) → AllByRecursion IsMadeEntry (epoch es) → AllByRecursion IsMadeEntry (cond b [] (e ∷ epoch es))
  by true rest = tt
  by false rest = (a.0, rest)

-- a tick is about a listed peer
due_peer : (j : Journal) (n : ℕ) (q : Qualification) → AllByRecursion IsMadeMention (mentions j.entries) → IfSome (peer_of_due (due_at n q (first_peer j n))) IsIp6
unfolding due_at
due_peer j n q a = by_asks (is_due n q.due) where
  of_listing : (o : Option Listing) → first_peer j n ≡ o → IfSome (peer_of_due (peer_due n o)) IsIp6
  of_listing None e = tt
  of_listing (Some l) e = at (nat_le (due_of l.peer) n) where
    at : (b : Bool) → IfSome (peer_of_due (cond b (tries l) nothing)) IsIp6
    at true = listed_peer l.who n (mentions j.entries) a ((first_waits (mentions j.entries) n l e).listed)
    at false = tt

  by_asks : (b : Bool) → IfSome (peer_of_due (cond b asks (peer_due n (first_peer j n)))) IsIp6
  by_asks true = tt
  by_asks false = of_listing (first_peer j n) refl

-- ENTRIES

entry_is : (s : Settings) (j : Journal) (n : ℕ) (input : Input) (w : Words) → AllByRecursion IsMadeMention (mentions j.entries) → IsMadeInput input → IsMadeEntry (client_entry s j n input w)
unfolding client_in client_out client_tick
entry_is s j n (arrived from x) w a h = record { peer = source_is x h.1; packet = packet_came x h.1 }
entry_is s j n (given x) w a h = record { peer = destination_is x h; packet = packet_is x h }
entry_is s j n (from_six x) w a h = record { peer = tt; packet = tt }
entry_is s j n ticked w a h = record { peer = due_peer j n (qualification s j) a; packet = tt }

all_mentions : (es : List Entry) → AllByRecursion IsMadeEntry es → AllByRecursion IsMadeMention (mentions es)
unfolding mentions
all_mentions es a = mentioned (epoch es) (in_epoch es a)

entries_are : (s : Settings) (start : ℕ) (es : List Entry) → IsJournal s (record { start = start; entries = es }) → AreMadeInputs es → AllByRecursion IsMadeEntry es
entries_are s start [] is a = tt
entries_are s start (e ∷ es) is a =
    let rest = entries_are s start es is.1 a.1 in
    let j : Journal = record { start = start; entries = es } in
    (subst IsMadeEntry (sym is.0.is) (entry_is s j e.moment e.input is.0.words (all_mentions es rest) a.0), rest)

-- ALL TOGETHER

-- what a journal of made inputs says
pub record IsMadeJournal (s : Settings) (j : Journal) : Type 0 where
  pub address : IfSome (qualification s j).address IsIp6
  pub waiting : (n : ℕ) (p : Ip6) → AllByRecursion IsBytes (known (mentions j.entries) n p).waiting

pub journal_is : (s : Settings) (j : Journal) → IsJournal s j → IsMadeClient s → AreMadeInputs j.entries → IsMadeJournal s j
journal_is s j is made a = record {
  address = address_is s j.start j.entries made a;
  waiting = λ n p. waiting_is (mentions j.entries) n p (all_mentions j.entries (entries_are s j.start j.entries is a));
}

-- the next entry's peer is made
pub next_peer : (s : Settings) (j : Journal) (e : Entry) → IsJournal s j → AreMadeInputs j.entries → IsMadeInput e.input → (w : Words) → e ≡ client_entry s j e.moment e.input w → IfSome e.peer IsIp6
next_peer s j e is a h w same =
    let m = entry_is s j e.moment e.input w (all_mentions j.entries (entries_are s j.start j.entries is a)) h in
    subst (λ (x : Entry). IfSome x.peer IsIp6) (sym same) m.peer

pub each_standing_is_made : EachStandingIsMade
each_standing_is_made s j e is made h a = record {
  address = address_is s j.start j.entries made a;
  peer = next_peer s j e is.1 a h is.0.words is.0.is;
}
