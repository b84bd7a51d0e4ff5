-- How many packets wait at most: eight for each of 256 peers of each client and relay.
use Rattle.theory_storms.proofs.Words.{Bool, Entry, Ep, Fate, FewWait, Full, Grown, IfSome, Input, Ip6, Journal, LISTED_MS, Lab, List, Mention, Node, None, Option, Peer, Phase, RelayGoesLater, RelaySentOnlyIf, RelaySettings, RelayStanding, Settings, Some, Words, [], advert_lines, advert_row, ap, arith, arrived, at_most, client, client_packet, client_rules_fate_of_reception, client_rules_fate_of_transmission, client_rules_journal_has_few, client_rules_transmission_is_warranted, client_settings, cond, destination_in, epoch, false, false≢true, first_of_each, flat_map, from_six, given, heard, is_about, is_changed, is_full, is_younger, journal, known, known_none, leb-false, legal_client_journals, legal_relay_journals, length, length-map, listed, map, most, nat, native, no_peer, node_at, nodes, now, one_entry, option_to_list, peer_at, peer_if, peer_is, phase_line, reception_lines, refl, relay, relay_bearing_of, relay_given, relay_known_in, relay_mention, relay_mentions, relay_packet, relay_reception_row, relay_rules_fate_of_reception, relay_rules_fate_of_transmission, relay_rules_journal_has_few, relay_rules_transmission_is_warranted, relay_seen, relay_settings, relay_standing_at, relay_standing_of, server, source_in, subst, sym, ticked, true, unwrap_or, value_in, waiting_packets, waits_at, waits_from, ℕ, ◌*◌, ◌++◌, ◌+◌, ◌<◌, ◌||◌, ◌∙◌, ◌∷◌, ◌≡◌, ◌≤◌}
use Rattle.std.proofs.Common.{length-append}
use Rattle.teredo_node.specs.declared.fate.Fate.TheVariants as fate
use Rattle.qualify.specs.declared.phase.Phase.TheVariants as phase
use Rattle.client_rules.specs.Bearings as client_bearings
use Rattle.client_rules.specs.Standing as client_standing
use Rattle.client_rules.specs.Reception as client_reception
use Rattle.client_rules.specs.Transmission as client_transmission
use Rattle.client_rules.specs.Warrants as client_warrants
use Rattle.client_rules.specs.Journals as client_journals
use Rattle.relay_rules.specs.Journals as relay_journals

-- FOR ONE PEER

-- an entry that queues a packet touches its peer, and finds fewer than eight waiting for it
record QueuesFew (e : Mention) (j : List Mention) : Type 0 where
  touches : e.bearing.touches ≡ true
  free : (p : Ip6) → e.peer ≡ Some p → is_full (known j e.moment p) ≡ false

abbrev QueueFew : List Mention → Type 0
QueueFew [] = Unit {0}
QueueFew (e ∷ j) = IfSome e.bearing.queues (λ x. QueuesFew e j) × QueueFew j

not_full : (x : Peer) → is_full x ≡ false → length x.waiting < 8
unfolding is_full
not_full x h = leb-false 8 (length x.waiting) h

any_some : {A : Type 0} (P : Type 0) (o : Option A) → P → IfSome o (λ x. P)
any_some P None h = tt
any_some P (Some x) h = h

to_some : {A : Type 0} (P Q : Type 0) (o : Option A) → (P → Q) → IfSome o (λ x. P) → IfSome o (λ x. Q)
to_some P Q None f h = tt
to_some P Q (Some x) f h = f h

adds : (c : Bool) (xs : List (List ℕ)) (o : Option (List ℕ)) → length xs ≤ 8 → IfSome o (λ x. length xs < 8) → length (cond c [] (xs ++ option_to_list o)) ≤ 8
adds true xs o h f = omega arith
adds false xs None h f = let both = length-append xs [] in omega (arith, both, h)
adds false xs (Some x) h f = let both = length-append xs (x ∷ []) in omega (arith, both, f)

few_waiting : (j : List Mention) → QueueFew j → (n : ℕ) (p : Ip6) → length (known j n p).waiting ≤ 8
few_waiting [] q n p = let none = ap (λ (x : Peer). length x.waiting) (known_none n p) in omega (arith, none)
few_waiting (e ∷ j) q n p =
    subst (λ (o : Option Peer). length (unwrap_or o no_peer).waiting ≤ 8) (sym (one_entry e j n p))
    (by (is_about p e) e.bearing.touches (is_younger LISTED_MS n e.moment) (peer_at j n p) refl refl (few_waiting j q.1 e.moment p)
    (few_waiting j q.1 n p))
  where
    queues : {P : Type 0} → (QueuesFew e j → P) → IfSome e.bearing.queues (λ x. P)
    queues {P = P} f = to_some (QueuesFew e j) P e.bearing.queues f q.0

    by : (about touches young : Bool) (later : Option Peer) → is_about p e ≡ about → e.bearing.touches ≡ touches → length (known j e.moment p).waiting ≤ 8
        → length (unwrap_or later no_peer).waiting ≤ 8 → length (unwrap_or (peer_if about touches young e (peer_at j e.moment p) later) no_peer).waiting ≤ 8
    by false touches young later a t b h = h
    by true false young None a t b h = omega arith
    by true false young (Some x) a t b h = adds (e.bearing.hears || e.bearing.gives_up) x.waiting e.bearing.queues h
        (queues (λ f. absurd (false≢true (sym t ∙ f.touches))))
    by true true false later a t b h = omega arith
    by true true true later a t b h =
        let x : Peer = known j e.moment p in
        adds (e.bearing.hears || e.bearing.gives_up) x.waiting e.bearing.queues b (queues (λ f. not_full x (f.free p (peer_is p e.peer a))))

-- FOR ALL PEERS

flat_few : (g : Ip6 → List (List ℕ)) (ps : List Ip6) → ((p : Ip6) → length (g p) ≤ 8) → length (flat_map g ps) ≤ 8 * length ps
flat_few g [] each = omega arith
flat_few g (p ∷ ps) each =
    let one = each p in
    let rest = flat_few g ps each in
    let both = length-append (g p) (flat_map g ps) in
    omega (arith, one, rest, both)

few_packets : (j : List Mention) (m : ℕ) → QueueFew j → length (listed j m) ≤ 256 → length (waiting_packets j m) ≤ 2048
few_packets j m q few =
    let all = flat_few (λ (p : Ip6). (known j m p).waiting) (listed j m) (few_waiting j q m) in
    omega (arith, all, few)

-- WHAT A CLIENT QUEUES

abbrev is_queued : Fate → Bool
is_queued fate.Queued = true
is_queued _ = false

abbrev IsOther : Fate → Type 0
IsOther f = is_queued f ≡ false

queued_other : {A : Type 0} (f : Fate) → IsOther f → f ≡ fate.Queued → A
queued_other f other is = absurd (false≢true (sym other ∙ ap is_queued is))

phase_other : (p : Phase) (same : Bool) → IsOther (phase_line p same)
phase_other phase.Cone same = refl
phase_other phase.Restricted same = refl
phase_other phase.Secondary true = refl
phase_other phase.Secondary false = refl
phase_other phase.Qualified true = refl
phase_other phase.Qualified false = refl
phase_other phase.Symmetric same = refl
phase_other phase.OffLine same = refl

-- no datagram of a client is
received_other : (s : Settings) (a : client_standing.Standing) (from : Ep) (x : List ℕ) → IsOther (client_reception.reception_fate s a from x)
unfolding client_reception.reception_fate advert_row
received_other s a from x =
    let z = client_reception.seen s a from x in
    let h = heard s a.qualification from (value_in x) in
    let advert : IsOther (advert_row s a.qualification from (value_in x)) = first_of_each IsOther (advert_lines h) (phase_line h.phase h.same_origin) (refl, (refl, (refl, (refl, (refl, tt))))) (phase_other h.phase h.same_origin) in
    first_of_each IsOther (client_reception.datagram_lines z ++ (client_reception.server_lines z
    (advert_row s a.qualification from (value_in x)) ++ (client_reception.packet_lines z
    ++ (client_reception.indirect_lines z ++ client_reception.direct_lines z)))) fate.Suspicious
    (refl, (refl, (refl, (refl, (refl, (advert, (refl, (refl, (refl, (refl, (refl, (refl, (refl, (refl, (refl, (refl, (refl, (refl, (refl, (refl, (refl, (refl, (refl, (refl, tt)))))))))))))))))))))))) refl

client_queues : (e : Entry) (f : Fate) (P : Type 0) → (f ≡ fate.Queued → IfSome e.packet (λ x. P)) → IfSome (client_bearings.bearing_of f e).queues (λ x. P)
client_queues e fate.Queued P h = h refl
client_queues e _ P h = tt

-- a peer's packets may wait
abbrev IsFree : Option Ip6 → List Mention → ℕ → Type 0
IsFree peer j n = (p : Ip6) → peer ≡ Some p → is_full (known j n p) ≡ false

client_few : (e : Entry) (j : List Mention) → (e.step.fate ≡ fate.Queued → IsFree e.peer j e.moment)
    → IfSome (client_bearings.mention e).bearing.queues (λ x. QueuesFew (client_bearings.mention e) j)
client_few e j free =
    client_queues e e.step.fate (QueuesFew (client_bearings.mention e) j)
    (λ k. any_some (QueuesFew (client_bearings.mention e) j) e.packet (record { touches = ap (λ (f : Fate). (client_bearings.bearing_of f e).touches) k; free = free k }))

client_out : (s : Settings) (j : Journal) (n : ℕ) (x : List ℕ) (w : Words)
    → let e : Entry = client_journals.client_out s j n x w in e.step.fate ≡ fate.Queued → IsFree e.peer (client_bearings.mentions j.entries) n
unfolding client_journals.client_out client_transmission.given client_standing.standing_at
client_out s j n x w k p about =
    let a : client_standing.Standing = client_standing.standing_of s j n (destination_in x) in
    let later : client_warrants.GoesLater (client_transmission.given s a x) =
    subst (λ (f : Fate). client_warrants.SentOnlyIf f (client_transmission.given s a x)) (sym (client_rules_fate_of_transmission s a x w) ∙ k)
    (client_rules_transmission_is_warranted s a x) in
    ap (λ (o : Option Ip6). is_full (client_standing.known_in (client_standing.standing_of s j n o))) (sym about) ∙ later.free

client_entry_few : (s : Settings) (j : Journal) (n : ℕ) (input : Input) (w : Words) → let e : Entry = client_journals.client_entry s j n input w in
    IfSome (client_bearings.mention e).bearing.queues (λ x. QueuesFew (client_bearings.mention e) (client_bearings.mentions j.entries))
unfolding client_journals.client_in client_journals.client_out client_journals.client_tick
client_entry_few s j n (arrived from x) w =
    let a : client_standing.Standing = client_standing.standing_of s j n (source_in x) in
    client_few (client_journals.client_entry s j n (arrived from x) w) (client_bearings.mentions j.entries)
    (λ k. queued_other (client_reception.reception_fate s a from x) (received_other s a from x) (sym (client_rules_fate_of_reception s a from x w) ∙ k))
client_entry_few s j n (given x) w = client_few (client_journals.client_entry s j n (given x) w) (client_bearings.mentions j.entries) (client_out s j n x w)
client_entry_few s j n ticked w =
    let e : Entry = client_journals.client_entry s j n ticked w in
    client_queues e e.step.fate (QueuesFew (client_bearings.mention e) (client_bearings.mentions j.entries)) (λ k. tt)
client_entry_few s j n (from_six x) w = tt

client_queue : (s : Settings) (start : ℕ) (j : List Entry) → client_journals.AreEntries s start j → QueueFew (client_bearings.mentions j)
unfolding client_bearings.mentions
client_queue s start [] a = tt
client_queue s start (e ∷ j) a =
    let one = subst (λ (x : Entry). IfSome (client_bearings.mention x).bearing.queues
    (λ y. QueuesFew (client_bearings.mention x) (client_bearings.mentions j))) (sym a.0.is)
    (client_entry_few s (client_journals.journal_since start j) e.moment e.input a.0.words) in
    by (is_changed e.step.fate) one (client_queue s start j a.1)
  where
    by : (b : Bool) → IfSome (client_bearings.mention e).bearing.queues
        (λ y. QueuesFew (client_bearings.mention e) (client_bearings.mentions j)) → QueueFew (client_bearings.mentions j)
        → QueueFew (map client_bearings.mention (cond b [] (e ∷ epoch j)))
    by true one rest = tt
    by false one rest = (one, rest)

-- WHAT A RELAY QUEUES

-- no datagram of a relay is
relayed_other : (s : RelaySettings) (a : RelayStanding) (from : Ep) (x : List ℕ) → IsOther (relay_reception_row (relay_seen s a from x))
relayed_other s a from x =
    first_of_each IsOther (reception_lines (relay_seen s a from x)) fate.Unserved (refl, (refl, (refl, (refl, (refl, (refl, (refl, (refl, tt)))))))) refl

relay_queues : (e : Entry) (f : Fate) (P : Type 0) → (f ≡ fate.Queued → IfSome e.packet (λ x. P)) → IfSome (relay_bearing_of f e).queues (λ x. P)
relay_queues e fate.Queued P h = h refl
relay_queues e _ P h = tt

relay_few : (e : Entry) (j : List Mention) → (e.step.fate ≡ fate.Queued → (p : Ip6) → e.peer ≡ Some p → is_full (known j e.moment p) ≡ false) → IfSome (relay_mention e).bearing.queues (λ x. QueuesFew (relay_mention e) j)
relay_few e j free =
    relay_queues e e.step.fate (QueuesFew (relay_mention e) j)
    (λ k. any_some (QueuesFew (relay_mention e) j) e.packet (record { touches = ap (λ (f : Fate). (relay_bearing_of f e).touches) k; free = free k }))

relay_six : (s : RelaySettings) (j : List Entry) (n : ℕ) (x : List ℕ) → let e : Entry = relay_journals.relay_six s j n x in e.step.fate ≡ fate.Queued → (p : Ip6) → e.peer ≡ Some p
    → is_full (known (relay_mentions j) n p) ≡ false
unfolding relay_journals.relay_six relay_given relay_standing_at
relay_six s j n x k p about =
    let a : RelayStanding = relay_standing_of j n (destination_in x) in
    let later : RelayGoesLater (relay_given s a x) = subst (λ (f : Fate). RelaySentOnlyIf f (relay_given s a x)) (sym (relay_rules_fate_of_transmission s a x) ∙ k) (relay_rules_transmission_is_warranted s a x) in
    ap (λ (o : Option Ip6). is_full (relay_known_in (relay_standing_of j n o))) (sym about) ∙ later.free

relay_entry_few : (s : RelaySettings) (j : List Entry) (n : ℕ) (input : Input) → let e : Entry = relay_journals.relay_entry s j n input in
    IfSome (relay_mention e).bearing.queues (λ x. QueuesFew (relay_mention e) (relay_mentions j))
unfolding relay_journals.relay_in relay_journals.relay_six relay_journals.relay_tick
relay_entry_few s j n (arrived from x) =
    let a : RelayStanding = relay_standing_of j n (source_in x) in
    relay_few (relay_journals.relay_entry s j n (arrived from x)) (relay_mentions j)
    (λ k. queued_other (relay_reception_row (relay_seen s a from x)) (relayed_other s a from x) (sym (relay_rules_fate_of_reception s a from x) ∙ k))
relay_entry_few s j n (from_six x) = relay_few (relay_journals.relay_entry s j n (from_six x)) (relay_mentions j) (relay_six s j n x)
relay_entry_few s j n ticked =
    let e : Entry = relay_journals.relay_entry s j n ticked in
    relay_queues e e.step.fate (QueuesFew (relay_mention e) (relay_mentions j)) (λ k. tt)
relay_entry_few s j n (given x) = tt

relay_queue : (s : RelaySettings) (j : List Entry) → relay_journals.IsRelayJournal s j → QueueFew (relay_mentions j)
unfolding relay_mentions
relay_queue s [] a = tt
relay_queue s (e ∷ j) a =
    let one = subst (λ (x : Entry). IfSome (relay_mention x).bearing.queues (λ y. QueuesFew (relay_mention x) (relay_mentions j))) (sym a.0.is) (relay_entry_few s j e.moment e.input) in
    (one, relay_queue s j a.1)

-- IN A NODE

module _ (lab : Lab) (H : List Full) (g : Grown lab H) where
  node_few : (n : ℕ) (a : Node) → node_at lab.topology n ≡ Some a → length (waits_at H n a) ≤ most 2048 a
  node_few n (server a) there = omega arith
  node_few n (nat a) there = omega arith
  node_few n (client c) there =
      let s : Settings = client_settings lab.topology c in
      let j : Journal = journal n H in
      let is = legal_client_journals lab H n c g there in
      let all = few_packets (client_bearings.mentions j.entries) (now H) (client_queue s j.start j.entries is.journal) (client_rules_journal_has_few s j (now H) is.journal is.moments) in
      let same = length-map (waiting_packets (client_bearings.mentions j.entries) (now H)) client_packet in
      omega (arith, all, same)
  node_few n (relay r) there =
      let s : RelaySettings = relay_settings lab.topology n r in
      let j : Journal = journal n H in
      let is = legal_relay_journals lab H n r g there in
      let all = few_packets (relay_mentions j.entries) (now H) (relay_queue s j.entries is.journal) (relay_rules_journal_has_few s j.entries (now H) is.journal is.moments) in
      let same = length-map (waiting_packets (relay_mentions j.entries) (now H)) relay_packet in
      omega (arith, all, same)
  node_few n (native a) there = omega arith

-- IN ALL

pub few_wait : FewWait
few_wait lab H is g =
    let all : length (waits_from H 0 (nodes lab.topology)) ≤ length lab.topology.clients * 2048 + length lab.topology.relays * 2048 =
    at_most 2048 lab.topology (waits_at H) (waits_from H) (λ n. refl) (λ n a rest. refl) (node_few lab H g) in
    omega (arith, all, is.clients, is.relays)
