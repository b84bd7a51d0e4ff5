-- Each entry that touches a peer finds room for it.
use Rattle.relay_rules.proofs.Words.{Bool, Entry, Ep, Fate, FindsRoom, HaveRoom, Input, Ip6, IsRelayJournal, List, Listing, None, Option, Peer, RelayGiven, RelayJournalHasFew, RelaySeen, RelaySettings, RelayStanding, Some, [], ap, arrived, cond, destination_in, due_by, due_of, false, false≢true, few_listed, first_waits, first_where, from_six, handed, has_room, is_some, listed_has_room, nat_le, no_peer, not, not_known, refl, relay_bearing_of, relay_entry, relay_first_peer, relay_given, relay_in, relay_mention, relay_mentions, relay_packet_lines, relay_reception_row, relay_seen, relay_six, relay_standing_at, relay_standing_of, relay_tick, relay_ticks, relay_transmission_row, room_by, room_of_none, source_in, subst, sym, ticked, true, unwrap_or, ℕ, ◌++◌, ◌∙◌, ◌∷◌, ◌≡◌}
use Rattle.teredo_node.specs.declared.fate.Fate.TheVariants as fate
use Rattle.relay_rules.proofs.Fates.{fate_of_reception, fate_of_transmission}
use Rattle.relay_rules.proofs.Tried.{journal_is_tried}

-- TABLES

-- it touches nobody
abbrev IsIdle : Fate → Type 0
IsIdle f = (e : Entry) → (relay_bearing_of f e).touches ≡ false

-- DATAGRAMS

abbrev unlisted : RelaySeen → RelaySeen
unlisted z = record z { listed = false }

row_idle : (z : RelaySeen) → IsIdle (relay_reception_row (unlisted z))
row_idle z =
    first_where IsIdle ((not z.payload, fate.Malformed) ∷ (z.keyed, fate.Keyed) ∷ (z.big, fate.Big) ∷ (not z.teredo, fate.Source) ∷ (not z.embedded_here, fate.Mismatch) ∷ []) fate.Unlisted
    ((λ h e. refl), ((λ h e. refl), ((λ h e. refl), ((λ h e. refl), ((λ h e. refl), tt))))) (λ e. refl)

received_idle : (s : RelaySettings) (a : RelayStanding) (from : Ep) (x : List ℕ) → a.peer ≡ None → IsIdle (relay_reception_row (relay_seen s a from x))
unfolding relay_seen
received_idle s a from x none =
    let z : RelaySeen = relay_seen s a from x in
    let out : z.listed ≡ false = ap is_some none in
    let is : z ≡ unlisted z = λ i. record z { listed = out i } in
    subst (λ (y : RelaySeen). IsIdle (relay_reception_row y)) (sym is) (row_idle z)

-- PACKETS OF THE IPV6 SIDE

abbrev crowded : RelayGiven → RelayGiven
crowded z = record z { trusted = false; room = false }

out_idle : (z : RelayGiven) → IsIdle (relay_transmission_row (crowded z))
out_idle z =
    let y : RelayGiven = crowded z in
    first_where IsIdle (relay_packet_lines y ++ (y.trusted, fate.Sent) ∷ []) fate.PeersFull
    ((λ h e. refl), ((λ h e. refl), ((λ h e. refl), ((λ h e. refl), ((λ h e. refl), ((λ h e. refl), ((λ h. absurd (false≢true h)), tt))))))) (λ e. refl)

sent_idle : (s : RelaySettings) (a : RelayStanding) (x : List ℕ) → a.room ≡ false → a.peer ≡ None → IsIdle (relay_transmission_row (relay_given s a x))
unfolding relay_given
sent_idle s a x room none =
    let z : RelayGiven = relay_given s a x in
    let trusted : z.trusted ≡ false = ap (λ (o : Option Peer). is_some (unwrap_or o no_peer).trusted) none in
    let is : z ≡ crowded z = λ i. record z { trusted = trusted i; room = room i } in
    subst (λ (y : RelayGiven). IsIdle (relay_transmission_row y)) (sym is) (out_idle z)

-- AN ENTRY

of_datagram : (s : RelaySettings) (j : List Entry) (n : ℕ) (from : Ep) (x : List ℕ) → FindsRoom (relay_mention (relay_in s j n from x)) (relay_mentions j)
unfolding relay_in relay_standing_at
of_datagram s j n from x =
    let e : Entry = relay_in s j n from x in
    room_by (relay_mention e) (relay_mentions j) (λ p about none.
    let a : RelayStanding = relay_standing_of j n (source_in x) in
    let out : a.peer ≡ None = ap (λ (o : Option Ip6). (relay_standing_of j n o).peer) about ∙ not_known (relay_mentions j) n p none in
    ap (λ (f : Fate). (relay_bearing_of f e).touches) (fate_of_reception s a from x) ∙ received_idle s a from x out e)

of_packet : (s : RelaySettings) (j : List Entry) (n : ℕ) (x : List ℕ) → FindsRoom (relay_mention (relay_six s j n x)) (relay_mentions j)
unfolding relay_six relay_standing_at
of_packet s j n x =
    let e : Entry = relay_six s j n x in
    room_by (relay_mention e) (relay_mentions j) (λ p about none.
    let a : RelayStanding = relay_standing_of j n (destination_in x) in
    let room : a.room ≡ false = ap (λ (o : Option Ip6). (relay_standing_of j n o).room) about ∙ none in
    let out : a.peer ≡ None = ap (λ (o : Option Ip6). (relay_standing_of j n o).peer) about ∙ not_known (relay_mentions j) n p none in
    ap (λ (f : Fate). (relay_bearing_of f e).touches) (fate_of_transmission s a x) ∙ sent_idle s a x room out e)

-- a listed peer is tried
of_tick : (s : RelaySettings) (j : List Entry) (n : ℕ) → FindsRoom (relay_mention (relay_tick s j n)) (relay_mentions j)
unfolding relay_tick
of_tick s j n = by_peer (relay_first_peer j n) refl where
  finds : Option Listing → Type 0
  finds due = FindsRoom (relay_mention (relay_ticks s n due)) (relay_mentions j)

  by_time : (b : Bool) (l : Listing) → relay_first_peer j n ≡ Some l → finds (cond b (Some l) None)
  by_time true l is =
      room_by (relay_mention (relay_ticks s n (Some l))) (relay_mentions j) (λ p about none.
      let same : l.who ≡ p = ap (λ (o : Option Ip6). unwrap_or o l.who) about in
      let room : has_room (relay_mentions j) n l.who ≡ true = listed_has_room (relay_mentions j) n l.who (first_waits (relay_mentions j) n l is).listed in
      absurd (false≢true (sym none ∙ ap (has_room (relay_mentions j) n) (sym same) ∙ room)))
  by_time false l is = room_of_none (relay_mention (relay_ticks s n None)) (relay_mentions j) refl

  by_peer : (o : Option Listing) → relay_first_peer j n ≡ o → finds (due_by n o)
  by_peer None is = room_of_none (relay_mention (relay_ticks s n None)) (relay_mentions j) refl
  by_peer (Some l) is = by_time (nat_le (due_of l.peer) n) l is

of_entry : (s : RelaySettings) (j : List Entry) (n : ℕ) (input : Input) → FindsRoom (relay_mention (relay_entry s j n input)) (relay_mentions j)
of_entry s j n (arrived from x) = of_datagram s j n from x
of_entry s j n (from_six x) = of_packet s j n x
of_entry s j n ticked = of_tick s j n
of_entry s j n (handed x) = room_of_none (relay_mention (relay_entry s j n (handed x))) (relay_mentions j) refl

-- JOURNALS

have_room : (s : RelaySettings) (j : List Entry) → IsRelayJournal s j → HaveRoom (relay_mentions j)
unfolding relay_mentions
have_room s [] a = tt
have_room s (e ∷ j) a =
    let one : FindsRoom (relay_mention e) (relay_mentions j) = subst (λ (x : Entry). FindsRoom (relay_mention x) (relay_mentions j)) (sym a.0.is) (of_entry s j e.moment e.input) in
    (one, have_room s j a.1)

pub journal_has_few : RelayJournalHasFew
journal_has_few s j n a l =
    let tried = journal_is_tried s j n a l in
    few_listed (relay_mentions j) n tried.order tried.past (have_room s j a)
