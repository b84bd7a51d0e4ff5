-- Each entry that touches a peer finds room for it.
use Rattle.client_rules.proofs.Words.{AreEntries, Bool, Due, Entry, Ep, Fate, FindsRoom, Given, HaveRoom, Input, Ip6, Journal, JournalHasFew, List, Listing, None, Option, Peer, Phase, Qualification, Seen, Settings, Some, Standing, Value, Words, [], advert_lines, advert_row, and_parts, ap, arrived, asks, bearing_of, client_entry, client_in, client_out, client_tick, cond, datagram_lines, destination_in, due_at, due_of, epoch, false, false≢true, few_listed, first_peer, first_waits, first_where, from_six, handed, has_room, heard, host_lines, indirect_lines, is_due, is_fresh, is_some, is_testable, is_trusted_at, is_under_test, journal_since, listed_has_room, map, mention, mentions, nat_le, no_peer, not, not_known, packet_lines, peer_due, phase_line, qualification, reception_fate, reception_row, refl, room_by, room_of_none, seen, server_lines, source_in, standing_at, standing_of, subst, suspicious_lines, sym, teredo_lines, ticked, ticks, transmission_row, tries, true, trusted_lines, unwrap_or, value_in, ℕ, ◌&&◌, ◌++◌, ◌∙◌, ◌∷◌, ◌≡◌}
use Rattle.teredo_node.specs.declared.fate.Fate.TheVariants as fate
use Rattle.teredo_node.specs.Journal.{is_changed}
use Rattle.qualify.specs.declared.phase.Phase.TheVariants as phase
use Rattle.client_rules.specs.Transmission.{given}
use Rattle.client_rules.specs.Ticks.{nothing}
use Rattle.client_rules.proofs.Fates.{fate_of_reception, fate_of_transmission}
use Rattle.client_rules.proofs.Tried.{journal_is_tried}

-- TABLES

-- it touches nobody
abbrev IsIdle : Fate → Type 0
IsIdle f = (e : Entry) → (bearing_of f e).touches ≡ false

-- a test that fails because of its last part
never2 : (a : Bool) → (a && false) ≡ true → ⊥
never2 true h = false≢true h
never2 false h = false≢true h

never4 : (a b c : Bool) → (a && (b && (c && false))) ≡ true → ⊥
never4 true true true h = false≢true h
never4 true true false h = false≢true h
never4 true false c h = false≢true h
never4 false b c h = false≢true h

-- ADVERTISEMENTS

phase_idle : (p : Phase) (same : Bool) → IsIdle (phase_line p same)
phase_idle phase.Cone same = λ e. refl
phase_idle phase.Restricted same = λ e. refl
phase_idle phase.Secondary true = λ e. refl
phase_idle phase.Secondary false = λ e. refl
phase_idle phase.Qualified true = λ e. refl
phase_idle phase.Qualified false = λ e. refl
phase_idle phase.Symmetric same = λ e. refl
phase_idle phase.OffLine same = λ e. refl

advert_idle : (s : Settings) (q : Qualification) (from : Ep) (v : Value) → IsIdle (advert_row s q from v)
unfolding advert_row
advert_idle s q from v =
    let a = heard s q from v in
    first_where IsIdle (advert_lines a) (phase_line a.phase a.same_origin) ((λ h e. refl), ((λ h e. refl), ((λ h e. refl), ((λ h e. refl), ((λ h e. refl), tt))))) (phase_idle a.phase a.same_origin)

-- DATAGRAMS

-- where there is no room
abbrev crowded : Seen → (from_server embedded_here : Bool) → Seen
crowded z server here = record z { from_server = server; embedded_here = here; peer = record z.peer { room = false; trusted_here = false; listed = false } }

crowded_idle : (z : Seen) (advert : Fate) (server here : Bool) → IsIdle advert → IsIdle (reception_row (crowded z server here) advert)
crowded_idle z advert true here a =
    let y : Seen = crowded z true here in
    first_where IsIdle (datagram_lines y ++ (server_lines y advert ++ (packet_lines y ++ (not y.good_origin, fate.Origin) ∷ []))) fate.PeersFull
    ((λ h e. refl), ((λ h e. refl), ((λ h e. refl), ((λ h e. refl), ((λ h e. refl), ((λ h. a), ((λ h e. refl), ((λ h e. refl), ((λ h e. refl), ((λ h e. refl), ((λ h e. refl), tt))))))))))) (λ e. refl)
crowded_idle z advert false true a =
    let y : Seen = crowded z false true in
    first_where IsIdle (datagram_lines y ++ (server_lines y advert ++ (packet_lines y ++ (indirect_lines y ++ trusted_lines y)))) fate.PeersFull (
      (λ h e. refl),
      (
        (λ h e. refl),
        (
          (λ h e. refl),
          (
            (λ h e. refl),
            (
              (λ h e. refl),
              (
                (λ h. a),
                (
                  (λ h e. refl),
                  (
                    (λ h e. refl),
                    (
                      (λ h e. refl),
                      (
                        (λ h e. refl),
                        (
                          (λ h e. refl),
                          (
                            (λ h e. refl),
                            (
                              (λ h e. refl),
                              (
                                (λ h. absurd (false≢true h)),
                                (
                                  (λ h. absurd (false≢true h)),
                                  ((λ h. absurd (false≢true h)), ((λ h. absurd (never2 (not y.teredo) h)), tt)),
                                ),
                              ),
                            ),
                          ),
                        ),
                      ),
                    ),
                  ),
                ),
              ),
            ),
          ),
        ),
      ),
    )
    (λ e. refl)
crowded_idle z advert false false a =
    let y : Seen = crowded z false false in
    first_where IsIdle (datagram_lines y ++ (server_lines y advert ++ (packet_lines y ++ (indirect_lines y ++ (trusted_lines y ++ (teredo_lines y ++ suspicious_lines y)))))) fate.Suspicious (
      (λ h e. refl),
      (
        (λ h e. refl),
        (
          (λ h e. refl),
          (
            (λ h e. refl),
            (
              (λ h e. refl),
              (
                (λ h. a),
                (
                  (λ h e. refl),
                  (
                    (λ h e. refl),
                    (
                      (λ h e. refl),
                      (
                        (λ h e. refl),
                        (
                          (λ h e. refl),
                          (
                            (λ h e. refl),
                            (
                              (λ h e. refl),
                              (
                                (λ h. absurd (false≢true h)),
                                (
                                  (λ h. absurd (false≢true h)),
                                  (
                                    (λ h. absurd (false≢true h)),
                                    (
                                      (λ h. absurd (never2 (not y.teredo) h)),
                                      (
                                        (λ h e. refl),
                                        (
                                          (λ h. absurd (false≢true h)),
                                          (
                                            (λ h. absurd (false≢true h)),
                                            (
                                              (λ h e. refl),
                                              (
                                                (λ h. absurd (never4 y.global (not y.peer.fresh) (not y.peer.barred)
                                                    (and_parts (is_testable y) (not y.peer.holds_most) h).0)),
                                                (
                                                  (λ h. absurd (never4 y.global (not y.peer.fresh) (not y.peer.barred) h)),
                                                  ((λ h. absurd (never2 y.global (and_parts (is_under_test y) (not y.peer.holds_most) h).0)), tt),
                                                ),
                                              ),
                                            ),
                                          ),
                                        ),
                                      ),
                                    ),
                                  ),
                                ),
                              ),
                            ),
                          ),
                        ),
                      ),
                    ),
                  ),
                ),
              ),
            ),
          ),
        ),
      ),
    )
    (λ e. refl)

row_idle : (z : Seen) (advert : Fate) → IsIdle advert → z.peer.room ≡ false → z.peer.trusted_here ≡ false → z.peer.listed ≡ false → IsIdle (reception_row z advert)
row_idle z advert a room trusted listed =
    let is : z ≡ crowded z z.from_server z.embedded_here = λ i. record z { peer = record z.peer { room = room i; trusted_here = trusted i; listed = listed i } } in
    subst (λ (y : Seen). IsIdle (reception_row y advert)) (sym is) (crowded_idle z advert z.from_server z.embedded_here a)

received_idle : (s : Settings) (a : Standing) (from : Ep) (x : List ℕ) → a.room ≡ false → a.peer ≡ None → IsIdle (reception_fate s a from x)
unfolding reception_fate seen is_trusted_at
received_idle s a from x room unlisted =
    row_idle (seen s a from x) (advert_row s a.qualification from (value_in x)) (advert_idle s a.qualification from (value_in x)) room
    (ap (λ (o : Option Peer). is_trusted_at from (unwrap_or o no_peer)) unlisted) (ap is_some unlisted)

-- PACKETS OF THE HOST

abbrev crowded_out : Given → Given
crowded_out z = record z { fresh = false; room = false }

out_idle : (z : Given) → IsIdle (transmission_row (crowded_out z))
out_idle z =
    let y : Given = crowded_out z in
    first_where IsIdle (host_lines y ++ (y.unreachable, fate.Embedded) ∷ (y.fresh, fate.Sent) ∷ (y.cone, fate.SentCone) ∷ []) fate.PeersFull
    ((λ h e. refl), ((λ h e. refl), ((λ h e. refl), ((λ h e. refl), ((λ h e. refl), ((λ h e. refl), ((λ h e. refl), ((λ h e. refl), ((λ h. absurd (false≢true h)), ((λ h e. refl), tt)))))))))) (λ e. refl)

sent_idle : (s : Settings) (a : Standing) (x : List ℕ) → a.room ≡ false → a.peer ≡ None → IsIdle (transmission_row (given s a x))
unfolding given is_fresh
sent_idle s a x room unlisted =
    let z : Given = given s a x in
    let fresh : z.fresh ≡ false = ap (λ (o : Option Peer). is_fresh a.moment (unwrap_or o no_peer)) unlisted in
    let is : z ≡ crowded_out z = λ i. record z { fresh = fresh i; room = room i } in
    subst (λ (y : Given). IsIdle (transmission_row y)) (sym is) (out_idle z)

-- AN ENTRY

of_datagram : (s : Settings) (j : Journal) (n : ℕ) (from : Ep) (x : List ℕ) (w : Words) → FindsRoom (mention (client_in s j n from x w)) (mentions j.entries)
unfolding client_in standing_at
of_datagram s j n from x w =
    let e : Entry = client_in s j n from x w in
    room_by (mention e) (mentions j.entries) (λ p about none.
    let a : Standing = standing_of s j n (source_in x) in
    let room : a.room ≡ false = ap (λ (o : Option Ip6). (standing_of s j n o).room) about ∙ none in
    let unlisted : a.peer ≡ None = ap (λ (o : Option Ip6). (standing_of s j n o).peer) about ∙ not_known (mentions j.entries) n p none in
    ap (λ (f : Fate). (bearing_of f e).touches) (fate_of_reception s a from x w) ∙ received_idle s a from x room unlisted e)

of_packet : (s : Settings) (j : Journal) (n : ℕ) (x : List ℕ) (w : Words) → FindsRoom (mention (client_out s j n x w)) (mentions j.entries)
unfolding client_out standing_at
of_packet s j n x w =
    let e : Entry = client_out s j n x w in
    room_by (mention e) (mentions j.entries) (λ p about none.
    let a : Standing = standing_of s j n (destination_in x) in
    let room : a.room ≡ false = ap (λ (o : Option Ip6). (standing_of s j n o).room) about ∙ none in
    let unlisted : a.peer ≡ None = ap (λ (o : Option Ip6). (standing_of s j n o).peer) about ∙ not_known (mentions j.entries) n p none in
    ap (λ (f : Fate). (bearing_of f e).touches) (fate_of_transmission s a x w) ∙ sent_idle s a x room unlisted e)

-- a listed peer is tried
of_tick : (s : Settings) (j : Journal) (n : ℕ) (w : Words) → FindsRoom (mention (client_tick s j n w)) (mentions j.entries)
unfolding client_tick due_at
of_tick s j n w = by_phase (is_due n (qualification s j).due) where
  finds : Due → Type 0
  finds due = FindsRoom (mention (ticks s j n w due)) (mentions j.entries)

  by_time : (b : Bool) (l : Listing) → first_peer j n ≡ Some l → finds (cond b (tries l) nothing)
  by_time true l is =
      room_by (mention (ticks s j n w (tries l))) (mentions j.entries) (λ p about none.
      let same : l.who ≡ p = ap (λ (o : Option Ip6). unwrap_or o l.who) about in
      let room : has_room (mentions j.entries) n l.who ≡ true = listed_has_room (mentions j.entries) n l.who (first_waits (mentions j.entries) n l is).listed in
      absurd (false≢true (sym none ∙ ap (has_room (mentions j.entries) n) (sym same) ∙ room)))
  by_time false l is = room_of_none (mention (ticks s j n w nothing)) (mentions j.entries) refl

  by_peer : (o : Option Listing) → first_peer j n ≡ o → finds (peer_due n o)
  by_peer None is = room_of_none (mention (ticks s j n w nothing)) (mentions j.entries) refl
  by_peer (Some l) is = by_time (nat_le (due_of l.peer) n) l is

  by_phase : (b : Bool) → finds (cond b asks (peer_due n (first_peer j n)))
  by_phase true = room_of_none (mention (ticks s j n w asks)) (mentions j.entries) refl
  by_phase false = by_peer (first_peer j n) refl

of_entry : (s : Settings) (j : Journal) (n : ℕ) (input : Input) (w : Words) → FindsRoom (mention (client_entry s j n input w)) (mentions j.entries)
of_entry s j n (arrived from x) w = of_datagram s j n from x w
of_entry s j n (handed x) w = of_packet s j n x w
of_entry s j n ticked w = of_tick s j n w
of_entry s j n (from_six x) w = room_of_none (mention (client_entry s j n (from_six x) w)) (mentions j.entries) refl

-- JOURNALS

have_room : (s : Settings) (start : ℕ) (j : List Entry) → AreEntries s start j → HaveRoom (mentions j)
unfolding mentions
have_room s start [] a = tt
have_room s start (e ∷ j) a =
    let one : FindsRoom (mention e) (mentions j) = subst (λ (x : Entry). FindsRoom (mention x) (mentions j)) (sym a.0.is) (of_entry s (journal_since start j) e.moment e.input a.0.words) in
    by (is_changed e.step.fate) one (have_room s start j a.1)
  where
    by : (b : Bool) → FindsRoom (mention e) (mentions j) → HaveRoom (mentions j) → HaveRoom (map mention (cond b [] (e ∷ epoch j)))
    by true one rest = tt
    by false one rest = (one, rest)

pub journal_has_few : JournalHasFew
journal_has_few s j n a l =
    let tried = journal_is_tried s j n a l in
    few_listed (mentions j.entries) n tried.order tried.past (have_room s j.start j.entries a)
