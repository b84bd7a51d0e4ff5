-- What was seen of a datagram where it has a fate.
use Rattle.client_rules.proofs.Words.{Bool, Cone, Fate, Heard, IsAdvert, IsDirect, IsForClient, IsIndirect, IsSound, IsSuspect, IsTested, IsUnderTest, OffLine, Phase, Qualified, ReceivedOnlyIf, ReceptionIsWarranted, Restricted, Secondary, Seen, Symmetric, advert_lines, advert_row, and_parts, by_lines, datagram_lines, direct_lines, false, false≢true, first_line, heard, indirect_lines, is_plain, is_testable, is_under_test, not, not-false, not-true, packet_lines, phase_line, reception_fate, reception_row, refl, seen, server_lines, true, value_in, ◌&&◌, ◌++◌, ◌≡◌}
use Rattle.teredo_node.specs.declared.fate.Fate.TheVariants as fate

-- of two tests the other one fails
fails_with : (b c : Bool) → b ≡ true → b && c ≡ false → c ≡ false
fails_with true c is h = h
fails_with false c is h = absurd (false≢true is)

-- THE SERVER'S ADVERTISEMENTS

-- what was seen of an advertisement before its own table
record IsServersAdvert (a : Seen) : Type 0 where
  sound : IsSound a
  server : a.from_server ≡ true
  well_formed : a.ill_formed ≡ false
  advert : a.advert ≡ true

-- where no line of its table holds
record IsUnrefusedAdvert (h : Heard) : Type 0 where
  open_nonce : h.open_nonce ≡ true
  from_expected : h.from_expected ≡ true
  usable_origin : h.usable_origin ≡ true
  one_prefix : h.one_prefix ≡ true
  own_prefix : h.own_prefix ≡ true

is_advert : (f : Fate) (a : Seen) (h : Heard) → IsServersAdvert a → IsUnrefusedAdvert h → phase_line h.phase h.same_origin ≡ f → IsAdvert f a h
is_advert f a h b u e = record {
  sound = b.sound;
  server = b.server;
  well_formed = b.well_formed;
  advert = b.advert;
  open_nonce = u.open_nonce;
  from_expected = u.from_expected;
  usable_origin = u.usable_origin;
  one_prefix = u.one_prefix;
  own_prefix = u.own_prefix;
  phase = e;
}

by_phase : (a : Seen) (h : Heard) (phase : Phase) (same : Bool) → ((f : Fate) → phase_line phase same ≡ f → IsAdvert f a h) → ReceivedOnlyIf (phase_line phase same) a h
by_phase a h Cone same is = is fate.QualifiedCone refl
by_phase a h Restricted same is = is fate.FirstAnswer refl
by_phase a h Secondary true is = is fate.QualifiedRestricted refl
by_phase a h Secondary false is = is fate.Symmetric refl
by_phase a h Qualified true is = is fate.Same refl
by_phase a h Qualified false is = is fate.Changed refl
by_phase a h Symmetric same is = tt
by_phase a h OffLine same is = tt

advertised : (a : Seen) (h : Heard) → IsServersAdvert a → ReceivedOnlyIf (first_line (advert_lines h) (phase_line h.phase h.same_origin)) a h
advertised a h b = by_lines (λ (f : Fate). ReceivedOnlyIf f a h) (advert_lines h) (phase_line h.phase h.same_origin) (
  (λ _. tt),
  (λ nonce. (
    (λ _. tt),
    (λ from. (
      (λ _. tt),
      (λ origin. (
        (λ _. tt),
        (λ one. (
          (λ _. tt),
          (λ own.
              by_phase a h h.phase h.same_origin (λ f e. is_advert f a h b (record {
                open_nonce = not-false h.open_nonce nonce;
                from_expected = not-false h.from_expected from;
                usable_origin = not-false h.usable_origin origin;
                one_prefix = not-false h.one_prefix one;
                own_prefix = not-false h.own_prefix own;
              }) e)),
        )),
      )),
    )),
  )),
)

-- PACKETS OF PEERS

-- an indirect bubble: no line refuses it
indirect : (a : Seen) → IsForClient a → a.from_server && not (a.bubble && a.origin) ≡ false
    → a.from_server && not a.good_origin ≡ false → a.from_server && not a.peer.room ≡ false → a.from_server && a.peer.barred ≡ false → a.from_server ≡ true → IsIndirect a
indirect a mine bubble origin room barred server = record {
  mine = mine;
  server = server;
  bubble = (and_parts a.bubble a.origin (not-false (a.bubble && a.origin) (fails_with a.from_server (not (a.bubble && a.origin)) server bubble))).0;
  origin = not-false a.good_origin (fails_with a.from_server (not a.good_origin) server origin);
  room = not-false a.peer.room (fails_with a.from_server (not a.peer.room) server room);
  unbarred = fails_with a.from_server a.peer.barred server barred;
}

tested : (a : Seen) → IsDirect a → a.peer.trusted_here ≡ false → not a.teredo && (a.peer.listed && (not a.peer.fresh && a.peer.reply)) ≡ true → IsTested a
tested a direct untrusted h =
    let native = and_parts (not a.teredo) (a.peer.listed && (not a.peer.fresh && a.peer.reply)) h in
    let listed = and_parts a.peer.listed (not a.peer.fresh && a.peer.reply) native.1 in
    let stale = and_parts (not a.peer.fresh) a.peer.reply listed.1 in
    record { direct = direct; untrusted = untrusted; native = not-true a.teredo native.0; listed = listed.0; stale = not-true a.peer.fresh stale.0; reply = stale.1 }

-- what a packet of rule 6 is
record IsPlainPacket (a : Seen) : Type 0 where
  no_bubble : a.bubble ≡ false
  no_reply : a.echo_reply ≡ false

plain : (a : Seen) → is_plain a ≡ true → IsPlainPacket a
plain a h =
    let kind = and_parts (not a.bubble) (not a.echo_reply) h in
    record { no_bubble = not-true a.bubble kind.0; no_reply = not-true a.echo_reply kind.1 }

suspect : (a : Seen) (full : Bool) → IsDirect a → a.peer.trusted_here ≡ false → a.teredo ≡ false → is_testable a ≡ true → a.peer.holds_most ≡ full → IsSuspect full a
suspect a full direct untrusted native h kept =
    let global = and_parts a.global (not a.peer.fresh && (not a.peer.barred && (a.peer.room && is_plain a))) h in
    let stale = and_parts (not a.peer.fresh) (not a.peer.barred && (a.peer.room && is_plain a)) global.1 in
    let unbarred = and_parts (not a.peer.barred) (a.peer.room && is_plain a) stale.1 in
    let room = and_parts a.peer.room (is_plain a) unbarred.1 in
    let kind = plain a room.1 in
    record {
      direct = direct;
      untrusted = untrusted;
      native = native;
      global = global.0;
      stale = not-true a.peer.fresh stale.0;
      unbarred = not-true a.peer.barred unbarred.0;
      room = room.0;
      no_bubble = kind.no_bubble;
      no_reply = kind.no_reply;
      kept = kept;
    }

under_test : (a : Seen) → IsDirect a → a.peer.trusted_here ≡ false → a.teredo ≡ false → is_under_test a && not a.peer.holds_most ≡ true → IsUnderTest a
under_test a direct untrusted native h =
    let both = and_parts (is_under_test a) (not a.peer.holds_most) h in
    let global = and_parts a.global (a.peer.listed && (not a.peer.fresh && (a.peer.barred && (a.peer.tested && is_plain a)))) both.0 in
    let listed = and_parts a.peer.listed (not a.peer.fresh && (a.peer.barred && (a.peer.tested && is_plain a))) global.1 in
    let stale = and_parts (not a.peer.fresh) (a.peer.barred && (a.peer.tested && is_plain a)) listed.1 in
    let barred = and_parts a.peer.barred (a.peer.tested && is_plain a) stale.1 in
    let tested = and_parts a.peer.tested (is_plain a) barred.1 in
    let kind = plain a tested.1 in
    record {
      direct = direct;
      untrusted = untrusted;
      native = native;
      global = global.0;
      listed = listed.0;
      stale = not-true a.peer.fresh stale.0;
      barred = barred.0;
      tested = tested.0;
      no_bubble = kind.no_bubble;
      no_reply = kind.no_reply;
      kept = not-true a.peer.holds_most both.1;
    }

-- from a peer itself
directly : (a : Seen) (h : Heard) → IsDirect a → ReceivedOnlyIf (first_line (direct_lines a) fate.Suspicious) a h
directly a h direct = by_lines (λ (f : Fate). ReceivedOnlyIf f a h) (direct_lines a) fate.Suspicious (
  (λ both. record { direct = direct; trusted = (and_parts a.peer.trusted_here a.bubble both).0; kind = (and_parts a.peer.trusted_here a.bubble both).1 }),
  (λ bubble. (
    (λ trusted. record { direct = direct; trusted = trusted; kind = fails_with a.peer.trusted_here a.bubble trusted bubble }),
    (λ untrusted. (
      (λ all. tested a direct untrusted all),
      (λ _. (
        (λ _. tt),
        (λ room. (
          (λ both. record {
            direct = direct;
            untrusted = untrusted;
            embedded = (and_parts a.embedded_here a.bubble both).0;
            room = not-false a.peer.room (fails_with a.embedded_here (not a.peer.room) (and_parts a.embedded_here a.bubble both).0 room);
            kind = (and_parts a.embedded_here a.bubble both).1;
          }),
          (λ bubble_too. (
            (λ here. record {
              direct = direct;
              untrusted = untrusted;
              embedded = here;
              room = not-false a.peer.room (fails_with a.embedded_here (not a.peer.room) here room);
              kind = fails_with a.embedded_here a.bubble here bubble_too;
            }),
            (λ _. (
              (λ _. tt),
              (λ native. (
                (λ all. let both = and_parts (is_testable a) (not a.peer.holds_most) all in
                    suspect a false direct untrusted native both.0 (not-true a.peer.holds_most both.1)),
                (λ held. (
                  (λ all. suspect a true direct untrusted native all (not-false a.peer.holds_most (fails_with (is_testable a) (not a.peer.holds_most) all held))),
                  (λ _. (
                    (λ all. under_test a direct untrusted native all),
                    (λ _. tt),
                  )),
                )),
              )),
            )),
          )),
        )),
      )),
    )),
  )),
)

-- to the client
addressed : (a : Seen) (h : Heard) → IsForClient a → a.from_server && not (a.bubble && a.origin) ≡ false → ReceivedOnlyIf (first_line (indirect_lines a ++ direct_lines a) fate.Suspicious) a h
addressed a h mine bubble = by_lines (λ (f : Fate). ReceivedOnlyIf f a h) (indirect_lines a) (first_line (direct_lines a) fate.Suspicious) (
  (λ _. tt),
  (λ origin. (
    (λ _. tt),
    (λ room. (
      (λ _. tt),
      (λ barred. (
        (λ server. indirect a mine bubble origin room barred server),
        (λ peer.
            directly a h (record { mine = mine; direct = peer })),
      )),
    )),
  )),
)

-- THE WHOLE

row : (a : Seen) (h : Heard) → ReceivedOnlyIf (reception_row a (first_line (advert_lines h) (phase_line h.phase h.same_origin))) a h
row a h = by_lines (λ (f : Fate). ReceivedOnlyIf f a h) (datagram_lines a
    ++ (server_lines a (first_line (advert_lines h) (phase_line h.phase h.same_origin)) ++ packet_lines a))
    (first_line (indirect_lines a ++ direct_lines a) fate.Suspicious) (
      (λ _. tt),
      (λ payload. (
        (λ _. tt),
        (λ unkeyed. (
          (λ _. tt),
          (λ unconfirmed. (
            (λ _. tt),
            (λ short.
                let sound : IsSound a = record { payload = not-false a.payload payload; unkeyed = unkeyed; unconfirmed = unconfirmed; short = short } in (
                  (λ _. tt),
                  (λ well. (
                    (λ both. let server = (and_parts a.from_server a.advert both).0 in
                        advertised a h (record { sound = sound; server = server; well_formed = fails_with a.from_server a.ill_formed server well; advert = (and_parts a.from_server a.advert both).1 })),
                    (λ _. (
                      (λ _. tt),
                      (λ bubble. (
                        (λ _. tt),
                        (λ qualified. (
                          (λ _. tt),
                          (λ mine. (
                            (λ _. tt),
                            (λ foreign.
                                addressed a h (record { sound = sound; qualified = not-false a.qualified qualified; mine = not-false a.mine mine; foreign = foreign }) bubble),
                          )),
                        )),
                      )),
                    )),
                  )),
                )),
          )),
        )),
      )),
    )

pub reception_is_warranted : ReceptionIsWarranted
unfolding reception_fate advert_row
reception_is_warranted s a from x = row (seen s a from x) (heard s a.qualification from (value_in x))
