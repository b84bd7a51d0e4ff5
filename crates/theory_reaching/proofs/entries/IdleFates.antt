-- What the tables of clients and relays come to: a fate that comes alone and means nothing for any peer, or one of the few that do something.
use Rattle.theory_reaching.proofs.Words.{Bool, Entry, Ep, Fate, Given, Ip6, List, None, RelayGiven, RelaySettings, RelayStanding, Seen, Settings, Standing, Value, Words, bearing_of, by_lines, datagram_lines, destination_lines, direct_lines, false, first_line, host_lines, indirect_lines, is_changed, just, no_bearing, not, packet_lines, reception_row, reception_step, refl, relay_bearing_of, relay_destination_lines, relay_packet_lines, relay_queues, relay_transmission_row, relay_transmission_step, server_lines, transmission_row, transmission_step, true, ℕ, ◌&&◌, ◌++◌, ◌≡◌}
use Rattle.teredo_node.specs.declared.fate.Fate.TheVariants as fate
use Rattle.theory_reaching.proofs.Tests.{held, second_fails}

-- A CLIENT'S DATAGRAMS

pub record IsIdleIn (f : Fate) : Type 0 where
  pub bearing : (e : Entry) → bearing_of f e ≡ no_bearing
  pub changes : is_changed f ≡ false
  pub step : (s : Settings) (a : Standing) (from : Ep) (x : List ℕ) (v : Value) (w : Words) → reception_step s a from x v w f ≡ just f

-- a bubble through the server is answered: it is for the client, which has room for the peer and may try it
pub record IsAnswered (z : Seen) : Type 0 where
  pub server : z.from_server ≡ true
  pub mine : z.mine ≡ true
  pub room : z.peer.room ≡ true
  pub may : z.peer.barred ≡ false

-- what the server sends, and else what the lines say on packets for this client that come from a peer itself
pub of_reception_for : (Q : Fate → Type 0) (z : Seen) (advert : Fate) → ((f : Fate) → IsIdleIn f → Q f)
    → ((z.from_server && z.advert) ≡ true → Q advert) → (IsAnswered z → Q fate.Indirect)
    → (z.mine ≡ true → z.from_server ≡ false → Q (first_line (direct_lines z) fate.Suspicious)) → Q (reception_row z advert)
of_reception_for Q z advert idle told answered direct =
    by_lines Q (datagram_lines z ++ (server_lines z advert ++ (packet_lines z ++ indirect_lines z))) (first_line (direct_lines z) fate.Suspicious) (
      (λ _. idle fate.Malformed (record { bearing = λ e. refl; changes = refl; step = λ s a from x v w. refl })),
      (λ _. (
        (λ _. idle fate.Keyed (record { bearing = λ e. refl; changes = refl; step = λ s a from x v w. refl })),
        (λ _. (
          (λ _. idle fate.Confirmation (record { bearing = λ e. refl; changes = refl; step = λ s a from x v w. refl })),
          (λ _. (
            (λ _. idle fate.Big (record { bearing = λ e. refl; changes = refl; step = λ s a from x v w. refl })),
            (λ _. (
              (λ _. idle fate.Icmp (record { bearing = λ e. refl; changes = refl; step = λ s a from x v w. refl })),
              (λ _. (
                told,
                (λ _. (
                  (λ _. idle fate.ServerOther (record { bearing = λ e. refl; changes = refl; step = λ s a from x v w. refl })),
                  (λ _. (
                    (λ _. idle fate.Off (record { bearing = λ e. refl; changes = refl; step = λ s a from x v w. refl })),
                    (λ _. (
                      (λ _. idle fate.NotMine (record { bearing = λ e. refl; changes = refl; step = λ s a from x v w. refl })),
                      (λ mine. (
                        (λ _. idle fate.Itself (record { bearing = λ e. refl; changes = refl; step = λ s a from x v w. refl })),
                        (λ _. (
                          (λ _. idle fate.Origin (record { bearing = λ e. refl; changes = refl; step = λ s a from x v w. refl })),
                          (λ _. (
                            (λ _. idle fate.PeersFull (record { bearing = λ e. refl; changes = refl; step = λ s a from x v w. refl })),
                            (λ crowded. (
                              (λ _. idle fate.Barred (record { bearing = λ e. refl; changes = refl; step = λ s a from x v w. refl })),
                              (λ may. (
                                (λ server. answered (record {
                                  server = server;
                                  mine = held z.mine mine;
                                  room = held z.peer.room (second_fails z.from_server (not z.peer.room) crowded server);
                                  may = second_fails z.from_server z.peer.barred may server;
                                })),
                                (λ none. direct (held z.mine mine) none),
                              )),
                            )),
                          )),
                        )),
                      )),
                    )),
                  )),
                )),
              )),
            )),
          )),
        )),
      )),
    )

pub of_reception : (Q : Fate → Type 0) (z : Seen) (advert : Fate) → ((f : Fate) → IsIdleIn f → Q f)
    → ((z.from_server && z.advert) ≡ true → Q advert) → (IsAnswered z → Q fate.Indirect)
    → (z.from_server ≡ false → Q (first_line (direct_lines z) fate.Suspicious)) → Q (reception_row z advert)
of_reception Q z advert idle told answered direct = of_reception_for Q z advert idle told answered (λ _ none. direct none)

-- A CLIENT'S PACKETS

pub record IsIdleOut (f : Fate) : Type 0 where
  pub bearing : (e : Entry) → bearing_of f e ≡ no_bearing
  pub changes : is_changed f ≡ false
  pub step : (s : Settings) (a : Standing) (x : List ℕ) (p : Ip6) (w : Words) → transmission_step s a x p w f ≡ just f

pub of_transmission : (Q : Fate → Type 0) (g : Given) → ((f : Fate) → IsIdleOut f → Q f) → (g.fresh ≡ true → Q fate.Sent)
    → (g.cone ≡ true → Q fate.SentCone) → (g.room ≡ true → Q fate.Queued) → Q (transmission_row g)
of_transmission Q g idle fresh cone queued = by_lines Q (host_lines g ++ destination_lines g) fate.Queued (
  (λ _. idle fate.Off (record { bearing = λ e. refl; changes = refl; step = λ s a x p w. refl })),
  (λ _. (
    (λ _. idle fate.Malformed (record { bearing = λ e. refl; changes = refl; step = λ s a x p w. refl })),
    (λ _. (
      (λ _. idle fate.Big (record { bearing = λ e. refl; changes = refl; step = λ s a x p w. refl })),
      (λ _. (
        (λ _. idle fate.Source (record { bearing = λ e. refl; changes = refl; step = λ s a x p w. refl })),
        (λ _. (
          (λ _. idle fate.Dest (record { bearing = λ e. refl; changes = refl; step = λ s a x p w. refl })),
          (λ _. (
            (λ _. idle fate.Bubble (record { bearing = λ e. refl; changes = refl; step = λ s a x p w. refl })),
            (λ _. (
              (λ _. idle fate.Itself (record { bearing = λ e. refl; changes = refl; step = λ s a x p w. refl })),
              (λ _. (
                (λ _. idle fate.Embedded (record { bearing = λ e. refl; changes = refl; step = λ s a x p w. refl })),
                (λ _. (
                  fresh,
                  (λ _. (
                    cone,
                    (λ _. (
                      (λ _. idle fate.PeersFull (record { bearing = λ e. refl; changes = refl; step = λ s a x p w. refl })),
                      (λ room. (
                        (λ _. idle fate.Barred (record { bearing = λ e. refl; changes = refl; step = λ s a x p w. refl })),
                        (λ _. (
                          (λ _. idle fate.QueueFull (record { bearing = λ e. refl; changes = refl; step = λ s a x p w. refl })),
                          (λ _. queued (held g.room room)),
                        )),
                      )),
                    )),
                  )),
                )),
              )),
            )),
          )),
        )),
      )),
    )),
  )),
)

-- A RELAY'S PACKETS

pub record IsIdleSix (f : Fate) : Type 0 where
  pub bearing : (e : Entry) → relay_bearing_of f e ≡ no_bearing
  pub step : (s : RelaySettings) (a : RelayStanding) (x : List ℕ) (p : Ip6) → relay_transmission_step s a x p f ≡ just f

pub of_relay_transmission : (Q : Fate → Type 0) (g : RelayGiven) → ((f : Fate) → IsIdleSix f → Q f) → (g.trusted ≡ true → Q fate.Sent)
    → (g.trusted ≡ false → g.room ≡ true → g.cone ≡ true → Q fate.SentCone) → (g.trusted ≡ false → g.room ≡ true → Q fate.Queued)
    → Q (relay_transmission_row g)
of_relay_transmission Q g idle sent cone queued = by_lines Q (relay_packet_lines g ++ relay_destination_lines g) fate.Queued (
  (λ _. idle fate.Malformed (record { bearing = λ e. refl; step = λ s a x p. refl })),
  (λ _. (
    (λ _. idle fate.Big (record { bearing = λ e. refl; step = λ s a x p. refl })),
    (λ _. (
      (λ _. idle fate.Dest (record { bearing = λ e. refl; step = λ s a x p. refl })),
      (λ _. (
        (λ _. idle fate.Source (record { bearing = λ e. refl; step = λ s a x p. refl })),
        (λ _. (
          (λ _. idle fate.Embedded (record { bearing = λ e. refl; step = λ s a x p. refl })),
          (λ _. (
            (λ _. idle fate.Loop (record { bearing = λ e. refl; step = λ s a x p. refl })),
            (λ _. (
              sent,
              (λ untrusted. (
                (λ _. idle fate.PeersFull (record { bearing = λ e. refl; step = λ s a x p. refl })),
                (λ room. (
                  cone untrusted (held g.room room),
                  (λ _. (
                    (λ _. idle fate.Barred (record { bearing = λ e. refl; step = λ s a x p. refl })),
                    (λ _. (
                      (λ _. idle fate.QueueFull (record { bearing = λ e. refl; step = λ s a x p. refl })),
                      (λ _. queued untrusted (held g.room room)),
                    )),
                  )),
                )),
              )),
            )),
          )),
        )),
      )),
    )),
  )),
)

-- a packet that waits has this fate, whether a bubble goes out or not, and nothing goes to the IPv6 side
pub queued_fate : (barred : Bool) (s : RelaySettings) (p : Ip6) → (relay_queues barred s p).fate ≡ fate.Queued
queued_fate true s p = refl
queued_fate false s p = refl

pub queued_six : (barred : Bool) (s : RelaySettings) (p : Ip6) → (relay_queues barred s p).six ≡ None
queued_six true s p = refl
queued_six false s p = refl
