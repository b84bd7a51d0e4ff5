-- What was seen of a datagram and of a packet where it has a fate.
use Rattle.relay_rules.proofs.Words.{Fate, IsOfPeer, RelayGiven, RelayGoesOut, RelayReceivedOnlyIf, RelayReceptionIsWarranted, RelaySeen, RelaySentOnlyIf, RelayTransmissionIsWarranted, by_lines, not-false, reception_lines, relay_destination_lines, relay_given, relay_packet_lines, relay_reception_row, relay_seen, relay_transmission_row, ◌++◌}
use Rattle.teredo_node.specs.declared.fate.Fate.TheVariants as fate

received : (a : RelaySeen) → RelayReceivedOnlyIf (relay_reception_row a) a
received a = by_lines (λ (f : Fate). RelayReceivedOnlyIf f a) (reception_lines a) fate.Unserved (
  (λ _. tt),
  (λ payload. (
    (λ _. tt),
    (λ unkeyed. (
      (λ _. tt),
      (λ short. (
        (λ _. tt),
        (λ teredo. (
          (λ _. tt),
          (λ embedded. (
            (λ _. tt),
            (λ listed.
                let peer : IsOfPeer a = record {
                  payload = not-false a.payload payload;
                  unkeyed = unkeyed;
                  short = short;
                  teredo = not-false a.teredo teredo;
                  embedded = not-false a.embedded_here embedded;
                  listed = not-false a.listed listed;
                } in (
                  (λ bubble. record { peer = peer; bubble = bubble }),
                  (λ no_bubble. (
                    (λ served. record { peer = peer; no_bubble = no_bubble; served = served }),
                    (λ unserved.
                        record { peer = peer; no_bubble = no_bubble; unserved = unserved }),
                  )),
                )),
          )),
        )),
      )),
    )),
  )),
)

pub reception_is_warranted : RelayReceptionIsWarranted
reception_is_warranted s a from x = received (relay_seen s a from x)

sent : (a : RelayGiven) → RelaySentOnlyIf (relay_transmission_row a) a
sent a = by_lines (λ (f : Fate). RelaySentOnlyIf f a) (relay_packet_lines a ++ relay_destination_lines a) fate.Queued (
  (λ _. tt),
  (λ packet. (
    (λ _. tt),
    (λ short. (
      (λ _. tt),
      (λ teredo. (
        (λ _. tt),
        (λ foreign. (
          (λ _. tt),
          (λ reachable. (
            (λ _. tt),
            (λ unlooped.
                let out : RelayGoesOut a = record {
                  packet = not-false a.packet packet;
                  short = short;
                  teredo = not-false a.teredo teredo;
                  foreign_source = not-false a.foreign_source foreign;
                  reachable = not-false a.reachable reachable;
                  unlooped = unlooped;
                } in (
                  (λ trusted. record { out = out; trusted = trusted }),
                  (λ untrusted. (
                    (λ _. tt),
                    (λ room. (
                      (λ cone. record { out = out; untrusted = untrusted; room = not-false a.room room; cone = cone }),
                      (λ no_cone. (
                        (λ _. tt),
                        (λ unspent. (
                          (λ _. tt),
                          (λ free.
                              record { out = out; untrusted = untrusted; room = not-false a.room room; no_cone = no_cone; unspent = unspent; free = free }),
                        )),
                      )),
                    )),
                  )),
                )),
          )),
        )),
      )),
    )),
  )),
)

pub transmission_is_warranted : RelayTransmissionIsWarranted
transmission_is_warranted s a x = sent (relay_given s a x)
