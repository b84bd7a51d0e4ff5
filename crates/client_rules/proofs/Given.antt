-- What was seen of a packet of the host where it has a fate.
use Rattle.client_rules.proofs.Words.{Fate, Given, GoesOut, SentOnlyIf, TransmissionIsWarranted, by_lines, destination_lines, host_lines, not-false, transmission_row, ◌++◌}
use Rattle.teredo_node.specs.declared.fate.Fate.TheVariants as fate
use Rattle.client_rules.specs.Transmission.{given}

row : (a : Given) → SentOnlyIf (transmission_row a) a
row a = by_lines (λ (f : Fate). SentOnlyIf f a) (host_lines a ++ destination_lines a) fate.Queued (
  (λ _. tt),
  (λ qualified. (
    (λ _. tt),
    (λ packet. (
      (λ _. tt),
      (λ short. (
        (λ _. tt),
        (λ source. (
          (λ _. tt),
          (λ global. (
            (λ _. tt),
            (λ no_bubble. (
              (λ _. tt),
              (λ foreign. (
                (λ _. tt),
                (λ reachable.
                    let out : GoesOut a = record {
                      qualified = not-false a.qualified qualified;
                      packet = not-false a.packet packet;
                      short = short;
                      own_source = not-false a.own_source source;
                      global = not-false a.global global;
                      no_bubble = no_bubble;
                      foreign = foreign;
                      reachable = reachable;
                    } in (
                      (λ fresh. record { out = out; fresh = fresh }),
                      (λ stale. (
                        (λ cone. record { out = out; stale = stale; cone = cone }),
                        (λ no_cone. (
                          (λ _. tt),
                          (λ room. (
                            (λ _. tt),
                            (λ unspent. (
                              (λ _. tt),
                              (λ free.
                                  record { out = out; stale = stale; no_cone = no_cone; room = not-false a.room room; unspent = unspent; free = free }),
                            )),
                          )),
                        )),
                      )),
                    )),
              )),
            )),
          )),
        )),
      )),
    )),
  )),
)

pub transmission_is_warranted : TransmissionIsWarranted
transmission_is_warranted s a x = row (given s a x)
