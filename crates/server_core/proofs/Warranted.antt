-- What was seen of a datagram where it has a rule.
use Rattle.server_core.proofs.Words.{IsPassedOn, IsSoundAtServer, Rule, RuleIsWarranted, RuledOnlyIf, ServerSeen, by_lines, first_line, last_line, rule_of, server_datagram_lines, server_destination_lines, server_packet_lines, server_seen, ◌++◌}

ruled : (a : ServerSeen) → RuledOnlyIf (first_line (server_datagram_lines a ++ (server_packet_lines a ++ server_destination_lines a)) last_line) a
ruled a = by_lines (λ (r : Rule). RuledOnlyIf r a) (server_datagram_lines a ++ (server_packet_lines a ++ server_destination_lines a)) last_line (
  (λ _. tt),
  (λ unkeyed. (
    (λ _. tt),
    (λ short. (
      (λ _. tt),
      (λ kind. (
        (λ _. tt),
        (λ well_formed. (
          (λ _. tt),
          (λ usable. (
            (λ _. tt),
            (λ foreign. (
              (λ _. tt),
              (λ others.
                  let sound : IsSoundAtServer a = record { unkeyed = unkeyed; short = short; kind = kind; well_formed = well_formed; usable = usable; foreign = foreign; for_others = others } in (
                    (λ solicitation. record { sound = sound; solicitation = solicitation }),
                    (λ no_solicitation. (
                      (λ _. tt),
                      (λ unforged. (
                        (λ _. tt),
                        (λ ours. (
                          (λ _. tt),
                          (λ usable_dest. (
                            (λ _. tt),
                            (λ unlooped.
                                let on : IsPassedOn a = record { sound = sound; no_solicitation = no_solicitation; unforged = unforged; ours = ours; usable_dest = usable_dest; unlooped = unlooped } in (
                                  (λ own. record { on = on; for_client = own }),
                                  (λ others_too. (
                                    (λ teredo. record { on = on; for_others = others_too; for_teredo = teredo }),
                                    (λ native. (
                                      (λ global. record { on = on; native = native; global = global }),
                                      (λ _. tt),
                                    )),
                                  )),
                                )),
                          )),
                        )),
                      )),
                    )),
                  )),
            )),
          )),
        )),
      )),
    )),
  )),
)

pub rule_is_warranted : RuleIsWarranted
unfolding rule_of
rule_is_warranted s from v = ruled (server_seen s from v)
