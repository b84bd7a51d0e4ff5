-- From a packet for a relay alone nine deliveries may follow, and do.
use Rattle.worked_facts.proofs.Words.{Scenario, [], datagram_weight, eased_burden, host_relay, is_trusted_for, play, playing, refl, relay_trusts, some_words, take, weight_with, ◌∷◌, ◌≡◌}
use Rattle.events.specs.declared.event.Event.TheVariants as event
use Rattle.events.specs.declared.target.Target.TheVariants as target
use Rattle.worked_scenarios.proofs.RelayReports.{relayed}
use Rattle.worked_facts.proofs.StormViews.{storm, deliveries}

-- a client has qualified, and nothing is undelivered; then a host sends it a packet
abbrev pub alone : Scenario
alone = record relayed { events = event.Advance 0 ∷ event.Next ∷ event.Next ∷ event.Advance 12000 ∷ event.Settle ∷ event.Advance 0 ∷ event.Settle ∷ event.Host 4 (target.Node 2) (3 ∷ []) ∷ event.Settle ∷ [] }

-- the packet alone is undelivered: it weighs twelve
pub alone-storm : storm alone.topology (play some_words alone 21 []) ≡ record { undelivered = 1; waiting = 0; weights = 12; most = 12 }
unfolding playing datagram_weight
alone-storm = refl

-- nine may follow
pub alone-eased : eased_burden alone.topology (play some_words alone 21 []) ≡ 9
unfolding playing datagram_weight relay_trusts host_relay is_trusted_for weight_with
alone-eased = refl

-- and do
pub alone-deliveries : deliveries (take 9 (play some_words alone 30 [])) ≡ 9
unfolding playing datagram_weight
alone-deliveries = refl

-- then nothing is left
pub alone-calm : storm alone.topology (play some_words alone 30 []) ≡ record { undelivered = 0; waiting = 0; weights = 0; most = 0 }
unfolding playing datagram_weight
alone-calm = refl
