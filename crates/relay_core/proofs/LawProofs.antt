-- The laws of this crate, each under the name of its call: crates above cite them from here.
use Rattle.relay_core.proofs.Words.{Ip6, RelayIsRead, ap, known_to, listed_in, map-map, relay_listed_peers, relay_mentions, sum, sum-map, sym, table_is_read, ◌∙◌}

pub relay_is_read : RelayIsRead
relay_is_read = λ relay j n stands late weight.
    sym (sum-map weight (relay_listed_peers relay n))
    ∙ ap sum (map-map weight (known_to relay.peers n) (listed_in relay.peers n))
    ∙ sum-map (λ (p : Ip6). weight (known_to relay.peers n p)) (listed_in relay.peers n)
    ∙ (table_is_read relay.peers (relay_mentions j) n stands.peers late).sum weight
