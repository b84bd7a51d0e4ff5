-- The laws of this crate, each under the name of its call: crates above cite them from here.
use Rattle.client_core.proofs.Words.{ClientIsRead, Ip6, ap, known_to, listed_in, listed_peers, map-map, mentions, sum, sum-map, sym, table_is_read, ◌∙◌}

pub client_is_read : ClientIsRead
client_is_read = λ client j n stands late. record {
  due = stands.qualification.due;
  sum = λ weight.
      sym (sum-map weight (listed_peers client n))
      ∙ ap sum (map-map weight (known_to client.peers n) (listed_in client.peers n))
      ∙ sum-map (λ (p : Ip6). weight (known_to client.peers n p)) (listed_in client.peers n)
      ∙ (table_is_read client.peers (mentions j.entries) n stands.peers late).sum weight;
}
