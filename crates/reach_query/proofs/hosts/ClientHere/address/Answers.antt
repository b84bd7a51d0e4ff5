use Rattle.reach_query.proofs.Words.{Ip6, Node, Option, address_of, ap, own_address, sym, unspecified, unwrap_or, ◌∙◌}
use Rattle.reach_query.proofs.Shown.{address_seen}
use Rattle.reach_query.proofs.hosts.ClientHere.address.Goals as goal

pub returns : goal.returns
unfolding own_address
returns c = λ lab H is.
    c.unwrap_or.ensures ∙ ap (λ (o : Option Ip6). unwrap_or o unspecified) (address_seen lab H c.args.self is c.address.result c.address.ensures.value)
    ∙ sym (ap (λ (o : Option Node). address_of lab H c.args.self.number o) is.there)
