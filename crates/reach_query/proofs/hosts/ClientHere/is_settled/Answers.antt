use Rattle.reach_query.proofs.Words.{Ip6, Option, ap, is_settled, is_settled_with, lab_in, sym, ◌∙◌}
use Rattle.reach_query.proofs.Shown.{address_seen}
use Rattle.reach_query.proofs.hosts.ClientHere.is_settled.Goals as goal

pub returns-in-Some : goal.returns-in-Some
unfolding is_settled
returns-in-Some c = λ d H s is.
    let lab = lab_in d c.args.world.now in
    c.is_settled_with.ensures d H s
    ∙ ap (λ (o : Option Ip6). is_settled_with lab H c.args.self.number c.args.self.row o) (sym c.in-Some.is ∙ address_seen lab H c.args.self is c.address.result c.address.ensures.value)

pub returns-in-None : goal.returns-in-None
unfolding is_settled
returns-in-None c = λ d H s is.
    let lab = lab_in d c.args.world.now in
    ap (λ (o : Option Ip6). is_settled_with lab H c.args.self.number c.args.self.row o) (sym c.in-None.is ∙ address_seen lab H c.args.self is c.address.result c.address.ensures.value)
