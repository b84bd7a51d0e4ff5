use Rattle.td_base.proofs.Words.{List, Whole, err_from_is_err_and, subst, sym, ℕ}
use Rattle.td_base.proofs.SpellingLemmas.{whole_length}
use Rattle.td_base.proofs.Ip6Lemmas.{spells_from_whole, ip6_halts}
use Rattle.td_base.proofs.ipv6_reader.whole_ip6.Goals as goal

pub returns-in_err-whole_groups-clause-halts : goal.returns-in_err-whole_groups-clause-halts
returns-in_err-whole_groups-clause-halts c =
    let p = err_from_is_err_and c.from_residual.result c.from_residual.ensures.1 in
    rw (p.1, p.2) (ip6_halts _ _ c.in_err-whole_groups.ensures.halts)

pub address-requires : goal.address-requires
address-requires c = whole_length _ _ c.in_ok-whole_groups.ensures.found

pub returns-clause-found : goal.returns-clause-found
returns-clause-found c = (
  c.address.ensures.is,
  spells_from_whole c.address.result c.args.text.now (subst (λ (ns : List ℕ). Whole c.args.text.now ns) (sym c.address.ensures.groups) c.in_ok-whole_groups.ensures.found),
)
