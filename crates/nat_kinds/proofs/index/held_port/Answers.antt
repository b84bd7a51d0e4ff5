use Rattle.nat_kinds.proofs.Words.{ap, indexed, sym, ◌∙◌}
use Rattle.nat_kinds.proofs.IndexLemmas.{Table, LeadsTo, none_live, old_alone, has_it}
use Rattle.nat_kinds.proofs.index.held_port.Goals as goal

pub returns-in_default-clause-none : goal.returns-in_default-clause-none
returns-in_default-clause-none c = none_live c.args.settings.now c.args.now.0 (record {
  places = c.args.places.now;
  index = c.args.index.now.entries;
}) c.args.inside c.args.dst c.requires.indexed
    (ap (indexed c.args.index.now.entries) (sym c.key_of.ensures) ∙ sym c.port_of.ensures ∙ c.in_default.is)

pub returns-then-not-is_young-clause-none : goal.returns-then-not-is_young-clause-none
returns-then-not-is_young-clause-none c = old_alone c.args.settings.now c.args.now.0 (record { places = c.args.places.now; index = c.args.index.now.entries }) c.args.inside c.args.dst c.in-Some-at.sent (record {
  goes = c.requires.indexed;
  port = c.in-Some.port;
  key_at = ap (indexed c.args.index.now.entries) (sym c.key_of.ensures) ∙ sym c.port_of.ensures ∙ c.in-Some.is;
  stands = sym c.at.ensures ∙ c.in-Some-at.is;
}) (sym c.is_young.ensures ∙ c.if-not-is_young.true)

pub returns-clause-live : goal.returns-clause-live
returns-clause-live c =
    let t : Table = record { places = c.args.places.now; index = c.args.index.now.entries } in
    let leads : LeadsTo c.args.settings.now.kind t c.args.inside c.args.dst c.in-Some-at.sent = record {
      goes = c.requires.indexed;
      port = c.in-Some.port;
      key_at = ap (indexed c.args.index.now.entries) (sym c.key_of.ensures) ∙ sym c.port_of.ensures ∙ c.in-Some.is;
      stands = sym c.at.ensures ∙ c.in-Some-at.is;
    } in
    (c.in-Some-at.sent, leads.stands, has_it _ t _ _ _ leads, sym c.is_young.ensures ∙ c.if-not-is_young.false)
