use Rattle.scenario.proofs.Words.{NotToml, ap, ok_or, parse_document, sym, ◌∙◌}
use Rattle.scenario.proofs.TextLemmas.{no_document, document_of-text}
use Rattle.scenario.proofs.reader.document_of.Goals as goal

pub returns-in_default : goal.returns-in_default
returns-in_default c = λ h. ap (λ o. ok_or o NotToml) (no_document c.args.bytes.now c.in_default.ensures.cases.0)

pub returns-in-Ok-table_from_str : goal.returns-in-Ok-table_from_str
returns-in-Ok-table_from_str c =
    let utf8 = c.in-Ok.ensures.cases in
    let whole = document_of-text c.args.bytes.now utf8.1 ∙ ap parse_document (sym utf8.0) in
    ap (λ o. ok_or o NotToml) (whole ∙ c.in-Ok-table_from_str.ensures.ok)
