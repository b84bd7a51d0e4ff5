use Rattle.td_explain.proofs.Words.{List, ap, before, codes, field, tally_line, ℕ, ◌++◌, ◌∙◌, ◌≡◌}
use Rattle.td_explain.proofs.lines.put_tally_line.Goals as goal

pub returns : goal.returns
returns c =
    let t = c.args.tally.now in
    let joined : c.push_text.new.self ≡ c.clear.new.self ++ tally_line t =
    (before c.clear.new.self (field (codes "total packets ") t.packets) _ c.put_field.ensures.text
    (before c.put_field.new.page (field (codes " asked ") t.asked) _ c.put_field-2.ensures.text
    (before c.put_field-2.new.page (field (codes " answered ") t.answered) _ c.put_field-3.ensures.text
    (before c.put_field-3.new.page (field (codes " skipped ") t.skipped) _ c.put_field-4.ensures.text
    (before c.put_field-4.new.page (field (codes " dropped ") t.dropped) _ c.put_field-5.ensures.text
    (before c.put_field-5.new.page (field (codes " silent ") t.silent) _ c.put_field-6.ensures.text
    (before c.put_field-6.new.page (field (codes " unlicensed ") t.unlicensed) _ c.put_field-7.ensures.text c.push_text.ensures.text)))))))
    in
    joined ∙ ap (λ (front : List ℕ). front ++ tally_line t) c.clear.ensures
