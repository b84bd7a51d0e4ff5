use Rattle.td_explain.proofs.Words.{before, codes, drawn_words_of, ep_text, reason_words}
use Rattle.td_explain.proofs.lines.put_asked_line.Goals as goal

pub returns : goal.returns
returns c =
    let q = c.args.asked.now in
    let joined =
    (before c.begin.new.page (codes " asked ") _ c.push_text.ensures.text
    (before c.push_text.new.self c.side_word.result.now _ c.push_text-2.ensures.text
    (before c.push_text-2.new.self (codes " ") _ c.push_text-3.ensures.text
    (before c.push_text-3.new.self (ep_text q.src) _ c.put_ep.ensures.text
    (before c.put_ep.new.page (codes " ") _ c.push_text-4.ensures.text
    (before c.push_text-4.new.self c.as_bytes.result.now _ c.push_text-5.ensures.text
    (before c.push_text-5.new.self (reason_words q.reason) _ c.put_reason.ensures.text
    (before c.put_reason.new.page (drawn_words_of q.drawn) _ c.put_drawn.ensures.text c.push_text-6.ensures.text))))))))
    in
    rw (c.begin.ensures.text, c.side_word.ensures.word, c.as_bytes.ensures.value, c.name.ensures.word) at joined
