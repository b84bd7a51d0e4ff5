use Rattle.td_explain.proofs.Words.{Datagram, Option, Some, ap, datagram, datagram_in, datagram_read, output, sym, take, ◌∙◌, ◌≡◌}
use Rattle.td_explain.proofs.likes.put_output.Goals as goal

is_one : (x y : Datagram) → let o : Option Datagram = Some x in o ≡ Some y → x ≡ y
is_one x y same = cc

pub returns-in-Err-clause-bytes : goal.returns-in-Err-clause-bytes
unfolding datagram_in
returns-in-Err-clause-bytes c = λ e is.
    let none = ap (output c.args.settings.now) (ap datagram_read c.in-Err.ensures.exact) in
    absurd (let both = sym none ∙ is in cc)

pub returns-in-None-clause-bytes : goal.returns-in-None-clause-bytes
unfolding datagram_in
returns-in-None-clause-bytes c = λ e is.
    let held = ap (output c.args.settings.now) (ap datagram_read c.in-Ok.ensures.exact) in
    absurd (let both = sym is ∙ held ∙ c.in-None.ensures in cc)

pub returns-in-Some-clause-bytes : goal.returns-in-Some-clause-bytes
unfolding datagram_in
returns-in-Some-clause-bytes c = λ e is.
    let r = c.in-Some.reply in
    let held = ap (output c.args.settings.now) (ap datagram_read c.in-Ok.ensures.exact) in
    let sent = datagram r.from r.to (take r.len c.reply_to.new.out) in
    let same : sent ≡ e = is_one sent e (sym c.in-Some.ensures.0 ∙ sym held ∙ is) in
    ap (λ (d : Datagram). d.body) same
