use Rattle.td_explain.proofs.Words.{Datagram, KeepsPast, None, Option, Some, [], ap, datagram, datagram_in, datagram_read, output, subst, sym, ◌++◌, ◌∙◌, ◌∷◌, ◌≡◌}
use Rattle.td_explain.proofs.OutputLaws.{Held}
use Rattle.td_explain.proofs.TellLaws.{past_silent, past_skipped}
use Rattle.td_explain.proofs.past.Past.note.Goals as goal

pub returns-in-Err : goal.returns-in-Err
unfolding datagram_in
returns-in-Err c = λ held place_is small keeps.
    let s = c.args.settings.now in
    let p = c.args.self.now in
    let none : datagram_in c.args.packet.now ≡ None = ap datagram_read c.in-Err.ensures.exact in
    subst (λ (h : Option Datagram). KeepsPast s p (held ++ h ∷ []) (held ++ h ∷ [])) (sym none) (past_skipped s p held keeps)

pub returns-in-None : goal.returns-in-None
unfolding datagram_in
returns-in-None c = λ held place_is small keeps.
    let s = c.args.settings.now in
    let p = c.come.new.self in
    let u = c.in-Ok.datagram in
    let d = datagram u.src u.dst u.body.now in
    let holds : datagram_in c.args.packet.now ≡ Some d = ap datagram_read c.in-Ok.ensures.exact in
    subst (λ (h : Option Datagram). KeepsPast s p (held ++ h ∷ []) (held ++ h ∷ [])) (sym holds)
    (past_silent s p (held ++ Some d ∷ []) held (Some d) c.in-None.ensures (c.in_ok-come-in-Ok.ensures held small keeps))

pub returns-in_ok-draw-in-Some : goal.returns-in_ok-draw-in-Some
unfolding datagram_in
returns-in_ok-draw-in-Some c = λ held place_is small keeps.
    let s = c.args.settings.now in
    let more = c.draw.new.self in
    let u = c.in-Ok.datagram in
    let d = datagram u.src u.dst u.body.now in
    let holds : datagram_in c.args.packet.now ≡ Some d = ap datagram_read c.in-Ok.ensures.exact in
    let behind : Held = held ++ datagram_in c.args.packet.now ∷ [] in
    let came = c.in_ok-come-in-Ok.ensures held small keeps in
    let drawn = c.in_ok-draw-in-Some.ensures s (held ++ Some d ∷ []) held place_is (ap (output s) holds ∙ c.in-Some.ensures.0) came in
    subst (λ (h : Option Datagram). KeepsPast s more (held ++ h ∷ []) behind) (sym holds) drawn
