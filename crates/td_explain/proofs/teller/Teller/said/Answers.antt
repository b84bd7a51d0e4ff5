use Rattle.td_explain.proofs.Words.{Answered, Datagram, KeepsKnown, None, Option, Question, Some, [], ap, datagram, datagram_in, datagram_read, places, said_by, said_of, subst, sym, ◌++◌, ◌∙◌, ◌∷◌, ◌≡◌}
use Rattle.td_explain.specs.declared.said.Said.TheVariants.{Held}
use Rattle.td_explain.proofs.TellLaws.{skipped}
use Rattle.td_explain.proofs.teller.Teller.said.Goals as goal

both : (asked question : Option Question) (answered reply : Option Answered) → asked ≡ question → answered ≡ reply → Held asked answered ≡ Held question reply
both asked question answered reply e f = cc

pub returns-in-Err-clause-found : goal.returns-in-Err-clause-found
unfolding said_of datagram_in
returns-in-Err-clause-found c = λ rs before small packets keeps.
    let held = places rs in
    let t = c.args.self.now in
    let none : datagram_in c.args.packet.now ≡ None = ap datagram_read c.in-Err.ensures.exact in (
      sym (ap (said_by t.settings held) c.in-Err.ensures.exact),
      subst (λ (h : Option Datagram). KeepsKnown t.settings t.known (held ++ h ∷ []) (held ++ h ∷ [])) (sym none) (skipped t.settings t.known held keeps),
    )

pub returns-in_ok-asked-in-Ok-clause-found : goal.returns-in_ok-asked-in-Ok-clause-found
unfolding said_of datagram_in
returns-in_ok-asked-in-Ok-clause-found c = λ rs before small packets keeps.
    let held = places rs in
    let t = c.args.self.now in
    let u = c.in-Ok.datagram in
    let d = datagram u.src u.dst u.body.now in
    let now = c.asked.new.self.known in
    let holds : datagram_in c.args.packet.now ≡ Some d = ap datagram_read c.in-Ok.ensures.exact in
    let came = c.in_ok-answered-in-Ok.ensures rs before small keeps in
    let noted = c.in_ok-asked-in-Ok.ensures.noted (held ++ Some d ∷ []) held packets holds came.1 in (
      both c.in_ok-asked-in-Ok.asked _ c.in_ok-answered-in-Ok.answered _ c.in_ok-asked-in-Ok.ensures.found came.0
          ∙ sym (ap (said_by t.settings held) c.in-Ok.ensures.exact),
      subst (λ (h : Option Datagram). KeepsKnown t.settings now (held ++ h ∷ []) (held ++ datagram_in c.args.packet.now ∷ [])) (sym holds) noted,
    )
