use Rattle.qualify.proofs.Words.{IsOfAdvert, Qualification, QualifierStandsFor, QualifierState, advert_row, ap, payload_view, qualification_of, stands_whole, subst, sym, words_of, ◌∙◌}
use Rattle.qualify.proofs.Stands.{stands_advert}
use Rattle.qualify.proofs.qualifier.Qualifier.on_advert.Goals as goal

pub returns-clause-fate : goal.returns-clause-fate
returns-clause-fate c j h =
    c.heard-state.ensures.fate
    ∙ ap (λ (q : QualifierState). advert_row q.settings q.now c.args.from (payload_view c.args.payload.now)) c.self.view_is
    ∙ ap (λ (q : Qualification). advert_row c.args.self.now.settings q c.args.from (payload_view c.args.payload.now)) (stands_whole c.args.self.now j h)

pub returns-clause-stands : goal.returns-clause-stands
returns-clause-stands c j e h a =
    stands_advert c.self.inside.settings (qualification_of c.self.inside.state) (qualification_of c.heard-state.result.0) c.args.now.0
    (payload_view c.args.payload.now) c.heard-state.result.1 (words_of c.args.rng.now) c.heard-state.ensures.turns j e
    (subst (λ (q : QualifierState). QualifierStandsFor q j) (sym c.self.view_is) h)
    (subst (λ (q : QualifierState). IsOfAdvert q.settings c.args.now.0 (payload_view c.args.payload.now) c.heard-state.result.1 (words_of c.args.rng.now) e) (sym c.self.view_is) a)
