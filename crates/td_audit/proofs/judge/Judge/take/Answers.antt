use Rattle.td_audit.proofs.Words.{Counts, Datagram, None, Option, Runs, Some, Stands, [], ap, datagram, datagram_in, datagram_read, on_ok_weaker, subst, sym, ◌++◌, ◌∙◌, ◌∷◌, ◌≡◌}
use Rattle.td_audit.proofs.JudgeLaws.{stays_out, is_none, runs_on, skipped_on}
use Rattle.td_audit.proofs.judge.Judge.take.Goals as goal

pub returns-then-is_some : goal.returns-then-is_some
returns-then-is_some c = λ s places small st. stays_out s c.args.self.now places (datagram_in c.args.packet.now) (sym c.is_some.ensures ∙ c.if-is_some.true) st

pub returns-in-Err : goal.returns-in-Err
unfolding datagram_in
returns-in-Err c = λ s places small st.
    let j = c.args.self.now in
    let held : datagram_in c.args.packet.now ≡ None = ap datagram_read c.in-Err.ensures.exact in
    let none = is_none j.unlicensed (sym c.is_some.ensures ∙ c.if-is_some.false) in
    let runs = subst (λ (k : Counts). Runs s j.licences k (places ++ None ∷ [])) (sym c.with-self.ensures) (skipped_on s j places small none st) in
    subst (λ (x : Option Datagram). Stands s (record j { counts = c.with-self.result }) (places ++ x ∷ [])) (sym held)
    (record { settings_are = st.settings_are; state = runs_on s j.licences c.with-self.result (places ++ None ∷ []) j.unlicensed none runs })

pub returns-in-Ok : goal.returns-in-Ok
unfolding datagram_in
returns-in-Ok c =
    let u = c.in-Ok.datagram in
    let held : datagram_in c.args.packet.now ≡ Some (datagram u.src u.dst u.body.now) = ap datagram_read c.in-Ok.ensures.exact in
    on_ok_weaker c.judge.result (λ judged s places small st. subst (λ (x : Option Datagram). Stands s c.judge.new.self (places ++ x ∷ [])) (sym held) (judged s places small st)) c.judge.ensures
