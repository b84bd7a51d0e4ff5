use Rattle.td_explain.proofs.Words.{Bool, List, Option, [], answered_said, ap, arith, asked_said, draws_datagram, length, length-append, licenser, licensers, sym, waiting, without_place, ℕ, ◌++◌, ◌∙◌, ◌∷◌, ◌≡◌}
use Rattle.td_explain.proofs.TallyLaws.{below_later, earlier_more, waits_more}
use Rattle.td_explain.proofs.tally.Tallier.count.Goals as goal

pub returns : goal.returns
returns c = λ xs small next tallies.
    let s = c.args.said in
    let old = c.args.self.now.waiting.items in
    let drawn : c.draws_datagram.result ≡ draws_datagram (asked_said s) = c.draws_datagram.ensures ∙ ap draws_datagram c.asked_said.ensures in
    let place : c.licenser.result ≡ licenser (answered_said s) = c.licenser.ensures ∙ ap licenser c.answered_said.ensures in
    let left : c.end_wait.new.self.waiting.items ≡ without_place (licenser (answered_said s)) (waiting xs) =
    c.end_wait.ensures.waiting ∙ ap (λ (o : Option ℕ). without_place o old) place ∙ ap (without_place (licenser (answered_said s))) tallies.waiting_are in
    record {
      counts_are = c.with-self.ensures xs small (c.end_wait.ensures.counts ∙ tallies.counts_are);
      waiting_are = c.in_ok-push.ensures.items ∙ ap (λ (waits : List Bool). waits ++ c.draws_datagram.result ∷ []) left
          ∙ ap (λ (b : Bool). without_place (licenser (answered_said s)) (waiting xs) ++ b ∷ []) drawn ∙ sym (waits_more xs s tallies.earlier next);
      earlier = below_later (length xs) (length (xs ++ s ∷ [])) (licensers (xs ++ s ∷ [])) (omega (arith, length-append xs (s ∷ [])))
          (earlier_more xs s tallies.earlier next);
    }
