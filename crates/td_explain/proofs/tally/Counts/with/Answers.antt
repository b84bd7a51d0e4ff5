use Rattle.td_explain.proofs.Words.{Counts, [], answered_said, ap, arith, asked_said, is_dropped, is_skip, is_some, is_unlicensed, length-append, ◌∙◌, ◌∷◌}
use Rattle.td_explain.proofs.TallyLaws.{same_counts, grown}
use Rattle.td_explain.proofs.tally.Counts.with.Goals as goal

pub returns : goal.returns
returns c = λ xs small is.
    let s = c.args.said in
    let packets = ap (λ (k : Counts). k.packets) is in
    let all = c.more.ensures (omega (arith, packets, small)) in
    same_counts _ _ (record {
      packets = omega (arith, all, packets, length-append xs (s ∷ []));
      asked = grown (λ x. is_some (asked_said x)) xs s _ _ _ small (ap (λ (k : Counts). k.asked) is) (c.is_some.ensures
          ∙ ap is_some c.asked_said-asked.ensures) c.more-2.ensures;
      answered = grown (λ x. is_some (answered_said x)) xs s _ _ _ small (ap (λ (k : Counts). k.answered) is) (c.is_some-2.ensures
          ∙ ap is_some c.answered_said-answered.ensures) c.more-3.ensures;
      skipped = grown is_skip xs s _ _ _ small (ap (λ (k : Counts). k.skipped) is) c.is_skip.ensures c.more-4.ensures;
      dropped = grown (λ x. is_dropped (asked_said x)) xs s _ _ _ small (ap (λ (k : Counts). k.dropped) is) (c.is_dropped.ensures
          ∙ ap is_dropped c.asked_said-asked.ensures) c.more-5.ensures;
      unlicensed = grown (λ x. is_unlicensed (answered_said x)) xs s _ _ _ small (ap (λ (k : Counts). k.unlicensed) is) (c.is_unlicensed.ensures
          ∙ ap is_unlicensed c.answered_said-answered.ensures) c.more-6.ensures;
    })
