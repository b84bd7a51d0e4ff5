use Rattle.td_base.proofs.Words.{IfErr-weaker, List, ap, err_from_is_err_and, on_ok_weaker, ℕ, ◌++◌, ◌∙◌}
use Rattle.td_base.proofs.GroupLemmas.{first_colon, tail_over, tail_full, tail_no_colon, tail_no_group, tail_halts, tail_found}
use Rattle.td_base.proofs.ipv6_reader.+after_tail.Goals as goal

pub returns-in_default-clause-found : goal.returns-in_default-clause-found
returns-in_default-clause-found t c = tail_over _ c.args.text.now c.args.out.now c.in_default.len_below

pub returns-then-most-eq0-clause-halts : goal.returns-then-most-eq0-clause-halts
returns-then-most-eq0-clause-halts t c = tail_full _ c.args.text.now c.if-most-eq0.true c.in-len1-up.len_at_least

pub returns-then-byte-ne58-clause-halts : goal.returns-then-byte-ne58-clause-halts
returns-then-byte-ne58-clause-halts t c = tail_no_colon _ c.args.text.now c.if-most-eq0.false c.in-len1-up.len_at_least c.if-byte-ne58.true

pub returns-in_err-number-clause-halts : goal.returns-in_err-number-clause-halts
returns-in_err-number-clause-halts t c =
    let p = err_from_is_err_and c.from_residual.result c.from_residual.ensures.1 in
    let colon = first_colon c.args.text.now c.in-len1-up.len_at_least c.if-byte-ne58.false in
    rw (p.1, p.2) (tail_no_group _ c.args.text.now _ _ c.if-most-eq0.false colon c.in_err-number.ensures.none)

pub returns-clause-found : goal.returns-clause-found
returns-clause-found t c =
    let colon = first_colon c.args.text.now c.in-len1-up.len_at_least c.if-byte-ne58.false in
    on_ok_weaker c.after_tail.result (λ h. tail_found _ c.args.text.now _ c.args.out.now _ c.if-most-eq0.false (record {
      rest = _;
      n = _;
      colon = colon;
      group = c.in_ok-number.ensures.found;
    }) (h.0, h.1, h.2 ∙ ap (λ (l : List ℕ). l ++ h.0) c.push.ensures)) c.after_tail.ensures.found

pub returns-clause-halts : goal.returns-clause-halts
returns-clause-halts t c =
    let colon = first_colon c.args.text.now c.in-len1-up.len_at_least c.if-byte-ne58.false in
    IfErr-weaker c.after_tail.result _ _ (λ left h. tail_halts _ c.args.text.now _ left c.if-most-eq0.false (record { rest = _; n = _; colon = colon; group = c.in_ok-number.ensures.found }) h) c.after_tail.ensures.halts
