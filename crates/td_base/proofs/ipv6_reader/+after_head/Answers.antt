use Rattle.td_base.proofs.Words.{IfErr-weaker, List, ap, err_from_is_err_and, on_ok_weaker, ℕ, ◌++◌, ◌∙◌}
use Rattle.td_base.proofs.GroupLemmas.{first_colon, head_short, head_full, head_no_colon, head_no_group, head_halts, head_found, head_elided_at, head_found_elided, two_colons}
use Rattle.td_base.proofs.ipv6_reader.+after_head.Goals as goal

pub returns-else-missing-eq0-clause-halts : goal.returns-else-missing-eq0-clause-halts
returns-else-missing-eq0-clause-halts t c = head_short _ c.args.text.now c.if-missing-eq0.false c.in_default.len_below

pub returns-then-missing-eq0-2-clause-halts : goal.returns-then-missing-eq0-2-clause-halts
returns-then-missing-eq0-2-clause-halts t c = head_full _ c.args.text.now c.if-missing-eq0-2.true c.in-len1-up.len_at_least

pub returns-then-byte-ne58-clause-halts : goal.returns-then-byte-ne58-clause-halts
returns-then-byte-ne58-clause-halts t c = head_no_colon _ c.args.text.now c.if-missing-eq0-2.false c.in-len1-up.len_at_least c.if-byte-ne58.true

pub returns-then-begins_with_colon-clause-found : goal.returns-then-begins_with_colon-clause-found
returns-then-begins_with_colon-clause-found t c =
    let colon = first_colon c.args.text.now c.in-len1-up.len_at_least c.if-byte-ne58.false in
    on_ok_weaker c.elided.result (λ h. head_found_elided _ c.args.text.now _ c.args.out.now _ c.if-missing-eq0-2.false (two_colons _ _ colon c.if-begins_with_colon.ensures) h) c.elided.ensures.found

pub returns-then-begins_with_colon-clause-halts : goal.returns-then-begins_with_colon-clause-halts
returns-then-begins_with_colon-clause-halts t c =
    let colon = first_colon c.args.text.now c.in-len1-up.len_at_least c.if-byte-ne58.false in
    IfErr-weaker c.elided.result _ _ (λ left h. head_elided_at _ c.args.text.now _ left c.if-missing-eq0-2.false (two_colons _ _ colon c.if-begins_with_colon.ensures) h) c.elided.ensures.halts

pub returns-in_err-number-clause-halts : goal.returns-in_err-number-clause-halts
returns-in_err-number-clause-halts t c =
    let p = err_from_is_err_and c.from_residual.result c.from_residual.ensures.1 in
    let colon = first_colon c.args.text.now c.in-len1-up.len_at_least c.if-byte-ne58.false in
    rw (p.1, p.2) (head_no_group _ c.args.text.now _ _ c.if-missing-eq0-2.false colon c.if-begins_with_colon.ensures c.in_err-number.ensures.none)

pub returns-clause-found : goal.returns-clause-found
returns-clause-found t c =
    let colon = first_colon c.args.text.now c.in-len1-up.len_at_least c.if-byte-ne58.false in
    on_ok_weaker c.after_head.result (λ h. head_found _ c.args.text.now _ c.args.out.now _ c.if-missing-eq0-2.false (record {
      rest = _;
      n = _;
      colon = colon;
      group = c.in_ok-number.ensures.found;
    }) (h.0, h.1, h.2 ∙ ap (λ (l : List ℕ). l ++ h.0) c.push.ensures)) c.after_head.ensures.found

pub returns-clause-halts : goal.returns-clause-halts
returns-clause-halts t c =
    let colon = first_colon c.args.text.now c.in-len1-up.len_at_least c.if-byte-ne58.false in
    IfErr-weaker c.after_head.result _ _ (λ left h. head_halts _ c.args.text.now _ left c.if-missing-eq0-2.false (record { rest = _; n = _; colon = colon; group = c.in_ok-number.ensures.found }) h) c.after_head.ensures.halts
