-- What comes of a client's question that is answered at once: the answer is let in along the client's way, and tells of it; or the
-- outermost NAT that isn't cone is closed to it.
use Rattle.theory_answers.proofs.Exchange.{ExchangeOf}
use Rattle.theory_answers.proofs.Heard.{each_heard_answer_tells}
use Rattle.theory_answers.proofs.Words.{Bool, Cone, EachQuestionTells, Ep, Full, Ip6, IsAnsweredAtOnce, IsLetIn, IsOpenQuestion, IsRightAlong, IsShutAlong, IsShutOut, LetsReplyIn, List, OffLine, Option, Phase, Qualification, Qualified, Restricted, Secondary, Settings, Some, Symmetric, answer_in, ap, client_settings, comes_of, cond, expected, expected_in, false, false≢true, has_cone, inl, inr, is_all_cone, is_cone, is_one_of, is_qualified, is_question, now, own_address, question_in, refl, server_asked, server_ep, standing, subst, sym, true, unspecified, unwrap_or, verdicts_are_right_along, ℕ, ◌∙◌, ◌≡◌}
use Rattle.teredo_node.specs.declared.fate.Fate.TheVariants as fate
use Rattle.theory_answers.proofs.Served.{IsServedNext}
use Rattle.theory_answers.proofs.Delivered.{entry, comes_to_it, is_shut, hears_it}
use Rattle.theory_answers.proofs.Exchange as exchange
use Rattle.theory_answers.proofs.Exchange.{Calm}

module _ (exchange_of : ExchangeOf) where
  open exchange_of use {lab, H, waits, asks, serves, hears, n, c, z}

  abbrev a : IsAnsweredAtOnce asks waits serves hears n
  a = z.at_once

  abbrev s : Settings
  s = exchange.s exchange_of

  abbrev K : List Full
  K = exchange.K exchange_of

  abbrev K' : List Full
  K' = exchange.K' exchange_of

  abbrev nonce : ℕ
  nonce = exchange.nonce exchange_of

  abbrev q : Qualification
  q = exchange.q exchange_of

  abbrev left : Ep
  left = exchange.left exchange_of

  abbrev question_at : IsServedNext lab K serves n c
  question_at = exchange.question_at exchange_of

  same : standing lab K n c ≡ q
  same = exchange.same exchange_of

  still : standing lab K' n c ≡ q
  still = exchange.still exchange_of

  opens : IsOpenQuestion (client_settings lab.topology c) q (exchange.e exchange_of) nonce
  opens = exchange.opens exchange_of

  reply : LetsReplyIn lab K' n c left (exchange.to exchange_of)
  reply = exchange.reply exchange_of

  abbrev from : Ep
  from = expected s (standing lab K n c)

  from_is : {ph : Phase} {b : Bool} → q.phase ≡ ph → is_cone q ≡ b → from ≡ expected_in s ph b
  unfolding expected
  from_is {ph} p cone = ap (λ (y : Qualification). expected_in s y.phase (is_cone y)) same ∙ ap (λ (k : Phase). expected_in s k (is_cone q)) p
      ∙ ap (expected_in s ph) cone

  -- where it is let in the client hears it
  told : {ph : Phase} → q.phase ≡ ph → IsLetIn lab K' (now K') from left c → hears.fate ≡ answer_in lab c ph
  told p enters =
      let opened : is_one_of (standing lab K n c).open_nonces (Some nonce) ≡ true =
      ap (λ (y : Qualification). is_one_of y.open_nonces (Some nonce)) same ∙ opens.open_nonce in
      let leads = comes_to_it (record { lab = lab; H = K; serves = serves; n = n; c = c; is = z.is; g = z.grown.1; listed = z.listed; a = question_at }) enters in
      let heard = each_heard_answer_tells lab K' hears n c z.is z.chained z.grown z.honest z.listed z.calm
      (hears_it (record { lab = lab; H = K; serves = serves; n = n; c = c; is = z.is; g = z.grown.1; listed = z.listed; a = question_at }) hears a.heard opened leads) in
      heard.fate ∙ ap (λ (y : Qualification). answer_in lab c y.phase) still ∙ ap (answer_in lab c) p

  -- who was asked answers
  of_asked : {ph : Phase} → q.phase ≡ ph → server_asked s ph ≡ expected_in s ph (is_cone q) → hears.fate ≡ answer_in lab c ph
  of_asked {ph} p one = told p (subst (λ (y : Ep). IsLetIn lab K' (now K') y left c)
      (ap (server_asked s) p ∙ one ∙ sym (from_is {b = (is_cone q)} p refl)) reply.from_asked)

  -- the other address does
  of_other : {ph : Phase} → q.phase ≡ ph → is_all_cone lab c ≡ true → hears.fate ≡ answer_in lab c ph
  of_other {ph} p cones = told p (reply.from_any cones from)

  in_cone : q.phase ≡ Cone → (b : Bool) → is_all_cone lab c ≡ b → hears.fate ≡ cond b fate.QualifiedCone fate.NatClosed
  in_cone p true cones = of_other p cones
  in_cone p false some =
      let out : IsShutAlong lab K' (server_ep s.secondary) left c =
      reply.from_other (ap (server_asked s) p) (ap (λ (y : Qualification). y.phase) still ∙ p) some in
      let shut : IsShutOut lab K' (now K') from left out.nat =
      subst (λ (y : Ep). IsShutOut lab K' (now K') y left out.nat) (sym (from_is {b = (is_cone q)} p refl)) out.shut in
      (exchange.delivers exchange_of).shut_out a.answer out.nat
      (entry (record { lab = lab; H = K; serves = serves; n = n; c = c; is = z.is; g = z.grown.1; listed = z.listed; a = question_at }))
      (is_shut (record { lab = lab; H = K; serves = serves; n = n; c = c; is = z.is; g = z.grown.1; listed = z.listed; a = question_at }) shut)

  -- a qualified client asks as a cone only where each of its NATs is
  right : Calm lab K' n c → IsRightAlong lab K' n c
  right (inl y) = verdicts_are_right_along.undisturbed lab K' n c z.is z.chained z.grown.1 (exchange.honest exchange_of) z.listed y
  right (inr y) = (verdicts_are_right_along.kept_open lab K' n c z.is z.chained z.grown.1 (exchange.honest exchange_of) z.listed y.0 y.1).right

  cones_of : q.phase ≡ Qualified → is_cone q ≡ true → is_all_cone lab c ≡ true
  unfolding own_address
  cones_of p cone =
      let verdict = (right (exchange.calm exchange_of)).settled
      (ap (λ (y : Qualification). is_qualified y.phase) still ∙ ap is_qualified p) in
      let address : q.address ≡ Some verdict.0 = ap (λ (y : Qualification). y.address) (sym still) ∙ verdict.1.address in
      verdict.1.cone (ap (λ (o : Option Ip6). has_cone (unwrap_or o unspecified)) (sym address) ∙ cone)

  in_qualified : q.phase ≡ Qualified → (b : Bool) → is_cone q ≡ b → hears.fate ≡ fate.Same
  in_qualified p true cone = of_other p (cones_of p cone)
  in_qualified p false cone = of_asked p (ap (expected_in s Qualified) (sym cone))

  by_phase : (ph : Phase) → q.phase ≡ ph → is_question (question_in ph) ≡ true → hears.fate ≡ comes_of lab c (question_in ph)
  by_phase Cone p is = in_cone p (is_all_cone lab c) refl
  by_phase Restricted p is = of_asked p refl
  by_phase Secondary p is = of_asked p refl
  by_phase Qualified p is = in_qualified p (is_cone q) refl
  by_phase Symmetric p is = absurd (false≢true is)
  by_phase OffLine p is = absurd (false≢true is)

  comes : hears.fate ≡ comes_of lab c asks.fate
  comes =
      let fate_is : asks.fate ≡ question_in q.phase = (exchange.tick exchange_of).fate ∙ opens.of_phase in
      by_phase q.phase refl (ap is_question (sym fate_is) ∙ z.asked) ∙ ap (comes_of lab c) (sym fate_is)

pub each_question_tells : EachQuestionTells
each_question_tells lab H waits asks serves hears n c is chained draws g honest listed calm at_once asked =
    comes (record {
      lab = lab;
      H = H;
      waits = waits;
      asks = asks;
      serves = serves;
      hears = hears;
      n = n;
      c = c;
      z = record {
        is = is;
        chained = chained;
        draws = draws;
        grown = g;
        honest = honest;
        listed = listed;
        calm = calm;
        at_once = at_once;
        asked = asked;
      };
    })
