use Rattle.td_explain.proofs.Words.{CapFault, Captured, Gives, IfSome, Ok, Option, Rec, Result, Some, StandsAt, Walks, [], ap, arith, captured, datagram_in, length, length-map, places, record_bytes, refl, step_view, subst, sym, ℕ, ◌++◌, ◌+◌, ◌<◌, ◌^◌, ◌∙◌, ◌∷◌, ◌≡◌, ◌≤◌}
use Rattle.td_explain.proofs.EarlierLaws.{is_read, no_end, no_fault, begins, all_noted, upcoming, one_noted}
use Rattle.td_explain.proofs.past.Past.of.Goals as goal

pub records-init : goal.records-init
records-init c =
    let x = c.args.earlier.now in
    let s = c.args.settings.now in
    record {
      inside = omega (arith, c.min-at.ensures);
      noted = λ rs all.
          let walks = begins x rs all in
          let inside = walks.inside in
          let at_is : c.min-at.result ≡ 24 = omega (arith, c.min-at.ensures, inside) in
          record {
            before = [];
            after = rs;
            whole = refl;
            walks = subst (λ (n : ℕ). Walks x.head n x.bytes.now []) (sym at_is) walks;
            place_is = refl;
            keeps = c.none-past.ensures s;
          };
    }

pub records-preserved : goal.records-preserved
records-preserved c =
    let x = c.args.earlier.now in
    let s = c.args.settings.now in
    let h = x.head in
    let at = c.records.at in
    let end = c.in-Some.end in
    let step : Rec × ℕ = (c.in-Some.record, end) in
    let r = captured c.in-Some.record in
    let there : StandsAt h.little r at end x.bytes.now =
    subst (λ (t : Option (Rec × ℕ)). IfSome t (λ p. StandsAt h.little (captured p.0) at p.1 x.bytes.now)) c.in-Some.is c.in-Ok.ensures.found in
    let further : (at < end) × (end ≤ length x.bytes.now) =
    subst (λ (t : Option (Rec × ℕ)). IfSome t (λ p. (at < p.1) × (p.1 ≤ length x.bytes.now))) c.in-Some.is c.in-Ok.ensures.further in
    record {
      inside = further.1;
      noted = λ rs all.
          let n = c.records.invariant.noted rs all in
          let up = upcoming n all (omega (arith, c.records-test.true)) in
          let gives = c.next.ensures.only up.record_is (c.records.at + length (record_bytes c.args.earlier.now.head.little up.record_is)) up.stands in
          let read = subst (λ (t : Result (Option (Rec × ℕ)) CapFault). Gives step_view t
          (Ok (Some (up.record_is, (c.records.at + length (record_bytes c.args.earlier.now.head.little up.record_is)))))) (c.in-Ok.is
          ∙ ap Ok c.in-Some.is) gives in
          let is : up.record_is ≡ r = is_read up.record_is (c.records.at + length (record_bytes c.args.earlier.now.head.little up.record_is)) step read in
          let whole = subst (λ (q : Captured). rs ≡ n.before ++ q ∷ up.after) is up.whole in
          let long = length-map n.before (λ (q : Captured). datagram_in q.bytes) in
          let place_is = n.place_is in
          let small : length (places n.before) + 1 < 2 ^ 64 = omega (arith, c.records-test.true, place_is, long) in
          one_noted n c.note.new.self end r up.after whole there further.0
          (c.in_ok-note.ensures (places n.before) (n.place_is ∙ sym long) small n.keeps);
    }

pub returns-in_default : goal.returns-in_default
returns-in_default c = λ rs all.
    let x = c.args.earlier.now in
    let n = c.records.invariant.noted rs all in
    let up = upcoming n all (omega (arith, c.records-test.true)) in
    let gives = c.next.ensures.only up.record_is (c.records.at + length (record_bytes c.args.earlier.now.head.little up.record_is)) up.stands in
    let read = subst (λ (t : Result (Option (Rec × ℕ)) CapFault). Gives step_view t
    (Ok (Some (up.record_is, (c.records.at + length (record_bytes c.args.earlier.now.head.little up.record_is)))))) c.in_default.is gives in
    absurd (no_fault up.record_is (c.records.at + length (record_bytes c.args.earlier.now.head.little up.record_is)) c.in_default.field-0 read)

pub returns-in_default-step : goal.returns-in_default-step
returns-in_default-step c = λ rs all.
    let x = c.args.earlier.now in
    let n = c.records.invariant.noted rs all in
    let up = upcoming n all (omega (arith, c.records-test.true)) in
    let gives = c.next.ensures.only up.record_is (c.records.at + length (record_bytes c.args.earlier.now.head.little up.record_is)) up.stands in
    let read = subst (λ (t : Result (Option (Rec × ℕ)) CapFault). Gives step_view t
    (Ok (Some (up.record_is, (c.records.at + length (record_bytes c.args.earlier.now.head.little up.record_is)))))) (c.in-Ok.is
    ∙ ap Ok c.in_default-step.is) gives in
    absurd (no_end up.record_is (c.records.at + length (record_bytes c.args.earlier.now.head.little up.record_is)) read)

pub returns : goal.returns
returns c = λ rs all.
    all_noted (c.records.invariant.noted rs all) all
    (omega (arith, c.records-test.false))
