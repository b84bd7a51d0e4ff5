use Rattle.td_explain.proofs.Words.{IfSome, IsFaultBehindRecords, IsRecordFault, List, Option, Rec, Some, StandBefore, StandsAt, arith, at_record, captured, drop, err_from_is_err_and, length, refl, steps, subst, ℕ, ◌+◌, ◌<◌, ◌^◌, ◌∙◌, ◌≤◌}
use Rattle.td_explain.proofs.explainer.Explainer.explain_next.Goals as goal

pub returns-in_err-record-clause-fault : goal.returns-in_err-record-clause-fault
returns-in_err-record-clause-fault c =
    let e = c.args.self.now in
    let p = err_from_is_err_and c.from_residual.result c.from_residual.ensures.1 in
    let fault = c.in_err-record.field-0.0 in
    let was = c.in_err-record.ensures.fault in
    rw (p.1, p.2) (λ s x rs explains.
    let w = explains.walks in
    let there = subst (λ (t : List ℕ). IsRecordFault e.head.little e.at fault t) explains.bytes_are was in
    let behind : IsFaultBehindRecords fault x = record {
      head = e.head;
      before = rs;
      rest = drop e.at x;
      fits = w.fits;
      bytes = w.bytes;
      fault = subst (λ (place : ℕ). IsRecordFault e.head.little place fault x) w.place there;
    } in
    at_record behind refl)

pub returns-clause-next : goal.returns-clause-next
returns-clause-next c = λ s x rs explains.
    let e = c.args.self.now in
    let h = e.head in
    let at = e.at in
    let r = captured c.in-Some.record in
    let end = c.in-Some.end in
    let step : Option (Rec × ℕ) = Some (c.in-Some.record, end) in
    let there : StandsAt h.little r at end e.bytes.now =
    subst (λ (t : Option (Rec × ℕ)). IfSome t (λ p. StandsAt h.little (captured p.0) at p.1 e.bytes.now)) c.in-Some.is c.in_ok-record.ensures.found in
    let further : (at < end) × (end ≤ length e.bytes.now) =
    subst (λ (t : Option (Rec × ℕ)). IfSome t (λ p. (at < p.1) × (p.1 ≤ length e.bytes.now))) c.in-Some.is c.in_ok-record.ensures.further in
    let few : length rs + 1 < 2 ^ 64 = let least = explains.walks.few in let more = further.0 in omega (arith, least, more) in
    let w = explains.walks in
    let before : StandBefore (record { head = h; bytes = e.bytes; count = c.told.result }) rs = record {
      fits = w.fits;
      rest = drop at x;
      bytes = explains.bytes_are ∙ w.bytes;
      count_is = c.told.ensures s rs explains.tells;
    } in
    let told = c.in_ok-said.ensures s rs r refl few before explains.tells in
    let stands = subst (λ (t : List ℕ). StandsAt h.little r at end t) explains.bytes_are there in
    (r, record { bytes_are = explains.bytes_are; walks = steps h at end x rs r explains.walks stands further.0; tells = told.1 }, told.0)
