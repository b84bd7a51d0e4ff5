use Rattle.td_audit.proofs.Words.{Captured, Datagram, IfSome, List, Option, Rec, Some, Stands, StandsAt, [], arith, captured, datagram_in, length, map-append, places, subst, sym, ℕ, ◌++◌, ◌<◌, ◌∷◌, ◌≤◌}
use Rattle.td_audit.proofs.WalkLaws.{starts, steps, few_places}
use Rattle.td_audit.proofs.auditor.verdict_on.Goals as goal

pub records-init : goal.records-init
records-init c = record {
  records = [];
  walks = starts c.in_ok-head.head c.args.bytes.now c.in_ok-head.ensures.found;
  stands = c.new-judge.ensures;
}

pub records-preserved : goal.records-preserved
records-preserved c =
    let s = c.args.settings in
    let h = c.in_ok-head.head in
    let x = c.args.bytes.now in
    let at = c.records.at in
    let end = c.in-Some.end in
    let w = c.records.invariant in
    let r = captured c.in-Some.record in
    let step : Option (Rec × ℕ) = Some (c.in-Some.record, end) in
    let there : StandsAt h.little r at end x = subst (λ (t : Option (Rec × ℕ)). IfSome t (λ p. StandsAt h.little (captured p.0) at p.1 x)) c.in-Some.is c.in_ok-record.ensures.found in
    let further : (at < end) × (end ≤ length x) = subst (λ (t : Option (Rec × ℕ)). IfSome t (λ p. (at < p.1) × (p.1 ≤ length x))) c.in-Some.is c.in_ok-record.ensures.further in
    let few = few_places h at x w.records w.walks (let more = further.0 in omega (arith, more)) in
    let judged : Stands s c.take.new.self (places w.records ++ datagram_in r.bytes ∷ []) = c.in_ok-take.ensures s (places w.records) few w.stands in
    record {
      records = w.records ++ r ∷ [];
      walks = steps h at end x w.records r w.walks there further.0;
      stands = subst (λ (held : List (Option Datagram)). Stands s c.take.new.self held) (sym (map-append (λ (q : Captured). datagram_in q.bytes) w.records (r ∷ []))) judged;
    }
