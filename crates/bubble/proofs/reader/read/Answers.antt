use Rattle.bubble.proofs.Words.{arith, drop, err_from_is_err_and, length, sym, take, take_rest, ◌-◌, ◌∙◌}
use Rattle.bubble.proofs.PayloadLaws.{payload_again, payload_found, payload_fault, payload_read, payload_refused}
use Rattle.bubble.proofs.PlacedLaws.{placed_payload, placed_fault, long_fault, front_fault, placed_inside, placed_spans}
use Rattle.bubble.proofs.reader.read.Goals as goal

-- ---- more bytes than a payload has

pub returns-then-bytes-gt-DATAGRAM_MAX-clause-exact : goal.returns-then-bytes-gt-DATAGRAM_MAX-clause-exact
returns-then-bytes-gt-DATAGRAM_MAX-clause-exact c = long_fault c.args.bytes.now c.if-bytes-gt-DATAGRAM_MAX.true

pub returns-then-bytes-gt-DATAGRAM_MAX-clause-unseen : goal.returns-then-bytes-gt-DATAGRAM_MAX-clause-unseen
returns-then-bytes-gt-DATAGRAM_MAX-clause-unseen c = payload_refused _ _ (returns-then-bytes-gt-DATAGRAM_MAX-clause-exact c)

-- ---- the fault of what stands in front

pub returns-in_err-places-clause-exact : goal.returns-in_err-places-clause-exact
returns-in_err-places-clause-exact c =
    let p = err_from_is_err_and c.from_residual.result c.from_residual.ensures.1 in
    rw (p.1, p.2) (front_fault c.args.bytes.now _ (omega (arith, c.if-bytes-gt-DATAGRAM_MAX.false)) c.in_err-places.ensures.exact)

pub returns-in_err-places-clause-only : goal.returns-in_err-places-clause-only
returns-in_err-places-clause-only c =
    let p = err_from_is_err_and c.from_residual.result c.from_residual.ensures.1 in
    rw (p.1, p.2) (λ v stands. sym (payload_again v c.args.bytes.now stands) ∙ front_fault c.args.bytes.now _ (omega (arith, c.if-bytes-gt-DATAGRAM_MAX.false)) c.in_err-places.ensures.exact)

pub returns-in_err-places-clause-fault : goal.returns-in_err-places-clause-fault
returns-in_err-places-clause-fault c =
    let p = err_from_is_err_and c.from_residual.result c.from_residual.ensures.1 in
    rw (p.1, p.2) (payload_fault _ _ (λ i. omega (arith, c.type_inv.bytes i)) (front_fault c.args.bytes.now _ (omega (arith, c.if-bytes-gt-DATAGRAM_MAX.false)) c.in_err-places.ensures.exact))

pub returns-in_err-places-clause-unseen : goal.returns-in_err-places-clause-unseen
returns-in_err-places-clause-unseen c =
    let p = err_from_is_err_and c.from_residual.result c.from_residual.ensures.1 in
    rw p.1 (payload_refused _ _ (front_fault c.args.bytes.now _ (omega (arith, c.if-bytes-gt-DATAGRAM_MAX.false)) c.in_err-places.ensures.exact))

-- ---- the fault of the packet

pub returns-in-Err-clause-exact : goal.returns-in-Err-clause-exact
returns-in-Err-clause-exact c =
    let x = c.args.bytes.now in
    let p = c.in_ok-places.places in
    placed_fault x (take (length x - p.at) (drop p.at x)) p c.in-Err.fault (omega (arith, c.if-bytes-gt-DATAGRAM_MAX.false)) c.in_ok-places.ensures.exact (take_rest x p.at) c.in-Err.ensures.exact

pub returns-in-Err-clause-only : goal.returns-in-Err-clause-only
returns-in-Err-clause-only c = λ v stands. sym (payload_again v c.args.bytes.now stands) ∙ returns-in-Err-clause-exact c

pub returns-in-Err-clause-fault : goal.returns-in-Err-clause-fault
returns-in-Err-clause-fault c = payload_fault _ _ (λ i. omega (arith, c.type_inv.bytes i)) (returns-in-Err-clause-exact c)

pub returns-in-Err-clause-unseen : goal.returns-in-Err-clause-unseen
returns-in-Err-clause-unseen c = payload_refused _ _ (returns-in-Err-clause-exact c)

-- ---- a payload without an authentication

pub returns-then-places-eq0-clause-exact : goal.returns-then-places-eq0-clause-exact
returns-then-places-eq0-clause-exact c =
    let x = c.args.bytes.now in
    let p = c.in_ok-places.places in
    placed_payload x (take (length x - p.at) (drop p.at x)) p c.bare_lead.result _ (omega (arith, c.if-bytes-gt-DATAGRAM_MAX.false))
    c.in_ok-places.ensures.exact c.bare_lead.ensures (take_rest x p.at) c.in_default.ensures.exact c.packet_in.ensures.exact

pub returns-then-places-eq0-clause-found : goal.returns-then-places-eq0-clause-found
returns-then-places-eq0-clause-found c = payload_found _ _ (λ i. omega (arith, c.type_inv.bytes i)) (returns-then-places-eq0-clause-exact c)

pub returns-then-places-eq0-clause-only : goal.returns-then-places-eq0-clause-only
returns-then-places-eq0-clause-only c = λ v stands. sym (payload_again v c.args.bytes.now stands) ∙ returns-then-places-eq0-clause-exact c

pub returns-then-places-eq0-clause-inside : goal.returns-then-places-eq0-clause-inside
returns-then-places-eq0-clause-inside c =
    let x = c.args.bytes.now in
    let p = c.in_ok-places.places in
    placed_inside x (take (length x - p.at) (drop p.at x)) p c.bare_lead.result (length c.packet_in.result.body.now) c.bare_lead.ensures (take_rest x p.at) c.in_ok-places.ensures.there.packet c.packet_in.ensures.inside

pub returns-then-places-eq0-clause-spans : goal.returns-then-places-eq0-clause-spans
returns-then-places-eq0-clause-spans c = placed_spans c.args.bytes.now c.in_ok-places.places c.bare_lead.result (λ i. omega (arith, c.type_inv.bytes i)) c.in_ok-places.ensures.exact c.bare_lead.ensures

pub returns-then-places-eq0-clause-seen : goal.returns-then-places-eq0-clause-seen
returns-then-places-eq0-clause-seen c = payload_read _ _ (returns-then-places-eq0-clause-exact c)

-- ---- a payload with one

pub returns-clause-exact : goal.returns-clause-exact
returns-clause-exact c =
    let x = c.args.bytes.now in
    let p = c.in_ok-places.places in
    placed_payload x (take (length x - p.at) (drop p.at x)) p c.auth_lead.result _ (omega (arith, c.if-bytes-gt-DATAGRAM_MAX.false))
    c.in_ok-places.ensures.exact c.auth_lead.ensures (take_rest x p.at) c.in_default.ensures.exact c.packet_in-2.ensures.exact

pub returns-clause-found : goal.returns-clause-found
returns-clause-found c = payload_found _ _ (λ i. omega (arith, c.type_inv.bytes i)) (returns-clause-exact c)

pub returns-clause-only : goal.returns-clause-only
returns-clause-only c = λ v stands. sym (payload_again v c.args.bytes.now stands) ∙ returns-clause-exact c

pub returns-clause-inside : goal.returns-clause-inside
returns-clause-inside c =
    let x = c.args.bytes.now in
    let p = c.in_ok-places.places in
    placed_inside x (take (length x - p.at) (drop p.at x)) p c.auth_lead.result (length c.packet_in-2.result.body.now) c.auth_lead.ensures (take_rest x p.at) c.in_ok-places.ensures.there.packet c.packet_in-2.ensures.inside

pub returns-clause-spans : goal.returns-clause-spans
returns-clause-spans c = placed_spans c.args.bytes.now c.in_ok-places.places c.auth_lead.result (λ i. omega (arith, c.type_inv.bytes i)) c.in_ok-places.ensures.exact c.auth_lead.ensures

pub returns-clause-seen : goal.returns-clause-seen
returns-clause-seen c = payload_read _ _ (returns-clause-exact c)
