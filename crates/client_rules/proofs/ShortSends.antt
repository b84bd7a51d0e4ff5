-- What a client sends fits into a datagram.
use Rattle.client_rules.proofs.MadeSends.{each_send_is_bytes}
use Rattle.client_rules.proofs.Sends.{each_send}
use Rattle.client_rules.proofs.Words.{AllByRecursion, BUBBLE_HOP, Bool, DATAGRAM_MAX, EachSendIsShort, Ep, HEADER, IfSome, Ip6, IsBytes, IsBytesSend, IsIp6, IsMadeClient, IsOwnTo, IsSending, IsShortSend, List, MessageFits, None, Option, Phase, Qualification, ROUTER_HOP, Send, Settings, Some, TEST_ID, TEST_SEQ, [], all_routers, ap, are_bytes, arith, asks_as_cone, big_bytes, bubble_reads_back, bubbles, carries, echo_request, fields_in, indications_bytes, length, length-append, link_local, link_local_tells, message_is_carried, message_packet, packet_bytes, packet_is_bytes, packet_is_spelled, qualification, refl, router_solicit, short_body, solicitation, solicits, subst, sym, test, test_bytes, tests, ℕ, ◌+◌, ◌∙◌, ◌∷◌, ◌≡◌, ◌≤◌}
use Rattle.client_rules.proofs.MadeWaiting.{journal_is, next_peer}

short_test : (own p : Ip6) (nonce : ℕ) → IsIp6 own → IsIp6 p → length (test_bytes own p nonce) ≤ DATAGRAM_MAX
short_test own p nonce from to =
    let m = echo_request TEST_ID TEST_SEQ (big_bytes 8 nonce) in
    let fits : MessageFits (echo_request TEST_ID TEST_SEQ (big_bytes 8 nonce)) = (omega arith, omega arith) in
    let c = message_is_carried BUBBLE_HOP own p m (record { hop_fits = omega arith; src_fits = from; dst_fits = to; fits = fits; valid = tt; short = omega arith }) in
    let body : length (message_packet BUBBLE_HOP own p m).body ≡ 16 = c.long in
    let whole = (packet_is_bytes (message_packet BUBBLE_HOP own p m) c.packet).long in
    omega (arith, body, whole)

short_solicitation : (s : Settings) (cone : Bool) (nonce : ℕ) → IsMadeClient s → length (solicitation s cone nonce) ≤ DATAGRAM_MAX
unfolding solicitation
short_solicitation s cone nonce made =
    let own = link_local_tells cone s.inside made.inside in
    let m = router_solicit [] in
    let routers : IsIp6 all_routers = (refl, are_bytes all_routers.0 refl) in
    let c = message_is_carried ROUTER_HOP (link_local cone s.inside) all_routers m (record {
      hop_fits = omega arith;
      src_fits = own.sixteen;
      dst_fits = routers;
      fits = tt;
      valid = record { near = refl; whole = record { options = []; each = tt; bytes = refl } };
      short = omega arith;
    }) in
    let p = message_packet ROUTER_HOP (link_local cone s.inside) all_routers m in
    let body : length (message_packet ROUTER_HOP (link_local cone s.inside) all_routers m).body ≡ 8 = c.long in
    let packet = (packet_is_bytes p c.packet).long in
    let lead : length (indications_bytes (Some nonce) None) ≡ 13 = refl in
    let whole = length-append (indications_bytes (Some nonce) None) (packet_bytes p) in
    omega (arith, body, packet, lead, whole)

short_packet : (own to : Option Ip6) (x : List ℕ) → IsBytes x → IsOwnTo own to x → length x ≤ DATAGRAM_MAX
short_packet own to x fits of =
    let spelled = packet_is_spelled x fits of.well_formed in
    let len = (packet_is_bytes (fields_in x) spelled.0).long in
    let same : length x ≡ HEADER + length (fields_in x).body = ap length spelled.1 ∙ len in
    let most = short_body (fields_in x) of.short in
    omega (arith, same, most)

of_sending : (s : Settings) (q : Qualification) (phase : Phase) (peer : Option Ip6) (bubbled : Ip6 → Ep → Type 0) (carried : Ep → List ℕ → Type 0) (x : Send)
    → IsMadeClient s → IfSome q.address IsIp6 → IfSome peer IsIp6 → IsSending s q phase peer bubbled carried x → IsBytes x.bytes → IsShortSend x
unfolding test
of_sending s q phase peer bubbled carried x made address there (solicits nonce is) fits = subst IsShortSend (sym is) (short_solicitation s (asks_as_cone q phase) nonce made)
of_sending s q phase peer bubbled carried x made address there (bubbles own p to has of goes is) fits =
    let from : IsIp6 own = subst (λ (o : Option Ip6). IfSome o IsIp6) has address in
    let for : IsIp6 p = subst (λ (o : Option Ip6). IfSome o IsIp6) of there in
    let long = (bubble_reads_back own p from for).long in
    subst IsShortSend (sym is) (omega (arith, long))
of_sending s q phase peer bubbled carried x made address there (tests own p nonce has of is) fits =
    let from : IsIp6 own = subst (λ (o : Option Ip6). IfSome o IsIp6) has address in
    let for : IsIp6 p = subst (λ (o : Option Ip6). IfSome o IsIp6) of there in
    subst IsShortSend (sym is) (short_test own p nonce from for)
of_sending s q phase peer bubbled carried x made address there (carries to bytes own goes is) fits =
    let same : x.bytes ≡ bytes = ap (λ (z : Send). z.bytes) is in
    subst IsShortSend (sym is) (short_packet q.address peer bytes (subst IsBytes same fits) own)

both : (P Q R : Send → Type 0) (xs : List Send) → ((x : Send) → P x → Q x → R x) → AllByRecursion P xs → AllByRecursion Q xs → AllByRecursion R xs
both P Q R [] f a b = tt
both P Q R (x ∷ xs) f a b = (f x a.0 b.0, both P Q R xs f a.1 b.1)

pub each_send_is_short : EachSendIsShort
each_send_is_short s j e is made h a =
    let m = journal_is s j is.1 made a in
    let peer = next_peer s j e is.1 a h is.0.words is.0.is in
    both _ IsBytesSend IsShortSend e.step.sends (λ x sending fits. of_sending s (qualification s j) _ e.peer _ _ x made m.address peer sending fits) (each_send s j e is) (each_send_is_bytes s j e is made h a)
