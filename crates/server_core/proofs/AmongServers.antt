-- What a server sends draws nothing from another server.
use Rattle.server_core.proofs.Words.{ALL_ROUTERS, Advert, Bool, Dropped, EachEndsAmongServers, Ep, Fields, Forward, ForwardOrigin, Ip6, IsOutgoing, IsPassedOn, IsSilent, List, None, Ok, Option, PayloadFault, ReadsPayload, Result, Rule, RuledOnlyIf, ServerSeen, ServerSettings, Side, Six, Some, Value, advert_bytes, advert_packet, advertisement, adverts, and_parts, ap, arith, by_payload, drop, embedded, eqb-true, false, false≢true, forwarded, goes_to_other, goes_to_own, inl, inr, is_for_client, is_forged, is_link_local, is_not_ours, is_own, is_solicit, is_solicitation, is_teredo, link_local_tells, message_in, nat_tests, nonce_of, not, payload_at, refl, rule_of, same_ep, same_ep-true, same_ip, same_ip-self, same_ip-true, same_ip6, server_ep, server_in, server_link_local, server_row, server_seen, slice_index, subst, sym, true, value_written, ℕ, ◌&&◌, ◌∙◌, ◌≡◌, ◌⊎◌}
use Rattle.teredo_node.specs.Step.{Send}
use Rattle.server_core.proofs.Warranted.{rule_is_warranted}
use Rattle.server_core.proofs.Silence.{IsDropped, dropped_is_silent}
use Rattle.server_core.proofs.ReadsBack.{Came, came, may_answer, advert_reads_back, forwarded_reads_back}
use Rattle.server_core.proofs.Outgoing.{unforged_from, of_read}

-- WHERE A DATAGRAM IS DROPPED

-- nobody's solicitation, and forged or for nobody of this server
drops_by : (r : Rule) (a : ServerSeen) → RuledOnlyIf r a → a.solicitation ≡ false → (a.forged ≡ true) ⊎ (a.not_ours ≡ true) → IsDropped r
drops_by (Dropped f) a w none why = (f, refl)
drops_by Advert a w none why = absurd (false≢true (sym none ∙ w.solicitation))
drops_by ForwardOrigin a w none (inl forged) = absurd (false≢true (sym w.on.unforged ∙ forged))
drops_by ForwardOrigin a w none (inr other) = absurd (false≢true (sym w.on.ours ∙ other))
drops_by Forward a w none (inl forged) = absurd (false≢true (sym w.on.unforged ∙ forged))
drops_by Forward a w none (inr other) = absurd (false≢true (sym w.on.ours ∙ other))
drops_by Six a w none (inl forged) = absurd (false≢true (sym w.on.unforged ∙ forged))
drops_by Six a w none (inr other) = absurd (false≢true (sym w.on.ours ∙ other))

silent : (s : ServerSettings) (at : Side) (own : Ep) (y : List ℕ) (v : Value) → payload_at y ≡ Ok v → is_solicitation v.packet ≡ false → (is_forged own v.packet ≡ true) ⊎ (is_not_ours s v.packet ≡ true) → IsSilent (server_row s at own y)
unfolding server_row
silent s at own y v e none why =
    subst (λ (r : Result Value PayloadFault). IsSilent (by_payload s at own y r)) (sym e)
    (dropped_is_silent s at own y v (rule_of s own v) (drops_by (rule_of s own v) (server_seen s own v) (rule_is_warranted s own v) none why))

-- WHAT GOES ON

both_true : (b c : Bool) → b ≡ true → c ≡ false → (b && not c) ≡ true
both_true true false h g = refl
both_true true true h g = absurd (false≢true (sym g))
both_true false c h g = absurd (false≢true h)

-- it comes from somewhere else than its source embeds
forged_there : (s : ServerSettings) (from own : Ep) (v : Value) → IsPassedOn (server_seen s from v) → is_own s own.ip ≡ true → is_teredo v.packet.src ≡ true → is_forged own v.packet ≡ true
unfolding is_forged
forged_there s from own v on mine teredo = both_true (is_teredo v.packet.src) (same_ep (embedded v.packet.src) own) teredo (by (same_ep (embedded v.packet.src) own) refl) where
  by : (b : Bool) → same_ep (embedded v.packet.src) own ≡ b → b ≡ false
  by false e = refl
  by true e =
      let same : from ≡ own = unforged_from from v on.unforged teredo ∙ same_ep-true (embedded v.packet.src) own e in
      absurd (false≢true (sym on.sound.foreign ∙ ap (λ (z : Ep). is_own s z.ip) same ∙ mine))

not_both : (b c : Bool) → (not b && not c) ≡ false → b ≡ false → c ≡ true
not_both true c h g = absurd (false≢true (sym g))
not_both false true h g = refl
not_both false false h g = absurd (false≢true (sym h))

neither : (b c : Bool) → b ≡ false → c ≡ false → (not b && not c) ≡ true
neither true c h g = absurd (false≢true (sym h))
neither false true h g = absurd (false≢true (sym g))
neither false false h g = refl

-- or it is for a client of the server that sends it on, and of no other
other_client : (s other : ServerSettings) (p : Fields) → same_ip s.primary other.primary ≡ false → is_for_client s p ≡ true → is_for_client other p ≡ false
unfolding is_for_client
other_client s other p apart mine = by (is_teredo p.dst && same_ip (server_in p.dst) other.primary) refl where
  by : (b : Bool) → is_teredo p.dst && same_ip (server_in p.dst) other.primary ≡ b → b ≡ false
  by false e = refl
  by true e =
      let a : server_in p.dst ≡ s.primary = same_ip-true (server_in p.dst) s.primary (and_parts (is_teredo p.dst) (same_ip (server_in p.dst) s.primary) mine).1 in
      let b : server_in p.dst ≡ other.primary = same_ip-true (server_in p.dst) other.primary (and_parts (is_teredo p.dst) (same_ip (server_in p.dst) other.primary) e).1 in
      absurd (false≢true (sym apart ∙ ap (same_ip s.primary) (sym b ∙ a) ∙ same_ip-self s.primary))

not_ours_there : (s other : ServerSettings) (from : Ep) (v : Value) → IsPassedOn (server_seen s from v) → same_ip s.primary other.primary ≡ false → is_teredo v.packet.src ≡ false → is_not_ours other v.packet ≡ true
unfolding is_not_ours
not_ours_there s other from v on apart native =
    let mine : is_for_client s v.packet ≡ true = not_both (is_teredo v.packet.src) (is_for_client s v.packet) on.ours native in
    neither (is_teredo v.packet.src) (is_for_client other v.packet) native (other_client s other v.packet apart mine)

goes_on : (s other : ServerSettings) (at : Side) (from own : Ep) (v : Value) (origin : Option Ep) (y : List ℕ) → IsPassedOn (server_seen s from v) → is_own s own.ip ≡ true → same_ip s.primary other.primary ≡ false
    → ReadsPayload (value_written None origin v.packet) y → IsSilent (server_row other at own y)
goes_on s other at from own v origin y on mine apart reads = silent other at own y (value_written None origin v.packet) reads.read on.no_solicitation (by (is_teredo v.packet.src) refl) where
  by : (b : Bool) → is_teredo v.packet.src ≡ b → (is_forged own v.packet ≡ true) ⊎ (is_not_ours other v.packet ≡ true)
  by true e = inl (forged_there s from own v on mine e)
  by false e = inr (not_ours_there s other from v on apart e)

-- ADVERTISEMENTS

not_teredo : (ip : Ip6) → is_link_local ip ≡ true → is_teredo ip ≡ false
unfolding is_link_local is_teredo
not_teredo ip h =
    let first : slice_index ip.0 0 ≡ 0xfe = eqb-true (slice_index ip.0 0) 0xfe (and_parts _ _ h).0 in
    grind (arith, nat_tests)

pub from_link : (p : Fields) → is_solicitation p ≡ true → is_link_local p.src ≡ true
unfolding is_solicitation
from_link p h = (and_parts _ _ (and_parts _ _ h).0).0

no_solicit : (a b c : Bool) → c ≡ false → (a && b) && c ≡ false
no_solicit true true c h = h
no_solicit true false c h = refl
no_solicit false b c h = refl

-- it is no solicitation, and for a client's link-local address
advert_plain : (s : ServerSettings) (client : Ip6) → message_in (advert_packet s client) ≡ Some (advertisement s.primary) → is_solicitation (advert_packet s client) ≡ false
unfolding is_solicitation
advert_plain s client m = no_solicit (is_link_local (server_link_local s)) (same_ip6 client ALL_ROUTERS) (is_solicit (message_in (advert_packet s client))) (ap is_solicit m)

not_for : (s : ServerSettings) (p : Fields) → is_teredo p.src ≡ false → is_teredo p.dst ≡ false → is_not_ours s p ≡ true
unfolding is_not_ours is_for_client
not_for s p src dst = neither (is_teredo p.src) (is_teredo p.dst && same_ip (server_in p.dst) s.primary) src (ap (λ (b : Bool). b && same_ip (server_in p.dst) s.primary) dst)

-- EACH SEND

of_send : (s other : ServerSettings) (side at : Side) (from own : Ep) (x : List ℕ) (v : Value) (send : Send) → Came s from x v
    → is_own s own.ip ≡ true → same_ip s.primary other.primary ≡ false → IsOutgoing s side from x v send → IsSilent (server_row other at own send.bytes)
of_send s other side at from own x v send c mine apart (adverts answered is) =
    let client : Ip6 = v.packet.src in
    let reads = advert_reads_back s from (nonce_of v.lead) client (may_answer c) in
    let plain = advert_plain s client (ap (λ (w : Value). message_in w.packet) (sym reads.payload.value) ∙ reads.carries.message) in
    let foreign : is_teredo (server_link_local s) ≡ false = (link_local_tells true (server_ep s.primary) (c.primary, omega arith)).not_teredo in
    subst (λ (z : Send). IsSilent (server_row other at own z.bytes)) (sym is)
    (silent other at own (advert_bytes s from (nonce_of v.lead) client) (value_written (nonce_of v.lead) (Some from) (advert_packet s client)) reads.payload.read plain
    (inr (not_for other (advert_packet s client) foreign (not_teredo client (from_link v.packet answered.solicitation)))))
of_send s other side at from own x v send c mine apart (goes_to_own on is) =
    subst (λ (z : Send). IsSilent (server_row other at own z.bytes)) (sym is)
    (goes_on s other at from own v (Some from) (forwarded (Some from) (drop v.lead.at x)) on.on mine apart (forwarded_reads_back x v (Some from) c.bytes c.read on.on.sound.short c.origin))
of_send s other side at from own x v send c mine apart (goes_to_other on is) =
    subst (λ (z : Send). IsSilent (server_row other at own z.bytes)) (sym is)
    (goes_on s other at from own v None (forwarded None (drop v.lead.at x)) on.on mine apart (forwarded_reads_back x v None c.bytes c.read on.on.sound.short tt))

pub each_ends : EachEndsAmongServers
unfolding server_row
each_ends s other side at from own x primary origin fits mine apart =
    of_read (λ (send : Send). IsSilent (server_row other at own send.bytes)) s side from x
    (λ v e send. of_send s other side at from own x v send (came s from x v primary origin fits e) mine apart) (payload_at x) refl
