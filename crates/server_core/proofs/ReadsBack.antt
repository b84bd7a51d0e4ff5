-- What a server sends reads back.
use Rattle.server_core.proofs.Words.{Advert, AdvertReadsBack, AllByRecursion, AreOptions, AreServerOptions, AuthBlock, Bool, CarriesMessage, Dropped, EachTellsWhereTo, Ep, Err, Fate, Fields, Forward, ForwardOrigin, ForwardedReadsBack, IfSome, Ip4, Ip6, IsAuthBlock, IsBytes, IsBytes-append, IsEp, IsIp4, IsIp6, IsOption, Lead, List, MayBeAnswered, MayBeSent, Mtu, None, Ok, Opt, Option, PayloadBytes, PayloadFault, Prefix, ReadsAdvert, ReadsPayload, Result, Rule, ServerSettings, Side, Six, Some, TellsWhereTo, Value, [], advert_bytes, advert_options, advert_packet, advertisement, ap, are_bytes, arith, by_payload, drop, false, false≢true, first_line, forwarded, is_big, is_ok_payload, is_payload, is_some, is_teredo, last_line, length, length-append, link_local_tells, message_is_bytes, message_is_carried, nonce_of, option_map, options_read_back, origin_in, packet_goes_on, payload_at, payload_is_bytes, payload_is_spelled, payload_reads_back, refl, replicate, rule_of, server_datagram_lines, server_destination_lines, server_ep, server_in, server_link_local, server_packet_lines, server_row, server_seen, spans_of, step_of, subst, sym, take, take_all, take_at, true, value_in, value_or, value_written, ℕ, ◌++◌, ◌<◌, ◌^◌, ◌∙◌, ◌∷◌, ◌≡◌}
use Rattle.teredo_node.specs.declared.fate.Fate.TheVariants as fate
use Rattle.teredo_node.specs.Step.{Send}
use Rattle.server_core.proofs.Lengths.{nonce_len_most}

-- THE OPTIONS

abbrev prefix_block : Ip4 → List ℕ
prefix_block primary = 3 ∷ 4 ∷ 64 ∷ 0x40 ∷ replicate 8 255 ++ replicate 4 0 ++ 0x20 ∷ 1 ∷ 0 ∷ 0 ∷ primary.0 ++ replicate 8 0

abbrev mtu_block : List ℕ
mtu_block = 5 ∷ 1 ∷ 0 ∷ 0 ∷ 0 ∷ 0 ∷ 5 ∷ 0 ∷ []

are_each : (primary : Ip4) → length primary.0 ≡ 4 → AllByRecursion IsOption (prefix_block primary ∷ mtu_block ∷ [])
are_each primary four =
    let tail : length (primary.0 ++ replicate 8 0) ≡ 12 = omega (arith, length-append primary.0 (replicate 8 0), four) in
    (record { some = omega arith; whole = omega (arith, tail) }, (record { some = omega arith; whole = refl }, tt))

are_options : (primary : Ip4) → length primary.0 ≡ 4 → AreOptions (advert_options primary)
are_options primary four = record { options = prefix_block primary ∷ mtu_block ∷ []; each = are_each primary four; bytes = refl }

options_long : (primary : Ip4) → length primary.0 ≡ 4 → length (advert_options primary) ≡ 40
options_long primary four =
    let tail : length (primary.0 ++ replicate 8 0) ≡ 12 = omega (arith, length-append primary.0 (replicate 8 0), four) in
    let whole = length-append (primary.0 ++ replicate 8 0) mtu_block in
    omega (arith, tail, whole)

abbrev an_option : ℕ → Ip6 → List Opt
an_option n prefix = Prefix 64 0x40 n n prefix ∷ Mtu 1280 ∷ []

server_options : (primary : Ip4) → length primary.0 ≡ 4 → AreServerOptions primary (advert_options primary)
unfolding is_teredo server_in
server_options primary four =
    let tail : length (primary.0 ++ replicate 8 0) ≡ 12 = omega (arith, length-append primary.0 (replicate 8 0), four) in
    let sixteen : take 16 (0x20 ∷ 1 ∷ 0 ∷ 0 ∷ (primary.0 ++ replicate 8 0)) ≡ 0x20 ∷ 1 ∷ 0 ∷ 0 ∷ (primary.0 ++ replicate 8 0) = take_all 16 (0x20 ∷ 1 ∷ 0 ∷ 0 ∷ (primary.0 ++ replicate 8 0)) (omega (arith, tail)) in
    record {
      read = options_read_back (prefix_block primary ∷ mtu_block ∷ []) (are_each primary four) ∙ ap (λ (x : List ℕ). an_option 4294967295 (record { 0 = x })) sixteen;
      teredo = refl;
      server = ap (λ (x : List ℕ). record { 0 = x }) (take_at primary.0 (replicate 8 0) 4 four);
    }

-- THE ADVERTISEMENT

carries : (s : ServerSettings) (client : Ip6) → IsIp4 s.primary → IsIp6 client → CarriesMessage (advertisement s.primary) (advert_packet s client)
carries s client primary address =
    let own = link_local_tells true (server_ep s.primary) (primary, omega arith) in
    let len = options_long s.primary primary.0 in
    message_is_carried 255 (server_link_local s) client (advertisement s.primary) (record {
      hop_fits = omega arith;
      src_fits = own.sixteen;
      dst_fits = address;
      fits = (omega arith, omega arith, omega arith, omega arith, omega arith);
      valid = (own.link, record { near = refl; whole = are_options s.primary primary.0 });
      short = omega (arith, len);
    })

may_be_sent : (s : ServerSettings) (from : Ep) (nonce : Option ℕ) (client : Ip6) → MayBeAnswered s from nonce client → CarriesMessage (advertisement s.primary) (advert_packet s client) → MayBeSent nonce (Some from) (advert_packet s client)
may_be_sent s from nonce client may carries = record {
  given = record { nonce_fits = may.nonce_fits; origin_fits = may.origin };
  packet = carries.packet;
  short = omega (arith, nonce_len_most nonce, carries.long, options_long s.primary may.primary.0);
}

again : (nonce : Option ℕ) (from : Ep) (p : Fields) → nonce_of (value_written nonce (Some from) p).lead ≡ nonce
again None from p = refl
again (Some nonce) from p = refl

-- BYTES

abbrev front : List ℕ
front = 3 ∷ 4 ∷ 64 ∷ 0x40 ∷ replicate 8 255 ++ replicate 4 0 ++ 0x20 ∷ 1 ∷ 0 ∷ 0 ∷ []

abbrev zeros : List ℕ
zeros = replicate 8 0

option_bytes : (primary : Ip4) → IsBytes primary.0 → IsBytes (advert_options primary)
option_bytes primary fits =
    IsBytes-append front ((primary.0 ++ zeros) ++ mtu_block) (are_bytes front refl)
    (IsBytes-append (primary.0 ++ zeros) mtu_block (IsBytes-append primary.0 zeros fits (are_bytes zeros refl)) (are_bytes mtu_block refl))

pub advert_reads_back : AdvertReadsBack
unfolding advert_bytes
advert_reads_back s from nonce client may =
    let p : Fields = advert_packet s client in
    let carried = carries s client may.primary may.address in
    let sent = may_be_sent s from nonce client may carried in
    let payload = payload_reads_back nonce (Some from) p sent in
    let whole = payload_is_bytes nonce (Some from) p sent in
    let body = (message_is_bytes (server_link_local s) client (advertisement s.primary)).bytes (omega arith, omega arith, omega arith, omega arith, omega arith) (option_bytes s.primary may.primary.1) in
    record {
      payload = payload;
      same_nonce = ap (λ (v : Value). nonce_of v.lead) payload.value ∙ again nonce from p;
      same_origin = ap (λ (v : Value). origin_in v.lead) payload.value;
      carries = subst (λ (v : Value). CarriesMessage (advertisement s.primary) v.packet) (sym payload.value) carried;
      options = server_options s.primary may.primary.0;
      long = omega (arith, whole.long, carried.long, options_long s.primary may.primary.0);
      bytes = whole.bytes body;
    }

-- WHAT GOES ON

pub forwarded_reads_back : ForwardedReadsBack
unfolding forwarded
forwarded_reads_back x v origin fits e big origin_fits = packet_goes_on x v origin fits e big origin_fits

-- WHERE IT GOES TO

tells_advert : (s : ServerSettings) (from : Ep) (n : Option ℕ) (client : Ip6) (send : Send) → send.to ≡ from → ReadsAdvert s from n client send.bytes → TellsWhereTo send
tells_advert s from n client send to reads = record { is_one = reads.payload.is_one; origin = λ has. reads.same_origin ∙ ap (λ (ep : Ep). Some ep) (sym to) }

-- without an authentication there is nothing to tell
tells_nothing : (origin : Option Ep) (p : Fields) (send : Send) → ReadsPayload (value_written None origin p) send.bytes → TellsWhereTo send
tells_nothing origin p send reads = record { is_one = reads.is_one; origin = λ has. absurd (false≢true (ap (λ (v : Value). is_some v.lead.auth) (sym reads.value) ∙ has)) }

-- a payload that came is spelled
pub spelled_is : (x : List ℕ) (v : Value) → IsBytes x → payload_at x ≡ Ok v → PayloadBytes v x
unfolding is_payload value_in
spelled_is x v fits e =
    let is = payload_is_spelled x fits (ap is_ok_payload e) in
    subst (λ (w : Value). PayloadBytes w x) (ap value_or e) is.spelled

pub nonce_fits : (auth : Option AuthBlock) → IfSome auth IsAuthBlock → IfSome (option_map (λ a. a.nonce) (option_map spans_of auth)) (λ n. n < 2 ^ 64)
nonce_fits None h = tt
nonce_fits (Some a) h = h.nonce

-- what a payload that came tells
pub record Told (v : Value) : Type 0 where
  pub nonce : IfSome (nonce_of v.lead) (λ n. n < 2 ^ 64)
  pub source : IsIp6 v.packet.src

pub told : (x : List ℕ) (v : Value) → IsBytes x → payload_at x ≡ Ok v → Told v
told x v fits e =
    let is = spelled_is x v fits e in
    record { nonce = subst (λ (l : Lead). IfSome (nonce_of l) (λ n. n < 2 ^ 64)) (sym is.told) (nonce_fits is.blocks.auth is.fits.auth); source = is.is_packet.0.src }

-- a payload that came to a server
pub record Came (s : ServerSettings) (from : Ep) (x : List ℕ) (v : Value) : Type 0 where
  pub primary : IsIp4 s.primary
  pub origin : IsEp from
  pub bytes : IsBytes x
  pub read : payload_at x ≡ Ok v
  pub tells : Told v

pub came : (s : ServerSettings) (from : Ep) (x : List ℕ) (v : Value) → IsIp4 s.primary → IsEp from → IsBytes x → payload_at x ≡ Ok v → Came s from x v
came s from x v primary origin fits e = record { primary = primary; origin = origin; bytes = fits; read = e; tells = told x v fits e }

-- it may be answered
pub may_answer : {s : ServerSettings} {from : Ep} {x : List ℕ} {v : Value} → Came s from x v → MayBeAnswered s from (nonce_of v.lead) v.packet.src
may_answer c = record { primary = c.primary; origin = c.origin; nonce_fits = c.tells.nonce; address = c.tells.source }

by_rule : (s : ServerSettings) (side : Side) (from : Ep) (x : List ℕ) (v : Value) (r : Rule) → Came s from x v → is_big v.packet ≡ false → AllByRecursion TellsWhereTo (step_of s side from x v r).sends
by_rule s side from x v (Dropped f) c big = tt
by_rule s side from x v Advert c big =
    let reads = advert_reads_back s from (nonce_of v.lead) v.packet.src (may_answer c) in
    (tells_advert s from (nonce_of v.lead) v.packet.src _ refl reads, tt)
by_rule s side from x v ForwardOrigin c big = (tells_nothing (Some from) v.packet _ (forwarded_reads_back x v (Some from) c.bytes c.read big c.origin), tt)
by_rule s side from x v Forward c big = (tells_nothing None v.packet _ (forwarded_reads_back x v None c.bytes c.read big tt), tt)
by_rule s side from x v Six c big = tt

-- what is big is dropped
big_drops : (P : Rule → Type 0) → ((f : Fate) → P (Dropped f)) → (keyed big : Bool) (rest : List (Bool × Rule)) → big ≡ true → P (first_line ((keyed, Dropped fate.Keyed) ∷ (big, Dropped fate.Big) ∷ rest) last_line)
big_drops P h true big rest e = h fate.Keyed
big_drops P h false true rest e = h fate.Big
big_drops P h false false rest e = absurd (false≢true e)

big_is_silent : (s : ServerSettings) (side : Side) (from : Ep) (x : List ℕ) (v : Value) → is_big v.packet ≡ true → AllByRecursion TellsWhereTo (step_of s side from x v (rule_of s from v)).sends
unfolding rule_of
big_is_silent s side from x v big =
    let a = server_seen s from v in
    big_drops (λ (r : Rule). AllByRecursion TellsWhereTo (step_of s side from x v r).sends) (λ f. tt) a.keyed a.big (drop 2 (server_datagram_lines a) ++ (server_packet_lines a ++ server_destination_lines a)) big

of_payload : (s : ServerSettings) (side : Side) (from : Ep) (x : List ℕ) (v : Value) → Came s from x v → AllByRecursion TellsWhereTo (step_of s side from x v (rule_of s from v)).sends
of_payload s side from x v c = by (is_big v.packet) refl where
  by : (b : Bool) → is_big v.packet ≡ b → AllByRecursion TellsWhereTo (step_of s side from x v (rule_of s from v)).sends
  by true e = big_is_silent s side from x v e
  by false e = by_rule s side from x v (rule_of s from v) c e

of_read : (s : ServerSettings) (side : Side) (from : Ep) (x : List ℕ) (r : Result Value PayloadFault) → payload_at x ≡ r → IsIp4 s.primary → IsEp from → IsBytes x → AllByRecursion TellsWhereTo (by_payload s side from x r).sends
of_read s side from x (Err f) e primary origin fits = tt
of_read s side from x (Ok v) e primary origin fits = of_payload s side from x v (came s from x v primary origin fits e)

pub each_tells_where_to : EachTellsWhereTo
unfolding server_row
each_tells_where_to s side from x primary origin fits = of_read s side from x (payload_at x) refl primary origin fits
