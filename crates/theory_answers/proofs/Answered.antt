-- What a server makes of a solicitation: no line of its table comes before the one that answers it.
use Rattle.theory_answers.proofs.Words.{Advert, AllByRecursion, Bool, CarriesMessage, Dropped, EachSolicitationIsAnswered, Ep, Fate, Fields, Ip6, IsEp, IsIp6, IsPeer, None, ROUTER_HOP, ReadsPayload, Rule, ServerSeen, ServerSettings, Settings, Side, Some, Value, [], advert_bytes, all_routers, answering_side, ap, arith, by_payload, each_byte, false, first_line, is_big, is_for_server, is_keyed, is_other_kind, is_own, is_solicitation, is_usable, just, last_line, link_local, link_local_tells, message_is_carried, message_packet, not, payload_reads_back, refl, router_solicit, rule_of, same_ip6, same_ip6-self, sends_one, server_datagram_lines, server_destination_lines, server_link_local, server_packet_lines, server_row, server_seen, solicitation, step_of, true, value_written, ℕ, ◌++◌, ◌<◌, ◌^◌, ◌∙◌, ◌∷◌, ◌≡◌}
use Rattle.teredo_node.specs.declared.fate.Fate.TheVariants as fate

-- the address of all routers is made
routers_are : IsIp6 all_routers
routers_are = (refl, each_byte all_routers.0 all) where
  last : AllByRecursion (λ (b : ℕ). b < 256) (0 ∷ 0 ∷ 0 ∷ 0 ∷ 0 ∷ 0 ∷ 0 ∷ 2 ∷ [])
  last = (omega arith, (omega arith, (omega arith, (omega arith, (omega arith, (omega arith, (omega arith, (omega arith, tt))))))))

  all : AllByRecursion (λ (b : ℕ). b < 256) all_routers.0
  all = (omega arith, (omega arith, (omega arith, (omega arith, (omega arith, (omega arith, (omega arith, (omega arith, last))))))))

-- of the lines before the one for solicitations none holds but those on the source
pub record IsForRouters (a : ServerSeen) : Type 0 where
  pub unkeyed : a.keyed ≡ false
  pub short : a.big ≡ false
  pub kind : a.other_kind ≡ false
  pub well_formed : a.ill_formed ≡ false
  pub for_others : a.for_server ≡ false
  pub solicitation : a.solicitation ≡ true

abbrev row_of : ServerSeen → Rule
row_of a = first_line (server_datagram_lines a ++ (server_packet_lines a ++ server_destination_lines a)) last_line

-- a source that can be used, and isn't the server's own
rule_by : (a : ServerSeen) → IsForRouters a → a.unusable_source ≡ false → a.from_server ≡ false → row_of a ≡ Advert
rule_by a i usable foreign = rw (i.unkeyed, i.short, i.kind, i.well_formed, usable, foreign, i.for_others, i.solicitation) refl

-- any other is dropped
unusable_by : (a : ServerSeen) → IsForRouters a → a.unusable_source ≡ true → row_of a ≡ Dropped fate.Source
unusable_by a i unusable = rw (i.unkeyed, i.short, i.kind, i.well_formed, unusable) refl

own_by : (a : ServerSeen) → IsForRouters a → a.unusable_source ≡ false → a.from_server ≡ true → row_of a ≡ Dropped fate.Loop
own_by a i usable own = rw (i.unkeyed, i.short, i.kind, i.well_formed, usable, own) refl

-- a solicitation of a client, and the server that it asks
pub record Solicits : Type 0 where
  pub server : ServerSettings
  pub client : Settings
  pub from : Ep
  pub cone : Bool
  pub nonce : ℕ
  pub inside : IsEp client.inside
  pub nonce_fits : nonce < 2 ^ 64

module _ (solicited : Solicits) where
  open solicited use {server, client, from, cone, nonce, inside, nonce_fits}

  abbrev src : Ip6
  src = link_local cone client.inside

  abbrev p : Fields
  p = message_packet ROUTER_HOP src all_routers (router_solicit [])

  abbrev v : Value
  v = value_written (Some nonce) None p

  carries : CarriesMessage (router_solicit []) p
  carries = message_is_carried ROUTER_HOP src all_routers (router_solicit []) (record {
    hop_fits = omega arith;
    src_fits = (link_local_tells cone client.inside inside).sixteen;
    dst_fits = routers_are;
    fits = tt;
    valid = record { near = refl; whole = record { options = []; each = tt; bytes = refl } };
    short = omega arith;
  })

  reads : ReadsPayload v (solicitation client cone nonce)
  unfolding solicitation
  reads = payload_reads_back (Some nonce) None p (record {
    given = record { nonce_fits = nonce_fits; origin_fits = tt };
    packet = carries.packet;
    short = omega (arith, carries.long);
  })

  unkeyed : is_keyed v.lead ≡ false
  unfolding is_keyed
  unkeyed = refl

  short : is_big p ≡ false
  unfolding is_big
  short = rw carries.long refl

  kind : is_other_kind p ≡ false
  unfolding is_other_kind
  kind = rw carries.no_bubble refl

  apart : same_ip6 all_routers (server_link_local server) ≡ false
  unfolding same_ip6 link_local
  apart = refl

  for_others : is_for_server server p ≡ false
  unfolding is_for_server
  for_others = apart

  solicits : is_solicitation p ≡ true
  unfolding is_solicitation
  solicits = rw ((link_local_tells cone client.inside inside).link, same_ip6-self all_routers, carries.message) refl

  seen : IsForRouters (server_seen server from v)
  seen = record {
    unkeyed = unkeyed;
    short = short;
    kind = kind;
    well_formed = carries.well_formed;
    for_others = for_others;
    solicitation = solicits;
  }

  row_is : (side : Side) {rule : Rule} → rule_of server from v ≡ rule
      → server_row server side from (solicitation client cone nonce) ≡ step_of server side from (solicitation client cone nonce) v rule
  unfolding server_row
  row_is side is =
      let x = solicitation client cone nonce in
      ap (by_payload server side from x) reads.read ∙ ap (step_of server side from x v) is

  rule : IsPeer server from → rule_of server from v ≡ Advert
  unfolding rule_of
  rule peer = rule_by (server_seen server from v) seen (ap not peer.0) peer.1

  pub answered : IsPeer server from → (side : Side) → server_row server side from (solicitation client cone nonce)
      ≡ sends_one fate.Advert (answering_side side src) from (advert_bytes server from (Some nonce) src)
  answered peer side = row_is side (rule peer)

  -- THE SOURCE

  rule_unusable : is_usable server.policy from ≡ false → rule_of server from v ≡ Dropped fate.Source
  unfolding rule_of
  rule_unusable h = unusable_by (server_seen server from v) seen (ap not h)

  rule_own : is_usable server.policy from ≡ true → is_own server from.ip ≡ true → rule_of server from v ≡ Dropped fate.Loop
  unfolding rule_of
  rule_own h own = own_by (server_seen server from v) seen (ap not h) own

  -- the server may send there, or drops it
  pub data IsAskedBy (side : Side) : Type 0 where
    goes_back : IsPeer server from → IsAskedBy side
    dropped : (f : Fate) → server_row server side from (solicitation client cone nonce) ≡ just f → IsAskedBy side

  pub asked_by : (side : Side) → IsAskedBy side
  asked_by side = by (is_usable server.policy from) refl (is_own server from.ip) refl where
    by : (b : Bool) → is_usable server.policy from ≡ b → (own : Bool) → is_own server from.ip ≡ own → IsAskedBy side
    by false h own e = dropped fate.Source (row_is side (rule_unusable h))
    by true h true e = dropped fate.Loop (row_is side (rule_own h e))
    by true h false e = goes_back (h, e)

pub each_solicitation_is_answered : EachSolicitationIsAnswered
each_solicitation_is_answered server client side from cone nonce may =
    answered (record { server = server; client = client; from = from; cone = cone; nonce = nonce; inside = may.inside; nonce_fits = may.nonce_fits }) may.peer side
