-- No packet from outside Teredo comes from a server to a client that isn't its own.
use Rattle.theory_origins.proofs.Words.{AllByRecursion, Bool, Ep, Fields, Ip6, IsBytes, IsEp, IsIp4, IsOutgoing, IsOwnAddress, Journal, List, None, Ok, Option, Primary, Send, ServerSettings, Settings, Side, Some, Told, Value, address_is_own, advert_reads_back, adverts, and_parts, ap, false, false≢true, forwarded_reads_back, from_link, goes_to_other, goes_to_own, is_for_client, is_link_local, is_not_ours, is_teredo, nonce_of, not, not_link, of_read, own_address, payload_at, payload_is_spelled, qualification, refl, same_ip, same_ip-true, server_in, server_in-teredo_ip, server_row, sym, told, true, unspecified, unwrap_or, value_in, ℕ, ◌&&◌, ◌∙◌, ◌≡◌}

-- WHOSE PACKETS A SERVER SENDS

-- a link's, another client's, or for a client of this server, from its primary address
pub data IsServersOwn (s : ServerSettings) (z : Send) : Type 0 where
  to_link : is_link_local (value_in z.bytes).packet.dst ≡ true → IsServersOwn s z
  from_teredo : is_teredo (value_in z.bytes).packet.src ≡ true → IsServersOwn s z
  to_own : z.side ≡ Primary → is_teredo (value_in z.bytes).packet.dst ≡ true → server_in (value_in z.bytes).packet.dst ≡ s.primary → IsServersOwn s z

-- for a client of its own
record IsFor (s : ServerSettings) (p : Fields) : Type 0 where
  teredo : is_teredo p.dst ≡ true
  server : server_in p.dst ≡ s.primary

for_client : (s : ServerSettings) (p : Fields) → is_for_client s p ≡ true → IsFor s p
unfolding is_for_client
for_client s p is =
    let both = and_parts (is_teredo p.dst) (same_ip (server_in p.dst) s.primary) is in
    record { teredo = both.0; server = same_ip-true (server_in p.dst) s.primary both.1 }

-- from a client
for_others : (s : ServerSettings) (p : Fields) → is_not_ours s p ≡ false → is_for_client s p ≡ false → is_teredo p.src ≡ true
unfolding is_not_ours
for_others s p ours other = by (is_teredo p.src) (is_for_client s p) ours other where
  by : (b c : Bool) → (not b && not c) ≡ false → c ≡ false → b ≡ true
  by true c g h = refl
  by false true g h = absurd (false≢true (sym h))
  by false false g h = absurd (false≢true (sym g))

of_send : {s : ServerSettings} {side : Side} {from : Ep} {x : List ℕ} {v : Value} {z : Send} → IsIp4 s.primary → IsEp from → IsBytes x
    → payload_at x ≡ Ok v → Told v → IsOutgoing s side from x v z → IsServersOwn s z
of_send {s} {from} {v} {z} primary origin fits e t (adverts answered is) =
    let reads = advert_reads_back s from (nonce_of v.lead) v.packet.src (record { primary = primary; origin = origin; nonce_fits = t.nonce; address = t.source }) in
    let dst : (value_in z.bytes).packet.dst ≡ v.packet.src = ap (λ (w : Send). (value_in w.bytes).packet.dst) is
    ∙ ap (λ (w : Value). w.packet.dst) reads.payload.value in
    to_link (ap is_link_local dst ∙ from_link v.packet answered.solicitation)
of_send {s} {from} {x} {v} {z} primary origin fits e t (goes_to_own on is) =
    let reads = forwarded_reads_back x v (Some from) fits e on.on.sound.short origin in
    let same : (value_in z.bytes).packet ≡ v.packet = ap (λ (w : Send). (value_in w.bytes).packet) is ∙ ap (λ (w : Value). w.packet) reads.value in
    let own = for_client s v.packet on.for_client in
    to_own (ap (λ (w : Send). w.side) is) (ap (λ (p : Fields). is_teredo p.dst) same ∙ own.teredo) (ap (λ (p : Fields). server_in p.dst) same ∙ own.server)
of_send {s} {x} {v} {z} primary origin fits e t (goes_to_other on is) =
    let reads = forwarded_reads_back x v None fits e on.on.sound.short tt in
    let same : (value_in z.bytes).packet ≡ v.packet = ap (λ (w : Send). (value_in w.bytes).packet) is ∙ ap (λ (w : Value). w.packet) reads.value in
    from_teredo (ap (λ (p : Fields). is_teredo p.src) same ∙ for_others s v.packet on.on.ours on.for_others)

pub each_is_servers_own : (s : ServerSettings) (side : Side) (from : Ep) (x : List ℕ) → IsIp4 s.primary → IsEp from → IsBytes x
    → AllByRecursion (IsServersOwn s) (server_row s side from x).sends
unfolding server_row
each_is_servers_own s side from x primary origin fits =
    of_read (IsServersOwn s) s side from x (λ v e z is. of_send primary origin fits e (told x v fits e) is)
    (payload_at x) refl

-- A CLIENT'S OWN ADDRESS

none_is_teredo : is_teredo unspecified ≡ false
unfolding is_teredo
none_is_teredo = refl

none_is_link : is_link_local unspecified ≡ false
unfolding is_link_local
none_is_link = refl

-- where there is none it is no Teredo address
pub record IsOwnOf (s : Settings) (own : Ip6) : Type 0 where
  pub no_link : is_link_local own ≡ false
  pub server : is_teredo own ≡ true → server_in own ≡ s.primary

pub own_is : (s : Settings) (j : Journal) → IsIp4 s.primary → IsOwnOf s (own_address (qualification s j))
unfolding own_address
own_is s j primary = by (qualification s j).address refl where
  by : (o : Option Ip6) → (qualification s j).address ≡ o → IsOwnOf s (unwrap_or o unspecified)
  by None e = record { no_link = none_is_link; server = λ teredo. absurd (false≢true (sym none_is_teredo ∙ teredo)) }
  by (Some own) e =
      let is : IsOwnAddress s j.entries own = address_is_own s j own e in
      record {
        no_link = ap is_link_local is.made ∙ not_link s.primary _ is.origin;
        server = λ teredo. ap server_in is.made ∙ server_in-teredo_ip s.primary _ is.origin primary;
      }
