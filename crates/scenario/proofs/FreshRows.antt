-- What a table describes is fresh: its name and its addresses are no other node's, and its numbers keep their rules.
use Rattle.scenario.proofs.Words.{Bool, ClientNode, Data, Decides-eqb, Ep, IDLE_MAX_MS, Ip4, Ip6, IsClient, IsEp, IsIp4, IsRefreshRange, List, Members, Name, NatNode, NativeNode, Node, None, Ok, Option, Place, REFRESH_HIGH_MS, REFRESH_LOW_MS, REFRESH_MAX_MS, REFRESH_MIN_MS, RefreshRange, RelayNode, ServerNode, Some, Strict, TopologyState, [], addresses_of, and_parts, ap, arith, as_array, as_nat, as_relay, as_server, bind_ok, bind_some, client, client_of_table, codes, cone_try_in, ep_of, false, get_member, get_or, idle_of, ip4_of, ip6_of, is_free_address, is_free_inside, is_free_name, is_free_six, is_global, is_global6, is_name, is_named, is_nat, is_new_address, is_new_six, is_refresh, is_relay, is_server, is_some, is_teredo, kind_of, leb-true, list_any, name, name_at, name_text, named, names_of, nat, nat_le, nat_of_table, native, native_of_table, natural, new_address, new_endpoint, new_inside, new_name, new_six, nodes, not, not-true, option_and_then, other_address, position, position-Some, random_in, refl, refresh_in, refresh_of, relay, relay_of_table, ruled, same_ep, same_ip, same_ip6, same_name, server, server_of_table, sixes_of, slice_get, slice_get-get_or, spelled_name, subst, sym, texts_are_made, true, true≢false, two_integers, typed, where_holds, whole_number_at, word_at, ℕ, ℤ, ◌&&◌, ◌==◌, ◌∙◌, ◌∷◌, ◌≡◌, ◌≢◌, ◌≤◌}
use Rattle.scenario.proofs.Names.{is_name-short, name-text}
use Rattle.scenario.proofs.Steps.{ok_same, given, held, word_kept, name_kept, number_kept}
use Rattle.scenario.proofs.Grown.{IsFreeName, IsFreeIp, IsFreeSix, IsFreshServer, IsFreshNat, IsFreshClient, IsFreshRelay, IsFreshNative}

no_zero : (n : ℕ) → not (n == 0) ≡ true → n ≢ 0
no_zero n e = λ zero. let same : (n == 0) ≡ true = (Decides-eqb n 0).1 zero in true≢false (sym same ∙ not-true (n == 0) e)

-- ---- one value

free_name : (t : TopologyState) (text : List ℕ) (a : Name) → new_name t text ≡ Some a → IsFreeName t a
unfolding new_name spelled_name is_free_name
free_name t text a e =
    let made = bind_some (spelled_name text) (λ b. where_holds (is_free_name t b) b) a e in
    let kept = held (is_free_name t made.0) made.0 a made.2 in
    let spelled = held (is_name text) (name text) made.0 made.1 in
    let text_is : name_text made.0 ≡ text = ap name_text (sym spelled.1) ∙ name-text text (is_name-short text spelled.0) in
    subst (IsFreeName t) kept.1 (record { free = not-true (list_any (same_name made.0) (names_of t)) kept.0; spelled = ap is_name text_is ∙ spelled.0 })

free_ip : (t : TopologyState) (ip : Ip4) → is_new_address t ip ≡ true → IsIp4 ip → IsFreeIp t ip
unfolding is_free_address
free_ip t ip e made =
    let both = and_parts (is_global Strict ip) (is_free_address t ip) e in
    record { free = not-true (list_any (same_ip ip) (addresses_of t)) both.1; global = both.0; made = made }

free_address : (t : TopologyState) (text : List ℕ) (ip : Ip4) → new_address t text ≡ Some ip → IsFreeIp t ip
unfolding new_address
free_address t text ip e =
    let made = bind_some (ip4_of text) (λ x. where_holds (is_new_address t x) x) ip e in
    let kept = held (is_new_address t made.0) made.0 ip made.2 in
    subst (IsFreeIp t) kept.1 (free_ip t made.0 kept.0 (texts_are_made.ip4 text made.0 made.1))

free_other : (t : TopologyState) (first : Ip4) (text : List ℕ) (ip : Ip4) → other_address t first text ≡ Some ip → IsFreeIp t ip × (same_ip first ip ≡ false)
unfolding other_address
free_other t first text ip e =
    let made = bind_some (new_address t text) (λ x. where_holds (not (same_ip first x)) x) ip e in
    let kept = held (not (same_ip first made.0)) made.0 ip made.2 in
    let P : Ip4 → Type 0 = λ x. IsFreeIp t x × (same_ip first x ≡ false) in
    subst P kept.1 (free_address t text made.0 made.1, not-true (same_ip first made.0) kept.0)

free_endpoint : (t : TopologyState) (text : List ℕ) (at : Ep) → new_endpoint t text ≡ Some at → IsFreeIp t at.ip × (at.port ≢ 0) × IsEp at
unfolding new_endpoint
free_endpoint t text at e =
    let made = bind_some (ep_of text) (λ x. where_holds (not (x.port == 0) && is_new_address t x.ip) x) at e in
    let kept = held (not (made.0.port == 0) && is_new_address t made.0.ip) made.0 at made.2 in
    let both = and_parts (not (made.0.port == 0)) (is_new_address t made.0.ip) kept.0 in
    let is = texts_are_made.ep text made.0 made.1 in
    let P : Ep → Type 0 = λ x. IsFreeIp t x.ip × (x.port ≢ 0) × IsEp x in
    subst P kept.1 (free_ip t made.0.ip both.1 is.0, no_zero made.0.port both.0, is)

free_six : (t : TopologyState) (text : List ℕ) (ip : Ip6) → new_six t text ≡ Some ip → IsFreeSix t ip
unfolding new_six is_free_six
free_six t text ip e =
    let made = bind_some (ip6_of text) (λ x. where_holds (is_new_six t x) x) ip e in
    let kept = held (is_new_six t made.0) made.0 ip made.2 in
    let both = and_parts (is_global6 made.0 && not (is_teredo made.0)) (is_free_six t made.0) kept.0 in
    let outside = and_parts (is_global6 made.0) (not (is_teredo made.0)) both.0 in
    subst (IsFreeSix t) kept.1 (record {
      free = not-true (list_any (same_ip6 made.0) (sixes_of t)) both.1;
      outside = record { global = outside.0; other = not-true (is_teredo made.0) outside.1 };
      made = texts_are_made.ip6 text made.0 made.1;
    })

free_inside : (t : TopologyState) (n : ℕ) (text : List ℕ) (inside : Ep) → new_inside t n text ≡ Some inside
    → (inside.port ≢ 0) × (list_any (λ (c : ClientNode). (n == c.nat) && same_ep inside c.inside) t.clients ≡ false) × IsEp inside
unfolding new_inside is_free_inside
free_inside t n text inside e =
    let made = bind_some (ep_of text) (λ x. where_holds (not (x.port == 0) && is_free_inside t n x) x) inside e in
    let kept = held (not (made.0.port == 0) && is_free_inside t n made.0) made.0 inside made.2 in
    let both = and_parts (not (made.0.port == 0)) (is_free_inside t n made.0) kept.0 in
    let P : Ep → Type 0 = λ x. (x.port ≢ 0) × (list_any (λ (c : ClientNode). (n == c.nat) && same_ep x c.inside) t.clients ≡ false) × IsEp x in
    subst P kept.1 (no_zero made.0.port both.0, not-true (list_any (λ (c : ClientNode). (n == c.nat) && same_ep made.0 c.inside) t.clients) both.1, (texts_are_made.ep text made.0 made.1))

idle_within : (number : ℤ) (idle : ℕ) → idle_of number ≡ Some idle → (1 ≤ idle) × (idle ≤ IDLE_MAX_MS)
unfolding idle_of
idle_within number idle e =
    let ms = bind_some (natural number) (λ n. where_holds (nat_le 1 n && nat_le n IDLE_MAX_MS) n) idle e in
    let kept = held (nat_le 1 ms.0 && nat_le ms.0 IDLE_MAX_MS) ms.0 idle ms.2 in
    let both = and_parts (nat_le 1 ms.0) (nat_le ms.0 IDLE_MAX_MS) kept.0 in
    let P : ℕ → Type 0 = λ n. (1 ≤ n) × (n ≤ IDLE_MAX_MS) in
    subst P kept.1 (leb-true _ _ both.0, leb-true _ _ both.1)

abbrev range_of : (low high : ℕ) → RefreshRange
range_of low high = record { low_ms = low; high_ms = high }

refresh_within : (numbers : ℤ × ℤ) (times : RefreshRange) → refresh_of numbers ≡ Some times → IsRefreshRange times
unfolding refresh_of
refresh_within numbers times e =
    let low = bind_some (natural numbers.0) _ times e in
    let high = bind_some (natural numbers.1) (λ h. where_holds (is_refresh low.0 h) (range_of low.0 h)) times low.2 in
    let kept = held (is_refresh low.0 high.0) (range_of low.0 high.0) times high.2 in
    let most = and_parts (nat_le REFRESH_MIN_MS low.0 && nat_le low.0 high.0) (nat_le high.0 REFRESH_MAX_MS) kept.0 in
    let least = and_parts (nat_le REFRESH_MIN_MS low.0) (nat_le low.0 high.0) most.0 in
    subst IsRefreshRange kept.1 (record { least = leb-true _ _ least.0; order = leb-true _ _ least.1; most = leb-true _ _ most.1 })

refresh_is : (place : Place) (value : Option Data) (times : RefreshRange) → refresh_in place value ≡ Ok times → IsRefreshRange times
refresh_is place None times e =
    let default : IsRefreshRange (range_of REFRESH_LOW_MS REFRESH_HIGH_MS) = record { least = omega arith; order = omega arith; most = omega arith } in
    subst IsRefreshRange (ok_same _ _ e) default
refresh_is place (Some value) times e =
    let numbers = bind_ok (typed place (codes "refresh") (option_and_then two_integers (as_array value))) (λ ns. ruled place (codes "refresh") (refresh_of ns)) times e in
    refresh_within numbers.0 times (given (refresh_of numbers.0) _ times numbers.2)

-- ---- whom a name names

as_nat-is : (n : Node) → is_nat (Some n) ≡ true → is_some (as_nat n) ≡ true
as_nat-is (server a) h = absurd cc
as_nat-is (nat a) h = refl
as_nat-is (client c) h = absurd cc
as_nat-is (relay r) h = absurd cc
as_nat-is (native n) h = absurd cc

as_server-is : (n : Node) → is_server (Some n) ≡ true → is_some (as_server n) ≡ true
as_server-is (server a) h = refl
as_server-is (nat a) h = absurd cc
as_server-is (client c) h = absurd cc
as_server-is (relay r) h = absurd cc
as_server-is (native n) h = absurd cc

as_relay-is : (n : Node) → is_relay (Some n) ≡ true → is_some (as_relay n) ≡ true
as_relay-is (server a) h = absurd cc
as_relay-is (nat a) h = absurd cc
as_relay-is (client c) h = absurd cc
as_relay-is (relay r) h = refl
as_relay-is (native n) h = absurd cc

abbrev Names : (Option Node → Bool) → List ℕ → Node → Bool
Names kind text node = kind (Some node) && is_named text node

numbered : {A : Type 0} (kind : Option Node → Bool) (seen : Node → Option A) → ((n : Node) → kind (Some n) ≡ true → is_some (seen n) ≡ true)
    → (text : List ℕ) (xs : List Node) (i : ℕ) → position (Names kind text) xs ≡ Some i → is_some (option_and_then seen (slice_get xs i)) ≡ true
numbered kind seen is text [] i e = absurd cc
numbered kind seen is text (x ∷ xs) i e =
    let at = position-Some (Names kind text) (x ∷ xs) i x e in
    let node = get_or (x ∷ xs) i x in
    let both = and_parts (kind (Some node)) (is_named text node) at.1 in
    rw (slice_get-get_or (x ∷ xs) i x at.0) (is node both.0)

nat_named-is : (t : TopologyState) (text : List ℕ) (n : ℕ) → named is_nat t text ≡ Some n → is_some (option_and_then as_nat (slice_get (nodes t) n)) ≡ true
unfolding named
nat_named-is t text n e = numbered is_nat as_nat as_nat-is text (nodes t) n e

server_named-is : (t : TopologyState) (text : List ℕ) (n : ℕ) → named is_server t text ≡ Some n → is_some (option_and_then as_server (slice_get (nodes t) n)) ≡ true
unfolding named
server_named-is t text n e = numbered is_server as_server as_server-is text (nodes t) n e

relay_named-is : (t : TopologyState) (text : List ℕ) (n : ℕ) → named is_relay t text ≡ Some n → is_some (option_and_then as_relay (slice_get (nodes t) n)) ≡ true
unfolding named
relay_named-is t text n e = numbered is_relay as_relay as_relay-is text (nodes t) n e

-- ---- a node

pub server_of_table-fresh : (t : TopologyState) (place : Place) (table : Members) (row : ServerNode) → server_of_table t place table ≡ Ok row → IsFreshServer t row
unfolding server_of_table
server_of_table-fresh t place table row e =
    let name = bind_ok (name_at place (codes "name") (new_name t) table) _ row e in
    let primary = bind_ok (word_at place (codes "primary") (new_address t) table) _ row name.2 in
    let secondary = bind_ok (word_at place (codes "secondary") (other_address t primary.0) table) _ row primary.2 in
    let named = name_kept place (codes "name") (new_name t) table name.0 name.1 in
    let first = word_kept place (codes "primary") (new_address t) table primary.0 primary.1 in
    let second = word_kept place (codes "secondary") (other_address t primary.0) table secondary.0 secondary.1 in
    let other = free_other t primary.0 second.0 secondary.0 second.1 in
    let fresh : IsFreshServer t (record { name = name.0; primary = primary.0; secondary = secondary.0 }) =
    record { name = free_name t named.0 name.0 named.1; primary = free_address t first.0 primary.0 first.1; secondary = other.0; two = other.1 } in
    subst (IsFreshServer t) (ok_same _ _ secondary.2) fresh

pub nat_of_table-fresh : (t : TopologyState) (place : Place) (table : Members) (row : NatNode) → nat_of_table t place table ≡ Ok row → IsFreshNat t row
unfolding nat_of_table
nat_of_table-fresh t place table row e =
    let name = bind_ok (name_at place (codes "name") (new_name t) table) _ row e in
    let kind = bind_ok (word_at place (codes "kind") kind_of table) _ row name.2 in
    let external = bind_ok (word_at place (codes "external") (new_address t) table) _ row kind.2 in
    let idle = bind_ok (whole_number_at place (codes "idle") idle_of table) _ row external.2 in
    let named = name_kept place (codes "name") (new_name t) table name.0 name.1 in
    let outside = word_kept place (codes "external") (new_address t) table external.0 external.1 in
    let number = number_kept place (codes "idle") idle_of table idle.0 idle.1 in
    let within = idle_within number.0 idle.0 number.1 in
    let fresh : IsFreshNat t (record { name = name.0; kind = kind.0; external = external.0; idle = idle.0 }) =
    record {
      name = free_name t named.0 name.0 named.1;
      external = free_address t outside.0 external.0 outside.1;
      idle = record { least = within.0; most = within.1 };
    } in
    subst (IsFreshNat t) (ok_same _ _ idle.2) fresh

pub client_of_table-fresh : (t : TopologyState) (place : Place) (table : Members) (row : ClientNode) → client_of_table t place table ≡ Ok row → IsFreshClient t row
unfolding client_of_table
client_of_table-fresh t place table row e =
    let name = bind_ok (name_at place (codes "name") (new_name t) table) _ row e in
    let behind = bind_ok (name_at place (codes "nat") (named is_nat t) table) _ row name.2 in
    let inside = bind_ok (word_at place (codes "inside") (new_inside t behind.0) table) _ row behind.2 in
    let asks = bind_ok (name_at place (codes "server") (named is_server t) table) _ row inside.2 in
    let times = bind_ok (refresh_in place (get_member (codes "refresh") table)) _ row asks.2 in
    let random = bind_ok (random_in place (get_member (codes "flags") table)) _ row times.2 in
    let cone_try = bind_ok (cone_try_in place (get_member (codes "cone_try") table)) _ row random.2 in
    let spelled = name_kept place (codes "name") (new_name t) table name.0 name.1 in
    let of_nat = name_kept place (codes "nat") (named is_nat t) table behind.0 behind.1 in
    let of_server = name_kept place (codes "server") (named is_server t) table asks.0 asks.1 in
    let endpoint = word_kept place (codes "inside") (new_inside t behind.0) table inside.0 inside.1 in
    let free = free_inside t behind.0 endpoint.0 inside.0 endpoint.1 in
    let made : ClientNode = record { name = name.0; nat = behind.0; inside = inside.0; server = asks.0; refresh = times.0; random = random.0; cone_try = cone_try.0 } in
    let client : IsClient t made = record {
      behind = nat_named-is t of_nat.0 behind.0 of_nat.1;
      asks = server_named-is t of_server.0 asks.0 of_server.1;
      port = free.0;
      refresh = refresh_is place (get_member (codes "refresh") table) times.0 times.1;
    } in
    let fresh : IsFreshClient t made = record { name = free_name t spelled.0 name.0 spelled.1; client = client; inside = free.1; made = free.2 } in
    subst (IsFreshClient t) (ok_same _ _ cone_try.2) fresh

pub relay_of_table-fresh : (t : TopologyState) (place : Place) (table : Members) (row : RelayNode) → relay_of_table t place table ≡ Ok row → IsFreshRelay t row
unfolding relay_of_table
relay_of_table-fresh t place table row e =
    let name = bind_ok (name_at place (codes "name") (new_name t) table) _ row e in
    let at = bind_ok (word_at place (codes "at") (new_endpoint t) table) _ row name.2 in
    let six = bind_ok (word_at place (codes "six") (new_six t) table) _ row at.2 in
    let spelled = name_kept place (codes "name") (new_name t) table name.0 name.1 in
    let endpoint = word_kept place (codes "at") (new_endpoint t) table at.0 at.1 in
    let address = word_kept place (codes "six") (new_six t) table six.0 six.1 in
    let free = free_endpoint t endpoint.0 at.0 endpoint.1 in
    let fresh : IsFreshRelay t (record { name = name.0; at = at.0; six = six.0 }) = record { name = free_name t spelled.0 name.0 spelled.1; at = free.0; port = free.1; made = free.2; six = free_six t address.0 six.0 address.1 } in
    subst (IsFreshRelay t) (ok_same _ _ six.2) fresh

pub native_of_table-fresh : (t : TopologyState) (place : Place) (table : Members) (row : NativeNode) → native_of_table t place table ≡ Ok row → IsFreshNative t row
unfolding native_of_table
native_of_table-fresh t place table row e =
    let name = bind_ok (name_at place (codes "name") (new_name t) table) _ row e in
    let six = bind_ok (word_at place (codes "six") (new_six t) table) _ row name.2 in
    let through = bind_ok (name_at place (codes "relay") (named is_relay t) table) _ row six.2 in
    let spelled = name_kept place (codes "name") (new_name t) table name.0 name.1 in
    let address = word_kept place (codes "six") (new_six t) table six.0 six.1 in
    let of_relay = name_kept place (codes "relay") (named is_relay t) table through.0 through.1 in
    let fresh : IsFreshNative t (record { name = name.0; six = six.0; relay = through.0 }) =
    record {
      name = free_name t spelled.0 name.0 spelled.1;
      six = free_six t address.0 six.0 address.1;
      through = relay_named-is t of_relay.0 through.0 of_relay.1;
    } in
    subst (IsFreshNative t) (ok_same _ _ through.2) fresh
