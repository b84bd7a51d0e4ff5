-- What an eased entry weighs with an ease, and that it stays eased while trust lasts.
use Rattle.theory_storms.proofs.Words.{Bool, Ep, Fields, Full, Ip6, Item, List, Node, None, Option, Some, Span, Step, TopologyState, and_parts, ap, arith, client, cond, datagram_weight, eases_at, eases_datagram, eases_for_relay, eases_output, eases_request, entry_weight, eqb-true, false, false≢true, fields_in, first_passing, host_relay, is_at, is_eased, is_echo_reply, is_of_relay, is_trusted_for, less, message_in, nat, native, node_at, option_and_then, packet_weight, part, refl, relay, relay_trusts, send_weight, server, server_row, server_settings, side_at, six, six_weight, sum_by, true, trusted_by, udp, value_in, weight_at, weight_with, ℕ, ◌&&◌, ◌+◌, ◌==◌, ◌||◌, ◌≡◌, ◌≤◌}
use Rattle.theory_storms.proofs.Weighed.{weight_least}

-- by how much eased entries weigh less
pub record Ease : Type 0 where
  pub amount : ℕ
  pub few : amount ≤ 3

-- LESS

pub less_most : (ease : ℕ) (b : Bool) (w : ℕ) → less ease b w ≤ w
less_most ease true w = omega arith
less_most ease false w = omega arith

-- AN EASED ENTRY WEIGHS FOUR AT LEAST

request_is : (t : TopologyState) (H : List Full) (p : Fields) → eases_request t H p ≡ true → packet_weight false p ≡ 6
request_is t H p h = eqb-true (packet_weight false p) 6 (and_parts (packet_weight false p == 6) (is_trusted_for t H p.dst p.src) h).0

datagram_four : (t : TopologyState) (H : List Full) (p : Fields) (w : ℕ) → eases_datagram t H p w ≡ true → 4 ≤ w
datagram_four t H p w h = by (w == 7) refl h where
  by : (b : Bool) → (w == 7) ≡ b → (b || ((w == 8) && is_trusted_for t H p.src p.dst)) ≡ true → 4 ≤ w
  by true e g = let is = eqb-true w 7 e in omega (arith, is)
  by false e g = let is = eqb-true w 8 (and_parts (w == 8) (is_trusted_for t H p.src p.dst) g).0 in omega (arith, is)

output_four : (t : TopologyState) (H : List Full) (a : Node) (x : List ℕ) (o : Option Span) (n : ℕ) → eases_output t H x o ≡ true → 4 ≤ 1 + (n + six_weight x o)
output_four t H a x None n h = absurd (false≢true h)
output_four t H a x (Some span) n h = let is = request_is t H (fields_in (part x span)) h in omega (arith, is)

at_four : (t : TopologyState) (H : List Full) (src dst : Ep) (x : List ℕ) (o : Option Node) → eases_at t H src dst x o ≡ true → 4 ≤ weight_at t src dst x o
at_four t H src dst x None h = datagram_four t H (value_in x).packet (datagram_weight t src dst x) h
at_four t H src dst x (Some (server a)) h =
    let row : Step = server_row (server_settings a) (side_at (server a) dst) src x in
    output_four t H (server a) x row.six (sum_by (send_weight t (server a)) row.sends) h
at_four t H src dst x (Some (nat a)) h = datagram_four t H (value_in x).packet (datagram_weight t src dst x) h
at_four t H src dst x (Some (client a)) h = datagram_four t H (value_in x).packet (datagram_weight t src dst x) h
at_four t H src dst x (Some (relay a)) h = datagram_four t H (value_in x).packet (datagram_weight t src dst x) h
at_four t H src dst x (Some (native a)) h = datagram_four t H (value_in x).packet (datagram_weight t src dst x) h

for_relay_four : (p : Fields) → 4 ≤ packet_weight true p
for_relay_four p = by (is_echo_reply (message_in p)) where
  by : (b : Bool) → 4 ≤ cond (true && b) 5 12
  by true = omega arith
  by false = omega arith

pub eased_four : (t : TopologyState) (H : List Full) (x : Item) → is_eased t H x ≡ true → 4 ≤ entry_weight t x
eased_four t H (udp src dst x) h = at_four t H src dst x (option_and_then (node_at t) (first_passing (is_at dst) t)) h
eased_four t H (six None x) h = let is = request_is t H (fields_in x) h in omega (arith, is)
eased_four t H (six (Some n) x) h = for_relay_four (fields_in x)

-- THE WEIGHT

module _ (z : Ease) (t : TopologyState) (H : List Full) (x : Item) where
  pub eased_is : (b : Bool) → is_eased t H x ≡ b → weight_with z.amount t H x ≡ less z.amount b (entry_weight t x)
  unfolding weight_with
  eased_is b e = ap (λ (c : Bool). less z.amount c (entry_weight t x)) e

  pub weighs_less : is_eased t H x ≡ true → weight_with z.amount t H x + z.amount ≡ entry_weight t x
  weighs_less h =
      let is = eased_is true h in
      let four = eased_four t H x h in
      let few = z.few in
      omega (arith, is, four, few)

  pub weighs_as : is_eased t H x ≡ false → weight_with z.amount t H x ≡ entry_weight t x
  weighs_as h = eased_is false h

  pub eased_most : weight_with z.amount t H x ≤ entry_weight t x
  eased_most =
      let is = eased_is (is_eased t H x) refl in
      let most = less_most z.amount (is_eased t H x) (entry_weight t x) in
      omega (arith, is, most)

  -- the ease is all that it can weigh less
  pub eased_under : entry_weight t x ≤ weight_with z.amount t H x + z.amount
  eased_under = by (is_eased t H x) refl where
    by : (b : Bool) → is_eased t H x ≡ b → entry_weight t x ≤ weight_with z.amount t H x + z.amount
    by true e = let is = weighs_less e in omega (arith, is)
    by false e = let is = weighs_as e in omega (arith, is)

  pub eased_least : 1 ≤ weight_with z.amount t H x
  eased_least = by (is_eased t H x) refl where
    by : (b : Bool) → is_eased t H x ≡ b → 1 ≤ weight_with z.amount t H x
    by true e =
        let is = weighs_less e in
        let four = eased_four t H x e in
        let few = z.few in
        omega (arith, is, four, few)
    by false e =
        let is = weighs_as e in
        let least = weight_least t x in
        omega (arith, is, least)

-- IT STAYS EASED

-- whoever is trusted after H is after G
abbrev pub Lasts : TopologyState → List Full → List Full → Type 0
Lasts t H G = (n : ℕ) (c : Ip6) → relay_trusts t H n c ≡ true → relay_trusts t G n c ≡ true

and_with : (a b c : Bool) → (b ≡ true → c ≡ true) → (a && b) ≡ true → (a && c) ≡ true
and_with true b c f h = f h
and_with false b c f h = h

or_with : (a b c : Bool) → (b ≡ true → c ≡ true) → (a || b) ≡ true → (a || c) ≡ true
or_with true b c f h = refl
or_with false b c f h = f h

module _ (t : TopologyState) (H G : List Full) (lasts : Lasts t H G) where
  for_lasts : (c : Ip6) (o : Option ℕ) → trusted_by t H c o ≡ true → trusted_by t G c o ≡ true
  for_lasts c None h = h
  for_lasts c (Some n) h = lasts n c h

  pub known_lasts : (host c : Ip6) → is_trusted_for t H host c ≡ true → is_trusted_for t G host c ≡ true
  unfolding is_trusted_for
  known_lasts host c h = for_lasts c (host_relay t host) h

  request_lasts : (p : Fields) → eases_request t H p ≡ true → eases_request t G p ≡ true
  request_lasts p h = and_with (packet_weight false p == 6) (is_trusted_for t H p.dst p.src) (is_trusted_for t G p.dst p.src) (known_lasts p.dst p.src) h

  datagram_lasts : (p : Fields) (w : ℕ) → eases_datagram t H p w ≡ true → eases_datagram t G p w ≡ true
  datagram_lasts p w h = or_with (w == 7) ((w == 8) && is_trusted_for t H p.src p.dst) ((w == 8) && is_trusted_for t G p.src p.dst)
      (λ g. and_with (w == 8) (is_trusted_for t H p.src p.dst) (is_trusted_for t G p.src p.dst) (known_lasts p.src p.dst) g) h

  output_lasts : (x : List ℕ) (o : Option Span) → eases_output t H x o ≡ true → eases_output t G x o ≡ true
  output_lasts x None h = h
  output_lasts x (Some span) h = request_lasts (fields_in (part x span)) h

  at_lasts : (src dst : Ep) (x : List ℕ) (o : Option Node) → eases_at t H src dst x o ≡ true → eases_at t G src dst x o ≡ true
  at_lasts src dst x None h = datagram_lasts (value_in x).packet (datagram_weight t src dst x) h
  at_lasts src dst x (Some (server a)) h = output_lasts x (server_row (server_settings a) (side_at (server a) dst) src x).six h
  at_lasts src dst x (Some (nat a)) h = datagram_lasts (value_in x).packet (datagram_weight t src dst x) h
  at_lasts src dst x (Some (client a)) h = datagram_lasts (value_in x).packet (datagram_weight t src dst x) h
  at_lasts src dst x (Some (relay a)) h = datagram_lasts (value_in x).packet (datagram_weight t src dst x) h
  at_lasts src dst x (Some (native a)) h = datagram_lasts (value_in x).packet (datagram_weight t src dst x) h

  for_relay_lasts : (n : ℕ) (p : Fields) → eases_for_relay t H n p ≡ true → eases_for_relay t G n p ≡ true
  for_relay_lasts n p h = by (is_echo_reply (message_in p)) h where
    by : (b : Bool) → cond b (relay_trusts t H n p.dst) (is_of_relay t n p) ≡ true → cond b (relay_trusts t G n p.dst) (is_of_relay t n p) ≡ true
    by true g = lasts n p.dst g
    by false g = g

  pub eased_lasts : (x : Item) → is_eased t H x ≡ true → is_eased t G x ≡ true
  eased_lasts (udp src dst x) h = at_lasts src dst x (option_and_then (node_at t) (first_passing (is_at dst) t)) h
  eased_lasts (six None x) h = request_lasts (fields_in x) h
  eased_lasts (six (Some n) x) h = for_relay_lasts n (fields_in x) h

  -- so it weighs no more
  pub no_more : (z : Ease) (x : Item) → weight_with z.amount t G x ≤ weight_with z.amount t H x
  no_more z x = by (is_eased t H x) refl where
    by : (b : Bool) → is_eased t H x ≡ b → weight_with z.amount t G x ≤ weight_with z.amount t H x
    by true e =
        let before = weighs_less z t H x e in
        let after = weighs_less z t G x (eased_lasts x e) in
        omega (arith, before, after)
    by false e =
        let before = weighs_as z t H x e in
        let after = eased_most z t G x in
        omega (arith, before, after)
