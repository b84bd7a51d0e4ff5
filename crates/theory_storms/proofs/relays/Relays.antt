-- What a relay sends weighs, and what waits in it.
use Rattle.theory_storms.proofs.Words.{AllByRecursion, Bool, Entry, Ep, List, Send, TopologyState, [], arith, cond, embedded, entry_weight, false, fields_in, is_echo_reply, is_packet, is_teredo, message_in, packet_is_payload, read_as, refl, relay_mention, relay_mentions, relay_packet, releases, send, sum_by, sum_by-cons, true, udp, ℕ, ◌∷◌, ◌≡◌, ◌≤◌}
use Rattle.theory_storms.proofs.Sent.{reply_sent, packet_sent}
use Rattle.theory_storms.proofs.NewItems.{MayWeigh}

-- a packet from outside Teredo to the endpoint that its Teredo destination embeds
pub record IsForClient (to : Ep) (x : List ℕ) : Type 0 where
  pub well_formed : is_packet x ≡ true
  pub native : is_teredo (fields_in x).src ≡ false
  pub teredo : is_teredo (fields_in x).dst ≡ true
  pub where_to : to ≡ embedded (fields_in x).dst

-- weighs as much as while it waited, at most
pub packet_weighs : (t : TopologyState) (to : Ep) (x : List ℕ) → IsForClient to x
    → MayWeigh (entry_weight t) (λ (s : Send). relay_packet s.bytes) (send to x)
packet_weighs t to x h src made = by (is_echo_reply (message_in (fields_in x))) refl where
  by : (b : Bool) → is_echo_reply (message_in (fields_in x)) ≡ b → entry_weight t (udp src to x) ≤ cond b 1 8
  by true e = reply_sent (record {
    t = t;
    src = src;
    to = to;
    p = fields_in x;
    reads = packet_is_payload x (fields_in x) made.bytes made.short (read_as x h.well_formed);
    bytes = made.bytes;
    made = made.source;
  }) h.native h.teredo h.where_to e
  by false e = packet_sent (record {
    t = t;
    src = src;
    to = to;
    p = fields_in x;
    reads = packet_is_payload x (fields_in x) made.bytes made.short (read_as x h.well_formed);
    bytes = made.bytes;
    made = made.source;
  }) h.teredo h.where_to

-- ONE MORE ENTRY OF ITS JOURNAL

pub one_more : (e : Entry) (j : List Entry) → relay_mentions (e ∷ j) ≡ relay_mention e ∷ relay_mentions j
unfolding relay_mentions
one_more e j = refl

-- SOME, TO ONE ENDPOINT

pub released_weigh : (w : List ℕ → ℕ) (to : Ep) (xs : List (List ℕ)) → sum_by (λ (s : Send). w s.bytes) (releases to xs) ≡ sum_by w xs
released_weigh w to [] = refl
released_weigh w to (x ∷ xs) =
    let rest = released_weigh w to xs in
    let new = sum_by-cons (λ (s : Send). w s.bytes) (send to x) (releases to xs) in
    let old = sum_by-cons w x xs in
    omega (arith, rest, new, old)

pub released_each : (P : Send → Type 0) (Q : List ℕ → Type 0) (to : Ep) (xs : List (List ℕ)) → ((x : List ℕ) → Q x → P (send to x)) → AllByRecursion Q xs
    → AllByRecursion P (releases to xs)
released_each P Q to [] f all = tt
released_each P Q to (x ∷ xs) f all = (f x all.0, released_each P Q to xs f all.1)
