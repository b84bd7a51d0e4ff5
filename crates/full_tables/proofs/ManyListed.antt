-- After both are settled the host of a hands in packets for 256 addresses: a lists them, both are settled as before, and neither
-- lists the other.
use Rattle.full_tables.proofs.Words.{ClientNode, Full, Ip6, IsIp6, IsSettled, Journal, List, NatEntry, PEERS_MAX, Qualification, [], ap, arith, asks_at, client_address, client_settings, embedded, false, has_room, is_listed, journal, length, lets_in, list_any, listed, live_after, live_port, mentions, nat_behind, nat_history, nat_lt, now, own_address, qualification, refl, same_ip, same_ip6, server_in, true, ℕ, ◌∙◌, ◌≡◌}
use Rattle.full_tables.proofs.PeerAddresses.{at_nat, first_peers, count_is, are_bytes, other_is_new}
use Rattle.full_tables.proofs.ManyPeers.{ListsThese, listed_is, not_listed, room_by_count}
use Rattle.full_tables.proofs.Filler.{Filler, IsFiller, IsFilled}
use Rattle.full_tables.proofs.Filling.{filled_to, is_filled}
use Rattle.full_tables.proofs.TwoClients.{a, b, draws, topology, lab, a_own, b_own}
use Rattle.full_tables.proofs.BothSettled.{both_settled, is_legal, is_over, computed}

-- THE PACKETS OF ITS HOST

abbrev pub fills_a : Filler
fills_a = record { draws = draws; topology = topology; n = 3; c = a; own = a_own }

pub a_made : IsIp6 a_own
a_made = (refl, are_bytes a_own.0 refl)

pub b_made : IsIp6 b_own
b_made = (refl, are_bytes b_own.0 refl)

is_filler : IsFiller fills_a
unfolding same_ip server_in
is_filler = record { there = refl; external = refl; made = a_made; elsewhere = refl }

b_is_elsewhere : same_ip at_nat (server_in b_own) ≡ false
unfolding same_ip server_in
b_is_elsewhere = refl

-- the history after them
unfoldable pub many_listed : List Full
many_listed = filled_to fills_a both_settled PEERS_MAX

pub many_are : IsFilled fills_a both_settled many_listed PEERS_MAX
unfolding many_listed
many_are = is_filled fills_a is_filler both_settled (record {
  qualified = computed.both.a_qualified;
  address = computed.both.a_address;
}) (record {
  grown = is_legal;
  over = is_over both_settled computed.ends.over;
  moment = refl;
  wire = refl;
  armed = computed.ends.armed;
  journals = λ i apart. refl;
  nats = λ i. refl;
  standing = refl;
  lists = record { touched = computed.ends.nobody; listed = tt };
}) PEERS_MAX (omega arith)

-- BOTH ARE SETTLED

-- time, its NAT and its address are as before
record IsAsBefore (H G : List Full) (n : ℕ) (c : ClientNode) : Type 0 where
  moment : now G ≡ now H
  nat : nat_history lab c.nat G ≡ nat_history lab c.nat H
  address : client_address lab G n c ≡ client_address lab H n c

-- so it is settled as before
settled_still : (H G : List Full) (n : ℕ) (c : ClientNode) (own : Ip6) → IsAsBefore H G n c → IsSettled lab H n c own → IsSettled lab G n c own
settled_still H G n c own stays settled =
    let s = nat_behind lab c in
    record {
      address = stays.address ∙ settled.address;
      kind = settled.kind;
      external = settled.external;
      port = ap (λ (h : List NatEntry). live_port s.kind c.inside (asks_at lab c) (live_after s h (now G))) stays.nat
          ∙ ap (λ (m : ℕ). live_port s.kind c.inside (asks_at lab c) (live_after s (nat_history lab c.nat H) m)) stays.moment
          ∙ settled.port;
      reached = ap (λ (h : List NatEntry). lets_in s h (now G) (asks_at lab c) (embedded own).port) stays.nat
          ∙ ap (λ (m : ℕ). lets_in s (nat_history lab c.nat H) m (asks_at lab c) (embedded own).port) stays.moment
          ∙ settled.reached;
      cone = settled.cone;
    }

module _ (H : List Full) (filled : IsFilled fills_a both_settled H PEERS_MAX) where
  -- b did nothing
  pub b_did_nothing : journal 4 H ≡ journal 4 both_settled
  b_did_nothing = filled.journals 4 (λ same. omega (arith, same))

  pub a_is_settled : IsSettled lab H 3 a a_own
  a_is_settled = settled_still both_settled H 3 a a_own (record {
    moment = filled.moment;
    nat = filled.nats 1;
    address = ap (λ (q : Qualification). q.address) filled.standing;
  }) computed.both.a_settled

  pub b_is_settled : IsSettled lab H 4 b b_own
  b_is_settled = settled_still both_settled H 4 b b_own (record {
    moment = filled.moment;
    nat = filled.nats 2;
    address = ap (λ (j : Journal). (qualification (client_settings topology b) j).address) b_did_nothing;
  }) computed.both.b_settled

  -- their own addresses
  pub a_is_here : own_address (qualification (client_settings topology a) (journal 3 H)) ≡ a_own
  a_is_here = ap own_address filled.standing ∙ computed.both.a_address

  pub b_is_here : own_address (qualification (client_settings topology b) (journal 4 H)) ≡ b_own
  b_is_here = ap (λ (j : Journal). own_address (qualification (client_settings topology b) j)) b_did_nothing ∙ computed.both.b_address

  -- WHO IS LISTED

  b_isnt_among : list_any (same_ip6 b_own) (first_peers PEERS_MAX) ≡ false
  b_isnt_among = other_is_new b_own b_is_elsewhere PEERS_MAX (omega arith)

  b_lists_nobody : ListsThese (mentions (journal 4 both_settled).entries) (now both_settled) []
  b_lists_nobody = record { touched = computed.ends.nobody_too; listed = tt }

  -- a lists 256
  pub a_lists_many : length (listed (mentions (journal 3 H).entries) (now H)) ≡ 256
  a_lists_many =
      ap (λ (m : ℕ). length (listed (mentions (journal 3 H).entries) m)) filled.moment
      ∙ ap (λ (ps : List Ip6). length ps) (listed_is (mentions (journal 3 H).entries) (now both_settled) (first_peers PEERS_MAX) filled.lists)
      ∙ count_is PEERS_MAX

  -- b not
  pub b_is_unlisted : is_listed b_own (now H) (mentions (journal 3 H).entries) ≡ false
  b_is_unlisted =
      ap (λ (m : ℕ). is_listed b_own m (mentions (journal 3 H).entries)) filled.moment
      ∙ not_listed (mentions (journal 3 H).entries) (now both_settled) (first_peers PEERS_MAX) filled.lists b_own b_isnt_among

  -- and has no room for it
  pub a_has_no_room : has_room (mentions (journal 3 H).entries) (now H) b_own ≡ false
  a_has_no_room =
      ap (λ (m : ℕ). has_room (mentions (journal 3 H).entries) m b_own) filled.moment
      ∙ room_by_count (mentions (journal 3 H).entries) (now both_settled) (first_peers PEERS_MAX) filled.lists b_own b_isnt_among
      ∙ ap (λ (m : ℕ). nat_lt m PEERS_MAX) (count_is PEERS_MAX)

  -- b lists nobody
  pub a_is_unlisted : is_listed a_own (now H) (mentions (journal 4 H).entries) ≡ false
  a_is_unlisted =
      ap (λ (j : Journal). is_listed a_own (now H) (mentions j.entries)) b_did_nothing
      ∙ ap (λ (m : ℕ). is_listed a_own m (mentions (journal 4 both_settled).entries)) filled.moment
      ∙ not_listed (mentions (journal 4 both_settled).entries) (now both_settled) [] b_lists_nobody a_own refl

  pub b_has_room : has_room (mentions (journal 4 H).entries) (now H) a_own ≡ true
  b_has_room =
      ap (λ (j : Journal). has_room (mentions j.entries) (now H) a_own) b_did_nothing
      ∙ ap (λ (m : ℕ). has_room (mentions (journal 4 both_settled).entries) m a_own) filled.moment
      ∙ room_by_count (mentions (journal 4 both_settled).entries) (now both_settled) [] b_lists_nobody a_own refl
