-- What a client does with a packet of its host for one of these addresses, which is new to it and has room: the packet waits,
-- and bubbles are to go where the address says.
use Rattle.full_tables.proofs.Words.{Bool, Entry, Fields, Given, GoesLater, Ip6, IsIp6, Journal, List, Policy, ReadsPacket, Send, Settings, Some, Standing, Step, Strict, Words, [], and_right, ap, arith, both_bubbles, client_out, cond, data_packet, entry, entry_given, false, given, given_here, given_of, has_cone, has_room, is_barred, is_big, is_bubble, is_fresh, is_full, is_qualified, is_reachable, is_spent, is_teredo, known, mentions, no_peer, not, not_full, not_spent, own_address, packet_bytes, packet_reads_back, qualification, queues, refl, same_ip, same_ip6, same_ip6-self, sending, server_in, standing_at, subst, sym, transmission_row, transmission_step, tries_by, true, try_sends, try_words, untried, waits_for_it, ℕ, ◌&&◌, ◌<◌, ◌∙◌, ◌≡◌}
use Rattle.teredo_node.specs.declared.fate.Fate.TheVariants as fate
use Rattle.full_tables.proofs.PeerAddresses.{at_nat, peer, tells_it, plain, reachable, not_own}

-- a client that is set up so, with this journal and this address, at a moment; and the number of an address
pub record Host : Type 0 where
  pub s : Settings
  pub j : Journal
  pub n : ℕ
  pub own : Ip6
  pub k : ℕ

-- it is qualified, and its own address names another server; the address of this number is new, and has room
pub record MayList (z : Host) : Type 0 where
  pub strict : z.s.policy ≡ Strict
  pub qualified : is_qualified (qualification z.s z.j).phase ≡ true
  pub address : own_address (qualification z.s z.j) ≡ z.own
  pub made : IsIp6 z.own
  pub elsewhere : same_ip at_nat (server_in z.own) ≡ false
  pub few : z.k < 1000
  pub unknown : known (mentions z.j.entries) z.n (peer z.k) ≡ no_peer
  pub room : has_room (mentions z.j.entries) z.n (peer z.k) ≡ true

-- the packet, of no bytes but a header's
abbrev pub packet_of : Ip6 → ℕ → Fields
packet_of own k = data_packet own (peer k) []

abbrev pub packet : Ip6 → ℕ → List ℕ
packet own k = packet_bytes (packet_of own k)

-- what the client does
abbrev pub step_of : Ip6 → ℕ → Step
step_of own k = sending fate.Queued (both_bubbles (has_cone own) own (peer k))

abbrev pub entry_of_packet : ℕ → Ip6 → ℕ → Words → Entry
entry_of_packet n own k w = entry n (given (packet own k)) (Some (packet own k)) (Some (peer k)) w (step_of own k)

module _ (z : Host) (may : MayList z) where
  abbrev s : Settings
  s = z.s

  abbrev j : Journal
  j = z.j

  abbrev n : ℕ
  n = z.n

  abbrev own : Ip6
  own = z.own

  abbrev k : ℕ
  k = z.k

  is_one : ReadsPacket (packet_of own k) (packet own k)
  is_one = packet_reads_back (packet_of own k) (record {
    class = omega arith;
    flow = omega arith;
    next = omega arith;
    hop = omega arith;
    src = may.made;
    dst = (tells_it k may.few).sixteen;
    body = omega arith;
  })

  abbrev to_it : Standing
  to_it = standing_at s j n (peer k)

  abbrev seen : Given
  seen = given_of s to_it true (packet_of own k)

  small : is_big (packet_of own k) ≡ false
  unfolding is_big
  small = refl

  no_bubble : is_bubble (packet_of own k) ≡ false
  unfolding is_bubble
  no_bubble = refl

  stale : is_fresh n no_peer ≡ false
  unfolding is_fresh
  stale = refl

  unbarred : is_barred n no_peer ≡ false
  unbarred = untried n no_peer refl

  can_be_reached : (is_teredo (peer k) && not (is_reachable s.policy (peer k))) ≡ false
  can_be_reached = and_right (is_teredo (peer k)) (not (is_reachable s.policy (peer k)))
      (ap not (ap (λ (z : Policy). is_reachable z (peer k)) may.strict ∙ reachable k may.few))

  to_another : same_ip6 (peer k) (own_address (qualification s j)) ≡ false
  to_another = ap (same_ip6 (peer k)) may.address ∙ not_own k may.few own may.elsewhere

  -- what the lines see of it
  goes_later : GoesLater seen
  unfolding standing_at
  goes_later = record {
    out = record {
      qualified = may.qualified;
      packet = refl;
      short = small;
      own_source = ap (same_ip6 own) may.address ∙ same_ip6-self own;
      global = (tells_it k may.few).global;
      no_bubble = no_bubble;
      foreign = to_another;
      reachable = can_be_reached;
    };
    stale = ap (is_fresh n) may.unknown ∙ stale;
    no_cone = and_right (is_teredo (peer k)) (has_cone (peer k)) (plain k may.few);
    room = may.room;
    unspent = ap (is_spent n) may.unknown ∙ not_spent n no_peer unbarred;
    free = ap is_full may.unknown ∙ not_full no_peer refl;
  }

  -- by the table
  row : transmission_row (given_here s j n (packet own k) is_one.is_one) ≡ fate.Queued
  row = subst (λ (f : Fields). transmission_row (given_of s (standing_at s j n f.dst) true f) ≡ fate.Queued) (sym is_one.fields)
      (waits_for_it seen goes_later)

  -- what goes out
  tries_are : (w : Words) → try_sends s (own_address (qualification s j)) (peer k) w ≡ both_bubbles (has_cone own) own (peer k)
  unfolding try_sends
  tries_are w =
      ap (λ (b : Bool). tries_by b s (own_address (qualification s j)) (peer k) w) (tells_it k may.few).teredo
      ∙ ap (λ (z : Ip6). both_bubbles (has_cone z) z (peer k)) may.address

  no_words : try_words (peer k) ≡ 0
  no_words = ap (λ (b : Bool). cond b 0 2) (tells_it k may.few).teredo

  step_is : (w : Words) → transmission_step s to_it (packet own k) (peer k) w fate.Queued ≡ step_of own k
  unfolding standing_at
  step_is w =
      ap (λ (b : Bool). queues b s (standing_at s j n (peer k)) (peer k) w) (ap (is_barred n) may.unknown ∙ unbarred)
      ∙ ap (λ (xs : List Send). record (sending fate.Queued xs) { drawn = try_words (peer k) }) (tries_are w)
      ∙ ap (λ (m : ℕ). record (step_of own k) { drawn = m }) no_words

  pub entry_is : (w : Words) → client_out s j n (packet own k) w ≡ entry_of_packet n own k w
  entry_is w =
      entry_given s j n (packet own k) is_one.is_one w fate.Queued row
      ∙ ap (λ (f : Fields). entry n (given (packet own k)) (Some (packet own k)) (Some f.dst) w
      (transmission_step s (standing_at s j n f.dst) (packet own k) f.dst w fate.Queued)) is_one.fields
      ∙ ap (entry n (given (packet own k)) (Some (packet own k)) (Some (peer k)) w) (step_is w)
