-- With each packet for one more of these addresses the client lists this address; all else stays as it was.
use Rattle.full_tables.proofs.Words.{AllByRecursion, Bool, Entry, Ep, Follows, Full, Ip4, Ip6, Item, Journal, Lab, List, Mention, NatEntry, Node, None, Option, PEERS_MAX, Passing, Qualification, Some, Words, [], address_of, ap, arith, armed, armed_after, both_bubbles, by_way, client, client_settings, cond, data_packet, embedded, entry_of, eqb-true, false, false≢true, given, hands_in, has_cone, has_host, has_room, has_sends, is_qualified, journal, keeps_still, known, list_any, lt-ltb, mention, mentions, nat_history, nat_lt, nat_set_up, next_mentions, no_ep, no_peer, now, numbered, outs_at, own_address, packet_bytes, place, qualification, refl, same_ip, same_ip-self, same_ip6, same_number, server_in, subst, suc, sym, true, wire, with_entries, with_entry, words, zero, ℕ, ◌++◌, ◌<◌, ◌==◌, ◌∙◌, ◌∷◌, ◌≡◌, ◌≤◌}
use Rattle.events.specs.declared.verb.Verb.TheVariants as verb
use Rattle.full_tables.proofs.PeerAddresses.{at_nat, peer, first_peers, count_is, are_bytes, tells_it, next_is_new}
use Rattle.full_tables.proofs.ManyPeers.{ListsThese, one_more, unknown, room_by_count}
use Rattle.full_tables.proofs.OnePacket.{Host, MayList, packet, step_of, entry_of_packet, entry_is}
use Rattle.full_tables.proofs.LostSends.{IsBack, AllAreLost, all_lost}
use Rattle.full_tables.proofs.ListEnds.{nothing_more}
use Rattle.full_tables.proofs.Filler.{Filler, lab_with, IsFiller, IsAt, IsFilled, event_to, record_to, Stage, IsStage}

other_number : (n i : ℕ) → (n ≡ i → ⊥) → (i == n) ≡ false
other_number n i apart = by (i == n) refl where
  by : (b : Bool) → (i == n) ≡ b → b ≡ false
  by false e = refl
  by true e = absurd (apart (sym (eqb-true i n e)))

pub none_armed : (b : Bool) → armed_after b None ≡ None
none_armed true = refl
none_armed false = refl

none_either : (b : Bool) → cond {A = List NatEntry} b [] [] ≡ []
none_either true = refl
none_either false = refl

module _ (z : Stage) (is : IsStage z) where
  abbrev f : Filler
  f = z.f

  abbrev H0 : List Full
  H0 = z.start

  abbrev H : List Full
  H = z.H

  abbrev k : ℕ
  k = z.k

  filled : IsFilled f H0 H k
  filled = is.filled

  abbrev lab : Lab
  lab = lab_with f

  abbrev j : Journal
  j = journal f.n H

  abbrev w : Words
  w = words lab f.n H

  abbrev r : Full
  r = record_to f H k

  abbrev e : Entry
  e = entry_of_packet (now H) f.own k w

  few_too : k < 1000
  few_too = let less : k < 256 = is.few in omega (arith, less)

  address : own_address (qualification (client_settings f.topology f.c) j) ≡ f.own
  address = ap own_address filled.standing ∙ is.here.address

  is_new : list_any (same_ip6 (peer k)) (first_peers k) ≡ false
  is_new = next_is_new k k few_too (omega arith)

  new : known (mentions j.entries) (now H) (peer k) ≡ no_peer
  new = ap (λ (m : ℕ). known (mentions j.entries) m (peer k)) filled.moment
      ∙ unknown (mentions j.entries) (now H0) (first_peers k) filled.lists (peer k) is_new

  room : has_room (mentions j.entries) (now H) (peer k) ≡ true
  room = ap (λ (m : ℕ). has_room (mentions j.entries) m (peer k)) filled.moment
      ∙ room_by_count (mentions j.entries) (now H0) (first_peers k) filled.lists (peer k) is_new
      ∙ ap (λ (m : ℕ). nat_lt m PEERS_MAX) (count_is k)
      ∙ lt-ltb k PEERS_MAX is.few

  abbrev host : Host
  host = record { s = client_settings f.topology f.c; j = j; n = now H; own = f.own; k = k }

  may_list : MayList host
  may_list = record {
    strict = refl;
    qualified = ap (λ (q : Qualification). is_qualified q.phase) filled.standing ∙ is.here.qualified;
    address = address;
    made = is.filler.made;
    elsewhere = is.filler.elsewhere;
    few = few_too;
    unknown = new;
    room = room;
  }

  -- what the client did
  did : entry_of lab H (now H) f.n no_ep (given (packet f.own k)) (client f.c) ≡ e
  did = entry_is host may_list w

  -- its bubbles are lost at the NAT
  at_its_nat : same_ip at_nat (nat_set_up f.topology f.c.nat).external ≡ true
  at_its_nat = ap (same_ip at_nat) is.filler.external ∙ same_ip-self at_nat

  straight_back : same_ip (embedded (peer k)).ip (nat_set_up f.topology f.c.nat).external ≡ true
  straight_back = ap (λ (at : Ep). same_ip at.ip (nat_set_up f.topology f.c.nat).external) (tells_it k few_too).mapped_is ∙ at_its_nat

  server_back : same_ip (server_in (peer k)) (nat_set_up f.topology f.c.nat).external ≡ true
  server_back = ap (λ (ip : Ip4). same_ip ip (nat_set_up f.topology f.c.nat).external) (tells_it k few_too).server_is ∙ at_its_nat

  back : AllByRecursion (IsBack lab H (now H) f.c) (step_of f.own k).sends
  back = by (has_cone f.own) where
    by : (b : Bool) → AllByRecursion (IsBack lab H (now H) f.c) (both_bubbles b f.own (peer k))
    by true = (server_back, tt)
    by false = (straight_back, (server_back, tt))

  abbrev AreLost : Option ℕ → Entry → Type 0
  AreLost o x = AllAreLost lab H (now H) f.c [] (by_way lab H (now H) (f.c.nat ∷ []) f.c.inside o 0 [] x.step.sends)

  lost_all : AreLost (armed H) (entry_of lab H (now H) f.n no_ep (given (packet f.own k)) (client f.c))
  lost_all =
      subst (λ (o : Option ℕ). AreLost o (entry_of lab H (now H) f.n no_ep (given (packet f.own k)) (client f.c))) (sym filled.armed)
      (subst (AreLost None) (sym did) (all_lost lab H (now H) f.c 0 [] (step_of f.own k).sends back))

  -- the entry is the client's
  later : journal f.n (r ∷ H) ≡ with_entry j e
  later =
      ap (λ (b : Bool). cond b (with_entry j (entry_of lab H (now H) f.n no_ep (given (packet f.own k)) (client f.c))) j) (same_number f.n)
      ∙ ap (with_entry j) did

  -- it is the record of its event
  follows : Follows lab H r
  follows = record {
    goes_on = filled.over (event_to f k);
    event = record {
      from = ap has_host is.filler.there;
      target = (tells_it k few_too).sixteen;
      short = omega arith;
      made = are_bytes [] refl;
    };
    is = sym (
        ap (λ (o : Option Node). hands_in lab H (numbered (place H) (event_to f k)) verb.Host f.n
        (packet_bytes (data_packet (address_of lab H f.n o) (peer k) [])) o) is.filler.there
        ∙ ap (λ (ip : Ip6). hands_in lab H (numbered (place H) (event_to f k)) verb.Host f.n (packet_bytes (data_packet ip (peer k) [])) (Some (client f.c)))
        address
        );
  }

  -- so one more is listed
  pub filled_more : IsFilled f H0 (r ∷ H) (suc k)
  filled_more = record {
    grown = (follows, filled.grown);
    over = λ ev more. absurd (false≢true more);
    moment = filled.moment;
    wire = ap (λ (xs : List Item). wire H ++ xs) lost_all.nothing ∙ nothing_more (wire H) ∙ filled.wire;
    armed = ap (armed_after (has_sends r.entry)) filled.armed ∙ none_armed (has_sends r.entry);
    journals = λ i apart. ap (λ (b : Bool). cond b (with_entries (journal i H) r.entry) (journal i H)) (other_number f.n i apart) ∙ filled.journals i apart;
    nats = λ i. ap (λ (ps : List Passing). cond (i == f.n) [] (outs_at i ps) ++ nat_history lab i H) lost_all.passed
        ∙ ap (λ (xs : List NatEntry). xs ++ nat_history lab i H) (none_either (i == f.n)) ∙ filled.nats i;
    standing = ap (qualification (client_settings f.topology f.c)) later ∙ keeps_still (client_settings f.topology f.c) j e refl ∙ filled.standing;
    lists = subst (λ (ms : List Mention). ListsThese ms (now H0) (first_peers (suc k)))
        (sym (ap (λ (z : Journal). mentions z.entries) later ∙ next_mentions e j.entries))
        (one_more (mention e) (mentions j.entries) (now H0) (peer k) (record { peer = refl; moment = filled.moment; touches = refl }) (first_peers k) is_new
        filled.lists);
  }

-- ALL PACKETS

-- the history with the first k packets
unfoldable pub filled_to : Filler → List Full → ℕ → List Full
filled_to f H0 zero = H0
filled_to f H0 (suc k) = record_to f (filled_to f H0 k) k ∷ filled_to f H0 k

pub is_filled : (f : Filler) → IsFiller f → (H0 : List Full) → IsAt f H0 → IsFilled f H0 H0 0 → (k : ℕ) → k ≤ PEERS_MAX
    → IsFilled f H0 (filled_to f H0 k) k
unfolding filled_to
is_filled f is H0 here start zero few = start
is_filled f is H0 here start (suc k) few = filled_more (record { f = f; start = H0; H = filled_to f H0 k; k = k }) (record {
  filler = is;
  here = here;
  filled = is_filled f is H0 here start k (omega (arith, few));
  few = omega (arith, few);
})
