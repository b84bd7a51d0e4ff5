-- Where a schedule begins: what the first record put onto the wire, by the cone bits of the two clients.
use Rattle.theory_first_packets.proofs.Words.{AllByRecursion, Bool, Entry, Fate, Full, Ip6, Item, List, Send, [], ap, asks_at, both_bubbles, bubble_bytes, client, embedded, false, false≢true, filter_map, has_cone, item_in, items_of, journal, length, nats_of, now, refl, send, server_ep, server_in, slice_get, suc, true, turn, udp, wire, with_entry, ℕ, ◌++◌, ◌∙◌, ◌∷◌, ◌≡◌}
use Rattle.theory_first_packets.proofs.schedule.First.{one_first, first_of_two, second_of_two, two_longer, two_open}
use Rattle.theory_first_packets.proofs.schedule.Counted.{one_open}
use Rattle.theory_first_packets.proofs.Deliveries.{Did}
use Rattle.theory_first_packets.proofs.schedule.Pair.{Pair, IsPair}
use Rattle.theory_first_packets.proofs.passing.Elsewhere.{elsewhere, server_elsewhere}
use Rattle.theory_first_packets.proofs.passing.Sides.{setup}
use Rattle.theory_first_packets.proofs.passing.WaysIn.{cone_along}
use Rattle.theory_first_packets.proofs.passing.Sent.{IsElsewhere}
use Rattle.theory_first_packets.proofs.passing.AllSent.{AllSent, all_leaves}
use Rattle.theory_first_packets.proofs.schedule.PairAfter.{sender_sends}
use Rattle.theory_first_packets.proofs.schedule.Ground.{Keeps, Unbarred, Ground}
use Rattle.theory_first_packets.proofs.passing.OwnAddress.{address_stays}
use Rattle.theory_first_packets.proofs.tables.AtClients.{Afterwards, after_queued}
use Rattle.theory_first_packets.proofs.Journals.{at_same_moment}
use Rattle.theory_first_packets.proofs.schedule.PairStages.{asks, releases_it}
use Rattle.theory_first_packets.proofs.schedule.PairBoards.{PairRun, Board}
use Rattle.theory_first_packets.proofs.Premise.{IsStart, e, did, number, is_pair}
use Rattle.theory_first_packets.proofs.schedule.Course.{Follow}
use Rattle.theory_first_packets.proofs.schedule.FirstGround.{back, forth, ground, is_record, next, receiver_stays, ground_then, open_from, at_once, WaitsFirst, waits}

module _ (p : Pair) (H : List Full) (r : Full) (start : IsStart p H r) (P : List Fate → Type 0) where
  abbrev is : IsPair p
  is = is_pair p H r start

  -- the addresses of the two
  abbrev own : Ip6
  own = p.a.own

  abbrev other : Ip6
  other = p.b.own

  -- what the sender did, whose sends all leave
  abbrev done : Entry
  done = e p H r start

  does : Did p.lab H r p.a.n (client p.a.c) done
  does = did p H r start

  -- whether each trusts the other
  abbrev pub sender_trusts : Bool
  sender_trusts = back p H r start

  abbrev pub receiver_trusts : Bool
  receiver_trusts = forth p H r start

  -- so many deliveries
  abbrev pub run : ℕ → PairRun
  run total = record { p = p; before = H; r = r; total = total; back = sender_trusts }

  -- what may follow
  abbrev pub First : (direct : Bool) → ℕ → Type 0
  First direct k = Follow P sender_trusts direct receiver_trusts k

  before : Ground p H receiver_trusts
  before = ground p H r start

  gone : (xs : List Send) → done.step.sends ≡ xs → AllByRecursion (λ (x : Send). IsElsewhere p.lab x.to.ip (nats_of p.lab p.a.c)) xs
      → AllSent p.lab H r p.a.c own xs
  gone xs sends apart = all_leaves (sender_sends (record { p = p; H = H; q = r; r = is_record p H r start }) done does) xs sends apart

  -- the receiver's endpoint and its server are elsewhere
  other_far : IsElsewhere p.lab (embedded other).ip (nats_of p.lab p.a.c)
  other_far = elsewhere (record { lab = p.lab; is = is.rules; a = p.a; b = p.b; an = is.sender; bn = is.receiver }) is.apart

  server_far : IsElsewhere p.lab (server_in other) (nats_of p.lab p.a.c)
  server_far = server_elsewhere (record { lab = p.lab; is = is.rules; a = p.b; b = p.a; an = is.receiver; bn = is.sender })

  -- THE RECEIVER IS CONE

  -- the packet goes out at once
  pub to_cone : has_cone other ≡ true → First false 1 → Board (run 1) P []
  to_cone cone ahead =
      let goes = at_once p H r start cone in
      let all = gone (send (embedded other) p.x ∷ []) goes.sends (other_far, tt) in
      let one = one_first H r (udp (embedded own) (embedded other) p.x) all.made in
      let then = ground_then p H r start (address_stays (setup p.lab p.a) (journal p.a.n H) done (ap turn goes.fate_is)) in
      record {
        last = length (wire H);
        direct = false;
        trusted = receiver_trusts;
        k = 1;
        ground = then;
        long = one.longer;
        are = open_from p H r start (number p H r start) (one_open (length (wire H)));
        stage = releases_it one.at (cone_along p.lab (r ∷ H) (asks_at p.lab p.b.c) (embedded own) (nats_of p.lab p.b.c) p.b.c.inside (embedded other)
            (is.receiver_cone cone) then.receiver_way);
        bubble = λ none. absurd (false≢true none);
        sum = refl;
        ahead = ahead;
      }

  -- IT ISN'T

  module _ (far : has_cone other ≡ false) where
    first : WaitsFirst p H r start
    first = waits p H r start far

    -- the bubbles that go out
    sends_are : (cone : Bool) → has_cone own ≡ cone → done.step.sends ≡ both_bubbles cone own other
    sends_are cone same = first.sends ∙ ap (λ (c : Bool). both_bubbles c own other) same

    left : Afterwards (record { s = setup p.lab p.a; j = journal p.a.n H; n = now H; peer = other; e = done; about = first.about; moment = first.moment }) (p.x ∷ []) sender_trusts
    left = after_queued (record { s = setup p.lab p.a; j = journal p.a.n H; n = now H; peer = other; e = done; about = first.about; moment = first.moment }) first.queued first.packet
        (start.first.clients.sender_ready far).nothing_waits

    then : Ground p (r ∷ H) receiver_trusts
    then = ground_then p H r start left.address

    -- the packet waits
    sends : Keeps (journal p.a.n (r ∷ H)) (now (r ∷ H)) other (p.x ∷ []) sender_trusts
    sends = at_same_moment (λ j m. Keeps j m other (p.x ∷ []) sender_trusts)
        H r p.a.n (with_entry (journal p.a.n H) done) (next p H r start).moment does.later
        left.keeps

    -- the receiver may try the sender
    may : Unbarred (journal p.b.n (r ∷ H)) (now (r ∷ H)) own
    may = at_same_moment (λ j m. Unbarred j m own) H r p.b.n (journal p.b.n H) (next p H r start).moment (receiver_stays p H r start)
        (start.first.clients.receiver_unbarred far)

    -- the sender is cone
    pub from_cone : has_cone own ≡ true → First false 4 → Board (run 4) P []
    from_cone cone ahead =
        let all = gone (both_bubbles true own other) (sends_are true cone) (server_far, tt) in
        let one = one_first H r (udp (embedded own) (server_ep (server_in other)) (bubble_bytes own other)) all.made in
        record {
          last = length (wire H);
          direct = false;
          trusted = receiver_trusts;
          k = 4;
          ground = then;
          long = one.longer;
          are = open_from p H r start (number p H r start) (one_open (length (wire H)));
          stage = asks one.at sends may (cone_along p.lab (r ∷ H) (asks_at p.lab p.a.c) (embedded other) (nats_of p.lab p.a.c) p.a.c.inside (embedded own)
              (is.sender_cone cone) then.sender_way);
          bubble = λ none. absurd (false≢true none);
          sum = refl;
          ahead = ahead;
        }

    -- neither is
    pub with_both : has_cone own ≡ false → First true 4 → Board (run 5) P []
    with_both plain ahead =
        let all = gone (both_bubbles false own other) (sends_are false plain) (other_far, (server_far, tt)) in
        let direct : Item = udp (embedded own) (embedded other) (bubble_bytes own other) in
        let indirect : Item = udp (embedded own) (server_ep (server_in other)) (bubble_bytes own other) in
        let items : items_of r ≡ direct ∷ indirect ∷ [] = ap (filter_map item_in) all.made in
        record {
          last = suc (length (wire H));
          direct = true;
          trusted = receiver_trusts;
          k = 4;
          ground = then;
          long = ap (λ (xs : List Item). length (wire H ++ xs)) items ∙ two_longer (wire H) direct indirect;
          are = open_from p H r start (number p H r start) (two_open (length (wire H)));
          stage = asks (ap (λ (xs : List Item). slice_get (wire H ++ xs) (suc (length (wire H)))) items ∙ second_of_two (wire H) direct indirect) sends may
              all.back.0;
          bubble = λ _. ap (λ (xs : List Item). slice_get (wire H ++ xs) r.first) items
              ∙ ap (slice_get (wire H ++ direct ∷ indirect ∷ [])) (number p H r start) ∙ first_of_two (wire H) direct indirect;
          sum = refl;
          ahead = ahead;
        }
