-- What is done with a payload whose packet is held, or whose source is tested (rule 6).
use Rattle.client_core.proofs.Words.{Bearing, Client, Ep, Ip6, List, OnlyPeers, Option, Peer, Some, TakesPayload, Updates, Value, after, after_words, ap, calls_of_an_entry, concerns_peer, found_is_listed, held_at, held_of, is_some, just, known_to, no_bearing, nonce_from, packet_bytes, packet_in, peer_in, refl, tested, tried_at, true, words_ahead, ℕ, ◌∙◌, ◌≡◌, ◌≤◌}
use Rattle.teredo_node.specs.declared.fate.Fate.TheVariants as fate
use Rattle.client_core.proofs.Acts.{acts_receives}

-- a try of its source by a test's two words, after which this is known of it
pub record TestsSource (old : Client) (n : ℕ) (who : Ip6) (peer : Peer) (new : Client) : Type 0 where
  pub clock : old.peers.moment ≤ n
  pub peers : Updates old.peers new.peers n who peer
  pub qualifier : new.qualifier ≡ old.qualifier
  pub place : new.rng ≡ after_words 2 old.rng

abbrev pub tried_by : Client → ℕ → Peer → Peer
tried_by c n peer = tried_at n (Some (nonce_from (words_ahead c))) peer

-- a test of the source, of which no packet more may be held
pub suspicious_test : (old new : Client) (n : ℕ) (from : Ep) (v : Value)
    → TestsSource old n v.packet.src (tried_by old n (known_to old.peers n v.packet.src)) new
    → TakesPayload old n from v fate.SuspiciousTest (tested old v.packet.src fate.SuspiciousTest) new
suspicious_test old new n from v t =
    let known : Peer = known_to old.peers n v.packet.src in
    acts_receives old new n from v fate.SuspiciousTest (record {
      step = tested old v.packet.src fate.SuspiciousTest;
      peer = tried_by old n known;
      did = λ x is. refl;
      clock = t.clock;
      peers = t.peers;
      means = λ x is. (calls_of_an_entry n known (Some v.packet.src)).tried (Some (nonce_from (words_ahead old)));
      concerns = λ x is. refl;
      epoch = refl;
      quiet = refl;
      qualifier = t.qualifier;
      place = t.place;
    })

-- a packet of a payload from there
abbrev pub held_here : Client → ℕ → Ep → Value → Peer
held_here c n from v = held_at n from (packet_bytes v.packet) (known_to c.peers n v.packet.src)

-- the mention of a packet is that of the payload's
holds_here : (x : List ℕ) (v : Value) (from : Ep) (call : Bearing → Bearing) (n : ℕ) (p : Peer) → packet_in x ≡ Some (packet_bytes v.packet)
    → after (record { moment = n; peer = Some v.packet.src; bearing = record (call no_bearing) { holds = held_of (Some from) (packet_in x) } }) p
    ≡ after (record { moment = n; peer = Some v.packet.src; bearing = record (call no_bearing) { holds = Some (record { from = from; packet = packet_bytes v.packet }) } }) p
holds_here x v from call n p is =
    ap (λ (o : Option (List ℕ)). after (record { moment = n; peer = Some v.packet.src; bearing = record (call no_bearing) { holds = held_of (Some from) o } }) p) is

abbrev tries_with : ℕ → Bearing → Bearing
tries_with nonce b = record b { touches = true; tries = true; nonce = Some nonce }

abbrev as_it_is : Bearing → Bearing
as_it_is b = b

-- a packet is held, and its source is tested
pub held_test : (old new : Client) (n : ℕ) (from : Ep) (v : Value)
    → TestsSource old n v.packet.src (tried_by old n (held_here old n from v)) new
    → TakesPayload old n from v fate.HeldTest (tested old v.packet.src fate.HeldTest) new
held_test old new n from v t =
    let nonce : ℕ = nonce_from (words_ahead old) in
    let known : Peer = known_to old.peers n v.packet.src in
    acts_receives old new n from v fate.HeldTest (record {
      step = tested old v.packet.src fate.HeldTest;
      peer = tried_by old n (held_here old n from v);
      did = λ x is. refl;
      clock = t.clock;
      peers = t.peers;
      means = λ x is. holds_here x v from (tries_with nonce) n known is.packet
          ∙ (calls_of_an_entry n known (Some v.packet.src)).hold_tried from (packet_bytes v.packet) (Some nonce);
      concerns = λ x is. refl;
      epoch = refl;
      quiet = refl;
      qualifier = t.qualifier;
      place = t.place;
    })

-- a further packet of a source that is being tested
pub held : (old new : Client) (n : ℕ) (from : Ep) (v : Value) → is_some (peer_in old.peers n v.packet.src) ≡ true
    → OnlyPeers old n v.packet.src (held_here old n from v) new → TakesPayload old n from v fate.Held (just fate.Held) new
unfolding after_words
held old new n from v listed o =
    let known : Peer = known_to old.peers n v.packet.src in
    acts_receives old new n from v fate.Held (record {
      step = just fate.Held;
      peer = held_here old n from v;
      did = λ x is. refl;
      clock = o.clock;
      peers = o.peers;
      means = λ x is. holds_here x v from as_it_is n known is.packet
          ∙ (calls_of_an_entry n known (Some v.packet.src)).hold from (packet_bytes v.packet) (found_is_listed old.peers n v.packet.src listed);
      concerns = λ x is. ap (λ (o : Option (List ℕ)). concerns_peer (record no_bearing { holds = held_of (Some from) o })) is.packet;
      epoch = refl;
      quiet = refl;
      qualifier = o.qualifier;
      place = o.rng;
    })
