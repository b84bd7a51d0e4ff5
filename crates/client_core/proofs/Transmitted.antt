-- What is done with a packet of the host, for each journal.
use Rattle.client_core.proofs.Words.{Bool, Client, ClientStandsFor, Does, DropsPacket, Enters, Entry, Ep, Fate, Fields, Ip6, Journal, List, None, OnlyPeers, Option, Peer, SaysNothing, Settings, Some, Standing, Step, Updates, WantsQueue, Words, [], after_words, ap, arith, bears_nothing, calls_of_an_entry, client_out, destination_in, embedded, entry, false, fate_of_transmission, fields_in, given, given_of, given_to, if◌then◌else◌, is_big, is_packet, is_qualified, just, known_to, length, ltb-false, map, option_to_list, packet_given, refl, send, sending, settings_of, standing_at, standing_in, standing_of, subst, sym, touched_at, transmission, transmission_row, transmission_step, true, unspecified, unwrap_or, with_entry, words_ahead, ℕ, ◌+◌, ◌∙◌, ◌∷◌, ◌≡◌, ◌≤◌}
use Rattle.bubble.proofs.PacketsIn.{packet_there}
use Rattle.teredo_node.specs.declared.fate.Fate.TheVariants as fate
use Rattle.client_rules.specs.Transmission as table
use Rattle.client_core.proofs.Entered.{bears_enters, none_enters}
use Rattle.client_core.proofs.Read.{standing_is}

destination_there : (x : List ℕ) (p : Fields) → is_packet x ≡ true → fields_in x ≡ p → destination_in x ≡ Some p.dst
unfolding destination_in
destination_there x p packet fields = λ i. if packet i then Some (fields i).dst else None

transmission_by : (s : Settings) (a : Standing) (x : List ℕ) (p : Fields) (w : Words) (b : Bool) → is_packet x ≡ b → fields_in x ≡ p
    → transmission s a x w ≡ transmission_step s a x p.dst w (transmission_row (given_of s a b p))
unfolding transmission table.given
transmission_by s a x p w b packet fields = λ i. transmission_step s a x (fields i).dst w (transmission_row (given_of s a (packet i) (fields i)))

-- a packet that was read, and a moment at which the client may be called
pub record IsAsked (c : Client) (n : ℕ) (x : List ℕ) (p : Fields) : Type 0 where
  pub clock : c.peers.moment ≤ n
  pub packet : is_packet x ≡ true
  pub fields : fields_in x ≡ p

-- what the table gives, as the client reads itself
pub transmission_there : (c : Client) (j : Journal) (n : ℕ) (x : List ℕ) (p : Fields) → ClientStandsFor c j → IsAsked c n x p
    → transmission (settings_of c) (standing_of (settings_of c) j n (destination_in x)) x (words_ahead c)
    ≡ transmission_step (settings_of c) (standing_in c n p.dst) x p.dst (words_ahead c) (transmission_row (given_to c n p))
transmission_there c j n x p h is =
    let a : standing_of (settings_of c) j n (destination_in x) ≡ standing_in c n p.dst =
    ap (standing_of (settings_of c) j n) (destination_there x p is.packet is.fields) ∙ sym (standing_is c j n p.dst h is.clock) in
    ap (λ (b : Standing). transmission (settings_of c) b x (words_ahead c)) a
    ∙ transmission_by (settings_of c) (standing_in c n p.dst) x p (words_ahead c) true is.packet is.fields

-- the line of a fate is found for it
pub record IsLine (c : Client) (n : ℕ) (x : List ℕ) (p : Fields) (f : Fate) : Type 0 where
  pub is : IsAsked c n x p
  pub row : f ≡ transmission_row (given_to c n p)

-- and did this with it
pub record Transmits (old : Client) (n : ℕ) (x : List ℕ) (p : Fields) (step : Step) (new : Client) : Type 0 where
  pub outcome : Fate
  pub line : IsLine old n x p outcome
  pub did : step ≡ transmission_step (settings_of old) (standing_in old n p.dst) x p.dst (words_ahead old) outcome
  pub entered : Enters old (entry n (given x) (Some x) (Some p.dst) (words_ahead old) step) new

pub transmitted : (old new : Client) (n : ℕ) (x : List ℕ) (p : Fields) (step : Step) → Transmits old n x p step new
    → Does old n (given x) step new
unfolding client_out
transmitted old new n x p step t =
    let is = t.line.is in
    let whole : (j : Journal) → ClientStandsFor old j → step ≡ transmission (settings_of old) (standing_of (settings_of old) j n (destination_in x)) x (words_ahead old) =
    (λ j h. t.did ∙ ap (λ (g : Fate). transmission_step (settings_of old) (standing_in old n p.dst) x p.dst (words_ahead old) g) t.line.row ∙ sym (transmission_there old j n x p h is)) in
    record {
      did = whole;
      stands = λ j h. subst (λ (e : Entry). ClientStandsFor new (with_entry j e))
          (λ i. entry n (given x) (sym (packet_there x is.packet) i) (sym (destination_there x p is.packet is.fields) i) (words_ahead old) (whole j h i)) (t.entered.stands j h);
      place = t.entered.place;
      settings = t.entered.settings;
      clock = t.entered.clock;
    }

-- THE LINES

pub drops_packet : (c : Client) (n : ℕ) (x : List ℕ) (p : Fields) (f : Fate) → IsLine c n x p f → DropsPacket f
    → Does c n (given x) (just f) c
drops_packet c n x p f line d = transmitted c c n x p (just f) (record {
  outcome = f;
  line = line;
  did = sym (d.step (settings_of c) (standing_in c n p.dst) x p.dst (words_ahead c));
  entered = none_enters c (entry n (given x) (Some x) (Some p.dst) (words_ahead c) (just f)) (record {
    idle = bears_nothing (d.nothing.bearing (entry n (given x) (Some x) (Some p.dst) (words_ahead c) (just f)));
    epoch = d.nothing.epoch;
    quiet = d.nothing.turn;
    clock = line.is.clock;
    drawn = refl;
  });
})

-- it goes to where its destination is trusted, which is touched
pub record GoesTo (old : Client) (n : ℕ) (x : List ℕ) (p : Fields) (to : Ep) (new : Client) : Type 0 where
  pub line : IsLine old n x p fate.Sent
  pub trusted : (known_to old.peers n p.dst).trusted ≡ Some to
  pub touched : OnlyPeers old n p.dst (touched_at n (known_to old.peers n p.dst)) new

pub sent : (old new : Client) (n : ℕ) (x : List ℕ) (p : Fields) (to : Ep) → GoesTo old n x p to new
    → Does old n (given x) (sending fate.Sent (send to x ∷ [])) new
unfolding after_words
sent old new n x p to g = transmitted old new n x p (sending fate.Sent (send to x ∷ [])) (record {
  outcome = fate.Sent;
  line = g.line;
  did = ap (λ (o : Option Ep). sending fate.Sent (map (λ (at : Ep). send at x) (option_to_list o))) (sym g.trusted);
  entered = bears_enters old new (entry n (given x) (Some x) (Some p.dst) (words_ahead old) (sending fate.Sent (send to x ∷ []))) p.dst (record {
    of_peer = record {
      peer = refl;
      epoch = refl;
      concerns = refl;
      clock = g.touched.clock;
      peers = subst (λ (k : Peer). Updates old.peers new.peers n p.dst k) (sym (calls_of_an_entry n (known_to old.peers n p.dst) (Some p.dst)).touch) g.touched.peers;
    };
    quiet = refl;
    qualifier = g.touched.qualifier;
    place = g.touched.rng;
  });
})

pub sent_cone : (c : Client) (n : ℕ) (x : List ℕ) (p : Fields) → IsLine c n x p fate.SentCone
    → Does c n (given x) (sending fate.SentCone (send (embedded p.dst) x ∷ [])) c
sent_cone c n x p line = transmitted c c n x p (sending fate.SentCone (send (embedded p.dst) x ∷ [])) (record {
  outcome = fate.SentCone;
  line = line;
  did = refl;
  entered = none_enters c (entry n (given x) (Some x) (Some p.dst) (words_ahead c) (sending fate.SentCone (send (embedded p.dst) x ∷ [])))
      (record { idle = bears_nothing refl; epoch = refl; quiet = refl; clock = line.is.clock; drawn = refl });
})

-- WHERE NO LINE ASKS FOR THE PACKET

-- a client that isn't qualified does nothing
off_by : (s : Settings) (a : Standing) (x : List ℕ) (w : Words) (b : Bool) → is_qualified a.qualification.phase ≡ b → b ≡ false → transmission s a x w ≡ just fate.Off
unfolding transmission table.given
off_by s a x w b off isnt = λ i. transmission_step s a x (fields_in x).dst w (transmission_row (record (given_of s a (is_packet x) (fields_in x)) { qualified = (off ∙ isnt) i }))

-- nor does one with what isn't a packet
malformed_by : (s : Settings) (a : Standing) (x : List ℕ) (w : Words) → is_qualified a.qualification.phase ≡ true → is_packet x ≡ false → transmission s a x w ≡ just fate.Malformed
unfolding transmission table.given
malformed_by s a x w on isnt = λ i. transmission_step s a x (fields_in x).dst w (transmission_row (record (given_of s a (isnt i) (fields_in x)) { qualified = on i }))

-- whatever it is about, nothing is done
nothing : (c : Client) (n : ℕ) (x : List ℕ) (f : Fate) → c.peers.moment ≤ n → SaysNothing f
    → ((j : Journal) → ClientStandsFor c j → transmission (settings_of c) (standing_of (settings_of c) j n (destination_in x)) x (words_ahead c) ≡ just f) → Does c n (given x) (just f) c
unfolding client_out
nothing c n x f l d whole =
    let e : Entry = entry n (given x) (packet_given x) (destination_in x) (words_ahead c) (just f) in
    let entered = none_enters c e (record { idle = bears_nothing (d.bearing e); epoch = d.epoch; quiet = d.turn; clock = l; drawn = refl }) in
    record {
      did = λ j h. sym (whole j h);
      stands = λ j h. subst (λ (k : Entry). ClientStandsFor c (with_entry j k)) (λ i. entry n (given x) (packet_given x) (destination_in x) (words_ahead c) (sym (whole j h) i)) (entered.stands j h);
      place = entered.place;
      settings = refl;
      clock = l;
    }

means_nothing_off : SaysNothing fate.Off
means_nothing_off = record { turn = refl; epoch = refl; bearing = λ e. refl }

means_nothing_malformed : SaysNothing fate.Malformed
means_nothing_malformed = record { turn = refl; epoch = refl; bearing = λ e. refl }

qualified_there : (c : Client) (j : Journal) (n : ℕ) (p : Ip6) → ClientStandsFor c j → c.peers.moment ≤ n
    → is_qualified (standing_at (settings_of c) j n p).qualification.phase ≡ is_qualified c.qualifier.now.phase
qualified_there c j n p h l = ap (λ (a : Standing). is_qualified a.qualification.phase) (sym (standing_is c j n p h l))

pub off : (c : Client) (n : ℕ) (x : List ℕ) → c.peers.moment ≤ n → is_qualified c.qualifier.now.phase ≡ false → Does c n (given x) (just fate.Off) c
off c n x l isnt =
    nothing c n x fate.Off l means_nothing_off
    (λ j h. off_by (settings_of c) (standing_of (settings_of c) j n (destination_in x)) x (words_ahead c) false (qualified_there c j n (unwrap_or (destination_in x) unspecified) h l ∙ isnt) refl)

pub malformed : (c : Client) (n : ℕ) (x : List ℕ) → c.peers.moment ≤ n → is_qualified c.qualifier.now.phase ≡ true → is_packet x ≡ false → Does c n (given x) (just fate.Malformed) c
malformed c n x l on isnt =
    nothing c n x fate.Malformed l means_nothing_malformed
    (λ j h. malformed_by (settings_of c) (standing_of (settings_of c) j n (destination_in x)) x (words_ahead c) (qualified_there c j n (unwrap_or (destination_in x) unspecified) h l ∙ on) isnt)

-- SIZES

-- a packet that isn't big
pub short : (x : List ℕ) (p : Fields) → is_big p ≡ false → 40 + length p.body ≡ length x → length x ≤ 1280
unfolding is_big
short x p small inside = let most = ltb-false _ _ small in omega (arith, inside, most)

-- WHERE MEMORY WAS WANTING

row_there : (c : Client) (j : Journal) (n : ℕ) (x : List ℕ) (p : Fields) → ClientStandsFor c j → IsAsked c n x p
    → transmission_row (table.given (settings_of c) (standing_of (settings_of c) j n (destination_in x)) x) ≡ transmission_row (given_to c n p)
unfolding table.given
row_there c j n x p h is =
    let a : standing_of (settings_of c) j n (destination_in x) ≡ standing_in c n p.dst =
    ap (standing_of (settings_of c) j n) (destination_there x p is.packet is.fields) ∙ sym (standing_is c j n p.dst h is.clock) in
    λ i. transmission_row (given_of (settings_of c) (a i) (is.packet i) (is.fields i))

pub wants_queue : (c : Client) (n : ℕ) (x : List ℕ) (p : Fields) → IsLine c n x p fate.Queued → WantsQueue c n x
unfolding client_out
wants_queue c n x p line j h =
    fate_of_transmission (settings_of c) (standing_of (settings_of c) j n (destination_in x)) x (words_ahead c) ∙ row_there c j n x p h line.is ∙ sym line.row
