-- What a client does with a packet of a native that it may test: it tests the native, and holds the packet, unless it holds as many of the
-- native as it may.
use Rattle.theory_first_natives.proofs.Words.{Bool, Entry, Ep, Fields, Ip6, IsForClient, IsHere, IsSuspect, Journal, List, Message, None, Option, Peer, ReadsPayload, Seen, Settings, Some, Value, Words, [], address_is, advert_row, and_left, ap, arrived, client_in, cond, drop, echo_reply, echo_request, embedded, entry, entry_here, false, false≢true, has_room, holds_most, is_barred, is_big, is_bubble, is_confirmed, is_echo_reply, is_fresh, is_from_server, is_global6, is_keyed, is_reply_to, is_teredo, is_trusted_at, known, mentions, message_in, nonce_from, nonce_of_words, other, own_address, packet_in, qualification, reception_step, refl, router_advert, router_solicit, same_ep, same_ip6, same_ip6-self, seen_of, send, server_ep, standing_at, subst, sym, test, test_bytes, tests_source, true, value_in, value_written, ℕ, ◌∙◌, ◌∷◌, ◌≡◌}
use Rattle.theory_first_packets.proofs.tables.Received.{seen_here}
use Rattle.theory_first_natives.proofs.tables.NativeTables.{tested_by, native_is_tested}

-- what is no echo reply answers no test
pub answers_nothing : (nonce : Option ℕ) (m : Option Message) → is_echo_reply m ≡ false → is_reply_to nonce m ≡ false
answers_nothing None m e = refl
answers_nothing (Some nonce) None e = refl
answers_nothing (Some nonce) (Some (echo_request id seq body)) e = refl
answers_nothing (Some nonce) (Some (echo_reply id seq body)) e = absurd (false≢true (sym e))
answers_nothing (Some nonce) (Some (router_solicit options)) e = refl
answers_nothing (Some nonce) (Some (router_advert hop flags life reach retrans options)) e = refl
answers_nothing (Some nonce) (Some (other kind code rest)) e = refl

-- a client that knows so much of a native tests it on a packet: the native isn't fresh, and the client isn't barred for it
pub record MayBeTested (n : ℕ) (host : Peer) : Type 0 where
  pub stale : is_fresh n host ≡ false
  pub unbarred : is_barred n host ≡ false

-- a packet of a native for this client came from an endpoint that is none of its server's
pub record IsFromNative (s : Settings) (j : Journal) (at : Ep) (p : Fields) : Type 0 where
  pub here : IsHere s j p.dst
  pub elsewhere : is_from_server s at ≡ false
  pub native : is_teredo p.src ≡ false
  pub global : is_global6 p.src ≡ true
  pub other : same_ip6 p.src p.dst ≡ false
  pub small : is_big p ≡ false

-- what came from a native host by a relay
pub record FromNative : Type 0 where
  pub s : Settings
  pub j : Journal
  pub n : ℕ
  pub at : Ep
  pub p : Fields
  pub is : IsFromNative s j at p

module _ (arrival : FromNative) where
  open arrival use {s, j, n, at, p, is}

  abbrev v : Value
  v = value_written None None p

  pub own_is : own_address (qualification s j) ≡ p.dst
  own_is = address_is s j p.dst is.here.address

  unkeyed : is_keyed v.lead ≡ false
  unfolding is_keyed
  unkeyed = refl

  unconfirmed : is_confirmed v.lead ≡ false
  unfolding is_confirmed
  unconfirmed = refl

  abbrev pub seen_so : Seen
  seen_so = seen_of s (standing_at s j n p.src) at true v

  pub for_client : IsForClient seen_so
  unfolding standing_at
  for_client = record {
    sound = record { payload = refl; unkeyed = unkeyed; unconfirmed = unconfirmed; short = is.small };
    qualified = is.here.qualified;
    mine = ap (same_ip6 p.dst) own_is ∙ same_ip6-self p.dst;
    foreign = ap (same_ip6 p.src) own_is ∙ is.other;
  }

  -- the native, for which there is room, isn't trusted there and may be tested, and the packet is neither a bubble nor an echo reply; whether
  -- the client holds as many packets of it as it may
  pub record IsTestable (full : Bool) : Type 0 where
    pub untrusted : is_trusted_at at (known (mentions j.entries) n p.src) ≡ false
    pub may : MayBeTested n (known (mentions j.entries) n p.src)
    pub kept : holds_most (known (mentions j.entries) n p.src) ≡ full
    pub room : has_room (mentions j.entries) n p.src ≡ true
    pub no_bubble : is_bubble p ≡ false
    pub no_reply : is_echo_reply (message_in p) ≡ false

  suspect : (full : Bool) → IsTestable full → IsSuspect full seen_so
  unfolding standing_at
  suspect full new = record {
    direct = record { mine = for_client; direct = is.elsewhere };
    untrusted = new.untrusted;
    native = is.native;
    global = is.global;
    stale = new.may.stale;
    unbarred = new.may.unbarred;
    room = new.room;
    no_bubble = new.no_bubble;
    no_reply = new.no_reply;
    kept = new.kept;
  }

  -- a test with a nonce goes to the server, and nothing to the host
  pub record TestsIt (full : Bool) (x : List ℕ) (nonce : ℕ) (e : Entry) : Type 0 where
    pub fate : e.step.fate ≡ tested_by full
    pub sends : e.step.sends ≡ send (server_ep s.primary) (test_bytes p.dst p.src nonce) ∷ []
    pub about : e.peer ≡ Some p.src
    pub moment : e.moment ≡ n
    pub came : e.input ≡ arrived at x
    pub packet : e.packet ≡ Some x
    pub drew : nonce_of_words e.words ≡ Some nonce
    pub handed : e.step.handed ≡ None
    pub late : e.step.late ≡ []

  test_is : (w : Words) → test s (own_address (qualification s j)) p.src (nonce_from w) ≡ send (server_ep s.primary) (test_bytes p.dst p.src (nonce_from w))
  unfolding test
  test_is w = ap (λ (z : Ip6). send (server_ep s.primary) (test_bytes z p.src (nonce_from w))) own_is

  whole : (x : List ℕ) → ReadsPayload v x → packet_in x ≡ Some x
  unfolding packet_in
  whole x reads = ap (λ (b : Bool). cond b (Some (drop (value_in x).lead.at x)) None) reads.is_one ∙ ap (λ (u : Value). Some (drop u.lead.at x)) reads.value

  -- the step of such a fate
  step_is : (full : Bool) (x : List ℕ) (w : Words) → reception_step s (standing_at s j n p.src) at x v w (tested_by full)
      ≡ tests_source (tested_by full) s (standing_at s j n p.src) v w
  step_is true x w = refl
  step_is false x w = refl

  pub tests_it : {full : Bool} → IsTestable full → {x : List ℕ} → ReadsPayload v x → (w : Words) → TestsIt full x (nonce_from w) (client_in s j n at x w)
  unfolding standing_at
  tests_it {full} new {x} reads w =
      subst (TestsIt full x (nonce_from w)) (sym (entry_here s j n at x v reads w
      (native_is_tested full (seen_here s j n at x v reads) (advert_row s (standing_at s j n p.src).qualification at v) (suspect full new)
      (and_left (is_teredo p.src) (same_ep (embedded p.src) at) is.native)
      (answers_nothing (known (mentions j.entries) n p.src).nonce (message_in p) new.no_reply))
      ∙ ap (entry n (arrived at x) (packet_in x) (Some p.src) w) (step_is full x w)))
      (record {
        fate = refl;
        sends = ap (λ z. z ∷ []) (test_is w);
        about = refl;
        moment = refl;
        came = refl;
        packet = whole x reads;
        drew = refl;
        handed = refl;
        late = refl;
      })
