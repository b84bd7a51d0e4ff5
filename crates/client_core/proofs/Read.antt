-- What a client reads of itself is what each journal says that it stands for.
use Rattle.client_core.proofs.Words.{Bool, Client, ClientStandsFor, Does, Entry, Ep, Fate, Ip6, IsBytes, IsDatagramOf, Journal, List, None, Option, Peer, SaysTheSame, Settings, Some, Standing, Step, TakesPayload, TakesPlace, Value, WantsPlace, Words, advert_row, ap, arrived, bears_nothing, client_in, drop, entry, false, fate_in, fate_of_reception, if◌then◌else◌, is_payload, is_some, just, mentions, packet_bytes, packet_in, payload_is_spelled, peer_at, peer_in, reception, reception_fate, reception_row, reception_step, refl, seen, seen_of, settings_of, source_in, source_there, standing_at, standing_in, standing_of, stands_whole, subst, sym, table_is_read, true, unspecified, unwrap_or, value_in, with_entry, words_ahead, ℕ, ◌∙◌, ◌≡◌, ◌≤◌}
use Rattle.teredo_node.specs.declared.fate.Fate.TheVariants as fate
use Rattle.client_core.proofs.Entered.{none_enters}

pub read_same : (c : Client) (j : Journal) (n : ℕ) → ClientStandsFor c j → c.peers.moment ≤ n → SaysTheSame c.peers (mentions j.entries) n
read_same c j n h l = table_is_read c.peers (mentions j.entries) n h.peers l

pub standing_is : (c : Client) (j : Journal) (n : ℕ) (p : Ip6) → ClientStandsFor c j → c.peers.moment ≤ n → standing_in c n p ≡ standing_at (settings_of c) j n p
unfolding standing_at
standing_is c j n p h l =
    let r = read_same c j n h l in
    let q = stands_whole c.qualifier j h.qualification in
    λ i. record { moment = n; qualification = q i; peer = r.peer p i; room = r.room p i; waiting = r.waiting i }

-- DATAGRAMS

-- what stands behind the indications is the packet
pub packet_of : (x : List ℕ) (v : Value) → IsBytes x → is_payload x ≡ true → value_in x ≡ v → drop v.lead.at x ≡ packet_bytes v.packet
packet_of x v bytes payload value = subst (λ (u : Value). drop u.lead.at x ≡ packet_bytes u.packet) value (payload_is_spelled x bytes payload).packet

pub packet_there : (x : List ℕ) (v : Value) → is_payload x ≡ true → value_in x ≡ v → drop v.lead.at x ≡ packet_bytes v.packet → packet_in x ≡ Some (packet_bytes v.packet)
unfolding packet_in
packet_there x v payload value is = (λ i. if payload i then Some (drop (value i).lead.at x) else None) ∙ ap Some is

reception_by : (s : Settings) (a : Standing) (from : Ep) (x : List ℕ) (v : Value) (w : Words) → is_payload x ≡ true → value_in x ≡ v
    → reception s a from x w ≡ reception_step s a from x v w (reception_row (seen_of s a from true v) (advert_row s a.qualification from v))
unfolding reception reception_fate seen
reception_by s a from x v w payload value =
    λ i. reception_step s a from x (value i) w (reception_row (seen_of s a from (payload i) (value i)) (advert_row s a.qualification from (value i)))

-- a payload that was read, and a moment at which the client may be called
pub record IsRead (c : Client) (n : ℕ) (x : List ℕ) (v : Value) : Type 0 where
  pub clock : c.peers.moment ≤ n
  pub payload : is_payload x ≡ true
  pub value : value_in x ≡ v

standing_there : (c : Client) (j : Journal) (n : ℕ) (x : List ℕ) (v : Value) → ClientStandsFor c j → IsRead c n x v
    → standing_of (settings_of c) j n (source_in x) ≡ standing_in c n v.packet.src
standing_there c j n x v h is =
    ap (standing_of (settings_of c) j n) (source_there x v is.payload is.value) ∙ sym (standing_is c j n v.packet.src h is.clock)

step_there : (c : Client) (n : ℕ) (from : Ep) (x : List ℕ) (v : Value) (a : Standing) → IsRead c n x v → a ≡ standing_in c n v.packet.src
    → reception (settings_of c) a from x (words_ahead c) ≡ reception_step (settings_of c) (standing_in c n v.packet.src) from x v (words_ahead c) (fate_in c n from v)
step_there c n from x v a is same =
    ap (λ (b : Standing). reception (settings_of c) b from x (words_ahead c)) same
    ∙ reception_by (settings_of c) (standing_in c n v.packet.src) from x v (words_ahead c) is.payload is.value

-- and what its line did with it
pub record Received (old : Client) (n : ℕ) (from : Ep) (x : List ℕ) (step : Step) (new : Client) : Type 0 where
  pub told : Value
  pub read : IsRead old n x told
  pub is : IsDatagramOf x told
  pub took : TakesPayload old n from told (fate_in old n from told) step new

pub received : (old new : Client) (n : ℕ) (from : Ep) (x : List ℕ) (step : Step) → Received old n from x step new
    → Does old n (arrived from x) step new
unfolding client_in
received old new n from x step r =
    let did : (j : Journal) → ClientStandsFor old j → step ≡ reception (settings_of old) (standing_of (settings_of old) j n (source_in x)) from x (words_ahead old) =
    (λ j h.
    r.took.did j x h r.is
    ∙ sym (step_there old n from x r.told (standing_of (settings_of old) j n (source_in x)) r.read (standing_there old j n x r.told h r.read))) in
    record {
      did = did;
      stands = λ j h. subst (λ (e : Entry). ClientStandsFor new (with_entry j e))
          (λ i. entry n (arrived from x) (packet_in x) (sym (source_there x r.told r.read.payload r.read.value) i) (words_ahead old) (did j h i)) (r.took.stands j x h r.is);
      place = r.took.place;
      settings = r.took.settings;
      clock = r.took.clock;
    }

-- what isn't a payload is dropped
malformed_by : (s : Settings) (a : Standing) (from : Ep) (x : List ℕ) (w : Words) → is_payload x ≡ false → reception s a from x w ≡ just fate.Malformed
unfolding reception reception_fate seen
malformed_by s a from x w isnt = λ i. reception_step s a from x (value_in x) w (reception_row (seen_of s a from (isnt i) (value_in x)) (advert_row s a.qualification from (value_in x)))

pub malformed : (c : Client) (n : ℕ) (from : Ep) (x : List ℕ) → c.peers.moment ≤ n → is_payload x ≡ false → Does c n (arrived from x) (just fate.Malformed) c
unfolding client_in
malformed c n from x l isnt =
    let whole : (j : Journal) → just fate.Malformed ≡ reception (settings_of c) (standing_of (settings_of c) j n (source_in x)) from x (words_ahead c) =
    (λ j. sym (malformed_by (settings_of c) (standing_of (settings_of c) j n (source_in x)) from x (words_ahead c) isnt)) in
    let e : Entry = entry n (arrived from x) (packet_in x) (source_in x) (words_ahead c) (just fate.Malformed) in
    let entered = none_enters c e (record { idle = bears_nothing refl; epoch = refl; quiet = refl; clock = l; drawn = refl }) in
    record {
      did = λ j h. whole j;
      stands = λ j h. subst (λ (k : Entry). ClientStandsFor c (with_entry j k)) (λ i. entry n (arrived from x) (packet_in x) (source_in x) (words_ahead c) (whole j i)) (entered.stands j h);
      place = entered.place;
      settings = refl;
      clock = l;
    }

-- WHERE MEMORY WAS WANTING

fate_there : (c : Client) (n : ℕ) (from : Ep) (x : List ℕ) (v : Value) (a : Standing) → IsRead c n x v → a ≡ standing_in c n v.packet.src
    → reception_fate (settings_of c) a from x ≡ fate_in c n from v
unfolding reception_fate seen
fate_there c n from x v a is same =
    λ i. reception_row (seen_of (settings_of c) (same i) from (is.payload i) (is.value i)) (advert_row (settings_of c) (same i).qualification from (is.value i))

pub wants_place : (old : Client) (n : ℕ) (from : Ep) (x : List ℕ) (v : Value) → IsRead old n x v
    → TakesPlace (fate_in old n from v) (is_some (peer_in old.peers n v.packet.src)) → WantsPlace old n from x
unfolding client_in
wants_place old n from x v is takes j h =
    let a : Standing = standing_of (settings_of old) j n (source_in x) in
    let fate_is = fate_of_reception (settings_of old) a from x (words_ahead old) ∙ fate_there old n from x v a is (standing_there old j n x v h is) in
    let listed_is =
    ap (λ (p : Option Ip6). is_some (peer_at (mentions j.entries) n (unwrap_or p unspecified))) (source_there x v is.payload is.value)
    ∙ ap (λ (p : Option Peer). is_some p) (sym ((read_same old j n h is.clock).peer v.packet.src)) in
    subst (λ (f : Fate). TakesPlace f (is_some (peer_at (mentions j.entries) n (unwrap_or (source_in x) unspecified)))) (sym fate_is)
    (subst (λ (b : Bool). TakesPlace (fate_in old n from v) b) (sym listed_is) takes)
