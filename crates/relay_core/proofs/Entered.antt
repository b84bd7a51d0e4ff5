-- One entry more: what a relay then stands for.
use Rattle.relay_core.proofs.Words.{Bool, Entry, Ip6, IsQuiet, LISTED_MS, List, MeansNothing, None, Option, Peer, Relay, RelayAsBefore, RelayDoes, RelayEnters, RelayKeepsAll, RelayStandsFor, Some, StandsForMentions, Table, Updates, [], after, ap, bears_nothing, concerns_peer, empty_table, false, given, has_cone, idle_stands, if◌then◌else◌, is_within, just, kept_stands, known_to, le_refl, le_trans, next_stands, no_peer, peer_in, quiet_if, quiet_none, refl, relay_mention, relay_mentions, relay_settings_of, same_ip6, same_ip6-true, subst, sym, true, unwrap_or, while_listed, wordless_entry, ℕ, ◌∙◌, ◌∷◌, ◌≡◌, ◌≤◌}
use Rattle.teredo_node.specs.declared.fate.Fate.TheVariants as fate

-- WHO IS QUIET

abbrev AreQuiet : Table → Type 0
AreQuiet t = (n : ℕ) (p : Ip6) → t.moment ≤ n → has_cone p ≡ true → IsQuiet (known_to t n p)

-- a table that is changed so
record StaysQuiet (old new : Table) (m : ℕ) (who : Ip6) (peer : Peer) : Type 0 where
  pub clock : old.moment ≤ m
  pub update : Updates old new m who peer
  pub quiet : has_cone who ≡ true → IsQuiet peer

quiet_next : (old new : Table) (m : ℕ) (who : Ip6) (peer : Peer) → StaysQuiet old new m who peer → AreQuiet old → AreQuiet new
quiet_next old new m who peer s before n p l cone = by_who (same_ip6 p who) refl where
  by_who : (b : Bool) → same_ip6 p who ≡ b → IsQuiet (known_to new n p)
  by_who true is =
      subst (λ (o : Option Peer). IsQuiet (unwrap_or o no_peer)) (sym (s.update.view n p (subst (λ (k : ℕ). k ≤ n) s.update.moment l) ∙ ap (λ (t : Bool). if t then while_listed n peer else peer_in old n p) is))
      (quiet_if (is_within LISTED_MS n peer.touched) peer (s.quiet (subst (λ (q : Ip6). has_cone q ≡ true) (same_ip6-true p who is) cone)))
  by_who false is =
      subst (λ (o : Option Peer). IsQuiet (unwrap_or o no_peer)) (sym (s.update.view n p (subst (λ (k : ℕ). k ≤ n) s.update.moment l) ∙ ap (λ (t : Bool). if t then while_listed n peer else peer_in old n p) is))
      (before n p (le_trans s.clock (subst (λ (k : ℕ). k ≤ n) s.update.moment l)) cone)

-- nobody is listed at first
pub nobody_stands : (r : Relay) → r.peers ≡ empty_table → StandsForMentions r.peers [] → RelayStandsFor r []
unfolding relay_mentions peer_in
nobody_stands r is stands = record {
  peers = stands;
  quiet = λ n p l cone. subst (λ (t : Table). IsQuiet (known_to t n p)) (sym is) quiet_none;
}

-- ONE ENTRY MORE

-- what an entry means for its peer
pub record RelayBears (old : Relay) (e : Entry) (who : Ip6) (new : Relay) : Type 0 where
  pub peer : e.peer ≡ Some who
  pub concerns : concerns_peer (relay_mention e).bearing ≡ true
  pub clock : old.peers.moment ≤ e.moment
  pub peers : Updates old.peers new.peers e.moment who (after (relay_mention e) (known_to old.peers e.moment who))
  pub quiet : has_cone who ≡ true → IsQuiet (known_to old.peers e.moment who) → IsQuiet (after (relay_mention e) (known_to old.peers e.moment who))

pub bears_stands : (old new : Relay) (e : Entry) (who : Ip6) → RelayBears old e who new → (j : List Entry) → RelayStandsFor old j → RelayStandsFor new (e ∷ j)
unfolding relay_mentions
bears_stands old new e who b j h = record {
  peers = next_stands old.peers new.peers (relay_mention e) (relay_mentions j) who h.peers b.clock b.peer b.concerns b.peers;
  quiet = quiet_next old.peers new.peers e.moment who (after (relay_mention e) (known_to old.peers e.moment who))
      (record { clock = b.clock; update = b.peers; quiet = λ cone. b.quiet cone (h.quiet e.moment who b.clock cone) }) h.quiet;
}

-- this is known of a peer then, and all else is as it was
pub record RelayOnlyPeers (old : Relay) (n : ℕ) (who : Ip6) (peer : Peer) (new : Relay) : Type 0 where
  pub clock : old.peers.moment ≤ n
  pub peers : Updates old.peers new.peers n who peer
  pub settings : relay_settings_of new ≡ relay_settings_of old

-- for each journal, where that may rest on what it stands for
pub bears_enters : (old new : Relay) (e : Entry) (who : Ip6) (peer : Peer) → RelayOnlyPeers old e.moment who peer new
    → ((j : List Entry) → RelayStandsFor old j → RelayBears old e who new) → RelayEnters old e new
bears_enters old new e who peer o b = record {
  stands = λ j h. bears_stands old new e who (b j h) j h;
  settings = o.settings;
  clock = subst (λ (n : ℕ). n ≤ e.moment) (sym o.peers.moment) (le_refl e.moment);
}

-- an entry that means nothing for a peer: the relay is the same
pub none_stands : (r : Relay) (e : Entry) → MeansNothing (relay_mention e) → (j : List Entry) → RelayStandsFor r j → RelayStandsFor r (e ∷ j)
unfolding relay_mentions
none_stands r e idle j h = record { peers = idle_stands r.peers (relay_mention e) (relay_mentions j) h.peers idle; quiet = h.quiet }

pub none_enters : (r : Relay) (e : Entry) → MeansNothing (relay_mention e) → r.peers.moment ≤ e.moment → RelayEnters r e r
none_enters r e idle clock = record { stands = none_stands r e idle; settings = refl; clock = clock }

-- REFUSALS

-- whatever keeps all stays as it was
pub keeps_stays : (old new : Relay) (n : ℕ) → old.peers.moment ≤ n → RelayKeepsAll old n new → RelayAsBefore old new
keeps_stays old new n clock k = record {
  stands = λ j h. record {
    peers = kept_stands old.peers new.peers n (relay_mentions j) h.peers clock k.peers;
    quiet = λ m p l cone.
        let later : n ≤ m = subst (λ (i : ℕ). i ≤ m) k.peers.moment l in
        subst (λ (o : Option Peer). IsQuiet (unwrap_or o no_peer)) (sym (k.peers.view m p later)) (h.quiet m p (le_trans clock later) cone);
  };
  settings = k.settings;
}

-- the entry of a packet of a host, which a relay doesn't have
pub takes_no_host : (r : Relay) (n : ℕ) (x : List ℕ) → r.peers.moment ≤ n → RelayDoes r n (given x) (just fate.Idle) r
takes_no_host r n x l =
    let entered = none_enters r (wordless_entry n (given x) None None (just fate.Idle)) (bears_nothing refl) l in
    record { did = λ j h. refl; stands = entered.stands; settings = refl; clock = l }
