-- What a client stands for after a tick about a peer, and after a packet that waits.
use Rattle.client_core.proofs.Words.{Bool, Client, Enters, Ip6, List, None, OnlyPeers, Peer, Send, Settings, Some, Standing, Step, Table, TriesUnless, Updates, Words, [], after, after_words, both_bubbles, calls_of_an_entry, concerns_peer, drawn_words, emptied, entry, false, false≢true, given, has_any, has_cone, if◌then◌else◌, is_changed, is_teredo, just, known_to, mention, nonce_of_words, own_address, queued_at, queues, refl, says_nothing, sending, settings_of, subst, sym, ticked, touch_goes_on, tried_at, tries_by, true, try_fate, try_nonce, try_sends, try_words, turn, words_ahead, ℕ, ◌∷◌, ◌≡◌, ◌≤◌}
use Rattle.teredo_node.specs.declared.fate.Fate.TheVariants as fate
use Rattle.client_core.proofs.Entered.{bears_enters}

-- TICKS

pub gave_up : (old new : Client) (n : ℕ) (who : Ip6) (gone : ℕ) → OnlyPeers old n who (emptied (known_to old.peers n who)) new
    → Enters old (entry n ticked None (Some who) (words_ahead old) (record (just fate.GiveUp) { gone = gone })) new
unfolding after_words
gave_up old new n who gone o =
    bears_enters old new (entry n ticked None (Some who) (words_ahead old) (record (just fate.GiveUp) { gone = gone })) who
    (record {
      of_peer = record {
        peer = refl;
        epoch = refl;
        concerns = refl;
        clock = o.clock;
        peers = subst (λ (p : Peer). Updates old.peers new.peers n who p) (sym (calls_of_an_entry n (known_to old.peers n who) (Some who)).give_up) o.peers;
      };
      quiet = refl;
      qualifier = o.qualifier;
      place = o.rng;
    })

abbrev try_step : Bool → List Send → Step
try_step b sends = record (sending (try_fate b) sends) { drawn = if b then 0 else 2 }

try_means : (n : ℕ) (who : Ip6) (w : Words) (sends : List Send) (known : Peer) (b : Bool)
    → after (mention (entry n ticked None (Some who) w (try_step b sends))) known ≡ tried_at n (nonce_of_words (drawn_words (if b then 0 else 2) w)) known
try_means n who w sends known true = (calls_of_an_entry n known (Some who)).tried None
try_means n who w sends known false = (calls_of_an_entry n known (Some who)).tried (nonce_of_words (drawn_words 2 w))

try_epoch : (b : Bool) → is_changed (try_fate b) ≡ false
try_epoch true = refl
try_epoch false = refl

try_concerns : (n : ℕ) (who : Ip6) (w : Words) (sends : List Send) (b : Bool) → concerns_peer (mention (entry n ticked None (Some who) w (try_step b sends))).bearing ≡ true
try_concerns n who w sends true = refl
try_concerns n who w sends false = refl

try_quiet : (b : Bool) → turn (try_fate b) ≡ says_nothing
try_quiet true = refl
try_quiet false = refl

-- it was tried, by words that were drawn
pub record TriesPeer (old : Client) (n : ℕ) (who : Ip6) (new : Client) : Type 0 where
  pub clock : old.peers.moment ≤ n
  pub peers : Updates old.peers new.peers n who (tried_at n (try_nonce who (words_ahead old)) (known_to old.peers n who))
  pub qualifier : new.qualifier ≡ old.qualifier
  pub place : new.rng ≡ after_words (try_words who) old.rng

pub tried_again : (old new : Client) (n : ℕ) (who : Ip6) (sends : List Send) → TriesPeer old n who new
    → Enters old (entry n ticked None (Some who) (words_ahead old) (record (sending (try_fate (is_teredo who)) sends) { drawn = try_words who })) new
tried_again old new n who sends t =
    bears_enters old new (entry n ticked None (Some who) (words_ahead old) (try_step (is_teredo who) sends)) who
    (record {
      of_peer = record {
        peer = refl;
        epoch = try_epoch (is_teredo who);
        concerns = try_concerns n who (words_ahead old) sends (is_teredo who);
        clock = t.clock;
        peers = subst (λ (p : Peer). Updates old.peers new.peers n who p) (sym (try_means n who (words_ahead old) sends (known_to old.peers n who) (is_teredo who))) t.peers;
      };
      quiet = try_quiet (is_teredo who);
      qualifier = t.qualifier;
      place = t.place;
    })

-- A PACKET THAT WAITS

-- a try sends something
any_bubbles : (cone : Bool) (own p : Ip6) → has_any (both_bubbles cone own p) ≡ true
any_bubbles true own p = refl
any_bubbles false own p = refl

any_try : (b : Bool) (s : Settings) (own p : Ip6) (w : Words) → has_any (tries_by b s own p w) ≡ true
any_try true s own p w = any_bubbles (has_cone own) own p
any_try false s own p w = refl

try_sends_any : (s : Settings) (own p : Ip6) (w : Words) → has_any (try_sends s own p w) ≡ true
unfolding try_sends
try_sends_any s own p w = any_try (is_teredo p) s own p w

abbrev queued_step : Ip6 → List Send → Step
queued_step who sends = record (sending fate.Queued sends) { drawn = try_words who }

queued_means : (n : ℕ) (who : Ip6) (x : List ℕ) (w : Words) (sends : List Send) (known : Peer) → has_any sends ≡ true
    → after (mention (entry n (given x) (Some x) (Some who) w (queued_step who sends))) known ≡ tried_at n (try_nonce who w) (queued_at n x known)
queued_means n who x w [] known any = absurd (false≢true any)
queued_means n who x w (s ∷ sends) known any = (calls_of_an_entry n known (Some who)).wait_tried x (try_nonce who w)

-- the table after a packet that waits, and a try unless the peer is barred
pub record Queued (old : Client) (n : ℕ) (who : Ip6) (x : List ℕ) (barred : Bool) (new : Client) : Type 0 where
  pub clock : old.peers.moment ≤ n
  pub mid : Table
  pub waits : Updates old.peers mid n who (queued_at n x (known_to old.peers n who))
  pub tries : TriesUnless barred mid n who (try_nonce who (words_ahead old)) new.peers
  pub qualifier : new.qualifier ≡ old.qualifier
  pub standing : Standing
  pub place : new.rng ≡ after_words (queues barred (settings_of old) standing who (words_ahead old)).drawn old.rng

pub queued : (old new : Client) (n : ℕ) (who : Ip6) (x : List ℕ) (barred : Bool) (k : Queued old n who x barred new)
    → Enters old (entry n (given x) (Some x) (Some who) (words_ahead old) (queues barred (settings_of old) k.standing who (words_ahead old))) new
queued old new n who x true k =
    bears_enters old new (entry n (given x) (Some x) (Some who) (words_ahead old) (just fate.Queued)) who
    (record {
      of_peer = record {
        peer = refl;
        epoch = refl;
        concerns = refl;
        clock = k.clock;
        peers = subst (λ (p : Peer). Updates old.peers new.peers n who p) (sym ((calls_of_an_entry n (known_to old.peers n who) (Some who)).wait x))
            (subst (λ (t : Table). Updates old.peers t n who (queued_at n x (known_to old.peers n who))) (sym k.tries) k.waits);
      };
      quiet = refl;
      qualifier = k.qualifier;
      place = k.place;
    })
queued old new n who x false k =
    let own : Ip6 = own_address k.standing.qualification in
    let sends = try_sends (settings_of old) own who (words_ahead old) in
    bears_enters old new (entry n (given x) (Some x) (Some who) (words_ahead old) (queued_step who sends)) who
    (record {
      of_peer = record {
        peer = refl;
        epoch = refl;
        concerns = refl;
        clock = k.clock;
        peers = subst (λ (p : Peer). Updates old.peers new.peers n who p)
            (sym (queued_means n who x (words_ahead old) sends (known_to old.peers n who) (try_sends_any (settings_of old) own who (words_ahead old))))
            ((touch_goes_on old.peers k.mid n who (queued_at n x (known_to old.peers n who)) refl k.waits).next new.peers (tried_at n (try_nonce who (words_ahead old))) k.tries);
      };
      quiet = refl;
      qualifier = k.qualifier;
      place = k.place;
    })
