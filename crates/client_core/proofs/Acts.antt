-- What is done with a payload by one line.
use Rattle.client_core.proofs.Words.{Client, DropsDatagram, Entry, Ep, Fate, IsDatagramOf, IsOfServer, Journal, List, None, OnlyPeers, Option, Peer, QualifierStandsFor, QualifierState, Some, Span, Step, TakesPayload, Updates, Value, [], after, after_words, ap, arith, bears_nothing, calls_of_an_entry, concerns_peer, direct_bubble, entry_about, false, hands_late, heard_at, is_changed, just, known_to, le_refl, length, map, mention, option_to_list, origin_in, own_address, reception_step, refl, releases, rest_of, says_nothing, sending, settings_of, standing_in, subst, sym, tried_at, true, trusted_at, turn, with_entry, words_ahead, ℕ, ◌+◌, ◌-◌, ◌∷◌, ◌≡◌, ◌≤◌}
use Rattle.teredo_node.specs.declared.fate.Fate.TheVariants as fate
use Rattle.client_core.proofs.Entered.{bears_enters, peers_on, none_enters}

-- what the line of a fate did with a payload, and that of its source this is known then
pub record Acts (old : Client) (n : ℕ) (from : Ep) (v : Value) (f : Fate) (new : Client) : Type 0 where
  pub step : Step
  pub peer : Peer
  pub did : (x : List ℕ) → IsDatagramOf x v → step ≡ reception_step (settings_of old) (standing_in old n v.packet.src) from x v (words_ahead old) f
  pub clock : old.peers.moment ≤ n
  pub peers : Updates old.peers new.peers n v.packet.src peer
  pub means : (x : List ℕ) → IsDatagramOf x v → after (mention (entry_about old n from x v.packet.src step)) (known_to old.peers n v.packet.src) ≡ peer
  pub concerns : (x : List ℕ) → IsDatagramOf x v → concerns_peer (mention (entry_about old n from x v.packet.src step)).bearing ≡ true
  pub epoch : is_changed step.fate ≡ false
  pub quiet : turn step.fate ≡ says_nothing
  pub qualifier : new.qualifier ≡ old.qualifier
  pub place : new.rng ≡ after_words step.drawn old.rng

pub acts_receives : (old new : Client) (n : ℕ) (from : Ep) (v : Value) (f : Fate) (a : Acts old n from v f new)
    → TakesPayload old n from v f a.step new
acts_receives old new n from v f a = record {
  did = λ j x h is. a.did x is;
  stands = λ j x h is. (bears_enters old new (entry_about old n from x v.packet.src a.step) v.packet.src (record {
    of_peer = record {
      peer = refl;
      epoch = a.epoch;
      concerns = a.concerns x is;
      clock = a.clock;
      peers = subst (λ (p : Peer). Updates old.peers new.peers n v.packet.src p) (sym (a.means x is)) a.peers;
    };
    quiet = a.quiet;
    qualifier = a.qualifier;
    place = a.place;
  })).stands j h;
  place = a.place;
  settings = ap (λ (q : QualifierState). q.settings) a.qualifier;
  clock = subst (λ (m : ℕ). m ≤ n) (sym a.peers.moment) (le_refl n);
}

-- nothing is done
pub drops : (c : Client) (n : ℕ) (from : Ep) (v : Value) (f : Fate) → c.peers.moment ≤ n → DropsDatagram f → TakesPayload c n from v f (just f) c
unfolding after_words
drops c n from v f l d = record {
  did = λ j x h is. sym (d.step (settings_of c) (standing_in c n v.packet.src) from x v (words_ahead c));
  stands = λ j x h is. (none_enters c (entry_about c n from x v.packet.src (just f)) (record {
    idle = bears_nothing (d.nothing.bearing (entry_about c n from x v.packet.src (just f)));
    epoch = d.nothing.epoch;
    quiet = d.nothing.turn;
    clock = l;
    drawn = refl;
  })).stands j h;
  place = refl;
  settings = refl;
  clock = l;
}

-- the rest of a datagram is its packet
rest_is : (x : List ℕ) (v : Value) → IsDatagramOf x v → rest_of v.lead.at x ≡ record { at = v.lead.at; len = 40 + length v.packet.body }
rest_is x v is =
    let len : length x - v.lead.at ≡ 40 + length v.packet.body = omega (arith, is.of.inside) in
    ap (λ (n : ℕ). record { at = v.lead.at; len = n }) len

abbrev pub heard : Client → ℕ → Value → Peer
heard c n v = heard_at n (known_to c.peers n v.packet.src)

abbrev pub trusted : Client → ℕ → Ep → Value → Peer
trusted c n from v = heard_at n (trusted_at n from (known_to c.peers n v.packet.src))

abbrev pub released : Client → ℕ → Ep → Value → Fate → Step
released c n from v f = sending f (releases from (known_to c.peers n v.packet.src).waiting)

abbrev pub heard_there : Client → ℕ → Ep → Value → Fate → Step
heard_there c n from v f = record (released c n from v f) { gone = length (known_to c.peers n v.packet.src).held }

abbrev pub handed_over : Client → ℕ → Ep → Value → Fate → Step
handed_over c n from v f = record (released c n from v f) { handed = Some (record { at = v.lead.at; len = 40 + length v.packet.body }) }

abbrev pub handed_there : Client → ℕ → Ep → Value → Step
handed_there c n from v = record (heard_there c n from v fate.Rule1) { handed = Some (record { at = v.lead.at; len = 40 + length v.packet.body }) }

pub rule1 : (old new : Client) (n : ℕ) (from : Ep) (v : Value) → OnlyPeers old n v.packet.src (heard old n v) new → TakesPayload old n from v fate.Rule1 (handed_there old n from v) new
unfolding after_words
rule1 old new n from v o =
    acts_receives old new n from v fate.Rule1 (record {
      step = handed_there old n from v;
      peer = heard old n v;
      did = λ x is. ap (λ (s : Span). record (heard_there old n from v fate.Rule1) { handed = Some s }) (sym (rest_is x v is));
      clock = o.clock;
      peers = o.peers;
      means = λ x is. (calls_of_an_entry n (known_to old.peers n v.packet.src) (Some v.packet.src)).hear;
      concerns = λ x is. refl;
      epoch = refl;
      quiet = refl;
      qualifier = o.qualifier;
      place = o.rng;
    })

pub rule1_bubble : (old new : Client) (n : ℕ) (from : Ep) (v : Value) → OnlyPeers old n v.packet.src (heard old n v) new → TakesPayload old n from v fate.Rule1Bubble (heard_there old n from v fate.Rule1Bubble) new
unfolding after_words
rule1_bubble old new n from v o =
    acts_receives old new n from v fate.Rule1Bubble (record {
      step = heard_there old n from v fate.Rule1Bubble;
      peer = heard old n v;
      did = λ x is. refl;
      clock = o.clock;
      peers = o.peers;
      means = λ x is. (calls_of_an_entry n (known_to old.peers n v.packet.src) (Some v.packet.src)).hear;
      concerns = λ x is. refl;
      epoch = refl;
      quiet = refl;
      qualifier = o.qualifier;
      place = o.rng;
    })

pub rule2 : (old new : Client) (n : ℕ) (from : Ep) (v : Value) → OnlyPeers old n v.packet.src (trusted old n from v) new → TakesPayload old n from v fate.Rule2 (hands_late from (known_to old.peers n v.packet.src)) new
unfolding after_words
rule2 old new n from v o =
    acts_receives old new n from v fate.Rule2 (record {
      step = hands_late from (known_to old.peers n v.packet.src);
      peer = trusted old n from v;
      did = λ x is. refl;
      clock = o.clock;
      peers = o.peers;
      means = λ x is. (calls_of_an_entry n (known_to old.peers n v.packet.src) (Some v.packet.src)).trust_and_hear from;
      concerns = λ x is. refl;
      epoch = refl;
      quiet = refl;
      qualifier = o.qualifier;
      place = o.rng;
    })

pub rule3 : (old new : Client) (n : ℕ) (from : Ep) (v : Value) → OnlyPeers old n v.packet.src (trusted old n from v) new → TakesPayload old n from v fate.Rule3 (handed_over old n from v fate.Rule3) new
unfolding after_words
rule3 old new n from v o =
    acts_receives old new n from v fate.Rule3 (record {
      step = handed_over old n from v fate.Rule3;
      peer = trusted old n from v;
      did = λ x is. ap (λ (s : Span). record (released old n from v fate.Rule3) { handed = Some s }) (sym (rest_is x v is));
      clock = o.clock;
      peers = o.peers;
      means = λ x is. (calls_of_an_entry n (known_to old.peers n v.packet.src) (Some v.packet.src)).trust_and_hear from;
      concerns = λ x is. refl;
      epoch = refl;
      quiet = refl;
      qualifier = o.qualifier;
      place = o.rng;
    })

pub rule3_bubble : (old new : Client) (n : ℕ) (from : Ep) (v : Value) → OnlyPeers old n v.packet.src (trusted old n from v) new → TakesPayload old n from v fate.Rule3Bubble (released old n from v fate.Rule3Bubble) new
unfolding after_words
rule3_bubble old new n from v o =
    acts_receives old new n from v fate.Rule3Bubble (record {
      step = released old n from v fate.Rule3Bubble;
      peer = trusted old n from v;
      did = λ x is. refl;
      clock = o.clock;
      peers = o.peers;
      means = λ x is. (calls_of_an_entry n (known_to old.peers n v.packet.src) (Some v.packet.src)).trust_and_hear from;
      concerns = λ x is. refl;
      epoch = refl;
      quiet = refl;
      qualifier = o.qualifier;
      place = o.rng;
    })

-- a bubble through the server, which goes back to this origin
pub record AnswersBubble (old : Client) (n : ℕ) (v : Value) (to : Ep) (new : Client) : Type 0 where
  pub clock : old.peers.moment ≤ n
  pub origin : origin_in v.lead ≡ Some to
  pub peers : Updates old.peers new.peers n v.packet.src (tried_at n None (known_to old.peers n v.packet.src))
  pub qualified : (j : Journal) (e : Entry) → QualifierStandsFor old.qualifier j → IsOfServer n e → QualifierStandsFor new.qualifier (with_entry j e)
  pub settings : new.qualifier.settings ≡ old.qualifier.settings
  pub rng : new.rng ≡ old.rng

abbrev pub bubble_back : Client → Value → Ep → Step
bubble_back c v to = sending fate.Indirect (direct_bubble (own_address c.qualifier.now) v.packet.src to ∷ [])

pub indirect : (old new : Client) (n : ℕ) (from : Ep) (v : Value) (to : Ep) → AnswersBubble old n v to new → TakesPayload old n from v fate.Indirect (bubble_back old v to) new
unfolding after_words
indirect old new n from v to a = record {
  did = λ j x h is. ap (λ (o : Option Ep). sending fate.Indirect (map (direct_bubble (own_address old.qualifier.now) v.packet.src) (option_to_list o))) (sym a.origin);
  stands = λ j x h is.
      let e = entry_about old n from x v.packet.src (bubble_back old v to) in
      record {
        qualification = a.qualified j e h.qualification (record { moment = refl; renewed = refl });
        peers = peers_on old new e v.packet.src (record {
          peer = refl;
          epoch = refl;
          concerns = refl;
          clock = a.clock;
          peers = subst (λ (p : Peer). Updates old.peers new.peers n v.packet.src p)
              (sym ((calls_of_an_entry n (known_to old.peers n v.packet.src) (Some v.packet.src)).tried None)) a.peers;
        }) j h;
      };
  place = a.rng;
  settings = a.settings;
  clock = subst (λ (m : ℕ). m ≤ n) (sym a.peers.moment) (le_refl n);
}
