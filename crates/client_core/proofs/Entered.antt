-- One entry more: what a client then stands for.
use Rattle.client_core.proofs.Words.{AsBefore, Bool, Client, ClientStandsFor, Does, Enters, Entry, Ip6, Journal, KeepsAll, List, MeansNothing, Mention, None, QualifierStandsFor, QualifierState, Some, StandsForMentions, Table, Updates, [], after, after_words, ap, bears_nothing, concerns_peer, entry, false, from_six, idle_stands, if◌then◌else◌, is_changed, just, keeps_still, kept_stands, known_to, le_refl, mention, mentions, next_mentions, next_stands, qualification, refl, says_nothing, stands_by, stands_whole, subst, sym, true, turn_of, with_entry, words_ahead, ℕ, ◌∙◌, ◌∷◌, ◌≡◌, ◌≤◌}
use Rattle.teredo_node.specs.declared.fate.Fate.TheVariants as fate

-- QUALIFICATION

-- an entry that says nothing of it leaves it
pub still_stands : (q : QualifierState) (j : Journal) (e : Entry) → turn_of e ≡ says_nothing → QualifierStandsFor q j → QualifierStandsFor q (with_entry j e)
still_stands q j e quiet h = stands_by q (with_entry j e) (stands_whole q j h ∙ sym (keeps_still q.settings j e quiet))

-- PEERS

-- an entry of the same epoch is one further mention
mentioned : (e : Entry) (j : List Entry) → is_changed e.step.fate ≡ false → mentions (e ∷ j) ≡ mention e ∷ mentions j
mentioned e j same = next_mentions e j ∙ ap (λ (b : Bool). if b then [] else mention e ∷ mentions j) same

-- a change of address ends all
pub changed : (e : Entry) (j : List Entry) → is_changed e.step.fate ≡ true → mentions (e ∷ j) ≡ []
changed e j it = next_mentions e j ∙ ap (λ (b : Bool). if b then [] else mention e ∷ mentions j) it

-- an entry that means nothing for a peer leaves them
pub peers_idle : (t : Table) (j : List Entry) (e : Entry) → is_changed e.step.fate ≡ false → MeansNothing (mention e) → StandsForMentions t (mentions j) → StandsForMentions t (mentions (e ∷ j))
peers_idle t j e same idle h = subst (λ (ms : List Mention). StandsForMentions t ms) (sym (mentioned e j same)) (idle_stands t (mention e) (mentions j) h idle)

-- what an entry means for its peer
pub record OfPeer (old : Client) (e : Entry) (who : Ip6) (new : Client) : Type 0 where
  pub peer : e.peer ≡ Some who
  pub epoch : is_changed e.step.fate ≡ false
  pub concerns : concerns_peer (mention e).bearing ≡ true
  pub clock : old.peers.moment ≤ e.moment
  pub peers : Updates old.peers new.peers e.moment who (after (mention e) (known_to old.peers e.moment who))

-- and nothing else
pub record Bears (old : Client) (e : Entry) (who : Ip6) (new : Client) : Type 0 where
  pub of_peer : OfPeer old e who new
  pub quiet : turn_of e ≡ says_nothing
  pub qualifier : new.qualifier ≡ old.qualifier
  pub place : new.rng ≡ after_words e.step.drawn old.rng

pub peers_on : (old new : Client) (e : Entry) (who : Ip6) → OfPeer old e who new → (j : Journal) → ClientStandsFor old j → StandsForMentions new.peers (mentions (e ∷ j.entries))
peers_on old new e who b j h =
    subst (λ (ms : List Mention). StandsForMentions new.peers ms) (sym (mentioned e j.entries b.epoch))
    (next_stands old.peers new.peers (mention e) (mentions j.entries) who h.peers b.clock b.peer b.concerns b.peers)

pub bears_enters : (old new : Client) (e : Entry) (who : Ip6) → Bears old e who new → Enters old e new
bears_enters old new e who b = record {
  stands = λ j h. record {
    qualification = still_stands new.qualifier j e b.quiet (subst (λ (q : QualifierState). QualifierStandsFor q j) (sym b.qualifier) h.qualification);
    peers = peers_on old new e who b.of_peer j h;
  };
  place = b.place;
  settings = ap (λ (q : QualifierState). q.settings) b.qualifier;
  clock = subst (λ (n : ℕ). n ≤ e.moment) (sym b.of_peer.peers.moment) (le_refl e.moment);
}

-- an entry that means nothing at all: the client is the same
pub record MeansNone (c : Client) (e : Entry) : Type 0 where
  pub idle : MeansNothing (mention e)
  pub epoch : is_changed e.step.fate ≡ false
  pub quiet : turn_of e ≡ says_nothing
  pub clock : c.peers.moment ≤ e.moment
  pub drawn : e.step.drawn ≡ 0

pub none_enters : (c : Client) (e : Entry) → MeansNone c e → Enters c e c
unfolding after_words
none_enters c e b = record {
  stands = λ j h. record {
    qualification = still_stands c.qualifier j e b.quiet h.qualification;
    peers = peers_idle c.peers j.entries e b.epoch b.idle h.peers;
  };
  place = sym (ap (λ (n : ℕ). after_words n c.rng) b.drawn);
  settings = refl;
  clock = b.clock;
}

-- the entry of a packet of the IPv6 side does
pub takes_no_six : (c : Client) (n : ℕ) (x : List ℕ) → c.peers.moment ≤ n → Does c n (from_six x) (just fate.Idle) c
takes_no_six c n x l =
    let e : Entry = entry n (from_six x) None None (words_ahead c) (just fate.Idle) in
    let entered = none_enters c e (record { idle = bears_nothing refl; epoch = refl; quiet = refl; clock = l; drawn = refl }) in
    record { did = λ j h. refl; stands = entered.stands; place = entered.place; settings = refl; clock = l }

-- REFUSALS

-- whatever keeps all stays as it was
pub keeps_stays : (old new : Client) (n : ℕ) → old.peers.moment ≤ n → KeepsAll old n new → AsBefore old new
keeps_stays old new n clock k = record {
  stands = λ j h. record {
    qualification = subst (λ (q : QualifierState). QualifierStandsFor q j) (sym k.qualifier) h.qualification;
    peers = kept_stands old.peers new.peers n (mentions j.entries) h.peers clock k.peers;
  };
  words = k.rng;
  settings = ap (λ (q : QualifierState). q.settings) k.qualifier;
}
