-- The one fact on a latest peer names it, and where an entry of the wire came from.
use Rattle.follow_writer.proofs.Words.{Bool, Fact, Ip6, IsOnLatest, Item, List, Mention, None, Option, PeerFact, Some, [], ap, client_knows, false, if◌then◌else◌, input_of, latest_peer, map, option_to_list, peer_fact, peer_fact_of, refl, relay_knows, six, source_of, source_of_item, sym, true, udp, ℕ, ◌∙◌, ◌∷◌, ◌≡◌}

-- THE LATEST PEER

-- whom the one fact of a list is on
abbrev pub who_in : Ip6 → List Fact → Ip6
who_in d (client_knows x ∷ fs) = x.who
who_in d (relay_knows x ∷ fs) = x.who
who_in d _ = d

-- the one mention that a fact is on is of its peer
pub same_peer : (knows : PeerFact → Fact) → ((d : Ip6) (x : PeerFact) (fs : List Fact) → who_in d (knows x ∷ fs) ≡ x.who) → (j : List Mention) (k : ℕ) (b : Bool) (peer : Option Ip6) (facts : List Fact)
    → facts ≡ map (λ (p : Ip6). knows (peer_fact_of j k p)) (option_to_list (if b then peer else None)) → IsOnLatest knows j k facts → peer ≡ latest_peer j
same_peer knows told j k b peer facts is one = by b peer is where
  by : (b : Bool) (peer : Option Ip6) → facts ≡ map (λ (p : Ip6). knows (peer_fact_of j k p)) (option_to_list (if b then peer else None)) → peer ≡ latest_peer j
  by false peer none = let e : [] ≡ knows (peer_fact k one.who one.peer) ∷ [] = sym none ∙ one.is in absurd (cc e)
  by true None none = let e : [] ≡ knows (peer_fact k one.who one.peer) ∷ [] = sym none ∙ one.is in absurd (cc e)
  by true (Some p) some =
      let e : knows (peer_fact_of j k p) ∷ [] ≡ knows (peer_fact k one.who one.peer) ∷ [] = sym some ∙ one.is in
      let same : p ≡ one.who = sym (told p (peer_fact_of j k p) []) ∙ ap (who_in p) e ∙ told p (peer_fact k one.who one.peer) [] in
      ap (λ (q : Ip6). Some q) same ∙ sym one.latest

-- WHERE THE DATAGRAM CAME FROM

pub source_of_input : (x : Item) → source_of (input_of x) ≡ source_of_item x
source_of_input (udp src dst bytes) = refl
source_of_input (six to bytes) = refl
