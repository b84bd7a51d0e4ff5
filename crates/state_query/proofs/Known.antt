-- What is known of an address that is listed, and of one that isn't.
use Rattle.std.proofs.Common.{Bool, List, None, Option, Some, ap, false, refl, subst, sym, true, ℕ, ◌∙◌, ◌≡◌}
use Rattle.std.specs.Prelude.{is_some, option_map, unwrap_or}
use Rattle.std.proofs.lemmas.Bool.{false≢true}
use Rattle.std.proofs.lemmas.Option.{same_Some}
use Rattle.td_base.specs.declared.ipv6.Ip6.{Ip6}
use Rattle.peer_list.specs.Mentions.{Mention, latest_peer}
use Rattle.peer_list.specs.Listed.{is_listed}
use Rattle.peer_list.specs.Peers.{Peer, no_peer, peer_at, known}
use Rattle.peer_list.proofs.LawProofs.{listed_is_known}
use Rattle.topology.specs.Rows.{TopologyState}
use Rattle.states.specs.Facts.{PeerFact, Fact}
use Rattle.states.specs.Kept.{peer_fact, at_node}
use Rattle.states.specs.StateLines.{fact_line}
use Rattle.state_query.specs.OwnFacts.{TellsFact}
use Rattle.states.specs.PeerFates.{IsOnLatest, IsOnLatestIf}
use Rattle.state_query.specs.PeerFacts.{listed_fact, TellsFacts}

same_option : (a b : Option Peer) → unwrap_or a no_peer ≡ unwrap_or b no_peer → is_some a ≡ is_some b → a ≡ b
same_option None None known listed = refl
same_option (Some p) (Some q) known listed = ap (λ (x : Peer). Some x) known
same_option None (Some q) known listed = absurd (false≢true listed)
same_option (Some p) None known listed = absurd (false≢true (sym listed))

-- what was found of an address at a moment, after these mentions
pub record IsFound (j : List Mention) (n : ℕ) (who : Ip6) (o : Option Peer) : Type 0 where
  pub peer : unwrap_or o no_peer ≡ known j n who
  pub there : is_some o ≡ is_listed who n j

found : (j : List Mention) (n : ℕ) (who : Ip6) (o : Option Peer) → IsFound j n who o → o ≡ peer_at j n who
found j n who o is = same_option o (peer_at j n who) is.peer (is.there ∙ sym (listed_is_known j n who))

-- an address that isn't listed has no line
pub told_nobody : (t : TopologyState) (i : Option ℕ) (n k : ℕ) (who : Ip6) (knows : PeerFact → Fact) (j : List Mention) (line : List ℕ)
    → IsFound j n who None → TellsFact t i n k (listed_fact knows j n who) false line
told_nobody t i n k who knows j line is =
    subst (λ (o : Option Peer). TellsFact t i n k (option_map (λ (p : Peer). knows (peer_fact n who p)) o) false line) (found j n who None is) refl

-- one that is listed has the line on it
pub told_peer : (t : TopologyState) (i : Option ℕ) (n k : ℕ) (who : Ip6) (knows : PeerFact → Fact) (j : List Mention) (line : List ℕ) (peer : Peer)
    → IsFound j n who (Some peer) → line ≡ fact_line t i n (at_node k (knows (peer_fact n who peer))) → TellsFact t i n k (listed_fact knows j n who) true line
told_peer t i n k who knows j line peer is tells =
    subst (λ (o : Option Peer). TellsFact t i n k (option_map (λ (p : Peer). knows (peer_fact n who p)) o) true line) (found j n who (Some peer) is) (refl, tells)

-- the line on a node's latest peer, which it lists, tells the fact on that
pub told_latest : (t : TopologyState) (i : Option ℕ) (n k : ℕ) (who : Ip6) (knows : PeerFact → Fact) (j : List Mention) (facts : List Fact) (told : Bool) (line : List ℕ)
    → IsOnLatest knows j n facts → Some who ≡ latest_peer j → TellsFact t i n k (listed_fact knows j n who) told line → TellsFacts t i n k facts told line
told_latest t i n k who knows j facts told line one latest tells =
    let same : who ≡ one.who = same_Some who one.who (latest ∙ one.latest) in
    let known : peer_at j n who ≡ Some one.peer = ap (peer_at j n) same ∙ one.listed in
    let of_peer : TellsFact t i n k (Some (knows (peer_fact n who one.peer))) told line =
    subst (λ (o : Option Peer). TellsFact t i n k (option_map (λ (p : Peer). knows (peer_fact n who p)) o) told line) known tells in
    subst (λ (fs : List Fact). TellsFacts t i n k fs told line) (sym one.is)
    (of_peer.0, of_peer.1 ∙ ap (λ (p : Ip6). fact_line t i n (at_node k (knows (peer_fact n p one.peer)))) same, refl)

-- where the fate is of a peer
pub one_if : (b : Bool) (knows : PeerFact → Fact) (j : List Mention) (n : ℕ) (facts : List Fact) → b ≡ true → IsOnLatestIf b knows j n facts → IsOnLatest knows j n facts
one_if b knows j n facts is one = subst (λ (c : Bool). IsOnLatestIf c knows j n facts) is one

-- then there is a latest peer
pub no_latest : {A : Type 0} (knows : PeerFact → Fact) (j : List Mention) (n : ℕ) (facts : List Fact) → IsOnLatest knows j n facts → None ≡ latest_peer j → A
no_latest knows j n facts one none = absurd (false≢true (ap is_some (none ∙ one.latest)))
