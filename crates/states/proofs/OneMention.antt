-- A mention that concerns a peer, which is listed then.
use Rattle.std.proofs.Common.{◌≡◌, ℕ, Bool, true, false, List, [], ◌∷◌, Option, Some, None, refl, ap, cond, ◌∙◌, ◌&&◌}
use Rattle.std.specs.Prelude.{◌||◌, if◌then◌else◌, is_some, option_map, option_to_list, unwrap_or, map}
use Rattle.std.specs.Option.{option_or}
use Rattle.std.proofs.lemmas.Bool.{false≢true, and_parts}
use Rattle.td_base.specs.declared.ipv6.Ip6.{Ip6}
use Rattle.td_base.specs.Ip6.{same_ip6-self}
use Rattle.teredo_node.specs.declared.fate.Fate.{Fate}
use Rattle.teredo_node.specs.declared.fate.Fate.TheVariants as fate
use Rattle.teredo_node.specs.Rows.{first_line}
use Rattle.peer_list.specs.Mentions.{Mention, is_peer, is_about, concerns_peer, latest_peer}
use Rattle.peer_list.specs.Peers.{Peer, no_peer, peer_at, known}
use Rattle.peer_list.specs.Laws.{after}
use Rattle.peer_list.proofs.LawProofs.{of_a_touch, of_no_touch}
use Rattle.peer_list.proofs.TableLemmas.{young_now}
use Rattle.states.specs.Facts.{PeerFact, Fact}
use Rattle.states.specs.Kept.{peer_fact, peer_fact_of}
use Rattle.states.specs.PeerFates.{IsOnLatest}

-- after these mentions one more concerns this peer
pub record ConcernsOne (j : List Mention) (m : Mention) : Type 0 where
  pub who : Ip6
  pub about : m.peer ≡ Some who
  pub concerns : concerns_peer m.bearing ≡ true
  pub peer : Peer
  pub listed : peer_at (m ∷ j) m.moment who ≡ Some peer

about_it : (m : Mention) (who : Ip6) → m.peer ≡ Some who → is_about who m ≡ true
about_it m who about = ap (is_peer who) about ∙ same_ip6-self who

-- one that touches it
pub by_touch : (j : List Mention) (m : Mention) (who : Ip6) → m.peer ≡ Some who → m.bearing.touches ≡ true → ConcernsOne j m
by_touch j m who about touches = record {
  who = who;
  about = about;
  concerns = ap (λ (b : Bool). b || (is_some m.bearing.holds || m.bearing.gives_up)) touches;
  peer = after m (known j m.moment who);
  listed = of_a_touch m j m.moment who (about_it m who about) touches
      ∙ ap (λ (b : Bool). if b then Some (after m (known j m.moment who)) else None) (young_now m.moment);
}

some_of : (o : Option Peer) → is_some o ≡ true → o ≡ Some (unwrap_or o no_peer)
some_of None there = absurd (false≢true there)
some_of (Some p) there = refl

-- one that doesn't, of one that was listed
pub by_listed : (j : List Mention) (m : Mention) (who : Ip6) → m.peer ≡ Some who → m.bearing.touches ≡ false → concerns_peer m.bearing ≡ true
    → is_some (peer_at j m.moment who) ≡ true → ConcernsOne j m
by_listed j m who about touches concerns there = record {
  who = who;
  about = about;
  concerns = concerns;
  peer = after m (known j m.moment who);
  listed = of_no_touch m j m.moment who (about_it m who about) touches ∙ ap (option_map (after m)) (some_of (peer_at j m.moment who) there);
}

-- so the latest peer is that one
pub on_latest : (j : List Mention) (m : Mention) (knows : PeerFact → Fact) → ConcernsOne j m
    → IsOnLatest knows (m ∷ j) m.moment (map (λ (p : Ip6). knows (peer_fact_of (m ∷ j) m.moment p)) (option_to_list (if concerns_peer m.bearing then m.peer else None)))
on_latest j m knows one =
    let it : (if concerns_peer m.bearing then m.peer else None) ≡ Some one.who = ap (λ (b : Bool). if b then m.peer else None) one.concerns ∙ one.about in
    record {
      who = one.who;
      latest = ap (λ (o : Option Ip6). option_or o (latest_peer j)) it;
      peer = one.peer;
      listed = one.listed;
      is = ap (λ (o : Option Ip6). map (λ (p : Ip6). knows (peer_fact_of (m ∷ j) m.moment p)) (option_to_list o)) it
          ∙ ap (λ (o : Option Peer). knows (peer_fact m.moment one.who (unwrap_or o no_peer)) ∷ []) one.listed;
    }

-- one that concerns nobody
pub on_nobody : (j : List Mention) (n : ℕ) (m : Mention) (knows : PeerFact → Fact) → concerns_peer m.bearing ≡ false
    → map (λ (p : Ip6). knows (peer_fact_of j n p)) (option_to_list (if concerns_peer m.bearing then m.peer else None)) ≡ []
on_nobody j n m knows none = ap (λ (b : Bool). map (λ (p : Ip6). knows (peer_fact_of j n p)) (option_to_list (if b then m.peer else None))) none

-- TABLES

-- the outcome of each line passes
abbrev pub all_pass : (Fate → Bool) → List (Bool × Fate) → Bool
all_pass test [] = true
all_pass test (line ∷ lines) = test line.1 && all_pass test lines

first_by : (test : Fate → Bool) (b : Bool) (f g : Fate) → test f ≡ true → test g ≡ true → test (cond b f g) ≡ true
first_by test true f g one rest = one
first_by test false f g one rest = rest

-- so the table's does
pub first_passes : (test : Fate → Bool) (lines : List (Bool × Fate)) (last : Fate) → all_pass test lines ≡ true → test last ≡ true → test (first_line lines last) ≡ true
first_passes test [] last all end = end
first_passes test (line ∷ lines) last all end =
    let parts = and_parts (test line.1) (all_pass test lines) all in
    first_by test line.0 line.1 (first_line lines last) parts.0 (first_passes test lines last parts.1 end)

-- a fate that isn't of giving up
abbrev pub goes_on : Fate → Bool
goes_on fate.GiveUp = false
goes_on _ = true

-- nor of holding alone
abbrev pub no_hold : Fate → Bool
no_hold fate.GiveUp = false
no_hold fate.Held = false
no_hold _ = true
