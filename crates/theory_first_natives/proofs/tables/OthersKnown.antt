-- What a client knows of its other peers after an entry that touches one of them.
use Rattle.theory_first_natives.proofs.Words.{Bool, Entry, Ip6, LISTED_MS, List, Mention, Option, PEERS_MAX, Peer, Some, [], ap, cond, false, has_room, is_about, is_changed, is_listed, is_peer, is_younger, known, length, listed, mention, mentions, next_mentions, no_peer, one_entry, other_way, peer_at, peer_if, same_ip6, true, unwrap_or, ℕ, ◌+◌, ◌∙◌, ◌∷◌, ◌≡◌, ◌≤◌}
use Rattle.theory_first_natives.proofs.tables.OneMoreListed.{others_stay, room_beside}

-- the entry is about p, touches it, and changes no address
module _ (e : Entry) (es : List Entry) (n : ℕ) {p : Ip6} (about : e.peer ≡ Some p)
    (keeps : is_changed e.step.fate ≡ false) (touches : (mention e).bearing.touches ≡ true) where
  mentions_are : mentions (e ∷ es) ≡ mention e ∷ mentions es
  mentions_are = next_mentions e es ∙ ap (λ (b : Bool). cond b [] (mention e ∷ mentions es)) keeps

  -- whether another one is listed stays
  pub others_listed : (q : Ip6) → same_ip6 p q ≡ false → is_listed q n (mentions (e ∷ es)) ≡ is_listed q n (mentions es)
  others_listed q apart = ap (λ (ms : List Mention). is_listed q n ms) mentions_are ∙ others_stay (mention e) (mentions es) n about touches q apart

  -- so does what is known of it
  pub others_known : (q : Ip6) → same_ip6 p q ≡ false → known (mentions (e ∷ es)) n q ≡ known (mentions es) n q
  others_known q apart = ap (λ (ms : List Mention). known ms n q) mentions_are
      ∙ ap (λ (o : Option Peer). unwrap_or o no_peer) (one_entry (mention e) (mentions es) n q
      ∙ ap (λ (b : Bool). peer_if b (mention e).bearing.touches (is_younger LISTED_MS n e.moment) (mention e) (peer_at (mentions es) e.moment q)
      (peer_at (mentions es) n q)) no_about) where
        no_about : is_about q (mention e) ≡ false
        no_about = ap (is_peer q) about ∙ other_way p q apart

  -- room for it, beside that peer where neither is listed, is room for it then
  pub others_room : (q : Ip6) → same_ip6 p q ≡ false → has_room (mentions es) n q ≡ true
      → (is_listed q n (mentions es) ≡ false → is_listed p n (mentions es) ≡ false → length (listed (mentions es) n) + 2 ≤ PEERS_MAX)
      → has_room (mentions (e ∷ es)) n q ≡ true
  others_room q apart room two = ap (λ (ms : List Mention). has_room ms n q) mentions_are
      ∙ room_beside (mention e) (mentions es) n about touches q apart room two
