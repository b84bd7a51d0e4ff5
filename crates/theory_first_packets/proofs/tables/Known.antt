-- What a client knows of a peer after an entry that touches it, at the moment of the entry.
use Rattle.theory_first_packets.proofs.Words.{Bool, Entry, Ep, Fate, Ip6, LISTED_MS, List, Mention, Option, PEERS_MAX, Peer, Some, TRIES_MAX, TRY_GAP_MS, WAITING_MAX, [], after, ap, bearing_of, cond, false, filter, has_room, is_barred, is_changed, is_ep, is_full, is_listed, is_peer, is_some, is_spent, is_trusted_at, is_younger, known, length, list_any, listed, listed_is_known, mention, mentions, nat_le, nat_lt, next_mentions, no_peer, one_entry, option_or, option_to_list, or_left, or_parts, peer_at, peer_if, refl, same_ip6-self, sym, tries_after, true, unwrap_or, young_now, young_tries, ℕ, ◌++◌, ◌||◌, ◌∙◌, ◌∷◌, ◌≡◌}

-- an entry about p at a moment, which touches p and changes no address
pub record Touches (e : Entry) (n : ℕ) (p : Ip6) : Type 0 where
  pub peer : e.peer ≡ Some p
  pub moment : e.moment ≡ n
  pub keeps : is_changed e.step.fate ≡ false
  pub touches : (bearing_of e.step.fate e).touches ≡ true

-- a mention that touches a peer is the latest of what is known of it
pub seen_by_touch : (e : Mention) (j : List Mention) (n : ℕ) (p : Ip6) → e.peer ≡ Some p → e.moment ≡ n → e.bearing.touches ≡ true
    → peer_at (e ∷ j) n p ≡ Some (after e (known j n p))
seen_by_touch e j n p about moment touches =
    one_entry e j n p
    ∙ ap (λ (b : Bool). peer_if b e.bearing.touches (is_younger LISTED_MS n e.moment) e (peer_at j e.moment p) (peer_at j n p))
    (ap (is_peer p) about ∙ same_ip6-self p)
    ∙ ap (λ (b : Bool). peer_if true b (is_younger LISTED_MS n e.moment) e (peer_at j e.moment p) (peer_at j n p)) touches
    ∙ ap (λ (b : Bool). peer_if true true b e (peer_at j e.moment p) (peer_at j n p)) (ap (is_younger LISTED_MS n) moment ∙ young_now n)
    ∙ ap (λ (m : ℕ). Some (after e (unwrap_or (peer_at j m p) no_peer))) moment

module _ (e : Entry) (es : List Entry) (n : ℕ) (p : Ip6) (is : Touches e n p) where
  abbrev before : Peer
  before = known (mentions es) n p

  -- the entry is the latest of what is known
  seen_after : peer_at (mentions (e ∷ es)) n p ≡ Some (after (mention e) before)
  seen_after =
      ap (λ (ms : List Mention). peer_at ms n p) (next_mentions e es ∙ ap (λ (b : Bool). cond b [] (mention e ∷ mentions es)) is.keeps)
      ∙ seen_by_touch (mention e) (mentions es) n p is.peer is.moment is.touches

  -- what is known then
  pub known_after : known (mentions (e ∷ es)) n p ≡ after (mention e) before
  known_after = ap (λ (o : Option Peer). unwrap_or o no_peer) seen_after

  -- it is listed then
  pub listed_after : is_listed p n (mentions (e ∷ es)) ≡ true
  listed_after = sym (listed_is_known (mentions (e ∷ es)) n p) ∙ ap (λ (o : Option Peer). is_some o) seen_after

  -- so it has room
  pub room_after : has_room (mentions (e ∷ es)) n p ≡ true
  unfolding has_room
  room_after = or_left (is_listed p n (mentions (e ∷ es))) (nat_lt (length (listed (mentions (e ∷ es)) n)) PEERS_MAX) listed_after

  -- the packets that wait
  abbrev waits_by : Fate → List (List ℕ)
  waits_by f = cond ((bearing_of f e).hears || (bearing_of f e).gives_up) [] (before.waiting ++ option_to_list (bearing_of f e).queues)

  pub waits_after : (f : Fate) → e.step.fate ≡ f → (known (mentions (e ∷ es)) n p).waiting ≡ waits_by f
  waits_after f same = ap (λ (k : Peer). k.waiting) known_after ∙ ap waits_by same

  -- where it is trusted
  abbrev trusts_by : Fate → Option Ep
  trusts_by f = option_or (bearing_of f e).trusts before.trusted

  pub trusted_after : (from : Ep) (f : Fate) → e.step.fate ≡ f → is_trusted_at from (known (mentions (e ∷ es)) n p) ≡ is_ep from (trusts_by f)
  unfolding is_trusted_at
  trusted_after from f same = ap (λ (k : Peer). is_ep from k.trusted) known_after ∙ ap (λ (g : Fate). is_ep from (trusts_by g)) same

  -- one that was trusted there still is, and one that wasn't still isn't
  pub trusted_before : (from : Ep) → is_ep from before.trusted ≡ is_trusted_at from before
  unfolding is_trusted_at
  trusted_before from = refl

  -- the tries
  abbrev tries_by : Fate → List ℕ
  tries_by f = tries_after (bearing_of f e).hears (bearing_of f e).tries e.moment before.tries

  pub tried_after : (f : Fate) → e.step.fate ≡ f → (known (mentions (e ∷ es)) n p).tries ≡ tries_by f
  tried_after f same = ap (λ (k : Peer). k.tries) known_after ∙ ap tries_by same

-- one that wasn't tried isn't barred
abbrev barred_by : ℕ → List ℕ → Bool
barred_by n ms = nat_le TRIES_MAX (length (filter (is_younger LISTED_MS n) ms)) || list_any (is_younger TRY_GAP_MS n) (filter (is_younger LISTED_MS n) ms)

pub untried : (n : ℕ) (peer : Peer) → peer.tries ≡ [] → is_barred n peer ≡ false
unfolding is_barred is_spent
untried n peer none = ap (barred_by n) none

-- A PEER THAT MAY BE TRIED

-- one that isn't barred isn't spent
pub not_spent : (n : ℕ) (k : Peer) → is_barred n k ≡ false → is_spent n k ≡ false
unfolding is_barred
not_spent n k may = (or_parts (is_spent n k) (list_any (is_younger TRY_GAP_MS n) (young_tries n k)) may).0

-- where nothing waits, more may
pub not_full : (k : Peer) → k.waiting ≡ [] → is_full k ≡ false
unfolding is_full
not_full k none = ap (λ (ws : List (List ℕ)). nat_le WAITING_MAX (length ws)) none

-- A PEER FOR WHICH THERE IS NO ROOM

-- one of whom nothing is known is trusted nowhere
pub no_trust : (from : Ep) → is_trusted_at from no_peer ≡ false
unfolding is_trusted_at
no_trust from = refl
