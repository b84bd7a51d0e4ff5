-- What a client's host is handed, at once or late, came from a peer itself: in no datagram of the client's server.
use Rattle.theory_origins.proofs.Words.{Bool, Entry, Ep, Fate, HandingRule, Heard, HoldingRule, Input, IsDirect, IsJournal, Journal, List, None, Option, ReceivedOnlyIf, Seen, Settings, Some, Words, ap, arrived, client_entry, client_in, cond, drop, false, fate_of_reception, heard, held, held_test, is_bubble, is_from_server, is_payload, own_address, packet_in, qualification, reception_fate, reception_is_warranted, rule1, rule3, same_ip6-true, seen, source_in, standing_at, standing_of, subst, sym, true, unwrap_or, value_in, with_entry, ℕ, ◌∙◌, ◌≡◌}

-- the fates by which a packet of a peer itself is handed over, or held
pub data DirectRule (f : Fate) : Type 0 where
  hands : HandingRule f → DirectRule f
  holds : HoldingRule f → DirectRule f

-- datagram y, which came from there after this journal, is a packet for the client, no bubble, and not the server's
pub record IsCameDirect (s : Settings) (j : Journal) (from : Ep) (y : List ℕ) : Type 0 where
  pub payload : is_payload y ≡ true
  pub no_bubble : is_bubble (value_in y).packet ≡ false
  pub mine : (value_in y).packet.dst ≡ own_address (qualification s j)
  pub direct : is_from_server s from ≡ false

-- BY THE FATE

direct_by : (f : Fate) (a : Seen) (h : Heard) → DirectRule f → ReceivedOnlyIf f a h → IsDirect a × (a.bubble ≡ false)
direct_by f a h (hands (rule1 is)) only = let w = subst (λ (g : Fate). ReceivedOnlyIf g a h) is only in (w.direct, w.kind)
direct_by f a h (hands (rule3 is)) only = let w = subst (λ (g : Fate). ReceivedOnlyIf g a h) is only in (w.direct, w.kind)
direct_by f a h (holds (held_test is)) only = let w = subst (λ (g : Fate). ReceivedOnlyIf g a h) is only in (w.direct, w.no_bubble)
direct_by f a h (holds (held is)) only = let w = subst (λ (g : Fate). ReceivedOnlyIf g a h) is only in (w.direct, w.no_bubble)

module _ (s : Settings) (j : Journal) (m : ℕ) (from : Ep) (y : List ℕ) where
  came : (w : Words) → DirectRule (client_in s j m from y w).step.fate → IsCameDirect s j from y
  unfolding client_in standing_at seen
  came w rule =
      let a = standing_of s j m (source_in y) in
      let f = reception_fate s a from y in
      let both = direct_by f (seen s a from y) (heard s a.qualification from (value_in y)) (subst DirectRule (fate_of_reception s a from y w) rule)
      (reception_is_warranted s a from y) in
      record {
        payload = both.0.mine.sound.payload;
        no_bubble = both.1;
        mine = same_ip6-true (value_in y).packet.dst (own_address (qualification s j)) both.0.mine.mine;
        direct = both.0.direct;
      }

-- OF AN ENTRY

module _ (s : Settings) (j : Journal) (e : Entry) (follows : IsJournal s (with_entry j e)) (from : Ep) (y : List ℕ)
    (input : e.input ≡ arrived from y) where
  entry_is : e ≡ client_in s j e.moment from y follows.0.words
  entry_is = follows.0.is ∙ ap (λ (i : Input). client_entry s j e.moment i follows.0.words) input

  pub came_direct : DirectRule e.step.fate → IsCameDirect s j from y
  came_direct rule = came s j e.moment from y follows.0.words (subst (λ (z : Entry). DirectRule z.step.fate) entry_is rule)

-- the packet of such an entry is the end of the datagram
pub packet_of : {s : Settings} (j : Journal) (e : Entry) → IsJournal s (with_entry j e) → (from : Ep) (y : List ℕ) {x : List ℕ} → e.input ≡ arrived from y
    → is_payload y ≡ true → e.packet ≡ Some x → x ≡ drop (value_in y).lead.at y
unfolding client_in packet_in
packet_of {s} j e follows from y {x} input payload has =
    let is : e ≡ client_in s j e.moment from y follows.0.words = follows.0.is ∙ ap (λ (i : Input). client_entry s j e.moment i follows.0.words) input in
    let in_it : Some x ≡ Some (drop (value_in y).lead.at y) = sym has ∙ ap (λ (z : Entry). z.packet) is
    ∙ ap (λ (b : Bool). cond b (Some (drop (value_in y).lead.at y)) None) payload in
    ap (λ (o : Option (List ℕ)). unwrap_or o x) in_it
