-- A bubble that a client is told of by its server: it is answered at once, by a bubble to the origin that the server named.
use Rattle.theory_first_packets.proofs.Words.{Entry, Ep, Ip6, Journal, List, None, Policy, ReadsPayload, Settings, Some, Strict, Value, Words, [], advert_row, and_from, ap, bubble_bytes, bubble_of, client_in, embedded, false, has_room, is_advert, is_barred, is_bubble, is_confirmed, is_from_server, is_keyed, is_teredo, is_usable, known, mentions, not, or_left, own_address, qualification, refl, same_ep, same_ep-self, same_ip6, same_ip6-self, seen_of, send, server_ep, standing_at, subst, sym, true, value_written, ℕ, ◌||◌, ◌∙◌, ◌∷◌, ◌≡◌}
use Rattle.teredo_node.specs.declared.fate.Fate.TheVariants as fate
use Rattle.theory_first_packets.proofs.tables.Received.{IsThroughServer, answered}
use Rattle.theory_first_packets.proofs.tables.Received.{seen_here, entry_here}
use Rattle.theory_first_packets.proofs.passing.Arrivals.{bubble_small, bubble_message, bubble_formed}
use Rattle.theory_first_packets.proofs.passing.OwnAddress.{IsHere, address_is}

-- a client may answer a peer that is at this endpoint: the one in its address, where the peer is a Teredo client
pub record MayAnswer (s : Settings) (j : Journal) (n : ℕ) (own peer : Ip6) (at : Ep) : Type 0 where
  pub here : IsHere s j own
  pub strict : s.policy ≡ Strict
  pub usable : is_usable Strict at ≡ true
  pub origin : (not (is_teredo peer) || same_ep at (embedded peer)) ≡ true
  pub other : same_ip6 peer own ≡ false
  pub room : has_room (mentions j.entries) n peer ≡ true
  pub unbarred : is_barred n (known (mentions j.entries) n peer) ≡ false

module _ (s : Settings) (j : Journal) (n : ℕ) (own peer : Ip6) (at : Ep) (may : MayAnswer s j n own peer at) where
  abbrev told : Value
  told = value_written None (Some at) (bubble_of peer own)

  own_is : own_address (qualification s j) ≡ own
  own_is = address_is s j own may.here.address

  unkeyed : is_keyed told.lead ≡ false
  unfolding is_keyed
  unkeyed = refl

  unconfirmed : is_confirmed told.lead ≡ false
  unfolding is_confirmed
  unconfirmed = refl

  from_primary : is_from_server s (server_ep s.primary) ≡ true
  unfolding is_from_server
  from_primary = or_left (same_ep (server_ep s.primary) (server_ep s.primary)) (same_ep (server_ep s.primary) (server_ep s.secondary))
      (same_ep-self (server_ep s.primary))

  -- what the lines see of it
  through_server : is_bubble (bubble_of peer own) ≡ true → IsThroughServer (seen_of s (standing_at s j n peer) (server_ep s.primary) true told)
  unfolding standing_at
  through_server bubble = record {
    here = record {
      payload = refl;
      unkeyed = unkeyed;
      unconfirmed = unconfirmed;
      short = bubble_small peer own;
      qualified = may.here.qualified;
      mine = ap (same_ip6 own) own_is ∙ same_ip6-self own;
      from_another = ap (same_ip6 peer) own_is ∙ may.other;
      room = may.room;
    };
    server = from_primary;
    well_formed = bubble_formed peer own;
    no_advert = ap is_advert (bubble_message peer own);
    bubble = bubble;
    origin = refl;
    good = and_from (is_usable s.policy at) (not (is_teredo peer) || same_ep at (embedded peer))
        (ap (λ (z : Policy). is_usable z at) may.strict ∙ may.usable) may.origin;
    unbarred = may.unbarred;
  }

  -- it is answered so
  pub record Answers (e : Entry) : Type 0 where
    pub indirect : e.step.fate ≡ fate.Indirect
    pub sends : e.step.sends ≡ send at (bubble_bytes own peer) ∷ []
    pub about : e.peer ≡ Some peer
    pub moment : e.moment ≡ n

  -- by the table
  pub answers_it : {x : List ℕ} → ReadsPayload told x → is_bubble (bubble_of peer own) ≡ true → (w : Words)
      → Answers (client_in s j n (server_ep s.primary) x w)
  unfolding standing_at
  answers_it {x} reads bubble w =
      subst Answers (sym (entry_here s j n (server_ep s.primary) x told reads w
      (answered (seen_here s j n (server_ep s.primary) x told reads) (advert_row s (standing_at s j n peer).qualification (server_ep s.primary) told)
      (through_server bubble))))
      (record {
        indirect = refl;
        sends = ap (λ (z : Ip6). send at (bubble_bytes z peer) ∷ []) own_is;
        about = refl;
        moment = refl;
      })
