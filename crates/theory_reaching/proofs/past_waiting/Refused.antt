-- What a client does with a bubble through its server whose source it may not try yet: nothing, and all that it keeps for it stays.
use Rattle.theory_reaching.proofs.Words.{Bearing, Bool, Entry, Ep, Fate, Ip6, IsForHere, IsHere, Journal, Keeps, List, Mention, None, Peer, Policy, ReadsPayload, Seen, Settings, Some, Strict, Value, Words, [], address_is, address_stays, advert_row, and_from, ap, bearing_of, bubble_formed, bubble_message, bubble_of, bubble_small, client_in, cond, embedded, entry_here, false, has_room, is_advert, is_barred, is_bubble, is_changed, is_confirmed, is_from_server, is_keyed, is_teredo, is_trusted_at, is_usable, known, mention, mentions, next_mentions, no_bearing, not, or_left, own_address, qualification, reception_row, refl, same_ep, same_ep-self, same_ip6, same_ip6-self, seen_of, server_ep, standing_at, subst, sym, true, turn, value_written, with_entry, ℕ, ◌||◌, ◌∙◌, ◌∷◌, ◌≡◌}
use Rattle.std.proofs.lemmas.List.{append-nil}
use Rattle.teredo_node.specs.declared.fate.Fate.TheVariants as fate
use Rattle.peer_list.specs.Laws.{after}
use Rattle.theory_first_packets.proofs.tables.Received.{seen_here}
use Rattle.theory_reaching.proofs.entries.KnownAfter.{keeps, barred_still}
use Rattle.theory_reaching.proofs.clients.Unheard.{as_much_room}

-- THE TABLE

-- a bubble through the server, of a peer for whom the client is barred
record IsTooSoon (a : Seen) : Type 0 where
  here : IsForHere a
  server : a.from_server ≡ true
  well_formed : a.ill_formed ≡ false
  no_advert : a.advert ≡ false
  bubble : a.bubble ≡ true
  origin : a.origin ≡ true
  good : a.good_origin ≡ true
  barred : a.peer.barred ≡ true

refused : (a : Seen) (told_by : Fate) → IsTooSoon a → reception_row a told_by ≡ fate.Barred
refused a told_by is =
    let here = is.here in
    rw (
      here.payload,
      here.unkeyed,
      here.unconfirmed,
      here.short,
      is.server,
      is.well_formed,
      is.no_advert,
      is.bubble,
      is.origin,
      here.qualified,
      here.mine,
      here.from_another,
      is.good,
      here.room,
      is.barred,
    ) refl

-- THE ENTRY

-- a client may not answer a peer yet that is at this endpoint
pub record MayNotAnswer (s : Settings) (j : Journal) (n : ℕ) (own peer : Ip6) (at : Ep) : Type 0 where
  pub here : IsHere s j own
  pub strict : s.policy ≡ Strict
  pub usable : is_usable Strict at ≡ true
  pub origin : (not (is_teredo peer) || same_ep at (embedded peer)) ≡ true
  pub other : same_ip6 peer own ≡ false
  pub room : has_room (mentions j.entries) n peer ≡ true
  pub barred : is_barred n (known (mentions j.entries) n peer) ≡ true

module _ (s : Settings) (j : Journal) (n : ℕ) (own peer : Ip6) (at : Ep) (may : MayNotAnswer s j n own peer at) where
  abbrev told : Value
  told = value_written None (Some at) (bubble_of peer own)

  own_is : own_address (qualification s j) ≡ own
  own_is = address_is s j own may.here.address

  unkeyed : is_keyed told.lead ≡ false
  unfolding is_keyed
  unkeyed = refl

  unconfirmed : is_confirmed told.lead ≡ false
  unfolding is_confirmed
  unconfirmed = refl

  from_primary : is_from_server s (server_ep s.primary) ≡ true
  unfolding is_from_server
  from_primary = or_left (same_ep (server_ep s.primary) (server_ep s.primary)) (same_ep (server_ep s.primary) (server_ep s.secondary))
      (same_ep-self (server_ep s.primary))

  too_soon : is_bubble (bubble_of peer own) ≡ true → IsTooSoon (seen_of s (standing_at s j n peer) (server_ep s.primary) true told)
  unfolding standing_at
  too_soon bubble = record {
    here = record {
      payload = refl;
      unkeyed = unkeyed;
      unconfirmed = unconfirmed;
      short = bubble_small peer own;
      qualified = may.here.qualified;
      mine = ap (same_ip6 own) own_is ∙ same_ip6-self own;
      from_another = ap (same_ip6 peer) own_is ∙ may.other;
      room = may.room;
    };
    server = from_primary;
    well_formed = bubble_formed peer own;
    no_advert = ap is_advert (bubble_message peer own);
    bubble = bubble;
    origin = refl;
    good = and_from (is_usable s.policy at) (not (is_teredo peer) || same_ep at (embedded peer))
        (ap (λ (z : Policy). is_usable z at) may.strict ∙ may.usable) may.origin;
    barred = may.barred;
  }

  -- it sends nothing
  pub record Refuses (e : Entry) : Type 0 where
    pub barred : e.step.fate ≡ fate.Barred
    pub sends : e.step.sends ≡ []
    pub about : e.peer ≡ Some peer
    pub moment : e.moment ≡ n

  pub refuses_it : (x : List ℕ) → ReadsPayload told x → is_bubble (bubble_of peer own) ≡ true → (w : Words)
      → Refuses (client_in s j n (server_ep s.primary) x w)
  unfolding standing_at
  refuses_it x reads bubble w =
      subst Refuses (sym (entry_here s j n (server_ep s.primary) x told reads w
      (refused (seen_here s j n (server_ep s.primary) x told reads) (advert_row s (standing_at s j n peer).qualification (server_ep s.primary) told)
      (too_soon bubble))))
      (record { barred = refl; sends = refl; about = refl; moment = refl })

-- WHAT IT LEAVES

-- an entry by which the client is barred for a peer
pub record BarredEntry : Type 0 where
  pub s : Settings
  pub j : Journal
  pub n : ℕ
  pub peer : Ip6
  pub e : Entry
  pub barred : e.step.fate ≡ fate.Barred
  pub moment : e.moment ≡ n

module _ (barred_entry : BarredEntry) where
  open barred_entry use {s, j, n, peer, e, barred, moment}

  none : (mention e).bearing ≡ no_bearing
  none = ap (λ (f : Fate). bearing_of f e) barred

  mentions_are : mentions (e ∷ j.entries) ≡ mention e ∷ mentions j.entries
  mentions_are = next_mentions e j.entries ∙ ap (λ (f : Fate). cond (is_changed f) [] (mention e ∷ mentions j.entries)) barred

  -- what is so of the peer, however it was touched
  module _ (waiting : List (List ℕ)) (trusted : Bool) (before : Keeps j n peer waiting trusted) where
    abbrev Same : Peer → Type 0
    Same k = (k.waiting ≡ waiting) × (is_trusted_at (embedded peer) k ≡ trusted)

    unchanged : (k : Peer) → Same k → Same (after (mention e) k)
    unfolding is_trusted_at
    unchanged k so = subst (λ (z : Bearing). Same (after (record (mention e) { bearing = z }) k)) (sym none) (append-nil k.waiting ∙ so.0, so.1)

    same : Same (known (mention e ∷ mentions j.entries) n peer)
    same = keeps (mention e) (mentions j.entries) n peer moment Same unchanged (before.waits, before.trust)

    -- by what is mentioned
    abbrev KeptBy : List Mention → Type 0
    KeptBy ms = (has_room ms n peer ≡ true) × Same (known ms n peer)

    then : KeptBy (mentions (e ∷ j.entries))
    then = subst KeptBy (sym mentions_are) (
      as_much_room (mention e) (mentions j.entries) n (ap (λ (z : Bearing). z.touches) none) peer ∙ before.room,
      same,
    )

    pub keeps_all : Keeps (with_entry j e) n peer waiting trusted
    keeps_all = record { room = then.0; waits = then.1.0; trust = then.1.1 }

  pub still_barred : is_barred n (known (mentions j.entries) n peer) ≡ true → is_barred n (known (mentions (e ∷ j.entries)) n peer) ≡ true
  still_barred h = subst (λ (ms : List Mention). is_barred n (known ms n peer) ≡ true) (sym mentions_are)
      (barred_still (mention e) (mentions j.entries) n peer moment (ap (λ (z : Bearing). z.hears) none) h)

  pub same_address : (qualification s (with_entry j e)).address ≡ (qualification s j).address
  same_address = address_stays s j e (ap turn barred)
