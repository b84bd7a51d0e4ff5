-- What a client does with a packet of its host for somebody else, by its table.
use Rattle.theory_first_packets.proofs.Words.{Bool, Entry, Ep, Fate, Given, GoesLater, GoesOut, GoesToCone, GoesToFresh, Ip6, Journal, List, None, Option, Settings, Some, Standing, Words, [], ap, client_out, cond, destination_in, entry, false, fields_in, given, given_of, is_fresh, is_packet, known, map, mentions, option_to_list, packet_given, refl, send, standing_at, standing_of, subst, sym, transmission_row, transmission_step, true, unspecified, unwrap_or, ℕ, ◌∙◌, ◌∷◌, ◌≡◌}
use Rattle.teredo_node.specs.declared.fate.Fate.TheVariants as fate
use Rattle.client_rules.specs.Transmission as transmission

-- to a fresh destination it goes at once
fresh_is_sent : (a : Given) → GoesToFresh a → transmission_row a ≡ fate.Sent
fresh_is_sent a is =
    let out = is.out in
    rw (out.qualified, out.packet, out.short, out.own_source, out.global, out.no_bubble, out.foreign, out.reachable, is.fresh) refl

-- so it does where the other is cone
pub sent_at_once : (a : Given) → GoesToCone a → transmission_row a ≡ fate.SentCone
sent_at_once a is =
    let out = is.out in
    rw (out.qualified, out.packet, out.short, out.own_source, out.global, out.no_bubble, out.foreign, out.reachable, is.stale, is.cone) refl

-- else it waits
pub waits_for_it : (a : Given) → GoesLater a → transmission_row a ≡ fate.Queued
waits_for_it a is =
    let out = is.out in
    rw (
      out.qualified,
      out.packet,
      out.short,
      out.own_source,
      out.global,
      out.no_bubble,
      out.foreign,
      out.reachable,
      is.stale,
      is.no_cone,
      is.room,
      is.unspent,
      is.free,
    ) refl

-- and where there is no room for it, it is dropped
pub no_room_for_it : (a : Given) → GoesOut a → a.fresh ≡ false → a.cone ≡ false → a.room ≡ false → transmission_row a ≡ fate.PeersFull
no_room_for_it a out stale plain room =
    rw (out.qualified, out.packet, out.short, out.own_source, out.global, out.no_bubble, out.foreign, out.reachable, stale, plain, room) refl

-- THE ENTRY

module _ (s : Settings) (j : Journal) (n : ℕ) (x : List ℕ) (is_one : is_packet x ≡ true) where
  abbrev pub standing_for : Standing
  standing_for = standing_at s j n (fields_in x).dst

  abbrev pub given_here : Given
  given_here = given_of s standing_for true (fields_in x)

  destination : destination_in x ≡ Some (fields_in x).dst
  unfolding destination_in
  destination = ap (λ (b : Bool). cond b (Some (fields_in x).dst) None) is_one

  whole : packet_given x ≡ Some x
  unfolding packet_given
  whole = ap (λ (b : Bool). cond b (Some x) None) is_one

  -- what its table sees is what it knows of the destination
  pub stands_for : standing_of s j n (destination_in x) ≡ standing_for
  stands_for = ap (λ (o : Option Ip6). standing_at s j n (unwrap_or o unspecified)) destination

  row_is : transmission_row (transmission.given s (standing_of s j n (destination_in x)) x) ≡ transmission_row given_here
  unfolding transmission.given
  row_is =
      ap (λ (a : Standing). transmission_row (given_of s a (is_packet x) (fields_in x))) stands_for
      ∙ ap (λ (b : Bool). transmission_row (given_of s standing_for b (fields_in x))) is_one

  -- the entry with the fate of the row
  pub entry_given : (w : Words) (f : Fate) → transmission_row given_here ≡ f
      → client_out s j n x w ≡ entry n (given x) (Some x) (Some (fields_in x).dst) w (transmission_step s standing_for x (fields_in x).dst w f)
  unfolding client_out transmission.transmission
  entry_given w f is =
      ap (λ (g : Fate). entry n (given x) (packet_given x) (destination_in x) w
      (transmission_step s (standing_of s j n (destination_in x)) x (fields_in x).dst w g)) (row_is ∙ is)
      ∙ ap (λ (a : Standing). entry n (given x) (packet_given x) (destination_in x) w (transmission_step s a x (fields_in x).dst w f)) stands_for
      ∙ ap (λ (o : Option Ip6). entry n (given x) (packet_given x) o w (transmission_step s standing_for x (fields_in x).dst w f)) destination
      ∙ ap (λ (o : Option (List ℕ)). entry n (given x) o (Some (fields_in x).dst) w (transmission_step s standing_for x (fields_in x).dst w f)) whole

  -- where its destination is fresh it goes to where that one is trusted
  pub sent_there : {at : Ep} → GoesOut given_here → is_fresh n (known (mentions j.entries) n (fields_in x).dst) ≡ true
      → (known (mentions j.entries) n (fields_in x).dst).trusted ≡ Some at → (w : Words) → (client_out s j n x w).step.sends ≡ send at x ∷ []
  unfolding standing_at
  sent_there {at} out fresh trusted w = subst (λ (e : Entry). e.step.sends ≡ send at x ∷ [])
      (sym (entry_given w fate.Sent (fresh_is_sent given_here (record { out = out; fresh = fresh }))))
      (ap (λ (o : Option Ep). map (λ (z : Ep). send z x) (option_to_list o)) trusted)
