-- What a relay does with a packet of a native host for a client, by its table.
use Rattle.theory_first_natives.proofs.Words.{Bool, Entry, Fate, Ip6, List, None, Option, Peer, RelayGiven, RelayGoesOut, RelaySettings, RelayStanding, Send, Some, [], ap, bubble_bytes, bubble_to, cond, destination_in, embedded, false, fields_in, from_six, has_cone, has_room, is_barred, is_big, is_full, is_global6, is_packet, is_reachable, is_some, is_spent, is_teredo, known, not, packet_given, refl, relay_given, relay_given_of, relay_mentions, relay_queues, relay_six, relay_standing_at, relay_standing_of, relay_transmission, relay_transmission_row, relay_transmission_step, same_ip, send, server_ep, server_in, subst, sym, true, unspecified, unwrap_or, wordless_entry, ℕ, ◌||◌, ◌∙◌, ◌∷◌, ◌≡◌}
use Rattle.teredo_node.specs.declared.fate.Fate.TheVariants as fate
use Rattle.theory_first_natives.proofs.tables.NativeTables.{goes_to_trusted, goes_to_cone, waits_at_relay}

-- THE ENTRY

-- a packet that a relay is given
pub record GivenPacket : Type 0 where
  pub s : RelaySettings
  pub j : List Entry
  pub n : ℕ
  pub x : List ℕ
  pub is_one : is_packet x ≡ true

module _ (given_packet : GivenPacket) where
  open given_packet use {s, j, n, x, is_one}

  abbrev to : Ip6
  to = (fields_in x).dst

  abbrev standing_for : RelayStanding
  standing_for = relay_standing_at j n to

  abbrev given_here : RelayGiven
  given_here = relay_given_of s standing_for true (fields_in x)

  destination : destination_in x ≡ Some to
  unfolding destination_in
  destination = ap (λ (b : Bool). cond b (Some (fields_in x).dst) None) is_one

  whole : packet_given x ≡ Some x
  unfolding packet_given
  whole = ap (λ (b : Bool). cond b (Some x) None) is_one

  stands : relay_standing_of j n (destination_in x) ≡ standing_for
  stands = ap (λ (o : Option Ip6). relay_standing_at j n (unwrap_or o unspecified)) destination

  row_is : relay_transmission_row (relay_given s (relay_standing_of j n (destination_in x)) x) ≡ relay_transmission_row given_here
  unfolding relay_given
  row_is =
      ap (λ (a : RelayStanding). relay_transmission_row (relay_given_of s a (is_packet x) (fields_in x))) stands
      ∙ ap (λ (b : Bool). relay_transmission_row (relay_given_of s standing_for b (fields_in x))) is_one

  -- the entry with the fate of the row
  pub entry_six : (f : Fate) → relay_transmission_row given_here ≡ f
      → relay_six s j n x ≡ wordless_entry n (from_six x) (Some x) (Some to) (relay_transmission_step s standing_for x to f)
  unfolding relay_six relay_transmission
  entry_six f is =
      ap (λ (g : Fate). wordless_entry n (from_six x) (packet_given x) (destination_in x)
      (relay_transmission_step s (relay_standing_of j n (destination_in x)) x to g)) (row_is ∙ is)
      ∙ ap (λ (a : RelayStanding). wordless_entry n (from_six x) (packet_given x) (destination_in x) (relay_transmission_step s a x to f)) stands
      ∙ ap (λ (o : Option Ip6). wordless_entry n (from_six x) (packet_given x) o (relay_transmission_step s standing_for x to f)) destination
      ∙ ap (λ (o : Option (List ℕ)). wordless_entry n (from_six x) o (Some to) (relay_transmission_step s standing_for x to f)) whole

  -- a packet from outside Teredo for a client that can be reached, and isn't the relay itself
  pub record IsForClient : Type 0 where
    pub short : is_big (fields_in x) ≡ false
    pub teredo : is_teredo to ≡ true
    pub native : is_teredo (fields_in x).src ≡ false
    pub global : is_global6 (fields_in x).src ≡ true
    pub reachable : is_reachable s.policy to ≡ true
    pub unlooped : same_ip (embedded to).ip s.at.ip ≡ false

  goes_out : IsForClient → RelayGoesOut given_here
  goes_out is = record {
    packet = refl;
    short = is.short;
    teredo = is.teredo;
    foreign_source = ap (λ (b : Bool). not (b || not (is_global6 (fields_in x).src))) is.native ∙ ap (λ (b : Bool). not (not b)) is.global;
    reachable = is.reachable;
    unlooped = is.unlooped;
  }

  -- what is known of the client
  abbrev peer : Peer
  peer = known (relay_mentions j) n to

  -- what the relay did: the entry says this
  pub record Gives (f : Fate) (xs : List Send) (e : Entry) : Type 0 where
    pub fate : e.step.fate ≡ f
    pub sends : e.step.sends ≡ xs
    pub packet : e.packet ≡ Some x
    pub about : e.peer ≡ Some to
    pub moment : e.moment ≡ n
    pub nothing : e.step.six ≡ None
    pub asked : e.input ≡ from_six x

  -- to a client that it trusts it goes at once
  pub goes_at_once : IsForClient → is_some peer.trusted ≡ true → Gives fate.Sent (send (embedded to) x ∷ []) (relay_six s j n x)
  unfolding relay_standing_at
  goes_at_once is trusted = subst (Gives fate.Sent (send (embedded to) x ∷ [])) (sym (entry_six fate.Sent
      (goes_to_trusted given_here (record { out = goes_out is; trusted = trusted }))))
      (record { fate = refl; sends = refl; packet = refl; about = refl; moment = refl; nothing = refl; asked = refl })

  -- so it does to a cone client
  pub goes_to_a_cone : IsForClient → is_some peer.trusted ≡ false → has_room (relay_mentions j) n to ≡ true → has_cone to ≡ true
      → Gives fate.SentCone (send (embedded to) x ∷ []) (relay_six s j n x)
  unfolding relay_standing_at
  goes_to_a_cone is untrusted room cone = subst (Gives fate.SentCone (send (embedded to) x ∷ [])) (sym (entry_six fate.SentCone
      (goes_to_cone given_here (record { out = goes_out is; untrusted = untrusted; room = room; cone = cone }))))
      (record { fate = refl; sends = refl; packet = refl; about = refl; moment = refl; nothing = refl; asked = refl })

  bubble_is : bubble_to s to ≡ send (server_ep (server_in to)) (bubble_bytes s.six to)
  unfolding bubble_to
  bubble_is = refl

  -- else it waits, and a bubble goes out
  pub waits_there : IsForClient → is_some peer.trusted ≡ false → has_room (relay_mentions j) n to ≡ true → has_cone to ≡ false → is_spent n peer ≡ false
      → is_full peer ≡ false → is_barred n peer ≡ false
      → Gives fate.Queued (send (server_ep (server_in to)) (bubble_bytes s.six to) ∷ []) (relay_six s j n x)
  unfolding relay_standing_at
  waits_there is untrusted room plain unspent free may =
      subst (Gives fate.Queued (send (server_ep (server_in to)) (bubble_bytes s.six to) ∷ [])) (sym (entry_six fate.Queued
      (waits_at_relay given_here (record { out = goes_out is; untrusted = untrusted; room = room; no_cone = plain; unspent = unspent; free = free }))))
      (subst (λ (b : Bool). Gives fate.Queued (send (server_ep (server_in to)) (bubble_bytes s.six to) ∷ [])
      (wordless_entry n (from_six x) (Some x) (Some to) (relay_queues b s to))) (sym may)
      (record { fate = refl; sends = ap (λ (z : Send). z ∷ []) bubble_is; packet = refl; about = refl; moment = refl; nothing = refl; asked = refl }))
