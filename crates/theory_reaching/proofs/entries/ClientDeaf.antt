-- What a client does with a bubble through its server whose source it may not answer yet, or for which it has no room: nothing, and
-- that stays so.
use Rattle.theory_reaching.proofs.Words.{Bearing, Bool, Entry, Ep, Fate, Ip6, Journal, List, Mention, None, ReadsPayload, Seen, Settings, Some, Step, Value, Words, [], advert_row, and_right, ap, arrived, client_in, cond, entry, entry_here, false, has_room, inl, inr, is_advert, is_barred, is_from_server, just, known, mention, mentions, message_in, next_mentions, packet_in, reception_row, refl, standing_at, subst, sym, true, ℕ, ◌&&◌, ◌∙◌, ◌∷◌, ◌≡◌, ◌⊎◌}
use Rattle.teredo_node.specs.declared.fate.Fate.TheVariants as fate
use Rattle.theory_first_packets.proofs.tables.Received.{seen_here}
use Rattle.theory_reaching.proofs.entries.IdleFates.{IsIdleIn, IsAnswered, of_reception}
use Rattle.theory_reaching.proofs.Tests.{never}
use Rattle.theory_reaching.proofs.entries.KnownAfter.{barred_still}
use Rattle.theory_reaching.proofs.clients.Unheard.{as_much_room}

-- THE TABLE

-- it is barred for the peer, or has no room for it
abbrev pub IsClosed : (barred room : Bool) → Type 0
IsClosed barred room = (barred ≡ true) ⊎ (room ≡ false)

module _ (z : Seen) (advert : Fate) (server : z.from_server ≡ true) (no_advert : z.advert ≡ false) (closed : IsClosed z.peer.barred z.peer.room) where
  -- so no bubble is answered
  shut : IsAnswered z → IsIdleIn fate.Indirect
  shut answered = by closed where
    by : IsClosed z.peer.barred z.peer.room → IsIdleIn fate.Indirect
    by (inl barred) = never z.peer.barred barred answered.may
    by (inr full) = never z.peer.room answered.room full

  idle : IsIdleIn (reception_row z advert)
  idle = of_reception IsIdleIn z advert (λ f alone. alone) (λ e. never (z.from_server && z.advert) e (and_right z.from_server z.advert no_advert)) shut
      (λ none. never z.from_server server none)

-- THE ENTRY

-- nothing is sent or handed over, and the client stays closed to the peer
pub record IsDeaf (j : Journal) (n : ℕ) (peer : Ip6) (e : Entry) : Type 0 where
  pub sends : e.step.sends ≡ []
  pub handed : e.step.handed ≡ None
  pub late : e.step.late ≡ []
  pub closed : IsClosed (is_barred n (known (mentions (e ∷ j.entries)) n peer)) (has_room (mentions (e ∷ j.entries)) n peer)

-- what a client reads from its server of a peer to which it is closed
pub record ToDeafClient : Type 0 where
  pub s : Settings
  pub j : Journal
  pub n : ℕ
  pub from : Ep
  pub x : List ℕ
  pub v : Value
  pub reads : ReadsPayload v x
  pub server : is_from_server s from ≡ true
  pub no_advert : is_advert (message_in v.packet) ≡ false
  pub closed : IsClosed (is_barred n (known (mentions j.entries) n v.packet.src)) (has_room (mentions j.entries) n v.packet.src)

-- of a datagram of its server that reads as v, where the client is closed to v's source
module _ (to_deaf_client : ToDeafClient) where
  open to_deaf_client use {s, j, n, from, x, v, reads, server, no_advert, closed}

  abbrev peer : Ip6
  peer = v.packet.src

  abbrev row : Fate
  row = reception_row (seen_here s j n from x v reads) (advert_row s (standing_at s j n peer).qualification from v)

  is_idle : IsIdleIn row
  unfolding standing_at
  is_idle = idle (seen_here s j n from x v reads) (advert_row s (standing_at s j n peer).qualification from v) server no_advert closed

  -- the entry with that fate alone
  abbrev alone : Words → Step → Entry
  alone w step = entry n (arrived from x) (packet_in x) (Some peer) w step

  is_entry : (w : Words) → client_in s j n from x w ≡ alone w (just row)
  is_entry w = entry_here s j n from x v reads w {f = row} refl ∙ ap (alone w) (is_idle.step s (standing_at s j n peer) from x v w)

  abbrev Closed : List Mention → Type 0
  Closed ms = IsClosed (is_barred n (known ms n peer)) (has_room ms n peer)

  stays : (w : Words) → Closed (mentions j.entries) → Closed (mention (alone w (just row)) ∷ mentions j.entries)
  stays w (inl barred) = inl (barred_still (mention (alone w (just row))) (mentions j.entries) n peer refl
      (ap (λ (b : Bearing). b.hears) (is_idle.bearing (alone w (just row)))) barred)
  stays w (inr full) = inr (as_much_room (mention (alone w (just row))) (mentions j.entries) n
      (ap (λ (b : Bearing). b.touches) (is_idle.bearing (alone w (just row)))) peer ∙ full)

  deaf_so : (w : Words) → IsDeaf j n peer (alone w (just row))
  deaf_so w = record {
    sends = refl;
    handed = refl;
    late = refl;
    closed = subst Closed (sym (next_mentions (alone w (just row)) j.entries
        ∙ ap (λ (b : Bool). cond b [] (mention (alone w (just row)) ∷ mentions j.entries)) is_idle.changes)) (stays w closed);
  }

  pub deaf : (w : Words) → IsDeaf j n peer (client_in s j n from x w)
  deaf w = subst (IsDeaf j n peer) (sym (is_entry w)) (deaf_so w)
