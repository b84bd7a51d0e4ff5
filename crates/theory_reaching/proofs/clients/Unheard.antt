-- A client that has no room for another one hears nothing of it, and has no room for it afterwards.
use Rattle.theory_reaching.proofs.Words.{Bearing, Bool, Entry, Ep, Fate, Ip6, Journal, LISTED_MS, List, Mention, None, PEERS_MAX, ReadsPayload, Settings, Some, Step, Value, Words, [], advert_row, ap, arrived, client_in, cond, entry, entry_here, false, filter, filter_agree, find, has_room, is_about, is_advert, is_from_server, is_listed, is_recent_touch, is_teredo, is_touch_of, is_trusted_at, just, known, length, listed, mention, mentions, message_in, nat_lt, next_mentions, no_trust, not_listed, packet_in, reception_row, refl, standing_at, subst, sym, touched, true, unlisted_is_unknown, with_peer, ℕ, ◌&&◌, ◌||◌, ◌∙◌, ◌∷◌, ◌≡◌}
use Rattle.theory_first_packets.proofs.tables.Received.{seen_here}
use Rattle.theory_reaching.proofs.entries.IdleFates.{IsIdleIn}
use Rattle.theory_reaching.proofs.entries.Quiet.{quiet}

-- ROOM

-- an entry that lists nobody leaves who is listed
module _ (e : Mention) (j : List Mention) (n : ℕ) (none : e.bearing.touches ≡ false) where
  no_touch : (p : Ip6) → is_touch_of p e ≡ false
  no_touch p = by (is_about p e) e.bearing.touches none where
    by : (b t : Bool) → t ≡ false → cond b t false ≡ false
    by true t h = h
    by false t h = refl

  pub as_listed : (p : Ip6) → is_listed p n (e ∷ j) ≡ is_listed p n j
  unfolding is_listed
  as_listed p = ap (λ (b : Bool). is_recent_touch LISTED_MS n (cond b (Some e) (find (is_touch_of p) j))) (no_touch p)

  as_touched : touched (e ∷ j) ≡ touched j
  unfolding touched
  as_touched = ap (λ (b : Bool). with_peer (cond b e.peer None) (touched j)) none

  pub all_listed : listed (e ∷ j) n ≡ listed j n
  unfolding listed
  all_listed = ap (filter (λ (p : Ip6). is_listed p n (e ∷ j))) as_touched
      ∙ filter_agree (λ (p : Ip6). is_listed p n (e ∷ j)) (λ (p : Ip6). is_listed p n j) as_listed (touched j)

  pub as_much_room : (p : Ip6) → has_room (e ∷ j) n p ≡ has_room j n p
  unfolding has_room
  as_much_room p =
      ap (λ (b : Bool). b || nat_lt (length (listed (e ∷ j) n)) PEERS_MAX) (as_listed p)
      ∙ ap (λ (ps : List Ip6). is_listed p n j || nat_lt (length ps) PEERS_MAX) all_listed

-- THE ENTRY

-- nothing is sent or handed over, and there is no room
pub record HearsNothing (j : Journal) (n : ℕ) (peer : Ip6) (e : Entry) : Type 0 where
  pub sends : e.step.sends ≡ []
  pub handed : e.step.handed ≡ None
  pub late : e.step.late ≡ []
  pub full : has_room (mentions (e ∷ j.entries)) n peer ≡ false

-- what a client reads from a peer for which it has no room
pub record FullOfPeers : Type 0 where
  pub s : Settings
  pub j : Journal
  pub n : ℕ
  pub from : Ep
  pub x : List ℕ
  pub v : Value
  pub reads : ReadsPayload v x
  pub teredo : is_teredo v.packet.src ≡ true
  pub full : has_room (mentions j.entries) n v.packet.src ≡ false
  pub no_advert : (is_from_server s from && is_advert (message_in v.packet)) ≡ false

-- of a datagram that reads as v, from a client for which there is no room
module _ (full_of_peers : FullOfPeers) where
  open full_of_peers use {s, j, n, from, x, v, reads, teredo, full, no_advert}

  abbrev peer : Ip6
  peer = v.packet.src

  untrusted : is_trusted_at from (known (mentions j.entries) n peer) ≡ false
  untrusted = ap (is_trusted_at from) (unlisted_is_unknown (mentions j.entries) n peer (not_listed (mentions j.entries) n peer full)) ∙ no_trust from

  abbrev advert : Fate
  advert = advert_row s (standing_at s j n peer).qualification from v

  abbrev row : Fate
  row = reception_row (seen_here s j n from x v reads) advert

  is_quiet : IsIdleIn row
  unfolding standing_at
  is_quiet = quiet (seen_here s j n from x v reads) advert no_advert full untrusted teredo

  -- the entry with that fate alone
  abbrev alone : Words → Step → Entry
  alone w step = entry n (arrived from x) (packet_in x) (Some peer) w step

  is_entry : (w : Words) → client_in s j n from x w ≡ alone w (just row)
  is_entry w = entry_here s j n from x v reads w {f = row} refl ∙ ap (alone w) (is_quiet.step s (standing_at s j n peer) from x v w)

  still_full : (w : Words) → has_room (mentions (alone w (just row) ∷ j.entries)) n peer ≡ false
  still_full w =
      ap (λ (ms : List Mention). has_room ms n peer) (next_mentions (alone w (just row)) j.entries
      ∙ ap (λ (b : Bool). cond b [] (mention (alone w (just row)) ∷ mentions j.entries)) is_quiet.changes)
      ∙ as_much_room (mention (alone w (just row))) (mentions j.entries) n
      (ap (λ (b : Bearing). b.touches) (is_quiet.bearing (alone w (just row)))) peer
      ∙ full

  pub hears_nothing : (w : Words) → HearsNothing j n peer (client_in s j n from x w)
  hears_nothing w = subst (HearsNothing j n peer) (sym (is_entry w)) (record { sends = refl; handed = refl; late = refl; full = still_full w })
