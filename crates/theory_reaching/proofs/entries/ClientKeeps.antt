-- What a client does with a packet of a native host that it may not test yet, has no room for, or holds for fresh, and that it doesn't trust
-- where the packet came from: it keeps the packet for itself, or drops it.
use Rattle.theory_reaching.proofs.Words.{Bearing, Bool, Entry, Ep, Fate, Ip6, Journal, List, Mention, None, ReadsPayload, Seen, Settings, Some, Standing, Step, Value, Words, [], advert_row, and_left, and_right, answers_nothing, ap, arrived, bearing_of, client_in, cond, direct_lines, embedded, entry, entry_here, false, first_line, first_where, has_room, inl, inr, is_barred, is_changed, is_echo_reply, is_fresh, is_from_server, is_plain, is_teredo, is_testable, is_trusted_at, just, known, known_in, mention, mentions, message_in, next_mentions, not, packet_in, reception_row, reception_step, refl, same_ep, standing_at, subst, sym, true, ℕ, ◌&&◌, ◌∙◌, ◌∷◌, ◌≡◌, ◌⊎◌}
use Rattle.teredo_node.specs.declared.fate.Fate.TheVariants as fate
use Rattle.theory_first_packets.proofs.tables.Received.{seen_here}
use Rattle.theory_reaching.proofs.entries.ClientDeaf.{IsClosed}
use Rattle.theory_reaching.proofs.entries.IdleFates.{IsIdleIn, of_reception}
use Rattle.theory_reaching.proofs.clients.Unheard.{as_much_room}
use Rattle.theory_reaching.proofs.entries.KnownAfter.{barred_still, fresh_still, mistrusted_still}
use Rattle.theory_reaching.proofs.Tests.{never}

-- THE TABLE

-- no packet of the peer is tested: it is barred, there is no room for it, or it is fresh
abbrev pub IsWary : (barred room fresh : Bool) → Type 0
IsWary barred room fresh = IsClosed barred room ⊎ (fresh ≡ true)

-- a fate that comes alone; nobody is listed, heard or trusted by it
record IsStill (f : Fate) : Type 0 where
  touches : (e : Entry) → (bearing_of f e).touches ≡ false
  hears : (e : Entry) → (bearing_of f e).hears ≡ false
  trusts : (e : Entry) → (bearing_of f e).trusts ≡ None
  changes : is_changed f ≡ false
  step : (s : Settings) (a : Standing) (from : Ep) (x : List ℕ) (v : Value) (w : Words) → reception_step s a from x v w f ≡ just f

module _ (z : Seen) (advert : Fate) (no_server : z.from_server ≡ false) (untrusted : z.peer.trusted_here ≡ false) (no_reply : z.peer.reply ≡ false)
    (native : z.teredo ≡ false) (elsewhere : z.embedded_here ≡ false) (closed : IsWary z.peer.barred z.peer.room z.peer.fresh) where
  no_rule_two : (not z.teredo && (z.peer.listed && (not z.peer.fresh && z.peer.reply))) ≡ false
  no_rule_two = and_right (not z.teredo) (z.peer.listed && (not z.peer.fresh && z.peer.reply)) (and_right z.peer.listed (not z.peer.fresh && z.peer.reply)
      (and_right (not z.peer.fresh) z.peer.reply no_reply))

  untestable : is_testable z ≡ false
  untestable = and_right z.global (not z.peer.fresh && (not z.peer.barred && (z.peer.room && is_plain z))) (either closed) where
    by : IsClosed z.peer.barred z.peer.room → (not z.peer.barred && (z.peer.room && is_plain z)) ≡ false
    by (inl barred) = and_left (not z.peer.barred) (z.peer.room && is_plain z) (ap not barred)
    by (inr full) = and_right (not z.peer.barred) (z.peer.room && is_plain z) (and_left z.peer.room (is_plain z) full)

    either : IsWary z.peer.barred z.peer.room z.peer.fresh → (not z.peer.fresh && (not z.peer.barred && (z.peer.room && is_plain z))) ≡ false
    either (inl shut) = and_right (not z.peer.fresh) (not z.peer.barred && (z.peer.room && is_plain z)) (by shut)
    either (inr fresh) = and_left (not z.peer.fresh) (not z.peer.barred && (z.peer.room && is_plain z)) (ap not fresh)

  not_held : (is_testable z && not z.peer.holds_most) ≡ false
  not_held = and_left (is_testable z) (not z.peer.holds_most) untestable

  still_if : (f : Fate) → IsIdleIn f → IsStill f
  still_if f idle = record {
    touches = λ e. ap (λ (b : Bearing). b.touches) (idle.bearing e);
    hears = λ e. ap (λ (b : Bearing). b.hears) (idle.bearing e);
    trusts = λ e. ap (λ (b : Bearing). b.trusts) (idle.bearing e);
    changes = idle.changes;
    step = idle.step;
  }

  -- what comes from the host itself is kept, or dropped
  direct : IsStill (first_line (direct_lines z) fate.Suspicious)
  direct = first_where IsStill (direct_lines z) fate.Suspicious (
    (λ e. never (z.peer.trusted_here && z.bubble) e (and_left z.peer.trusted_here z.bubble untrusted)),
    (
      (λ e. never z.peer.trusted_here e untrusted),
      (
        (λ e. never (not z.teredo && (z.peer.listed && (not z.peer.fresh && z.peer.reply))) e no_rule_two),
        (
          (λ e. never (z.embedded_here && not z.peer.room) e (and_left z.embedded_here (not z.peer.room) elsewhere)),
          (
            (λ e. never (z.embedded_here && z.bubble) e (and_left z.embedded_here z.bubble elsewhere)),
            (
              (λ e. never z.embedded_here e elsewhere),
              (
                (λ e. never z.teredo e native),
                (
                  (λ e. never (is_testable z && not z.peer.holds_most) e not_held),
                  (
                    (λ e. never (is_testable z) e untestable),
                    (
                      (λ _. record { touches = λ e. refl; hears = λ e. refl; trusts = λ e. refl; changes = refl; step = λ s a from x v w. refl }),
                      tt,
                    ),
                  ),
                ),
              ),
            ),
          ),
        ),
      ),
    ),
  ) (record { touches = λ e. refl; hears = λ e. refl; trusts = λ e. refl; changes = refl; step = λ s a from x v w. refl })

  -- so whatever line holds
  still : IsStill (reception_row z advert)
  still = of_reception IsStill z advert still_if (λ e. never (z.from_server && z.advert) e (and_left z.from_server z.advert no_server))
      (λ answered. never z.from_server answered.server no_server) (λ _. direct)

-- THE ENTRY

-- of what is known of a peer
abbrev pub Wary : List Mention → ℕ → Ip6 → Type 0
Wary ms n p = IsWary (is_barred n (known ms n p)) (has_room ms n p) (is_fresh n (known ms n p))

-- nothing is sent or handed over. The client stays wary of the peer, and trusts it no more there
pub record IsKeptBack (j : Journal) (n : ℕ) (at : Ep) (peer : Ip6) (e : Entry) : Type 0 where
  pub sends : e.step.sends ≡ []
  pub handed : e.step.handed ≡ None
  pub late : e.step.late ≡ []
  pub closed : Wary (mentions (e ∷ j.entries)) n peer
  pub mistrusted : is_trusted_at at (known (mentions (e ∷ j.entries)) n peer) ≡ false

-- what a client reads from a native host of which it is wary
pub record ToWaryClient : Type 0 where
  pub s : Settings
  pub j : Journal
  pub n : ℕ
  pub from : Ep
  pub x : List ℕ
  pub v : Value
  pub reads : ReadsPayload v x
  pub no_server : is_from_server s from ≡ false
  pub native : is_teredo v.packet.src ≡ false
  pub no_reply : is_echo_reply (message_in v.packet) ≡ false
  pub closed : Wary (mentions j.entries) n v.packet.src
  pub mistrusted : is_trusted_at from (known (mentions j.entries) n v.packet.src) ≡ false

-- of a datagram that reads as v, no echo reply, from elsewhere than the client's server
module _ (to_wary_client : ToWaryClient) where
  open to_wary_client use {s, j, n, from, x, v, reads, no_server, native, no_reply, closed, mistrusted}

  abbrev peer : Ip6
  peer = v.packet.src

  abbrev row : Fate
  row = reception_row (seen_here s j n from x v reads) (advert_row s (standing_at s j n peer).qualification from v)

  is_still : IsStill row
  unfolding standing_at
  is_still = still (seen_here s j n from x v reads) (advert_row s (standing_at s j n peer).qualification from v) no_server mistrusted
      (answers_nothing (known_in (standing_at s j n peer)).nonce (message_in v.packet) no_reply) native
      (and_left (is_teredo peer) (same_ep (embedded peer) from) native) closed

  -- the entry with that fate alone
  abbrev alone : Words → Step → Entry
  alone w step = entry n (arrived from x) (packet_in x) (Some peer) w step

  is_entry : (w : Words) → client_in s j n from x w ≡ alone w (just row)
  is_entry w = entry_here s j n from x v reads w {f = row} refl ∙ ap (alone w) (is_still.step s (standing_at s j n peer) from x v w)

  abbrev its : Words → Mention
  its w = mention (alone w (just row))

  stays : (w : Words) → Wary (mentions j.entries) n peer → Wary (its w ∷ mentions j.entries) n peer
  stays w (inl (inl barred)) = inl (inl (barred_still (its w) (mentions j.entries) n peer refl (is_still.hears (alone w (just row))) barred))
  stays w (inl (inr full)) = inl (inr (as_much_room (its w) (mentions j.entries) n (is_still.touches (alone w (just row))) peer ∙ full))
  stays w (inr fresh) = inr (fresh_still (its w) (mentions j.entries) n peer refl (is_still.trusts (alone w (just row)))
      (is_still.hears (alone w (just row))) fresh)

  kept_so : (w : Words) → IsKeptBack j n from peer (alone w (just row))
  kept_so w =
      let after = next_mentions (alone w (just row)) j.entries ∙ ap (λ (b : Bool). cond b [] (its w ∷ mentions j.entries)) is_still.changes in
      record {
        sends = refl;
        handed = refl;
        late = refl;
        closed = subst (λ (ms : List Mention). Wary ms n peer) (sym after) (stays w closed);
        mistrusted = ap (λ (ms : List Mention). is_trusted_at from (known ms n peer)) after
            ∙ mistrusted_still (its w) (mentions j.entries) n peer refl from (is_still.trusts (alone w (just row))) mistrusted;
      }

  pub kept_back : (w : Words) → IsKeptBack j n from peer (client_in s j n from x w)
  kept_back w = subst (IsKeptBack j n from peer) (sym (is_entry w)) (kept_so w)
