-- `within 6` and `within 9` to a native host: the lines before them say that the client may reach the host through its relay.
use Rattle.theory_reaching.proofs.Words.{Bool, ClientNode, Full, Ip6, IsRelayJournal, Lab, List, MayAskClient, MayReachNative, NativeNode, Reach, RelayNode, Relayed, Some, [], address_at, and_parts, ap, as_client, by_lines, client, clients_of, cone_is_quiet, false, has_cone, has_room, journal, known_by, known_by_relay, late_native_lines, must_ask, native, node_at, not, now, option_and_then, or_parts, peers_of, refl, relay_at, relay_journals, relay_settings, relayed, to_native_row, true, trusts_client, ℕ, ◌&&◌, ◌||◌, ◌∙◌, ◌≡◌}
use Rattle.theory_reaching.specs.declared.word.Reach.TheVariants as word
use Rattle.theory_reaching.proofs.to_native.OpeningLines.{past_opening}
use Rattle.theory_reaching.proofs.Tests.{elsewhere, held}
use Rattle.theory_reaching.proofs.waiting.ClientAdds.{client_kept_back}
use Rattle.theory_reaching.proofs.waiting.KeptBack.{none_kept}
use Rattle.theory_reaching.proofs.waiting.OverEvents.{IsWhole}
use Rattle.theory_reaching.proofs.relays.Relays.{relay_is_there}
use Rattle.theory_reaching.proofs.clients.SettledClients.{let_in, settled_along}
use Rattle.theory_reaching.proofs.from_native.NativeMayMeetByWord.{is_nine, is_tested, opened, asks}
use Rattle.theory_reaching.proofs.waiting.TrustedIsIdle.{trusted_is_idle}

-- WHAT THE LINES SAY

-- all lines but the last ones are passed, and these ask whether the relay must hear from the client first
pub record PassesOut (nine : Bool) (a : Relayed) : Type 0 where
  pub settled : a.settled ≡ true
  pub stale : a.fresh ≡ false
  pub let_in : (a.trusts && not a.let_in) ≡ false
  pub unbarred : (a.barred || (a.asks && a.bubble_barred)) ≡ false
  pub room : (not a.room || (a.asks && not a.room_for_both)) ≡ false
  pub asks : a.asks ≡ nine

pub passes_out : (a : Relayed) → is_tested (to_native_row a) ≡ true → PassesOut (is_nine (to_native_row a)) a
passes_out a = past_opening (λ (r : Reach). is_tested r ≡ true → PassesOut (is_nine r) a) a (λ e. elsewhere e) (λ e. elsewhere e) (by_lines (λ (r : Reach). is_tested r ≡ true → PassesOut (is_nine r) a) (late_native_lines a) word.Within6 (
  (λ _ e. elsewhere e),
  (λ settled. (
    (λ _ e. elsewhere e),
    (λ _. (
      (λ _ e. elsewhere e),
      (λ _. (
        (λ _ e. elsewhere e),
        (λ stale. (
          (λ _ e. elsewhere e),
          (λ let_in. (
            (λ _ e. elsewhere e),
            (λ unbarred. (
              (λ _ e. elsewhere e),
              (λ room. (
                (λ asks _. all true settled stale let_in unbarred room asks),
                (λ asks _. all false settled stale let_in unbarred room asks),
              )),
            )),
          )),
        )),
      )),
    )),
  )),
)) where
  all : (nine : Bool) → not a.settled ≡ false → a.fresh ≡ false → (a.trusts && not a.let_in) ≡ false → (a.barred || (a.asks && a.bubble_barred)) ≡ false
      → (not a.room || (a.asks && not a.room_for_both)) ≡ false → a.asks ≡ nine → PassesOut nine a
  all nine settled stale let_in unbarred room asks = record {
    settled = held a.settled settled;
    stale = stale;
    let_in = let_in;
    unbarred = unbarred;
    room = room;
    asks = asks;
  }

-- WHAT THE THREE ARE

-- a client, a native host and its relay after a whole history
pub record ReachedThrough : Type 0 where
  pub lab : Lab
  pub H : List Full
  pub whole : IsWhole lab H
  pub n : ℕ
  pub m : ℕ
  pub c : ClientNode
  pub h : NativeNode
  pub r : RelayNode
  pub at : node_at lab.topology n ≡ Some (client c)
  pub to : node_at lab.topology m ≡ Some (native h)
  pub through : relay_at lab.topology h.relay ≡ Some r

-- node n is the client c, and node m the native h, whose relay is r
module _ (reached_through : ReachedThrough) where
  open reached_through use {lab, H, whole, n, m, c, h, r, at, to, through}

  abbrev own : Ip6
  own = address_at lab H n

  module _ (nine : Bool) (p : PassesOut nine (relayed lab H n c h r)) where
    -- where the relay must hear from the client first, it may ask
    may_ask : must_ask H h.relay own ≡ true → MayAskClient H n h.relay own h.six r.six
    may_ask =
        let w = relayed lab H n c h r in
        asks (record { lab = lab; H = H; n = n; m = m; c = c; h = h; r = r; at = at; to = to; through = through }) whole (or_parts w.barred (w.asks && w.bubble_barred) p.unbarred).1
        (or_parts (not w.room) (w.asks && not w.room_for_both) p.room).1

    -- nothing waits for the client at the relay: it trusts the client, the client has the cone bit, or the line says so
    relay_idle : (known_by_relay H h.relay own).waiting ≡ []
    relay_idle = by (trusts_client H h.relay own) (has_cone own) refl refl where
      is_journal : IsRelayJournal (relay_settings lab.topology h.relay r) (journal h.relay H).entries
      is_journal = (relay_journals lab H h.relay r whole.grown (relay_is_there lab.topology h.relay r through)).journal

      by : (t b : Bool) → trusts_client H h.relay own ≡ t → has_cone own ≡ b → (known_by_relay H h.relay own).waiting ≡ []
      by true b trusts cone =
          trusted_is_idle (relay_settings lab.topology h.relay r) own (journal h.relay H).entries (now H) is_journal trusts
      by false true trusts cone = (cone_is_quiet (relay_settings lab.topology h.relay r) (journal h.relay H).entries (now H) own is_journal cone).waiting
      by false false trusts cone =
          (may_ask (ap (λ (t : Bool). not t && not (has_cone own)) trusts ∙ ap not cone)).nothing_waits

    pub native_reached : MayReachNative lab H n m h.relay c h r own
    unfolding relayed
    native_reached =
        let w = relayed lab H n c h r in
        let room = or_parts (not w.room) (w.asks && not w.room_for_both) p.room in
        let rooms = and_parts (has_room (peers_of H n) (now H) h.six) (has_room (clients_of H h.relay) (now H) own) (held w.room room.0) in
        record {
          client = ap (option_and_then as_client) at;
          host = to;
          through = refl;
          relay = relay_is_there lab.topology h.relay r through;
          settled = settled_along lab H n c at p.settled;
          let_in = opened (record { lab = lab; H = H; n = n; m = m; c = c; h = h; r = r; at = at; to = to; through = through }) p.let_in;
          host_room = rooms.0;
          client_room = rooms.1;
          stale = p.stale;
          unbarred = (or_parts w.barred (w.asks && w.bubble_barred) p.unbarred).0;
          nothing_waits = none_kept (now H) (known_by H n h.six) (client_kept_back lab n c at h.six H whole.grown whole.over)
              (or_parts w.barred (w.asks && w.bubble_barred) p.unbarred).0;
          relay_idle = relay_idle;
          may_ask = may_ask;
        }
