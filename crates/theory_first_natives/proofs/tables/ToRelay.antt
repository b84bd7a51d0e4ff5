-- What waits at a relay for a client after a packet of a native went through it: nothing, where nothing waited.
use Rattle.theory_first_natives.proofs.Words.{Did, Entry, Fate, Full, Ip6, Journal, List, RelaySettings, Some, [], ap, at_same_moment, false, fields_in, has_cone, has_room, is_packet, is_some, journal, known, now, refl, relay, relay_bearing_of, relay_mentions, relay_settings, relay_six, true, with_entry, ℕ, ◌++◌, ◌∙◌, ◌∷◌, ◌≡◌}
use Rattle.teredo_node.specs.declared.fate.Fate.TheVariants as fate
use Rattle.theory_first_natives.proofs.from_native.Trio.{Trio}
use Rattle.theory_first_natives.proofs.from_native.TrioAfter.{TrioRecord}
use Rattle.theory_first_natives.proofs.tables.RelayGives as gives
use Rattle.theory_first_natives.proofs.tables.RelayKnows.{TouchesClient, waits_after}

-- nothing waits there
abbrev pub RelayIdleAt : Trio → Journal → ℕ → Type 0
RelayIdleAt p j n = (known (relay_mentions j.entries) n p.a.own).waiting ≡ []

abbrev pub RelayIdle : Trio → List Full → Type 0
RelayIdle p H = RelayIdleAt p (journal p.k H) (now H)

module _ (the : TrioRecord) where
  open the use {p, H, q}

  abbrev s : RelaySettings
  s = relay_settings p.lab.topology p.k p.r

  abbrev own : Ip6
  own = p.a.own

  abbrev j : List Entry
  j = (journal p.k H).entries

  touched : (e : Entry) (f : Fate) → e.peer ≡ Some own → e.moment ≡ now H → e.step.fate ≡ f → (relay_bearing_of f e).touches ≡ true
      → TouchesClient e (now H) own
  touched e f about moment same touches = record {
    peer = about;
    moment = moment;
    touches = ap (λ (g : Fate). (relay_bearing_of g e).touches) same ∙ touches;
  }

  -- a packet to the client that an idle relay was given
  pub record IdleRelayGiven : Type 0 where
    pub x : List ℕ
    pub one : is_packet x ≡ true
    pub to : (fields_in x).dst ≡ own
    pub for_client : gives.IsForClient (record { s = s; j = j; n = now H; x = x; is_one = one })
    pub did : Did p.lab H q p.k (relay p.r) (relay_six s j (now H) x)
    pub idle : RelayIdle p H

  -- after a packet of the native
  module _ (idle_given : IdleRelayGiven) where
    open idle_given use {x, one, to, for_client, did, idle}

    abbrev e : Entry
    e = relay_six s j (now H) x

    -- for a client that it trusts
    pub idle_after_sent : is_some (known (relay_mentions j) (now H) own).trusted ≡ true → RelayIdle p (q ∷ H)
    idle_after_sent trusted =
        let g = gives.goes_at_once (record { s = s; j = j; n = now H; x = x; is_one = one }) for_client
        (ap (λ (z : Ip6). is_some (known (relay_mentions j) (now H) z).trusted) to ∙ trusted) in
        at_same_moment (RelayIdleAt p) H q p.k (with_entry (journal p.k H) e) did.moment did.later
        (waits_after e j (now H) own
        (touched e fate.Sent (g.about ∙ ap (λ (z : Ip6). Some z) to) g.moment g.fate refl) fate.Sent g.fate
        ∙ ap (λ (ws : List (List ℕ)). ws ++ []) idle)

    -- for a cone client
    pub idle_after_cone : is_some (known (relay_mentions j) (now H) own).trusted ≡ false → has_room (relay_mentions j) (now H) own ≡ true
        → has_cone own ≡ true → RelayIdle p (q ∷ H)
    idle_after_cone untrusted room cone =
        let g = gives.goes_to_a_cone (record { s = s; j = j; n = now H; x = x; is_one = one }) for_client
        (ap (λ (z : Ip6). is_some (known (relay_mentions j) (now H) z).trusted) to ∙ untrusted)
        (ap (λ (z : Ip6). has_room (relay_mentions j) (now H) z) to ∙ room) (ap has_cone to ∙ cone) in
        at_same_moment (RelayIdleAt p) H q p.k (with_entry (journal p.k H) e) did.moment did.later
        (waits_after e j (now H) own
        (touched e fate.SentCone (g.about ∙ ap (λ (z : Ip6). Some z) to) g.moment g.fate refl) fate.SentCone g.fate
        ∙ ap (λ (ws : List (List ℕ)). ws ++ []) idle)
