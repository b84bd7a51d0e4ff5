-- A datagram that doesn't come from where its packet's Teredo source says: whoever gets it drops it, but its own server's clients.
use Rattle.theory_reaching.proofs.Words.{Entry, Ep, Fate, Ip6, IsJournal, Journal, List, None, Option, ReadsPayload, RelaySeen, RelaySettings, Seen, Settings, Some, Step, Value, Words, [], advert_row, and_left, and_parts, and_right, ap, arrived, by_lines, client_in, direct_lines, embedded, entry, entry_here, entry_in, false, false_from_ne_true, false≢true, fields_in, first_line, is_big, is_ep, is_from_server, is_global6, is_link_local, is_teredo, is_trusted_at, known, mentions, not, own_address, own_is_teredo, packet_in, qualification, reception_row, refl, relay_in, relay_reception_row, same_ep, same_ip6, same_ip6-true, seen_at_client, seen_at_relay, standing_at, subst, sym, true, trusted_is_embedded, unkeyed, unspecified, unwrap_or, value_written, ℕ, ◌&&◌, ◌∙◌, ◌≡◌}
use Rattle.teredo_node.specs.declared.fate.Fate.TheVariants as fate
use Rattle.theory_reaching.proofs.entries.IdleFates.{IsIdleIn, of_reception_for, of_reception}
use Rattle.theory_reaching.proofs.Tests.{never, failed}

-- x is a packet with a Teredo source, which came from elsewhere
pub record IsStray (from : Ep) (x : List ℕ) : Type 0 where
  pub short : is_big (fields_in x) ≡ false
  pub teredo : is_teredo (fields_in x).src ≡ true
  pub no_link : is_link_local (fields_in x).src ≡ false
  pub elsewhere : same_ep (embedded (fields_in x).src) from ≡ false
  pub reads : ReadsPayload (value_written None None (fields_in x)) x

-- a step that does nothing
pub record IsNothing (z : Step) : Type 0 where
  pub sends : z.sends ≡ []
  pub six : z.six ≡ None
  pub handed : z.handed ≡ None
  pub late : z.late ≡ []

-- AT A CLIENT

module _ (z : Seen) (untrusted : z.peer.trusted_here ≡ false) (teredo : z.teredo ≡ true) (not_there : z.embedded_here ≡ false) where
  direct : IsIdleIn (first_line (direct_lines z) fate.Suspicious)
  direct = by_lines IsIdleIn (direct_lines z) fate.Suspicious (
    (λ e. never z.peer.trusted_here (and_parts z.peer.trusted_here z.bubble e).0 untrusted),
    (λ _. (
      (λ e. never z.peer.trusted_here e untrusted),
      (λ _. (
        (λ e. never z.teredo teredo (failed z.teredo (and_parts (not z.teredo) (z.peer.listed && (not z.peer.fresh && z.peer.reply)) e).0)),
        (λ _. (
          (λ e. never z.embedded_here (and_parts z.embedded_here (not z.peer.room) e).0 not_there),
          (λ _. (
            (λ e. never z.embedded_here (and_parts z.embedded_here z.bubble e).0 not_there),
            (λ _. (
              (λ e. never z.embedded_here e not_there),
              (λ _. (
                (λ _. record { bearing = λ e. refl; changes = refl; step = λ s a from x v w. refl }),
                (λ none. never z.teredo teredo none),
              )),
            )),
          )),
        )),
      )),
    )),
  )

  idle_from : z.from_server ≡ false → (advert : Fate) → IsIdleIn (reception_row z advert)
  idle_from no_server advert = of_reception IsIdleIn z advert (λ f idle. idle)
      (λ e. never (z.from_server && z.advert) e (and_left z.from_server z.advert no_server))
      (λ answered. never z.from_server answered.server no_server) (λ _. direct)

module _ (s : Settings) (j : Journal) (n : ℕ) (is : IsJournal s j) (from : Ep) (x : List ℕ) (stray : IsStray from x)
    (no_server : is_from_server s from ≡ false) where
  abbrev peer : Ip6
  peer = (fields_in x).src

  abbrev v : Value
  v = value_written None None (fields_in x)

  untrusted : is_trusted_at from (known (mentions j.entries) n peer) ≡ false
  unfolding is_trusted_at
  untrusted = by (known (mentions j.entries) n peer).trusted refl where
    by : (o : Option Ep) → (known (mentions j.entries) n peer).trusted ≡ o → is_ep from o ≡ false
    by None e = refl
    by (Some at) e = ap (λ (z : Ep). same_ep z from) (trusted_is_embedded s j n peer at is stray.teredo e) ∙ stray.elsewhere

  abbrev row : Fate
  row = reception_row (seen_at_client s j n from x v stray.reads) (advert_row s (standing_at s j n peer).qualification from v)

  is_idle : IsIdleIn row
  unfolding standing_at
  is_idle = idle_from (seen_at_client s j n from x v stray.reads) untrusted stray.teredo
      (and_right (is_teredo peer) (same_ep (embedded peer) from) stray.elsewhere) no_server
      (advert_row s (standing_at s j n peer).qualification from v)

  pub at_client : (w : Words) → IsNothing (client_in s j n from x w).step
  at_client w = subst (λ (e : Entry). IsNothing e.step)
      (sym (entry_here s j n from x v stray.reads w {f = row} refl ∙ ap (entry n (arrived from x) (packet_in x) (Some peer) w)
      (is_idle.step s (standing_at s j n peer) from x v w)))
      (record { sends = refl; six = refl; handed = refl; late = refl })

-- so it does with a packet of the IPv6 Internet, whoever sent it, which is for none of its own addresses
pub not_its_own : (s : Settings) (j : Journal) (p : Ip6) → is_teredo p ≡ false → is_global6 p ≡ true
    → same_ip6 p (own_address (qualification s j)) ≡ false
unfolding own_address is_global6
not_its_own s j p native global = by (qualification s j).address refl where
  by : (o : Option Ip6) → (qualification s j).address ≡ o → same_ip6 p (unwrap_or o unspecified) ≡ false
  by None e = false_from_ne_true (same_ip6 p unspecified) (λ h. false≢true (ap is_global6 (sym (same_ip6-true p unspecified h)) ∙ global))
  by (Some z) e = false_from_ne_true (same_ip6 p z) (λ h. false≢true (sym native ∙ ap is_teredo (same_ip6-true p z h) ∙ own_is_teredo s j z e))

module _ (s : Settings) (j : Journal) (n : ℕ) (from : Ep) (x : List ℕ) (no_server : is_from_server s from ≡ false)
    (reads_it : ReadsPayload (value_written None None (fields_in x)) x)
    (foreign : same_ip6 (fields_in x).dst (own_address (qualification s j)) ≡ false) where
  abbrev sender : Ip6
  sender = (fields_in x).src

  abbrev whole : Value
  whole = value_written None None (fields_in x)

  abbrev its_row : Fate
  its_row = reception_row (seen_at_client s j n from x whole reads_it) (advert_row s (standing_at s j n sender).qualification from whole)

  not_mine : IsIdleIn its_row
  unfolding standing_at
  not_mine =
      let z = seen_at_client s j n from x whole reads_it in
      let advert = advert_row s (standing_at s j n sender).qualification from whole in
      of_reception_for IsIdleIn z advert (λ f idle. idle) (λ e. never (z.from_server && z.advert) e (and_left z.from_server z.advert no_server))
      (λ answered. never z.from_server answered.server no_server) (λ mine _. never z.mine mine foreign)

  pub at_another : (w : Words) → IsNothing (client_in s j n from x w).step
  at_another w = subst (λ (e : Entry). IsNothing e.step)
      (sym (entry_here s j n from x whole reads_it w {f = its_row} refl ∙ ap (entry n (arrived from x) (packet_in x) (Some sender) w)
      (not_mine.step s (standing_at s j n sender) from x whole w)))
      (record { sends = refl; six = refl; handed = refl; late = refl })

-- AT A RELAY

mismatched : (a : RelaySeen) → a.payload ≡ true → a.keyed ≡ false → a.big ≡ false → a.teredo ≡ true → a.embedded_here ≡ false
    → relay_reception_row a ≡ fate.Mismatch
mismatched a payload keyed big teredo elsewhere = rw (payload, keyed, big, teredo, elsewhere) refl

pub at_relay : (s : RelaySettings) (j : List Entry) (n : ℕ) (from : Ep) (x : List ℕ) → IsStray from x → IsNothing (relay_in s j n from x).step
at_relay s j n from x stray =
    subst (λ (e : Entry). IsNothing e.step) (sym (entry_in s j n from x (value_written None None (fields_in x)) stray.reads
    (mismatched (seen_at_relay s j n from x (value_written None None (fields_in x)) stray.reads) refl (unkeyed (fields_in x)) stray.short stray.teredo
    stray.elsewhere))) (record { sends = refl; six = refl; handed = refl; late = refl })
