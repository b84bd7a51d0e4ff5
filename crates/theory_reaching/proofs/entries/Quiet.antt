-- What a client does with a datagram of another client for which it has no room: it sends nothing, hands nothing over, and lists nobody.
use Rattle.theory_reaching.proofs.Words.{Fate, Seen, and_parts, by_lines, direct_lines, false, first_line, not, reception_row, refl, true, ◌&&◌, ◌≡◌}
use Rattle.teredo_node.specs.declared.fate.Fate.TheVariants as fate
use Rattle.theory_reaching.proofs.entries.IdleFates.{IsIdleIn, of_reception}
use Rattle.theory_reaching.proofs.Tests.{never, failed, first_fails}

-- no advertisement of the server, of a client that isn't trusted there and for which there is no room
module _ (z : Seen) (advert : Fate) (no_advert : (z.from_server && z.advert) ≡ false) (full : z.peer.room ≡ false)
    (untrusted : z.peer.trusted_here ≡ false) (teredo : z.teredo ≡ true) where
  -- what comes from the client itself wants room
  direct : IsIdleIn (first_line (direct_lines z) fate.Suspicious)
  direct = by_lines IsIdleIn (direct_lines z) fate.Suspicious (
    (λ e. never z.peer.trusted_here (and_parts z.peer.trusted_here z.bubble e).0 untrusted),
    (λ _. (
      (λ e. never z.peer.trusted_here e untrusted),
      (λ _. (
        (λ e. never z.teredo teredo (failed z.teredo (and_parts (not z.teredo) (z.peer.listed && (not z.peer.fresh && z.peer.reply)) e).0)),
        (λ _. (
          (λ _. record { bearing = λ e. refl; changes = refl; step = λ s a from x v w. refl }),
          (λ crowded. (
            (λ e. never z.embedded_here (and_parts z.embedded_here z.bubble e).0 (first_fails z.embedded_here z.peer.room crowded full)),
            (λ _. (
              (λ e. never z.embedded_here e (first_fails z.embedded_here z.peer.room crowded full)),
              (λ _. (
                (λ _. record { bearing = λ e. refl; changes = refl; step = λ s a from x v w. refl }),
                (λ none. never z.teredo teredo none),
              )),
            )),
          )),
        )),
      )),
    )),
  )

  -- and so does what comes through its server
  pub quiet : IsIdleIn (reception_row z advert)
  quiet = of_reception IsIdleIn z advert (λ f idle. idle) (λ e. never (z.from_server && z.advert) e no_advert)
      (λ answered. never z.peer.room answered.room full) (λ _. direct)
