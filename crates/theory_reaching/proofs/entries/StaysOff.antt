-- A client that isn't qualified stays so with a datagram without a nonce, and hands its host nothing.
use Rattle.theory_reaching.proofs.Words.{Ep, Fate, Journal, List, None, Seen, Settings, Standing, Step, Value, Words, [], ap, by_lines, client_in, datagram_lines, direct_lines, false, indirect_lines, is_qualified, not, packet_lines, qualification, reception_fate, reception_row, reception_step, refl, says_nothing, seen, server_lines, source_in, standing_at, standing_of, subst, sym, turn, value_in, ℕ, ◌++◌, ◌≡◌}
use Rattle.teredo_node.specs.declared.fate.Fate.TheVariants as fate
use Rattle.client_rules.specs.Reception as reception
use Rattle.theory_reaching.proofs.no_address.Nonceless.{HasNoNonce}
use Rattle.theory_reaching.proofs.no_address.NoncelessClients.{advert_is_dropped}
use Rattle.theory_reaching.proofs.Tests.{never}

-- what was done says nothing of qualification, and hands nothing over
pub record IsMute (z : Step) : Type 0 where
  pub turn : turn z.fate ≡ says_nothing
  pub handed : z.handed ≡ None
  pub late : z.late ≡ []

module _ (s : Settings) (a : Standing) (from : Ep) (x : List ℕ) (v : Value) (w : Words) (z : Seen) where
  abbrev Mute : Fate → Type 0
  Mute f = IsMute (reception_step s a from x v w f)

  mute : z.qualified ≡ false → Mute (reception_row z fate.Nonce)
  mute off = by_lines Mute
      (datagram_lines z ++ (server_lines z fate.Nonce ++ (packet_lines z ++ (indirect_lines z ++ direct_lines z)))) fate.Suspicious (
        (λ _. record { turn = refl; handed = refl; late = refl }),
        (λ _. (
          (λ _. record { turn = refl; handed = refl; late = refl }),
          (λ _. (
            (λ _. record { turn = refl; handed = refl; late = refl }),
            (λ _. (
              (λ _. record { turn = refl; handed = refl; late = refl }),
              (λ _. (
                (λ _. record { turn = refl; handed = refl; late = refl }),
                (λ _. (
                  (λ _. record { turn = refl; handed = refl; late = refl }),
                  (λ _. (
                    (λ _. record { turn = refl; handed = refl; late = refl }),
                    (λ _. (
                      (λ _. record { turn = refl; handed = refl; late = refl }),
                      (λ on. never (not z.qualified) (ap not off) on),
                    )),
                  )),
                )),
              )),
            )),
          )),
        )),
      )

pub stays_mute : (s : Settings) (j : Journal) (n : ℕ) (from : Ep) (x : List ℕ) (w : Words) → is_qualified (qualification s j).phase ≡ false → HasNoNonce x
    → IsMute (client_in s j n from x w).step
unfolding client_in reception.reception reception_fate seen standing_at
stays_mute s j n from x w off none =
    let a = standing_of s j n (source_in x) in
    subst (λ (f : Fate). IsMute (reception_step s a from x (value_in x) w (reception_row (seen s a from x) f)))
    (sym (advert_is_dropped s a.qualification from (value_in x) none)) (mute s a from x (value_in x) w (seen s a from x) off)
