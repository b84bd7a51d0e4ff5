-- `within 1`: the packet goes at once, and is let in.
use Rattle.theory_reaching.proofs.Words.{Bool, ClientNode, ComesInTime, KeepsItsPromise, Node, Reach, Relayed, TwoClients, and_parts, ap, between_clients_row, by_lines, client, early_client_lines, false, from_native_lines, from_native_row, is_settled, not, refl, relayed, sound_first, subst, sym, to_native_lines, to_native_row, true, two_clients, ◌&&◌, ◌||◌, ◌∷◌, ◌≡◌}
use Rattle.theory_settled.proofs.Earlier.{earlier}
use Rattle.theory_reaching.specs.declared.word.Reach.TheVariants as word
use Rattle.theory_reaching.proofs.clients.LateLines.{past_opening, late_word, never_later}
use Rattle.theory_reaching.proofs.Tests.{elsewhere, held}
use Rattle.theory_reaching.proofs.Lines.{which_held}
use Rattle.theory_reaching.proofs.Pairs.{SaidBy, between_clients, to_native, from_native, said_by}
use Rattle.theory_reaching.proofs.clients.BothSettled.{AreBoth}
use Rattle.theory_reaching.proofs.clients.HandsOver.{in_time}
use Rattle.theory_reaching.proofs.NextPacket.{NextPacket, of_nodes}

-- WHAT THE LINES SAY

abbrev is_one : Reach → Bool
is_one word.Within1 = true
is_one _ = false

-- the packet goes at once, and is let in
record GoesStraight (a : TwoClients) : Type 0 where
  settled : a.settled ≡ true
  apart : a.one_nat ≡ false
  heard : a.heard ≡ true
  let_in : (a.fresh && not a.let_in) ≡ false
  quick : (a.fresh || a.to_cone) ≡ true

goes_straight : (a : TwoClients) → is_one (between_clients_row a) ≡ true → GoesStraight a
goes_straight a = past_opening (λ (r : Reach). is_one r ≡ true → GoesStraight a) a (λ e. elsewhere e) (λ e. elsewhere e) (λ e. elsewhere e) (λ e. elsewhere e) (by_lines
    (λ (r : Reach). is_one r ≡ true → GoesStraight a) (early_client_lines a)
    (late_word a) (
      (λ _ e. elsewhere e),
      (λ settled. (
        (λ _ e. elsewhere e),
        (λ apart. (
          (λ _ e. elsewhere e),
          (λ heard. (
            (λ _ e. elsewhere e),
            (λ let_in. (
              (λ quick _. record { settled = held a.settled settled; apart = apart; heard = held a.heard heard; let_in = let_in; quick = quick }),
              (λ _. (
                (λ _ e. elsewhere e),
                (λ _. ((λ _ e. elsewhere e), (λ _. ((λ _ e. elsewhere e), (λ _ e. never_later is_one a (refl, (refl, (refl, (refl, (refl, (refl, (refl, (refl, (refl, (refl, tt)))))))))) refl e))))),
              )),
            )),
          )),
        )),
      )),
    ))

-- it is never said of a native host
never_to : (a : Relayed) → is_one (to_native_row a) ≡ true → ⊥
never_to a e = which_held is_one (to_native_lines a) word.Within6 refl e

never_from : (a : Relayed) → is_one (from_native_row a) ≡ true → ⊥
never_from a e = which_held is_one (from_native_lines a) word.Within6 refl e

-- THE WORD

module _ (c d : ClientNode) (the : NextPacket (client c) (client d)) where
  open the use {lab, H, is, chained, q, later, n, m, x, g, at, to, sent, fresh}

  of_clients : GoesStraight (two_clients lab H n m c d) → ComesInTime H q m (client d) x later 1
  unfolding two_clients
  of_clients s =
      let both = and_parts (is_settled lab H n c) (is_settled lab H m d) s.settled in
      let are : AreBoth lab H q n m c d x = record {
        rules = is;
        chained = chained;
        grown = earlier lab later (q ∷ H) g;
        at = at;
        to = to;
        sender = both.0;
        receiver = both.1;
        apart = s.apart;
        handed = sent.handed;
        sound = sound_first q later fresh;
      } in
      in_time (record { lab = lab; H = H; q = q; n = n; m = m; c = c; d = d; x = x; are = are }) s.quick s.let_in s.heard later g fresh

pub one_is_kept : KeepsItsPromise word.Within1
one_is_kept lab H is chained q later n m a b x g at to said sent fresh = by (said_by (record { lab = lab; H = H; n = n; m = m; said = word.Within1 }) a b at to said) where
  the : NextPacket a b
  the = record { lab = lab; H = H; is = is; chained = chained; q = q; later = later; n = n; m = m; x = x; g = g; at = at; to = to; sent = sent; fresh = fresh }

  by : SaidBy lab H n m a b word.Within1 → ComesInTime H q m b x later 1
  by (between_clients c d same other e) = subst (λ (z : Node). ComesInTime H q m z x later 1) (sym other)
      (of_clients c d (of_nodes the same other) (goes_straight (two_clients lab H n m c d) (ap is_one e)))
  by (to_native c h r same other through e) = absurd (never_to (relayed lab H n c h r) (ap is_one e))
  by (from_native h c r same other through e) = absurd (never_from (relayed lab H m c h r) (ap is_one e))
