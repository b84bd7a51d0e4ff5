-- Whence packets from outside Teredo came, computed: one that is handed over at once, which a native host sent through its relay; and one that
-- is handed over late, whose bytes came twice, first from the relay and then from a stranger, who also answers the test.
use Rattle.worked_facts.proofs.Words.{Ep, Full, IsOfNative, List, Scenario, [], drop, ep, false, fields_in, held_test, ip, is_teredo, lit<, lit≤, play, playing, refl, some_words, sym, ℕ, ◌∷◌, ◌≡◌}
use Rattle.nat_kinds.specs.declared.kind.NatKind.TheVariants as kind
use Rattle.events.specs.declared.event.Event.TheVariants as event
use Rattle.worked_facts.proofs.NativeNodes.{client_row, host_row, relay_row, lab, to_a, after_cone_qualifying}
use Rattle.worked_facts.proofs.NativeFacts.{to_cone_x}
use Rattle.worked_facts.proofs.WithinFacts.{back_history}
use Rattle.worked_facts.proofs.SenderViews.{sent_at, relayed_at, put_at}
use Rattle.worked_facts.proofs.OutsideViews.{from_there, held_at, held_numbers, ComesFromOutside, LatestFromOutside, at_once_from_outside, late_from_outside}

abbrev relay_at : Ep
relay_at = ep (ip 203 0 113 9) 3545

abbrev client_at : Ep
client_at = ep (ip 198 51 100 1) 1024

abbrev stranger_at : Ep
stranger_at = ep (ip 203 0 113 66) 4000

pub foreign : is_teredo (fields_in to_cone_x).src ≡ false
unfolding playing
foreign = refl

-- AT ONCE

-- the host had handed in the packet
back-of-native : IsOfNative (lab kind.Cone) (drop 1 back_history) 3 to_cone_x
unfolding playing
back-of-native = record {
  number = 4;
  host = host_row;
  there = refl;
  names = refl;
  source = refl;
  sent = sent_at 4 host_row to_cone_x 1 (drop 1 back_history) (refl, refl);
}

-- and the relay made the entry in the record before
pub back-from-outside : LatestFromOutside (lab kind.Cone) 2 client_row to_cone_x back_history
unfolding playing
back-from-outside = at_once_from_outside (lab kind.Cone) 2 11 client_row to_cone_x foreign back_history
    (record { node = refl; client = refl; packet = refl }, refl, refl)
    (relay_at, client_at, to_cone_x, refl)
    (from_there (lab kind.Cone) (drop 1 back_history) to_cone_x 11 relay_at refl
    (relayed_at (lab kind.Cone) 11 3 relay_row refl to_cone_x 0 (drop 1 back_history) (lit≤ tt, lit< tt, refl) back-of-native))

-- LATE

-- the answer to the client's second test, in the host's name
abbrev answer : List ℕ
answer = 96 ∷ 0 ∷ 0 ∷ 0 ∷ 0 ∷ 16 ∷ 58 ∷ 255 ∷ 32 ∷ 1 ∷ 13 ∷ 184 ∷ 0 ∷ 0 ∷ 0 ∷ 0 ∷ 0 ∷ 0 ∷ 0 ∷ 0 ∷ 0 ∷ 0 ∷ 0 ∷ 1 ∷ 32 ∷ 1 ∷ 0 ∷ 0
    ∷ 192 ∷ 0 ∷ 2 ∷ 1 ∷ 128 ∷ 0 ∷ 251 ∷ 255 ∷ 57 ∷ 204 ∷ 155 ∷ 254 ∷ 129 ∷ 0 ∷ 13 ∷ 52 ∷ 0 ∷ 0 ∷ 0 ∷ 0 ∷ 0 ∷ 0 ∷ 7 ∷ 252 ∷ 0 ∷ 0 ∷ 7 ∷ 253 ∷ []

-- the client holds the host's packet, whose test isn't answered. When it no longer lists the host a stranger sends the same bytes, is tested,
-- and answers
abbrev pub come_twice : Scenario
come_twice = after_cone_qualifying (to_a ∷ event.Deliver 2 ∷ event.Deliver 3 ∷ event.Advance 400000 ∷ event.Stranger stranger_at client_at to_cone_x
    ∷ event.Deliver 18 ∷ event.Stranger stranger_at client_at answer ∷ event.Deliver 20 ∷ [])

abbrev pub twice_history : List Full
twice_history = play some_words come_twice 25 []

-- two entries were held: the stranger's, and before it the relay's
pub twice-held : held_numbers (drop 1 twice_history) ≡ 18 ∷ 3 ∷ []
unfolding playing
twice-held = refl

-- the first time it was the host's own packet, from the relay
twice-of-native : IsOfNative (lab kind.Cone) (drop 18 (drop 1 twice_history)) 3 to_cone_x
unfolding playing
twice-of-native = record {
  number = 4;
  host = host_row;
  there = refl;
  names = refl;
  source = refl;
  sent = sent_at 4 host_row to_cone_x 1 (drop 18 (drop 1 twice_history)) (refl, refl);
}

twice-relayed : ComesFromOutside (lab kind.Cone) (drop 1 twice_history) to_cone_x 3
unfolding playing
twice-relayed = from_there (lab kind.Cone) (drop 1 twice_history) to_cone_x 3 relay_at refl
    (relayed_at (lab kind.Cone) 3 3 relay_row refl to_cone_x 18 (drop 1 twice_history) (lit≤ tt, lit< tt, refl) twice-of-native)

-- and the second time it came from a named event
twice-put : ComesFromOutside (lab kind.Cone) (drop 1 twice_history) to_cone_x 18
unfolding playing
twice-put = from_there (lab kind.Cone) (drop 1 twice_history) to_cone_x 18 stranger_at refl
    (λ from same. put_at (lab kind.Cone) 18 to_cone_x 2 (drop 1 twice_history) from (lit≤ tt, lit< tt, sym same))

-- so both have their origin
pub twice-from-outside : LatestFromOutside (lab kind.Cone) 2 client_row to_cone_x twice_history
unfolding playing
twice-from-outside = late_from_outside (lab kind.Cone) 2 18 client_row to_cone_x foreign twice_history
    (refl, refl, refl, (0, lit< tt, refl))
    (held_at 2 18 to_cone_x 1 (drop 1 twice_history) (refl, refl, (held_test refl, refl)))
    (stranger_at, client_at, to_cone_x, refl) (18 ∷ 3 ∷ []) twice-held (twice-put, (twice-relayed, tt))
