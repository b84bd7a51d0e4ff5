-- The two packets that come though the word is shut, computed: the test that the record of a packet drew itself, where the word is `barred`;
-- and one that the client holds, byte for byte, where it is `full` by the four packets that it holds.
use Rattle.worked_facts.proofs.Words.{Bool, BringsWithin, ComesWithHeld, Contains, Entry, Finer, Full, GoesBetween, Ip6, IsOwnTest, List, None, Option, Reach, Scenario, Some, [], ap, arith, asks_at, bearing_of, client, drop, false, false≢true, finer_back_row, finer_of, finer_relayed, from_native_row, from_six, given, held_from, holds_most, inr, is_heard_once_sent, is_led_to, is_of_server, is_settled, is_some, known_by, lit<, must_ask, native, option_map, play, playing, reach_of, refl, slice_get, some_words, speaks_to, speaks_to_both, subst, sym, take, test_bytes, true, unwrap_or, ℕ, ◌*◌, ◌+◌, ◌^◌, ◌∙◌, ◌∷◌, ◌≡◌}
use Rattle.nat_kinds.specs.declared.kind.NatKind.TheVariants as kind
use Rattle.teredo_node.specs.declared.fate.Fate.TheVariants as fate
use Rattle.events.specs.declared.event.Event.TheVariants as event
use Rattle.theory_reaching.specs.declared.word.Reach.TheVariants as word
use Rattle.theory_reaching.specs.ThroughRelay.{relayed}
use Rattle.theory_reaching.specs.FinerWords as finer
use Rattle.worked_facts.proofs.NativeNodes.{host_six, a_own, a_own_cone, client_row, host_row, relay_row, lab, to_a, after_qualifying, after_cone_qualifying}
use Rattle.worked_facts.proofs.NativeFacts.{to_cone_x, to_cone-goes, to_cone-no-reply}
use Rattle.worked_facts.proofs.WordViews.{next_seen, IsNextByWord, next_by_word}
use Rattle.worked_facts.proofs.ComingViews.{brought, handed_over, comes_to_native, comes_to_client}

-- THE TEST OF THE RECORD ITSELF

-- the client draws five nonces and an interval until it is qualified, and for the test the two words after them
abbrev own_nonce : ℕ
own_nonce = 2011 * 2 ^ 32 + 2012

abbrev pub own_x : List ℕ
own_x = test_bytes a_own host_six own_nonce

-- the relay has just asked for the client, and its bubble is on its way, when the client's host hands in just the bytes of that test
abbrev pub guessed : Scenario
guessed = after_qualifying (to_a ∷ event.Deliver 7 ∷ event.Raw 2 own_x ∷ event.Deliver 9 ∷ event.Deliver 10 ∷ event.Deliver 11 ∷ [])

abbrev pub guessed_history : List Full
guessed_history = play some_words guessed 17 []

pub guessed-seen : next_seen (lab kind.Port) 2 4 3 guessed_history ≡ Some (record {
  said = Some word.Barred;
  own = a_own;
  other = host_six;
  node = Some 2;
  input = Some (given own_x);
  fresh = true;
  left = [];
  fates = fate.Queued ∷ fate.Echoed ∷ fate.Six ∷ [];
})
unfolding playing reach_of relayed is_settled is_led_to speaks_to
guessed-seen = refl

pub guessed-goes : GoesBetween a_own host_six own_x
unfolding playing
guessed-goes = record { packet = refl; short = omega arith; no_bubble = refl; source = refl; destination = refl }

pub guessed-is-next : IsNextByWord (lab kind.Port) guessed_history 3 2 4 (client client_row) (native host_row) own_x word.Barred
guessed-is-next = next_by_word (lab kind.Port) 2 4 (client client_row) (native host_row) refl refl own_x tt word.Barred 3 guessed_history guessed-seen
    (record { word = refl; node = refl; input = refl; packet = guessed-goes; fresh = refl; nothing = refl })

-- what the record of the packet draws, and that the client speaks to its server
abbrev drawn_of : Full → Option (Option ℕ)
drawn_of q = option_map (λ (e : Entry). (bearing_of e.step.fate e).nonce) q.entry

guessed-draws : option_map drawn_of (slice_get guessed_history 3) ≡ Some (Some (Some own_nonce))
unfolding playing
guessed-draws = refl

pub guessed-speaks : speaks_to (lab kind.Port) (drop 4 guessed_history) client_row a_own (asks_at (lab kind.Port) client_row) ≡ true
unfolding playing speaks_to
guessed-speaks = refl

own_test : (own host : Ip6) (x : List ℕ) (nonce : ℕ) → x ≡ test_bytes own host nonce → (q : Full) → drawn_of q ≡ Some (Some nonce) → IsOwnTest q own host x
own_test own host x nonce same q drawn = by q.entry refl drawn where
  by : (o : Option Entry) → q.entry ≡ o → option_map (λ (e : Entry). (bearing_of e.step.fate e).nonce) o ≡ Some (Some nonce) → IsOwnTest q own host x
  by None did none = absurd (false≢true (ap (λ (p : Option (Option ℕ)). is_some p) none))
  by (Some e) did some = record {
    entry = e;
    did = did;
    nonce = nonce;
    drew = ap (λ (p : Option (Option ℕ)). unwrap_or p None) some;
    same = same;
  }

pub guessed-is-own : (q : Full) → slice_get guessed_history 3 ≡ Some q → IsOwnTest q a_own host_six own_x
guessed-is-own q at = own_test a_own host_six own_x own_nonce refl q
    (ap (λ (p : Option (Option (Option ℕ))). unwrap_or p None) (sym (ap (λ (o : Option Full). option_map drawn_of o) at) ∙ guessed-draws))

pub guessed-brought : brought 1 guessed_history ≡ Some (record { node = Some 4; input = Some (from_six own_x) })
unfolding playing
guessed-brought = refl

-- it comes with the second delivery
pub guessed-comes : BringsWithin 2 4 (native host_row) own_x (take 3 guessed_history)
guessed-comes = comes_to_native 2 3 1 (omega arith) (omega arith) 4 host_row own_x _ (record { node = refl; input = refl }) guessed_history guessed-brought

-- A PACKET THAT IS HELD

-- the client holds four packets of the host, and two seconds later the host sends one more with the same bytes
abbrev pub held_four : Scenario
held_four = after_cone_qualifying (to_a ∷ event.Deliver 2 ∷ event.Deliver 3 ∷ to_a ∷ event.Deliver 5 ∷ event.Deliver 6 ∷ to_a ∷ event.Deliver 7 ∷ event.Deliver 8
    ∷ to_a ∷ event.Deliver 9 ∷ event.Deliver 10 ∷ event.Advance 2000 ∷ to_a ∷ event.Deliver 11 ∷ event.Deliver 12 ∷ event.Deliver 13 ∷ event.Deliver 14
    ∷ event.Deliver 15 ∷ event.Deliver 16 ∷ [])

abbrev pub held_history : List Full
held_history = play some_words held_four 24 []

pub held-seen : next_seen (lab kind.Cone) 4 2 6 held_history ≡ Some (record {
  said = Some word.Full;
  own = host_six;
  other = a_own_cone;
  node = Some 4;
  input = Some (given to_cone_x);
  fresh = true;
  left = [];
  fates = fate.Rule2 ∷ fate.Sent ∷ fate.Echoed ∷ fate.Six ∷ fate.SuspiciousTest ∷ fate.Sent ∷ [];
})
unfolding playing reach_of relayed is_settled is_led_to speaks_to
held-seen = refl

pub held-is-next : IsNextByWord (lab kind.Cone) held_history 6 4 2 (native host_row) (client client_row) to_cone_x word.Full
held-is-next = next_by_word (lab kind.Cone) 4 2 (native host_row) (client client_row) refl refl to_cone_x to_cone-no-reply word.Full 6 held_history held-seen
    (record { word = refl; node = refl; input = refl; packet = to_cone-goes; fresh = refl; nothing = refl })

-- what the client holds then, the finer word, and that without the four packets it would be another one; and the relay need not ask
pub record HeldThere : Type 0 where
  pub held : List (List ℕ)
  pub most : Bool
  pub said : Option Finer
  pub without : Finer
  pub asks : Bool

abbrev pub held_there : List Full → HeldThere
held_there H = record {
  held = held_from relay_row.at (known_by H 2 host_six).held;
  most = holds_most (known_by H 2 host_six);
  said = finer_of (lab kind.Cone) H 4 2;
  without = finer_back_row (record (finer_relayed (lab kind.Cone) H 2 client_row host_row relay_row) { holds_most = false });
  asks = must_ask H 3 a_own_cone;
}

pub held-there : held_there (drop 7 held_history) ≡ record {
  held = to_cone_x ∷ to_cone_x ∷ to_cone_x ∷ to_cone_x ∷ [];
  most = true;
  said = Some finer.full;
  without = finer.within 6;
  asks = false;
}
unfolding playing finer_of finer_relayed speaks_to speaks_to_both is_heard_once_sent is_of_server is_led_to
held-there = refl

pub held-is-held : Contains (held_from relay_row.at (known_by (drop 7 held_history) 2 host_row.six).held) to_cone_x
held-is-held = subst (λ (z : HeldThere). Contains z.held to_cone_x) (sym held-there) (0, lit< tt, refl)

-- the word, were none held
abbrev without_held : List Full → Reach
without_held H = from_native_row (record (relayed (lab kind.Cone) H 2 client_row host_row relay_row) { holds_most = false })

held-else : without_held (drop 7 held_history) ≡ word.Within6
unfolding playing relayed is_settled is_led_to
held-else = refl

abbrev is_six : Reach → Bool
is_six word.Within6 = true
is_six _ = false

-- so it is among what comes with those
pub held-comes-with : ComesWithHeld (lab kind.Cone) (drop 7 held_history) 2 host_row client_row to_cone_x
held-comes-with = record {
  via = relay_row;
  through = refl;
  held = held-is-held;
  alone = λ e. false≢true (ap is_six (sym e) ∙ ap is_six held-else);
}

pub held-brought : handed_over 0 held_history ≡ Some (record {
  node = Some 2;
  handed = None;
  late = to_cone_x ∷ to_cone_x ∷ to_cone_x ∷ to_cone_x ∷ [];
})
unfolding playing
held-brought = refl

-- it comes with the sixth delivery
pub held-comes : BringsWithin 6 2 (client client_row) to_cone_x (take 6 held_history)
held-comes = comes_to_client 6 6 0 (omega arith) (omega arith) 2 client_row to_cone_x _
    (record { node = refl; packet = inr (0, lit< tt, refl) }) held_history held-brought
