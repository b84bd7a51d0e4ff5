-- Two words that say that a packet doesn't come, computed: `stale` of a native host that is fresh at the client, but trusted elsewhere than at
-- its relay; and `barred` of a client on one that may not try at it yet.
use Rattle.worked_facts.proofs.Words.{Full, GoesBetween, Ip6, IsShut, Lab, List, Scenario, Some, [], arith, bubbles_stray, client, drop, ep, flat_lab, given, ip, ip6, is_led_to, is_settled, is_trusted_at, known_by, meeting, native, play, playing, reach_of, refl, some_words, speaks_to, strays_to, take, true, two_clients, ℕ, ◌∷◌, ◌≡◌}
use Rattle.nat_kinds.specs.declared.kind.NatKind.TheVariants as kind
use Rattle.teredo_node.specs.declared.fate.Fate.TheVariants as fate
use Rattle.events.specs.declared.event.Event.TheVariants as event
use Rattle.events.specs.declared.target.Target.TheVariants as target
use Rattle.theory_reaching.specs.declared.word.Reach.TheVariants as word
use Rattle.theory_reaching.specs.ThroughRelay.{relayed}
use Rattle.worked_facts.proofs.NativeNodes.{host_six, a_own, a_own_cone, client_row, host_row, lab, to_a, to_h, after_cone_qualifying}
use Rattle.worked_facts.proofs.NativeFacts.{to_cone_x, to_cone-goes, to_cone-no-reply}
use Rattle.worked_facts.proofs.OriginFacts.{a, b}
use Rattle.worked_facts.proofs.WordViews.{next_seen, IsNextByWord, next_by_word}
use Rattle.worked_facts.proofs.ComingViews.{is_nothing_over, not_given}

-- TRUSTED ELSEWHERE

-- the answer to the client's first test, in the host's name
abbrev answer : List ℕ
answer = 96 ∷ 0 ∷ 0 ∷ 0 ∷ 0 ∷ 16 ∷ 58 ∷ 255 ∷ 32 ∷ 1 ∷ 13 ∷ 184 ∷ 0 ∷ 0 ∷ 0 ∷ 0 ∷ 0 ∷ 0 ∷ 0 ∷ 0 ∷ 0 ∷ 0 ∷ 0 ∷ 1 ∷ 32 ∷ 1 ∷ 0 ∷ 0
    ∷ 192 ∷ 0 ∷ 2 ∷ 1 ∷ 128 ∷ 0 ∷ 251 ∷ 255 ∷ 57 ∷ 204 ∷ 155 ∷ 254 ∷ 129 ∷ 0 ∷ 13 ∷ 134 ∷ 0 ∷ 0 ∷ 0 ∷ 0 ∷ 0 ∷ 0 ∷ 7 ∷ 211 ∷ 0 ∷ 0 ∷ 7 ∷ 212 ∷ []

-- a stranger answers it before the host does
abbrev pub stolen : Scenario
stolen = after_cone_qualifying (to_h ∷ event.Stranger (ep (ip 203 0 113 66) 4000) (ep (ip 198 51 100 1) 1024) answer ∷ event.Deliver 3
    ∷ to_a ∷ event.Deliver 5 ∷ event.Deliver 6 ∷ [])

abbrev pub stolen_history : List Full
stolen_history = play some_words stolen 10 []

pub stolen-seen : next_seen (lab kind.Cone) 4 2 2 stolen_history ≡ Some (record {
  said = Some word.Stale;
  own = host_six;
  other = a_own_cone;
  node = Some 4;
  input = Some (given to_cone_x);
  fresh = true;
  left = [];
  fates = fate.Suspicious ∷ fate.SentCone ∷ [];
})
unfolding playing reach_of relayed is_settled is_led_to speaks_to
stolen-seen = refl

pub stolen-is-next : IsNextByWord (lab kind.Cone) stolen_history 2 4 2 (native host_row) (client client_row) to_cone_x word.Stale
stolen-is-next = next_by_word (lab kind.Cone) 4 2 (native host_row) (client client_row) refl refl to_cone_x to_cone-no-reply word.Stale 2 stolen_history stolen-seen
    (record { word = refl; node = refl; input = refl; packet = to_cone-goes; fresh = refl; nothing = refl })

-- where the client trusts the host then
pub stolen-elsewhere : is_trusted_at (ep (ip 203 0 113 66) 4000) (known_by (drop 3 stolen_history) 2 host_six) ≡ true
unfolding playing
stolen-elsewhere = refl

pub stolen-over : is_nothing_over (take 2 stolen_history) ≡ true
unfolding playing
stolen-over = refl

pub stolen-shut : IsShut 2 (client client_row) to_cone_x (take 2 stolen_history)
stolen-shut = not_given 2 to_cone_x (take 2 stolen_history) stolen-over

-- BARRED THERE

abbrev b_own : Ip6
b_own = ip6 (32 ∷ 1 ∷ 0 ∷ 0 ∷ 192 ∷ 0 ∷ 2 ∷ 1 ∷ 0 ∷ 0 ∷ 251 ∷ 255 ∷ 57 ∷ 204 ∷ 155 ∷ 253 ∷ [])

abbrev two : Lab
two = flat_lab some_words meeting.topology

-- two clients behind port restricted NATs are qualified. The second one tries at the first, and its straight bubble fails; then the first one
-- sends it a packet
abbrev pub tried : Scenario
tried = record meeting {
  events = event.Advance 12000 ∷ event.Deliver 6 ∷ event.Deliver 7 ∷ event.Deliver 8 ∷ event.Deliver 9 ∷ event.Advance 0 ∷ event.Deliver 10 ∷ event.Deliver 11
      ∷ event.Deliver 12 ∷ event.Deliver 13 ∷ event.Fault 0 ∷ event.Host 4 (target.Node 3) (2 ∷ []) ∷ event.Host 3 (target.Node 4) (104 ∷ 101 ∷ 108 ∷ 108 ∷ 111 ∷ [])
      ∷ event.Deliver 15 ∷ event.Deliver 16 ∷ event.Deliver 17 ∷ [];
}

abbrev pub tried_x : List ℕ
tried_x = 96 ∷ 0 ∷ 0 ∷ 0 ∷ 0 ∷ 5 ∷ 253 ∷ 64 ∷ 32 ∷ 1 ∷ 0 ∷ 0 ∷ 192 ∷ 0 ∷ 2 ∷ 1 ∷ 0 ∷ 0 ∷ 251 ∷ 255 ∷ 57 ∷ 204 ∷ 155 ∷ 254 ∷ 32 ∷ 1 ∷ 0 ∷ 0 ∷ 192 ∷ 0
    ∷ 2 ∷ 1 ∷ 0 ∷ 0 ∷ 251 ∷ 255 ∷ 57 ∷ 204 ∷ 155 ∷ 253 ∷ 104 ∷ 101 ∷ 108 ∷ 108 ∷ 111 ∷ []

abbrev pub tried_history : List Full
tried_history = play some_words tried 26 []

pub tried-seen : next_seen two 3 4 3 tried_history ≡ Some (record {
  said = Some word.Barred;
  own = a_own;
  other = b_own;
  node = Some 3;
  input = Some (given tried_x);
  fresh = true;
  left = [];
  fates = fate.Barred ∷ fate.ForwardOrigin ∷ fate.NatClosed ∷ [];
})
unfolding playing reach_of two_clients is_settled is_led_to speaks_to bubbles_stray strays_to
tried-seen = refl

pub tried-goes : GoesBetween a_own b_own tried_x
unfolding playing
tried-goes = record { packet = refl; short = omega arith; no_bubble = refl; source = refl; destination = refl }

pub tried-is-next : IsNextByWord two tried_history 3 3 4 (client a) (client b) tried_x word.Barred
tried-is-next = next_by_word two 3 4 (client a) (client b) refl refl tried_x tt word.Barred 3 tried_history tried-seen
    (record { word = refl; node = refl; input = refl; packet = tried-goes; fresh = refl; nothing = refl })

pub tried-over : is_nothing_over (take 3 tried_history) ≡ true
unfolding playing
tried-over = refl

pub tried-shut : IsShut 4 (client b) tried_x (take 3 tried_history)
tried-shut = not_given 4 tried_x (take 3 tried_history) tried-over
