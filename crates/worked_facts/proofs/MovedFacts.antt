-- A word that says that a packet doesn't come, computed: `moved` of a client whose NATs give it another port than its address says, since the
-- outer one was restarted and another client spoke first. Its bubbles leave from there, and bring nothing.
use Rattle.worked_facts.proofs.Words.{ClientNode, Event, Full, GoesBetween, Ip6, IsShut, List, Some, [], arith, bubbles_stray, client, given, ip6, is_led_to, is_settled, playing, reach_of, refl, speaks_to, strays_to, take, true, two_clients, ℕ, ◌∷◌, ◌≡◌}
use Rattle.teredo_node.specs.declared.fate.Fate.TheVariants as fate
use Rattle.events.specs.declared.event.Event.TheVariants as event
use Rattle.events.specs.declared.target.Target.TheVariants as target
use Rattle.theory_reaching.specs.declared.word.Reach.TheVariants as word
use Rattle.worked_facts.proofs.ReachFacts.{acquainted, behind_third, home_client, played}
use Rattle.worked_facts.proofs.WordViews.{next_seen, IsNextByWord, next_by_word}
use Rattle.worked_facts.proofs.ComingViews.{is_nothing_over, not_given}

-- the first client's address embeds the first port of the third NAT, which its own NAT is behind
abbrev pub a_own : Ip6
a_own = ip6 (32 ∷ 1 ∷ 0 ∷ 0 ∷ 192 ∷ 0 ∷ 2 ∷ 1 ∷ 0 ∷ 0 ∷ 251 ∷ 255 ∷ 57 ∷ 204 ∷ 155 ∷ 252 ∷ [])

abbrev pub c_own : Ip6
c_own = ip6 (32 ∷ 1 ∷ 0 ∷ 0 ∷ 192 ∷ 0 ∷ 2 ∷ 1 ∷ 0 ∷ 0 ∷ 251 ∷ 255 ∷ 57 ∷ 204 ∷ 155 ∷ 253 ∷ [])

abbrev pub a_row : ClientNode
a_row = home_client 97 1 2

abbrev pub c_row : ClientNode
c_row = home_client 99 2 4

-- the third NAT is restarted, and the second client, which is behind it, sends first: it gets that port. Then the first client sends the third
-- one a packet
abbrev pub overtaken : List Event
overtaken = acquainted (event.Restart 3 ∷ event.Host 6 (target.Node 7) (2 ∷ []) ∷ event.Settle
    ∷ event.Host 5 (target.Node 7) (104 ∷ 101 ∷ 108 ∷ 108 ∷ 111 ∷ []) ∷ event.Next ∷ event.Next ∷ [])

abbrev pub overtaken_history : List Full
overtaken_history = played behind_third overtaken

abbrev pub overtaken_x : List ℕ
overtaken_x = 96 ∷ 0 ∷ 0 ∷ 0 ∷ 0 ∷ 5 ∷ 253 ∷ 64 ∷ 32 ∷ 1 ∷ 0 ∷ 0 ∷ 192 ∷ 0 ∷ 2 ∷ 1 ∷ 0 ∷ 0 ∷ 251 ∷ 255 ∷ 57 ∷ 204 ∷ 155 ∷ 252 ∷ 32 ∷ 1 ∷ 0 ∷ 0 ∷ 192 ∷ 0
    ∷ 2 ∷ 1 ∷ 0 ∷ 0 ∷ 251 ∷ 255 ∷ 57 ∷ 204 ∷ 155 ∷ 253 ∷ 104 ∷ 101 ∷ 108 ∷ 108 ∷ 111 ∷ []

pub overtaken-seen : next_seen behind_third 5 7 2 overtaken_history ≡ Some (record {
  said = Some word.Moved;
  own = a_own;
  other = c_own;
  node = Some 5;
  input = Some (given overtaken_x);
  fresh = true;
  left = [];
  fates = fate.Mismatch ∷ fate.NatClosed ∷ [];
})
unfolding playing reach_of two_clients is_settled is_led_to speaks_to bubbles_stray strays_to
overtaken-seen = refl

pub overtaken-goes : GoesBetween a_own c_own overtaken_x
unfolding playing
overtaken-goes = record { packet = refl; short = omega arith; no_bubble = refl; source = refl; destination = refl }

pub overtaken-is-next : IsNextByWord behind_third overtaken_history 2 5 7 (client a_row) (client c_row) overtaken_x word.Moved
overtaken-is-next = next_by_word behind_third 5 7 (client a_row) (client c_row) refl refl overtaken_x tt word.Moved 2 overtaken_history overtaken-seen
    (record { word = refl; node = refl; input = refl; packet = overtaken-goes; fresh = refl; nothing = refl })

pub overtaken-over : is_nothing_over (take 2 overtaken_history) ≡ true
unfolding playing
overtaken-over = refl

pub overtaken-shut : IsShut 7 (client c_row) overtaken_x (take 2 overtaken_history)
overtaken-shut = not_given 7 overtaken_x (take 2 overtaken_history) overtaken-over
