-- Who reaches whom in a worked laboratory, computed: with one NAT behind another and without, and after its relay was restarted.
use Rattle.worked_facts.proofs.Words.{ClientNode, Event, Full, Lab, List, NatKind, NatNode, Some, TopologyState, [], bubbles_stray, codes, decimal, ep, false, ip, ip6, is_led_to, is_settled, lab_on, name1, name2, play_in, playing, reach_lines, reach_of, refl, some_words, speaks_to, strays_to, true, two_clients, ℕ, ◌++◌, ◌+◌, ◌∷◌, ◌≡◌}
use Rattle.nat_kinds.specs.declared.kind.NatKind.TheVariants as kind
use Rattle.events.specs.declared.event.Event.TheVariants as event
use Rattle.events.specs.declared.target.Target.TheVariants as target
use Rattle.theory_reaching.specs.declared.word.Reach.TheVariants as word
use Rattle.theory_reaching.specs.ThroughRelay.{relayed}

-- THE LABORATORY

-- NAT number i
abbrev home_nat : ℕ → NatKind → NatNode
home_nat i k = record { name = name2 110 (48 + i); kind = k; external = ip 198 51 100 i; idle = 60000 }

-- the client with a letter, behind a NAT
abbrev pub home_client : ℕ → ℕ → ℕ → ClientNode
home_client letter nat host = record {
  name = name1 letter;
  nat = nat;
  inside = ep (ip 10 0 0 host) 4000;
  server = 0;
  refresh = record { low_ms = 30000; high_ms = 30000 };
  random = false;
  cone_try = true;
}

-- clients behind a port restricted NAT, a cone one, another port restricted one and a symmetric one; and a native host
abbrev pub four_homes : TopologyState
four_homes = record {
  servers = record { name = name2 115 49; primary = ip 192 0 2 1; secondary = ip 192 0 2 2 } ∷ [];
  nats = home_nat 1 kind.Port ∷ home_nat 2 kind.Port ∷ home_nat 3 kind.Cone ∷ home_nat 4 kind.Symmetric ∷ [];
  clients = home_client 97 1 2 ∷ home_client 98 3 3 ∷ home_client 99 2 4 ∷ home_client 100 4 5 ∷ [];
  relays = record { name = name2 114 49; at = ep (ip 203 0 113 9) 3545; six = ip6 (32 ∷ 1 ∷ 13 ∷ 184 ∷ 0 ∷ 0 ∷ 0 ∷ 0 ∷ 0 ∷ 0 ∷ 0 ∷ 0 ∷ 0 ∷ 0 ∷ 0 ∷ 9 ∷ []) } ∷ [];
  natives = record { name = name2 104 49; six = ip6 (32 ∷ 1 ∷ 13 ∷ 184 ∷ 0 ∷ 0 ∷ 0 ∷ 0 ∷ 0 ∷ 0 ∷ 0 ∷ 0 ∷ 0 ∷ 0 ∷ 0 ∷ 1 ∷ []); relay = 9 } ∷ [];
}

-- all find out what NAT they have; then the first client sends to the native host, all of which is delivered
abbrev pub acquainted : List Event → List Event
acquainted rest = event.Advance 0 ∷ event.Settle ∷ event.Advance 12000 ∷ event.Settle ∷ event.Advance 0 ∷ event.Settle
    ∷ event.Host 5 (target.Node 10) (1 ∷ []) ∷ event.Settle ∷ rest

-- the laboratory in which the first NAT is behind the third one, and that in which none is behind another one
abbrev pub behind_third : Lab
behind_third = lab_on some_words four_homes (record { inner = 1; outer = 3 } ∷ [])

abbrev pub apart : Lab
apart = lab_on some_words four_homes []

-- what was played at the end of these events
abbrev pub played : Lab → List Event → List Full
played lab events = play_in lab events 400 []

-- the line of the sums
abbrev pub total_text : (pairs within shut unsaid : ℕ) → List ℕ
total_text pairs within shut unsaid = codes "total pairs " ++ (decimal pairs ++ (codes " within " ++ (decimal within
    ++ (codes " shut " ++ (decimal shut ++ (codes " unsaid " ++ (decimal unsaid ++ codes "\n")))))))

-- THE WORDS

-- the first client has a packet for the third one, which waits
abbrev pub waiting : List Event
waiting = acquainted (event.Host 5 (target.Node 7) (2 ∷ []) ∷ [])

pub with_chain : reach_lines behind_third (played behind_third waiting)
    ≡ codes "a b one_nat\n"
    ∷ codes "a c barred\n"
    ∷ codes "a d away\n"
    ∷ codes "a h1 within 2\n"
    ∷ codes "b a one_nat\n"
    ∷ codes "b c within 4\n"
    ∷ codes "b d away\n"
    ∷ codes "b h1 within 6\n"
    ∷ codes "c a within 6\n"
    ∷ codes "c b within 1\n"
    ∷ codes "c d away\n"
    ∷ codes "c h1 within 9\n"
    ∷ codes "d a off\n"
    ∷ codes "d b off\n"
    ∷ codes "d c off\n"
    ∷ codes "d h1 off\n"
    ∷ codes "h1 a within 2\n"
    ∷ codes "h1 b within 6\n"
    ∷ codes "h1 c within 9\n"
    ∷ codes "h1 d away\n"
    ∷ total_text 20 9 11 0
    ∷ []
unfolding playing reach_of two_clients relayed is_settled is_led_to speaks_to bubbles_stray strays_to
with_chain = refl

-- where the relay was restarted instead it knows nobody: it drops what the first client sends to it at once, and it would have to ask
-- for this client, which has just answered it
abbrev pub forgetful : List Event
forgetful = acquainted (event.Restart 9 ∷ [])

pub after_restart : reach_lines behind_third (played behind_third forgetful)
    ≡ codes "a b one_nat\n"
    ∷ codes "a c within 5\n"
    ∷ codes "a d away\n"
    ∷ codes "a h1 stale\n"
    ∷ codes "b a one_nat\n"
    ∷ codes "b c within 4\n"
    ∷ codes "b d away\n"
    ∷ codes "b h1 within 6\n"
    ∷ codes "c a within 5\n"
    ∷ codes "c b within 1\n"
    ∷ codes "c d away\n"
    ∷ codes "c h1 within 9\n"
    ∷ codes "d a off\n"
    ∷ codes "d b off\n"
    ∷ codes "d c off\n"
    ∷ codes "d h1 off\n"
    ∷ codes "h1 a barred\n"
    ∷ codes "h1 b within 6\n"
    ∷ codes "h1 c within 9\n"
    ∷ codes "h1 d away\n"
    ∷ total_text 20 8 12 0
    ∷ []
unfolding playing reach_of two_clients relayed is_settled is_led_to speaks_to bubbles_stray strays_to
after_restart = refl

-- where no NAT is behind another one the first two clients reach each other
pub without_chain : reach_of apart (played apart waiting) 5 6 ≡ Some word.Within1
unfolding playing reach_of two_clients relayed is_settled is_led_to speaks_to bubbles_stray strays_to
without_chain = refl

pub without_chain_back : reach_of apart (played apart waiting) 6 5 ≡ Some word.Within4
unfolding playing reach_of two_clients relayed is_settled is_led_to speaks_to bubbles_stray strays_to
without_chain_back = refl
