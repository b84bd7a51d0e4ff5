-- The finer words of the laboratory of ReachFacts, computed: they are the words there.
use Rattle.worked_facts.proofs.Words.{Finer, Full, Lab, List, [], away, barred, filter_map, finer_of, finer_relayed, finer_two, flat_map, is_heard_once_sent, is_led_to, is_of_server, off, one_nat, playing, refl, speaks_to, speaks_to_both, within, ℕ, ◌∷◌, ◌≡◌}
use Rattle.worked_facts.proofs.ReachFacts.{behind_third, apart, played, waiting}

-- the four clients and the native host
abbrev hosts : List ℕ
hosts = 5 ∷ 6 ∷ 7 ∷ 8 ∷ 10 ∷ []

-- the words on all pairs, in their order
abbrev pub said_of : Lab → List Full → List Finer
said_of lab H = flat_map (λ (n : ℕ). filter_map (finer_of lab H n) hosts) hosts

pub with_chain : said_of behind_third (played behind_third waiting)
    ≡ one_nat ∷ barred ∷ away ∷ within 2
    ∷ one_nat ∷ within 4 ∷ away ∷ within 6
    ∷ within 6 ∷ within 1 ∷ away ∷ within 9
    ∷ off ∷ off ∷ off ∷ off
    ∷ within 2 ∷ within 6 ∷ within 9 ∷ away
    ∷ []
unfolding playing finer_of finer_two finer_relayed speaks_to speaks_to_both is_heard_once_sent is_of_server is_led_to
with_chain = refl

pub without_chain : said_of apart (played apart waiting)
    ≡ within 1 ∷ barred ∷ away ∷ within 2
    ∷ within 4 ∷ within 4 ∷ away ∷ within 6
    ∷ within 6 ∷ within 1 ∷ away ∷ within 9
    ∷ off ∷ off ∷ off ∷ off
    ∷ within 2 ∷ within 6 ∷ within 9 ∷ away
    ∷ []
unfolding playing finer_of finer_two finer_relayed speaks_to speaks_to_both is_heard_once_sent is_of_server is_led_to
without_chain = refl
