-- The laws of this crate, each under the name of its call: crates above cite them from here.
use Rattle.nat_kinds.proofs.Words.{Cone, Ep, FIRST_PORT, IsAnswer, IsPast, List, MAPPINGS_MAX, NatEntry, NatSettings, NatStandsFor, NatState, SameKey, Some, WasAsked, counting, kept, length, lets_in, live_after, live_port, nat_answer, recalled, ℕ, ◌+◌, ◌<◌, ◌↔◌, ◌≡◌, ◌≤◌}
use Rattle.nat_kinds.proofs.AnswerLemmas as answer_lemmas
use Rattle.nat_kinds.proofs.LawLemmas as law_lemmas
use Rattle.nat_kinds.proofs.RecallLemmas as recall_lemmas
use Rattle.nat_kinds.proofs.PortLemmas as port_lemmas
pub use Rattle.nat_kinds.proofs.OrderLemmas.{live_is_latest as latest_datagram_decides}
pub use Rattle.nat_kinds.proofs.LawLemmas.{live_where_counts as counting_datagram_holds_its_port, owner as owner_is_reached, reply as reply_is_let_in}

pub answer_is_lowest_free : (s : NatSettings) (h : List NatEntry) (n : ℕ) (inside dst : Ep) →
    IsAnswer s (live_after s h n) inside dst (nat_answer s h n inside dst)
answer_is_lowest_free = λ s h n inside dst. answer_lemmas.answer-is s (live_after s h n) inside dst

pub port_has_one_key : (s : NatSettings) (h : List NatEntry) (n : ℕ) → IsPast s h n →
    (inside dst inside' dst' : Ep) (port : ℕ) →
    live_port s.kind inside dst (live_after s h n) ≡ Some port →
    live_port s.kind inside' dst' (live_after s h n) ≡ Some port →
    SameKey s.kind inside dst inside' dst'
port_has_one_key = λ s h n past inside dst inside' dst' port a b. law_lemmas.one_key s h n past port (record { inside = inside; dst = dst; live = a }) (record { inside = inside'; dst = dst'; live = b })

pub asked_are_few : (nat : NatState) (h : List NatEntry) → NatStandsFor nat h →
    length nat.asked ≤ length (recalled nat.settings.kind nat.settings.idle nat.moment (kept h))
asked_are_few = λ nat h is. recall_lemmas.recalls_few nat.settings.kind _ nat.asked is.recalls

pub let_in_where_asked : (s : NatSettings) (h : List NatEntry) (n : ℕ) → IsPast s h n →
    (src : Ep) (port : ℕ) (inside : Ep) →
    (lets_in s h n src port ≡ Some inside) ↔ WasAsked s h n src port inside
let_in_where_asked = λ s h n past src port inside. (law_lemmas.asked_where_let_in s h n past src port inside, law_lemmas.let_in_where_asked s h n past src port inside)

pub cone_lets_all_in : (s : NatSettings) (h : List NatEntry) (n : ℕ) → IsPast s h n → s.kind ≡ Cone →
    (inside dst : Ep) (port : ℕ) →
    live_port s.kind inside dst (live_after s h n) ≡ Some port →
    (src : Ep) → lets_in s h n src port ≡ Some inside
cone_lets_all_in = λ s h n past k inside dst port l. law_lemmas.cone s h n past k port (record { inside = inside; dst = dst; live = l })

pub live_mappings_are_few : (s : NatSettings) (h : List NatEntry) (n : ℕ) → IsPast s h n → length (live_after s h n) ≤ MAPPINGS_MAX
live_mappings_are_few = λ s h n past. port_lemmas.count_most s.kind (counting s.idle n h) (law_lemmas.sound_past s h n past)

pub live_ports_are_in_range : (s : NatSettings) (h : List NatEntry) (n : ℕ) → IsPast s h n →
    (inside dst : Ep) (port : ℕ) → live_port s.kind inside dst (live_after s h n) ≡ Some port →
    (FIRST_PORT ≤ port) × (port < FIRST_PORT + MAPPINGS_MAX)
live_ports_are_in_range = λ s h n past inside dst port l. law_lemmas.ports_in_range s h n past port (record { inside = inside; dst = dst; live = l })
