-- What a relay is given, and what is light: what it makes of that weighs less than that, and what waited before.
use Rattle.theory_storms.proofs.Words.{AllByRecursion, Entry, Ep, Full, Input, Ip6, IsMadeItem, Item, Journal, Lab, List, Made, Mention, None, Option, RelayNode, RelaySettings, Send, Side, Some, Span, TopologyState, [], ap, arith, armed, arrived, false, false≢true, from_six, given, is_peer, is_some, journal, known, node_at, outright, own_ep, refl, relay, relay_mention, relay_mentions, relay_settings, relay_trusts, six_made, subst, sum_by, sym, ticked, true, trusts_as, waiting_weight, weight_with, with_entry, ℕ, ◌++◌, ◌+◌, ◌<◌, ◌∙◌, ◌∷◌, ◌≡◌, ◌≤◌}
use Rattle.theory_storms.proofs.PeersWait.{waits_for, waits_in, freed, added, shifts, stays}
use Rattle.theory_storms.proofs.NewItems.{items_in}
use Rattle.theory_storms.proofs.relays.Relays.{one_more}
use Rattle.theory_storms.proofs.EasedWeights.{Ease}
use Rattle.theory_storms.proofs.relays.Trusts as trusted

-- record r after H is of relay n, and this is the weight of what the relay is given
pub record AtRelay : Type 0 where
  pub ease : Ease
  pub lab : Lab
  pub H : List Full
  pub r : Full
  pub n : ℕ
  pub q : RelayNode
  pub heavy : ℕ

abbrev pub topology_of : AtRelay → TopologyState
topology_of d = d.lab.topology

abbrev pub journal_of : AtRelay → List Entry
journal_of d = (journal d.n d.H).entries

abbrev pub moment_of : AtRelay → ℕ
moment_of d = d.r.moment

abbrev pub setup : AtRelay → RelaySettings
setup d = relay_settings d.lab.topology d.n d.q

abbrev pub own_of : AtRelay → Side → Ep
own_of d = own_ep (relay d.q)

-- after the record
abbrev pub weigh : AtRelay → Item → ℕ
weigh d = weight_with d.ease.amount d.lab.topology (d.r ∷ d.H)

abbrev pub packet_of : AtRelay → List ℕ → ℕ
packet_of d = waiting_weight d.ease.amount d.lab.topology d.n

abbrev pub waited : AtRelay → ℕ
waited d = waits_in (packet_of d) (relay_mentions (journal_of d)) (moment_of d)

-- what an entry makes
abbrev pub made_by : AtRelay → Entry → List Made
made_by d e = outright (own_of d) (armed d.H) 0 e.step.sends ++ six_made e.input e.step.six

-- it is the relay's next one
abbrev pub IsNext : AtRelay → Entry → Type 0
IsNext d e = journal d.n (d.r ∷ d.H) ≡ with_entry (journal d.n d.H) e

-- what it makes and leaves weighs less than this, and what waited before
abbrev pub IsLight : AtRelay → Entry → Type 0
IsLight d e = IsNext d e → AllByRecursion IsMadeItem (items_in (made_by d e))
    → sum_by (weigh d) (items_in (made_by d e)) + waits_in (packet_of d) (relay_mention e ∷ relay_mentions (journal_of d)) (moment_of d) < d.heavy + waited d

-- nothing is sent, and nothing waits more or less
abbrev pub IsCalm : Entry → Type 0
IsCalm e = (e.step.sends ≡ []) × (e.step.six ≡ None) × ((relay_mention e).bearing.touches ≡ false) × ((relay_mention e).bearing.hears ≡ false) ×
    ((relay_mention e).bearing.queues ≡ None)

pub calm : (d : AtRelay) (e : Entry) → 1 ≤ d.heavy → IsCalm e → IsLight d e
calm d e least is next made =
    let none = ap (λ (ss : List Send). sum_by (weigh d) (items_in (outright (own_of d) (armed d.H) 0 ss ++ six_made e.input e.step.six))) is.0 in
    let packet = no_packet e.input e.step.six is.1 in
    let less = stays (packet_of d) (relay_mention e) (relay_mentions (journal_of d)) (moment_of d) is.2 is.3 is.4 in
    omega (arith, least, none, packet, less)
  where
    no_packet : (i : Input) (o : Option Span) → o ≡ None → sum_by (weigh d) (items_in (six_made i o)) ≡ 0
    no_packet (arrived from x) None h = refl
    no_packet (arrived from x) (Some s) h = absurd (false≢true (ap (λ (z : Option Span). is_some z) (sym h)))
    no_packet (given x) o h = refl
    no_packet (from_six x) o h = refl
    no_packet ticked o h = refl

-- what waits after an entry that touches a peer
pub shifted : (d : AtRelay) (e : Entry) (p : Ip6) → e.moment ≡ moment_of d → e.peer ≡ Some p → (relay_mention e).bearing.touches ≡ true
    → waits_in (packet_of d) (relay_mention e ∷ relay_mentions (journal_of d)) (moment_of d)
    + freed (packet_of d) (relay_mention e).bearing.hears (waits_for (packet_of d) (relay_mentions (journal_of d)) (moment_of d) p)
    ≤ waited d + added (packet_of d) (relay_mention e).bearing.queues
shifted d e p moment peer touches =
    subst (λ (k : ℕ). waits_in (packet_of d) (relay_mention e ∷ relay_mentions (journal_of d)) k + freed (packet_of d) (relay_mention e).bearing.hears
    (waits_for (packet_of d) (relay_mentions (journal_of d)) k p)
    ≤ waits_in (packet_of d) (relay_mentions (journal_of d)) k + added (packet_of d) (relay_mention e).bearing.queues) moment
    (shifts (packet_of d) (relay_mention e) (relay_mentions (journal_of d)) p peer touches)

-- WHOM IT TRUSTS

-- after the record, as the journal's mentions have it
pub trusts_after : (d : AtRelay) (e : Entry) (client : Ip6) → node_at d.lab.topology d.n ≡ Some (relay d.q) → IsNext d e
    → is_some (known (relay_mention e ∷ relay_mentions (journal_of d)) (moment_of d) client).trusted ≡ true
    → relay_trusts d.lab.topology (d.r ∷ d.H) d.n client ≡ true
unfolding relay_trusts
trusts_after d e client there next h =
    ap (trusts_as (d.r ∷ d.H) d.n client) there
    ∙ ap (λ (z : Journal). is_some (known (relay_mentions z.entries) (moment_of d) client).trusted) next
    ∙ ap (λ (ms : List Mention). is_some (known ms (moment_of d) client).trusted) (one_more e (journal_of d)) ∙ h

-- an entry about it gave trust, or it was trusted before
pub begun : (d : AtRelay) (e : Entry) (client : Ip6) (at : Ep) → node_at d.lab.topology d.n ≡ Some (relay d.q) → IsNext d e
    → (e.moment ≡ moment_of d) × (is_peer client e.peer ≡ true) × ((relay_mention e).bearing.touches ≡ true) × ((relay_mention e).bearing.trusts ≡ Some at)
    → relay_trusts d.lab.topology (d.r ∷ d.H) d.n client ≡ true
begun d e client at there next is =
    trusts_after d e client there next
    (trusted.begins (relay_mention e) (relay_mentions (journal_of d)) client is.0 is.1 is.2 is.3)

pub lasting : (d : AtRelay) (e : Entry) (client : Ip6) → node_at d.lab.topology d.n ≡ Some (relay d.q) → IsNext d e → e.moment ≡ moment_of d
    → is_some (known (relay_mentions (journal_of d)) (moment_of d) client).trusted ≡ true → relay_trusts d.lab.topology (d.r ∷ d.H) d.n client ≡ true
lasting d e client there next moment h =
    trusts_after d e client there next (trusted.lasts (relay_mention e) (relay_mentions (journal_of d)) client (moment_of d) moment h)
