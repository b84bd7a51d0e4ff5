-- What a client is given, and what is light: what it makes of that weighs less than that, and what waited before.
use Rattle.theory_storms.proofs.Words.{AllByRecursion, AreOfSends, Bool, ClientNode, Entry, Ep, Fate, Full, HasServer, Heard, IfSome, Ip6, IsIndirect, IsIp6, IsJournal, IsMadeItem, IsSuspect, IsTopology, Item, Journal, Lab, List, Made, Mention, None, Option, ReceivedOnlyIf, Send, Settings, Some, Standing, Words, [], ap, arith, arrived, client_packet, client_settings, cond, entry, false, false≢true, has_any, heard, is_changed, is_payload, is_qualified, is_some_server, is_teredo, is_trusted_for, known, known_in, less, mention, mentions, origin_in, own_address, packet_in, qualification, qualified_has_address, refl, source_in, standing_at, standing_of, subst, sum_by, sym, touched, true, unspecified, unwrap_or, value_in, weight_with, ℕ, ◌+◌, ◌<◌, ◌∙◌, ◌∷◌, ◌≡◌, ◌≤◌}
use Rattle.client_rules.specs.Reception as reception
use Rattle.client_rules.specs.Warrants.{IsForClient}
use Rattle.client_rules.proofs.Addressed as own_addresses
use Rattle.theory_storms.proofs.PeersWait.{waits_for, waits_in, freed, added, shifts, stays}
use Rattle.theory_storms.proofs.EasedWeights.{Ease}
use Rattle.theory_storms.proofs.NewItems.{items_in}

-- WHAT WAITS

abbrev pub mentions_after : Entry → List Mention → List Mention
mentions_after e j = cond (is_changed e.step.fate) [] (mention e ∷ j)

nothing_waits : (m : ℕ) → waits_in client_packet [] m ≡ 0
unfolding touched
nothing_waits m = refl

-- LIGHT ENTRIES

-- what the entry makes and leaves weighs less than this, and what waited before
abbrev pub IsLight : (Item → ℕ) → ℕ → Journal → Entry → ℕ → Type 0
IsLight w m j e heavy = (made : List Made) → AreOfSends made e.step.sends → AllByRecursion IsMadeItem (items_in made)
    → sum_by w (items_in made) + waits_in client_packet (mentions_after e (mentions j.entries)) m
    < heavy + waits_in client_packet (mentions j.entries) m

-- nothing is sent, and no more waits
abbrev pub IsCalm : Entry → Type 0
IsCalm e = (e.step.sends ≡ []) × ((mention e).bearing.touches ≡ false) × ((mention e).bearing.hears ≡ false) × ((mention e).bearing.queues ≡ None)

none_made : (w : Item → ℕ) (made : List Made) (sends : List Send) → AreOfSends made sends → sends ≡ [] → sum_by w (items_in made) ≡ 0
none_made w [] sends are e = refl
none_made w (x ∷ xs) [] are e = absurd are
none_made w (x ∷ xs) (y ∷ ys) are e = absurd (false≢true (sym (ap (λ (zs : List Send). has_any zs) e)))

pub calm : (w : Item → ℕ) (m : ℕ) (j : Journal) (e : Entry) (heavy : ℕ) → 1 ≤ heavy → IsCalm e → IsLight w m j e heavy
calm w m j e heavy least is made are fresh =
    let new = none_made w made e.step.sends are is.0 in
    let less = by (is_changed e.step.fate) in
    omega (arith, least, new, less)
  where
    by : (changed : Bool) → waits_in client_packet (cond changed [] (mention e ∷ mentions j.entries)) m ≤ waits_in client_packet (mentions j.entries) m
    by true = let none = nothing_waits m in omega (arith, none)
    by false = stays client_packet (mention e) (mentions j.entries) m is.1 is.2 is.3

-- A DATAGRAM

-- a client's journal at a moment, with the words that it draws next, and a datagram that weighs this much; what it makes is
-- weighed after these records
pub record AtClient : Type 0 where
  pub ease : Ease
  pub after : List Full
  pub lab : Lab
  pub c : ClientNode
  pub m : ℕ
  pub j : Journal
  pub w : Words
  pub src : Ep
  pub x : List ℕ
  pub heavy : ℕ

abbrev pub weigh : AtClient → Item → ℕ
weigh d x = weight_with d.ease.amount d.lab.topology d.after x

abbrev pub setup : AtClient → Settings
setup d = client_settings d.lab.topology d.c

abbrev pub stands : AtClient → Standing
stands d = standing_of (setup d) d.j d.m (source_in d.x)

-- what is seen of it
abbrev pub seen_of : AtClient → reception.Seen
seen_of d = reception.seen (setup d) (stands d) d.src d.x

abbrev pub heard_of : AtClient → Heard
heard_of d = heard (setup d) (stands d).qualification d.src (value_in d.x)

-- its source, and the client's address
abbrev pub peer_of : AtClient → Ip6
peer_of d = (value_in d.x).packet.src

abbrev pub own_of : AtClient → Ip6
own_of d = own_address (stands d).qualification

-- the entry of each fate, and whether it is light where that is given
abbrev pub came : AtClient → Fate → Entry
came d f = entry d.m (arrived d.src d.x) (packet_in d.x) (source_in d.x) d.w (reception.reception_step (setup d) (stands d) d.src d.x (value_in d.x) d.w f)

abbrev pub LightAs : AtClient → Entry → Type 0
LightAs d e = IsLight (weigh d) d.m d.j e d.heavy

abbrev pub Light : AtClient → Fate → Type 0
Light d f = ReceivedOnlyIf f (seen_of d) (heard_of d) → LightAs d (came d f)

-- what it weighs by what is seen of it, and what is known of the client
pub record IsAtClient (d : AtClient) : Type 0 where
  pub least : 1 ≤ d.heavy
  pub indirect : IsIndirect (seen_of d) → (o : Ep) → origin_in (value_in d.x).lead ≡ Some o → cond (is_some_server d.lab.topology o) 3 2 ≤ d.heavy
  pub suspect : (full : Bool) → IsSuspect full (seen_of d) → less d.ease.amount (is_trusted_for d.lab.topology d.after (peer_of d) (own_of d)) 8 ≤ d.heavy
  pub is_j : IsJournal (setup d) d.j
  pub made_own : IfSome (qualification (setup d) d.j).address IsIp6
  pub made_peer : IfSome (source_in d.x) IsIp6
  pub rules : IsTopology d.lab.topology
  pub served : HasServer d.lab.topology d.c

-- WHAT IS SEEN OF IT

pub payload_is : (d : AtClient) → IsForClient (seen_of d) → is_payload d.x ≡ true
unfolding reception.seen
payload_is d h = h.sound.payload

qualified_is : (d : AtClient) → IsForClient (seen_of d) → is_qualified (qualification (setup d) d.j).phase ≡ true
unfolding reception.seen standing_at
qualified_is d h = h.qualified

pub native_is : (d : AtClient) (full : Bool) → IsSuspect full (seen_of d) → is_teredo (peer_of d) ≡ false
unfolding reception.seen
native_is d full h = h.native

pub source_is : (d : AtClient) → is_payload d.x ≡ true → source_in d.x ≡ Some (peer_of d)
unfolding source_in
source_is d h = ap (λ (b : Bool). cond b (Some (peer_of d)) None) h

pub own_is : (d : AtClient) → IsAtClient d → IsForClient (seen_of d) → (qualification (setup d) d.j).address ≡ Some (own_of d)
unfolding standing_at own_address
own_is d g h = own_addresses.own_is (qualification (setup d) d.j).address (qualified_has_address (setup d) d.j g.is_j ∙ qualified_is d h)

pub known_is : (d : AtClient) → source_in d.x ≡ Some (peer_of d) → (known_in (stands d)).waiting ≡ (known (mentions d.j.entries) d.m (peer_of d)).waiting
unfolding standing_at
known_is d e = ap (λ (o : Option Ip6). (known (mentions d.j.entries) d.m (unwrap_or o unspecified)).waiting) e

-- both are made of bytes
pub own_made : (d : AtClient) → IsAtClient d → IsForClient (seen_of d) → IsIp6 (own_of d)
own_made d g h = subst (λ (o : Option Ip6). IfSome o IsIp6) (own_is d g h) g.made_own

pub peer_made : (d : AtClient) → IsAtClient d → IsForClient (seen_of d) → IsIp6 (peer_of d)
peer_made d g h = subst (λ (o : Option Ip6). IfSome o IsIp6) (source_is d (payload_is d h)) g.made_peer

-- AN ENTRY THAT TOUCHES THE PEER

-- one at the moment, about the source, which touches it; it lasts where no address changes
abbrev pub IsTouch : AtClient → Entry → Type 0
IsTouch d e = (is_changed e.step.fate ≡ false) × (e.moment ≡ d.m) × (e.peer ≡ source_in d.x) × ((mention e).bearing.touches ≡ true)

abbrev before_at : AtClient → ℕ → ℕ
before_at d m = waits_in client_packet (mentions d.j.entries) m

pub shifted : (d : AtClient) (e : Entry) → is_payload d.x ≡ true → IsTouch d e
    → waits_in client_packet (mention e ∷ mentions d.j.entries) d.m + freed client_packet (mention e).bearing.hears
    (waits_for client_packet (mentions d.j.entries) d.m (peer_of d))
    ≤ before_at d d.m + added client_packet (mention e).bearing.queues
shifted d e payload t =
    subst (λ (k : ℕ). waits_in client_packet (mention e ∷ mentions d.j.entries) k
    + freed client_packet (mention e).bearing.hears (waits_for client_packet (mentions d.j.entries) k (peer_of d))
    ≤ before_at d k + added client_packet (mention e).bearing.queues) t.1
    (shifts client_packet (mention e) (mentions d.j.entries) (peer_of d) (t.2 ∙ source_is d payload) t.3)

-- what waits after it
pub lasting : (d : AtClient) (e : Entry) → is_changed e.step.fate ≡ false
    → waits_in client_packet (mentions_after e (mentions d.j.entries)) d.m ≡ waits_in client_packet (mention e ∷ mentions d.j.entries) d.m
lasting d e lasts = ap (λ (b : Bool). waits_in client_packet (cond b [] (mention e ∷ mentions d.j.entries)) d.m) lasts
