-- A delivery that comes to a node: trust lasts, and what it has to weigh less than.
use Rattle.theory_storms.proofs.Words.{Bool, Delivery, Entry, Ep, Full, Grown, Ip6, IsMissed, IsReached, IsTopology, Item, Journal, Lab, List, Mention, Node, None, Option, RelayNode, RelaySettings, Some, TopologyState, TrustLasts, ap, client, done_with, eqb-false, eqb-true, false, is_some, items_of, journal, known, legal_deliveries, nat, native, node_at, now, refl, relay, relay_in, relay_mention, relay_mentions, relay_settings, relay_six, relay_trusts, server, six, subst, sum_by, sym, to_nobody, to_node, true, trusts_as, udp, unwrap_or, waiting_at, weight_with, with_entry, ℕ, ◌+◌, ◌<◌, ◌==◌, ◌∙◌, ◌∷◌, ◌≡◌}
use Rattle.theory_storms.proofs.relays.Relays.{one_more}
use Rattle.theory_storms.proofs.relays.Trusts as trusted
use Rattle.theory_storms.proofs.EasedWeights.{Ease, Lasts}

-- a record after a history in which relays trust whom they trusted, and the ease with which is weighed
pub record Weighing : Type 0 where
  pub ease : Ease
  pub lab : Lab
  pub before : List Full
  pub full : Full
  pub is : IsTopology lab.topology
  pub grown : Grown lab (full ∷ before)
  pub lasts : Lasts lab.topology before (full ∷ before)

abbrev pub topology_of : Weighing → TopologyState
topology_of s = s.lab.topology

-- the records with it
abbrev pub after : Weighing → List Full
after s = s.full ∷ s.before

abbrev pub Comes : Weighing → ℕ → Node → Item → Type 0
Comes s n a x = IsReached s.lab s.before s.full n a x

abbrev pub weigh_before : Weighing → Item → ℕ
weigh_before s x = weight_with s.ease.amount (topology_of s) s.before x

abbrev pub weigh_after : Weighing → Item → ℕ
weigh_after s x = weight_with s.ease.amount (topology_of s) (after s) x

-- what the node made, and what waits in it then, weigh less than the entry, and what waited in it before
abbrev pub NodeEases : Weighing → ℕ → Node → Item → Type 0
NodeEases s n a x = sum_by (weigh_after s) (items_of s.full) + waiting_at s.ease.amount (topology_of s) (after s) n a
    < weigh_before s x + waiting_at s.ease.amount (topology_of s) s.before n a

-- TRUST LASTS

moment_in : (s : RelaySettings) (j : List Entry) (m : ℕ) (src : Ep) (x : List ℕ) → (relay_in s j m src x).moment ≡ m
unfolding relay_in
moment_in s j m src x = refl

moment_six : (s : RelaySettings) (j : List Entry) (m : ℕ) (x : List ℕ) → (relay_six s j m x).moment ≡ m
unfolding relay_six
moment_six s j m x = refl

answers_then : (lab : Lab) (H : List Full) (r : Full) (n : ℕ) (q : RelayNode) (x : Item) → (done_with lab H r n (relay q) x).moment ≡ r.moment
answers_then lab H r n q (udp src dst bytes) = moment_in (relay_settings lab.topology n q) (journal n H).entries r.moment src bytes
answers_then lab H r n q (six to bytes) = moment_six (relay_settings lab.topology n q) (journal n H).entries r.moment bytes

-- where no journal changes
same_trust : (H : List Full) (r : Full) (n : ℕ) (c : Ip6) → r.moment ≡ now H → journal n (r ∷ H) ≡ journal n H → (o : Option Node)
    → trusts_as H n c o ≡ true → trusts_as (r ∷ H) n c o ≡ true
same_trust H r n c moment same (Some (relay q)) h =
    ap (λ (z : Journal). is_some (known (relay_mentions z.entries) r.moment c).trusted) same
    ∙ ap (λ (k : ℕ). is_some (known (relay_mentions (journal n H).entries) k c).trusted) moment ∙ h
same_trust H r n c moment same None h = h
same_trust H r n c moment same (Some (server a)) h = h
same_trust H r n c moment same (Some (nat a)) h = h
same_trust H r n c moment same (Some (client a)) h = h
same_trust H r n c moment same (Some (native a)) h = h

-- where nobody was reached
pub lasts_missed : (lab : Lab) (H : List Full) (r : Full) (x : Item) → IsMissed lab H r x → Lasts lab.topology H (r ∷ H)
unfolding relay_trusts
lasts_missed lab H r x m n c h = same_trust H r n c m.moment (m.journals n) (node_at lab.topology n) h

module _ {lab : Lab} {H : List Full} {r : Full} {n : ℕ} {a : Node} {x : Item} (h : IsReached lab H r n a x) where
  -- of the node itself
  own : (c : Ip6) (o : Option Node) → node_at lab.topology n ≡ o → trusts_as H n c o ≡ true → trusts_as (r ∷ H) n c o ≡ true
  own c None e g = g
  own c (Some (server b)) e g = g
  own c (Some (nat b)) e g = g
  own c (Some (client b)) e g = g
  own c (Some (native b)) e g = g
  own c (Some (relay q)) e g =
      let is : a ≡ relay q = ap (λ (z : Option Node). unwrap_or z a) (sym h.act.there ∙ e) in
      let did : Entry = done_with lab H r n (relay q) x in
      let next : journal n (r ∷ H) ≡ with_entry (journal n H) did = h.act.later ∙ ap (λ (b : Node). with_entry (journal n H) (done_with lab H r n b x)) is in
      let before : is_some (known (relay_mentions (journal n H).entries) r.moment c).trusted ≡ true =
      ap (λ (k : ℕ). is_some (known (relay_mentions (journal n H).entries) k c).trusted) h.moment ∙ g in
      ap (λ (z : Journal). is_some (known (relay_mentions z.entries) r.moment c).trusted) next
      ∙ ap (λ (ms : List Mention). is_some (known ms r.moment c).trusted) (one_more did (journal n H).entries)
      ∙ trusted.lasts (relay_mention did) (relay_mentions (journal n H).entries) c r.moment (answers_then lab H r n q x) before

  pub lasts_reached : Lasts lab.topology H (r ∷ H)
  unfolding relay_trusts
  lasts_reached k c g = by (n == k) refl where
    by : (b : Bool) → (n == k) ≡ b → trusts_as (r ∷ H) k c (node_at lab.topology k) ≡ true
    by true e = subst (λ (l : ℕ). trusts_as H l c (node_at lab.topology l) ≡ true → trusts_as (r ∷ H) l c (node_at lab.topology l) ≡ true) (eqb-true n k e)
        (own c (node_at lab.topology n) refl) g
    by false e = same_trust H r k c h.moment (h.others k (λ (s : k ≡ n). eqb-false n k e (sym s))) (node_at lab.topology k) g

-- through each delivery
pub lasts_through : (lab : Lab) (H : List Full) (r : Full) (number : ℕ) → Delivery lab H r number → Lasts lab.topology H (r ∷ H)
lasts_through lab H r number (to_node n a x at h) = lasts_reached h
lasts_through lab H r number (to_nobody x at m) = lasts_missed lab H r x m

pub trust_lasts : TrustLasts
trust_lasts lab H r n c is g new h = lasts_through lab H r new.number (legal_deliveries lab H r new.number g new.delivered) n c h
