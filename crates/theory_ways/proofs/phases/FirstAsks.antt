-- In phase Cone a client asks its server's primary address alone, from its first datagram on.
use Rattle.theory_ways.proofs.Words.{AllByRecursion, Bool, ClientNode, Cone, Contains, Entry, Ep, Full, Has, Ip6, IsActOf, IsBubbleTo, IsCarriedTo, IsJournal, IsSending, Lab, List, NatEntry, Option, Out, Outward, Qualification, Send, Settings, Some, Turn, [], act_out, ap, asks_cone, asks_restricted, asks_secondary, begins, bubbles, carries, client, client_journals, cond, counting, differs, each_send, ends, false, false≢true, find, first_from, has_of, has_passed, inl, inr, is_answered, is_node, is_qualified, is_same, is_some, is_told, journal, knows_endpoint, nat_history, nat_of, none_has, not, outer_nats_of, outs_at, passed_known, phase_next, qualification, qualified_has_address, qualifies, refl, refreshes, renews, same_ep, same_ep-self, says_nothing, server_asked, solicits, starts, subst, sym, tests, true, turn_of, unwrap_or, went_to, with_entry, ℕ, ◌&&◌, ◌||◌, ◌∙◌, ◌∷◌, ◌≡◌, ◌⊎◌}
use Rattle.qualify.specs.Turns.{is_changed}
use Rattle.theory_ways.proofs.chains.Rises.{IsPart, whole_part, next_part}
use Rattle.theory_ways.proofs.phases.OneMore.{Asker, OneMore, was, after, stands, own_did}
use Rattle.theory_ways.proofs.outwards.Asks.{server_of, latest_ask, IsAsk, left_at}
use Rattle.theory_ways.proofs.phases.Sound.{settings_of, standing_of, way_of, Asks, AloneFrom}
use Rattle.theory_ways.proofs.chains.Places.{at_next}
use Rattle.theory_ways.proofs.outwards.StillAsks.{CameFrom, new_or_old, came_next}
use Rattle.theory_ways.proofs.phases.StillAlone.{NoneOld, AllNew, first_alone}
use Rattle.theory_ways.proofs.outwards.Fresh.{come, entries_are}
use Rattle.theory_ways.proofs.phases.Calm.{IsCalm}
use Rattle.theory_ways.proofs.outwards.CameFrom.{Came, came}
use Rattle.theory_ways.proofs.outwards.NoneOut.{Nothing}
use Rattle.theory_ways.proofs.phases.Concerns.{SentNothing, nothing_yet, own_node, own_record}

-- nothing of the client counts at its next NAT at a moment
abbrev pub IsUnseenAt : Asker → ℕ → Type 0
IsUnseenAt v m =
    (d : Outward) → Contains (counting (nat_of v.lab v.row.nat).idle m (nat_history v.lab v.row.nat v.past)) d → d.inside ≡ v.row.inside → ⊥

-- these NATs didn't know where what the client sent first came from
abbrev pub Unknown : OneMore → List ℕ → Type 0
Unknown x way = AllByRecursion (λ (j : ℕ). passed_known x.lab (x.full ∷ x.before) x.number j ≡ false) way

-- what came first to a NAT came from where it knew nothing
known_of : (s a b x y : Bool) → cond s false ((not a && b && x) || y) ≡ false → s ≡ false → a ≡ false → b ≡ true → x ≡ false
known_of false false true false y h e f g = refl
known_of false false true true y h e f g = h
known_of true a b x y h e f g = absurd (false≢true (sym e))
known_of false true b x y h e f g = absurd (false≢true (sym f))
known_of false false false x y h e f g = absurd (false≢true g)

-- an act of the client in a calm history
pub record CalmAct : Type 0 where
  pub x : OneMore
  pub calm : IsCalm x
  pub e : Entry
  pub act : IsActOf x.lab x.before x.full x.number (client x.row) e

module _ (calm_act : CalmAct) where
  open calm_act use {x, calm, e, act}

  abbrev lab : Lab
  lab = x.lab

  abbrev H : List Full
  H = x.before

  abbrev r : Full
  r = x.full

  abbrev n : ℕ
  n = x.number

  abbrev c : ClientNode
  c = x.row

  abbrev s : Settings
  s = settings_of (was x)

  abbrev q : Qualification
  q = standing_of (was x)

  abbrev P : Ep
  P = server_of (was x)

  -- WHERE IT SENDS

  is_journal : IsJournal s (with_entry (journal n H) e)
  is_journal = subst (IsJournal s) act.later (client_journals lab (r ∷ H) n c x.grown (stands lab n c x.there)).journal

  before_is_journal : IsJournal s (journal n H)
  before_is_journal = (client_journals lab H n c x.grown.1 (stands lab n c x.there)).journal

  to_primary : (u : Turn) → is_told u ≡ false → server_asked s (unwrap_or (begins u) Cone) ≡ P
  to_primary asks_cone h = refl
  to_primary asks_restricted h = refl
  to_primary asks_secondary h = refl
  to_primary ends h = refl
  to_primary refreshes h = refl
  to_primary (qualifies cone) h = absurd (false≢true (sym h))
  to_primary is_answered h = absurd (false≢true (sym h))
  to_primary differs h = absurd (false≢true (sym h))
  to_primary is_same h = refl
  to_primary is_changed h = absurd (false≢true (sym h))
  to_primary renews h = refl
  to_primary says_nothing h = refl

  no_address : q.phase ≡ Cone → (own : Ip6) → q.address ≡ Some own → ⊥
  no_address cone own has = false≢true (sym (ap is_qualified cone) ∙ sym (qualified_has_address s (journal n H) before_is_journal)
      ∙ ap (λ (o : Option Ip6). is_some o) has)

  -- what it may send with this entry
  abbrev Sends : Send → Type 0
  Sends y = IsSending s q (qualification s (with_entry (journal n H) e)).phase e.peer (IsBubbleTo e) (IsCarriedTo (journal n H) e) y

  one_send : q.phase ≡ Cone → is_told (turn_of e) ≡ false → (y : Send) → Sends y → y.to ≡ P
  one_send cone h y (solicits nonce same) = ap (λ (z : Send). z.to) same
      ∙ ap (server_asked s) (phase_next s (journal n H) e ∙ ap (unwrap_or (begins (turn_of e))) cone) ∙ to_primary (turn_of e) h
  one_send cone h y (bubbles own p to has peer goes same) = absurd (no_address cone own has)
  one_send cone h y (tests own p nonce has peer same) = absurd (no_address cone own has)
  one_send cone h y (carries to bytes own goes same) = absurd (no_address cone _ own.source)

  all_sends : q.phase ≡ Cone → is_told (turn_of e) ≡ false → (ys : List Send) → AllByRecursion Sends ys → AllByRecursion (λ (y : Send). y.to ≡ P) ys
  all_sends cone h [] a = tt
  all_sends cone h (y ∷ ys) a = (one_send cone h y a.0, all_sends cone h ys a.1)

  -- new datagrams go to its server
  abbrev pub SendsGo : Type 0
  SendsGo = (k : ℕ) (d : Outward) → Has (outs_at k r.passed) (Out d) → d.dst ≡ P

  pub sends_go : q.phase ≡ Cone → is_told (turn_of e) ≡ false → SendsGo
  sends_go cone h k d there = act_out (λ (z : Ep). z ≡ P) (record { lab = lab; past = H; full = r; number = n; row = c; entry = e; act = act }) k d
      (all_sends cone h e.step.sends (each_send s (journal n H) e is_journal))
      (subst (λ (xs : List NatEntry). Has xs (Out d)) (sym (entries_are x (own_did x e act) k d there)) there)

  -- THE FIRST DATAGRAM

  -- an ask is new where there was none
  newly : {k : ℕ} {inside : Ep} {d : Outward} → Nothing n H k → IsAsk (after x) k inside d → Has (outs_at k r.passed) (Out d)
  newly {k} {d} none ask = by (new_or_old x (own_record x calm e act) k d ask.latest) where
    by : (Has (outs_at k r.passed) (Out d) × (d.dst ≡ P)) ⊎ (latest_ask (was x) k ≡ Some (Out d)) → Has (outs_at k r.passed) (Out d)
    by (inl new) = new.0
    by (inr old) = absurd (false≢true (ap (λ (o : Option NatEntry). is_some o) (sym (ap (find (went_to P)) none.let_out) ∙ old)))

  none_old : (j : ℕ) (inside : Ep) → knows_endpoint lab H j r.moment (Some inside) ≡ false → NoneOld x j inside
  none_old j inside none d counts left =
      let were = counting (nat_of lab j).idle r.moment (nat_history lab j H) in
      none_has (λ (z : Outward). same_ep z.inside inside) were d none (has_of were d counts)
      (ap (λ (z : Ep). same_ep z inside) left ∙ same_ep-self inside)

  -- what NAT j let out first came from where it knew nothing
  none_at : SendsGo → {j : ℕ} {inside : Ep} {d : Outward} → CameFrom x j inside → Nothing n H j → passed_known lab (r ∷ H) n j ≡ false
      → IsAsk (after x) j inside d → NoneOld x j inside
  none_at f {j} {inside} {d} came_j nothing_j known_j ask =
      let y : Came r.passed j = came j r.passed d (newly nothing_j ask) in
      let from : y.inside ≡ inside = sym y.from ∙ came_j y.datagram y.there (f j y.datagram y.there) in
      let unknown : knows_endpoint lab H j r.moment (first_from j r.passed) ≡ false = known_of (starts n r) (has_passed H n j) (is_node n r.node)
      (knows_endpoint lab H j r.moment (first_from j r.passed)) (passed_known lab H n j) known_j calm.off nothing_j.passed (own_node x calm e act) in
      none_old j inside (ap (knows_endpoint lab H j r.moment) (ap (λ (z : Ep). Some z) (sym from) ∙ sym y.is) ∙ unknown)

  new_all : SendsGo → (way : List ℕ) {k : ℕ} {inside : Ep} (o : Ep) → IsPart lab c way k → AllByRecursion (Nothing n H) (k ∷ way) → Unknown x way
      → CameFrom x k inside × NoneOld x k inside → AllNew x way k inside o
  new_all f [] {k} o part nothing_here known fresh = ((λ d h left. f k d h), fresh.1)
  new_all f (j ∷ way) {k} {inside} o part nothing_here known fresh = (
    ((λ d h left. f k d h), fresh.1),
    λ a ask asks.
        let came_j = came_next x (own_record x calm e act) part fresh.0 ask in
        new_all f way {inside = (left_at lab k a)} o (next_part lab c way k j part) nothing_here.1 known.1
        (came_j, none_at f came_j nothing_here.1.0 known.0 asks.1),
  )

  -- so all that counts went to the server, once it asked along its way
  pub alone_first : q.phase ≡ Cone → is_told (turn_of e) ≡ false → SentNothing x calm → IsUnseenAt (was x) r.moment → Unknown x (outer_nats_of lab c)
      → (o : Ep) → Asks (after x) o → AloneFrom (after x) (way_of (was x)) c.inside
  alone_first cone h none unseen known o a = first_alone x (outer_nats_of lab c) c.nat c.inside o a
      (new_all (sends_go cone h) (outer_nats_of lab c) {inside = c.inside} o (whole_part lab c x.there.chained) (nothing_yet x calm none) known
      (λ d there to. at_next lab c x.there.chained r.passed (come x (own_did x e act)) d there, unseen))
