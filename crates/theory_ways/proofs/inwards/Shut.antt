-- What is sent back along a client's way from elsewhere: the outermost NAT that isn't cone shuts it out, where the client sent to its
-- server alone.
use Rattle.theory_ways.proofs.Words.{Behind, Bool, EntersPast, Ep, Full, Grown, Inward, IsPast, Lab, List, NatEntry, NatSettings, None, Option, Outward, Some, WasAsked, [], ap, arith, comes_to, counting_datagram_holds_its_port, false, false≢true, goes_in, inner_at, is_cone_kind, key_inside, length, let_in, let_in_where_asked, list_all, live_after, live_port, nat_history, nat_of, nat_pasts, now, only_cone, option_map, port_has_one_key, refl, server_ep, set_up_past, shut_at, subst, sym, true, unwrap_or, ℕ, ◌&&◌, ◌++◌, ◌+◌, ◌∙◌, ◌∷◌, ◌≡◌, ◌≤◌}
use Rattle.theory_ways.proofs.chains.Chains.{Link, link, links_of}
use Rattle.theory_ways.proofs.chains.Climbs.{Climb}
use Rattle.theory_ways.proofs.chains.Nats.{nat_there, inner_found}
use Rattle.theory_ways.proofs.inwards.Enters.{left}
use Rattle.theory_ways.proofs.phases.OneMore.{Asker, IsThere}
use Rattle.theory_ways.proofs.outwards.Asks.{server_of, Counts, left_at}
use Rattle.theory_ways.proofs.phases.Sound.{settings_of, AloneFrom}
use Rattle.theory_ways.proofs.outwards.Held.{IsHeld, Held}
use Rattle.theory_ways.proofs.inwards.LetIn.{any_enters}

-- a client, where its server has two addresses
pub record ShutSide : Type 0 where
  pub v : Asker
  pub g : Grown v.lab v.past
  pub there : IsThere v.lab v.number v.row
  pub apart : (settings_of v).primary ≡ (settings_of v).secondary → ⊥

module _ (the : ShutSide) where
  open the use {v, g, there, apart}

  abbrev lab : Lab
  lab = v.lab

  abbrev H : List Full
  H = v.past

  abbrev s : ℕ → NatSettings
  s k = nat_of lab k

  abbrev past : ℕ → List NatEntry
  past k = nat_history lab k H

  is_past : (k : ℕ) → IsPast (s k) (past k) (now H)
  is_past k = set_up_past lab H k g

  abbrev AllCone : List ℕ → Bool
  AllCone way = list_all (λ (k : ℕ). is_cone_kind (nat_of lab k).kind) way

  abbrev Q : Ep
  Q = server_ep (settings_of v).secondary

  abbrev chain : List Behind
  chain = lab.chain

  abbrev In : ℕ → ℕ → Option Ep
  In k port = let_in lab.topology (nat_pasts lab H) (now H) k Q port

  abbrev Goes : List Behind → ℕ → Option Ep → Inward
  Goes at_most k o = goes_in lab.topology chain (nat_pasts lab H) (now H) Q at_most k o

  -- a NAT that isn't cone shuts the server's other address out, where all that counts went to the first one
  shut_here : (k : ℕ) (inside to : Ep) (d : Outward) → IsHeld v k inside to d → ((e : Outward) → Counts v k e → e.inside ≡ inside → e.dst ≡ server_of v)
      → is_cone_kind (s k).kind ≡ false → In k d.port ≡ None
  shut_here k inside to d h alone other = by (In k d.port) refl where
    by : (o : Option Ep) → In k d.port ≡ o → In k d.port ≡ None
    by None e = e
    by (Some x) e =
        let w : WasAsked (s k) (past k) (now H) Q d.port x = (let_in_where_asked (s k) (past k) (now H) (is_past k) Q d.port x).0 e in
        let mine : live_port (s k).kind d.inside d.dst (live_after (s k) (past k) (now H)) ≡ Some d.port =
        counting_datagram_holds_its_port (s k) (past k) (now H) (is_past k) d h.counts in
        let theirs : live_port (s k).kind w.datagram.inside w.datagram.dst (live_after (s k) (past k) (now H)) ≡ Some d.port =
        counting_datagram_holds_its_port (s k) (past k) (now H) (is_past k) w.datagram w.counts ∙ ap (λ (p : ℕ). Some p) w.by_port in
        let key = port_has_one_key (s k) (past k) (now H) (is_past k) d.inside d.dst w.datagram.inside w.datagram.dst d.port mine theirs in
        let own : w.datagram.inside ≡ inside = sym (key_inside (s k).kind d.inside d.dst w.datagram.inside w.datagram.dst key) ∙ h.left in
        absurd (false≢true (sym other ∙ only_cone (s k).kind (settings_of v).primary (settings_of v).secondary w.datagram apart
        (alone w.datagram w.counts own) w.asked))

  -- it comes to that NAT, and no further
  shut_behind : (rest : List Behind) (i j : ℕ) (at : Ep) → 1 ≤ length rest → inner_at lab.topology chain i at.ip ≡ Some j → In j at.port ≡ None
      → Goes rest i (Some at) ≡ shut_at j
  shut_behind [] i j at some found shut = absurd (omega (arith, some))
  shut_behind (b ∷ less) i j at some found shut =
      ap (λ (o : Option ℕ). unwrap_or (option_map (λ (q : ℕ). Goes less q (In q at.port)) o) (comes_to i at)) found ∙ ap (Goes less j) shut

  shut_after : {j : ℕ} (way : List ℕ) (top : ℕ) (at dst : Ep) → Climb chain j way top → at.ip ≡ (nat_of lab j).external
      → EntersPast lab H (now H) Q way at dst → In j at.port ≡ None → length way ≤ length chain → Goes chain top (In top dst.port) ≡ shut_at j
  shut_after {j} [] top at dst same ip enters shut few = ap (λ (i : ℕ). Goes chain i (In i dst.port)) (sym same)
      ∙ ap (Goes chain j) (subst (λ (e : Ep). In j e.port ≡ None) enters shut)
  shut_after {j} (i ∷ way) top at dst climb ip enters shut few =
      let fewer : length way ≤ length chain = omega (arith, few) in
      let on = left (record { lab = lab; H = H; m = now H; src = Q; is = there.is; chained = there.chained }) chain i way climb.1 enters fewer in
      let l : Link lab.topology j i = link lab.topology chain j i (links_of lab.topology chain there.chained) climb.0 in
      let found = inner_found there.is chain (nat_there lab.topology j l.inner) ip climb.0 in
      let count : length on.rest + length way ≡ length chain = on.count in
      let some : 1 ≤ length on.rest = omega (arith, count, few) in
      on.goes ∙ shut_behind on.rest i j at some found shut

  -- the outermost of these NATs that isn't cone shuts it out
  pub record IsShutBy (way : List ℕ) (top : ℕ) (dst : Ep) : Type 0 where
    pub inner : List ℕ
    pub nat : ℕ
    pub outer : List ℕ
    pub on_way : way ≡ inner ++ nat ∷ outer
    pub kind : is_cone_kind (nat_of lab nat).kind ≡ false
    pub beyond : AllCone outer ≡ true
    pub goes : Goes chain top (In top dst.port) ≡ shut_at nat

  at_first : {j : ℕ} {way : List ℕ} {top : ℕ} {inside to o : Ep} → Climb chain j way top → (h : Held v to (j ∷ way) inside o)
      → AloneFrom v (j ∷ way) inside → AllCone way ≡ true → is_cone_kind (s j).kind ≡ false → length way ≤ length chain → IsShutBy (j ∷ way) top o
  at_first {j} {way} {top} {inside} {to} {o} climb h alone cones other few = record {
    inner = [];
    nat = j;
    outer = way;
    on_way = refl;
    kind = other;
    beyond = cones;
    goes = shut_after way top (left_at lab j h.0) o climb refl (any_enters v g to Q way (left_at lab j h.0) o cones h.2)
        (shut_here j inside to h.0 h.1 (λ e counts own. (alone e counts own).0) other) few;
  }

  behind : (j : ℕ) (way : List ℕ) (top : ℕ) (o : Ep) → IsShutBy way top o → IsShutBy (j ∷ way) top o
  behind j way top o x = record {
    inner = j ∷ x.inner;
    nat = x.nat;
    outer = x.outer;
    on_way = ap (λ (ks : List ℕ). j ∷ ks) x.on_way;
    kind = x.kind;
    beyond = x.beyond;
    goes = x.goes;
  }

  first_is : (a b : Bool) → (a && b) ≡ false → b ≡ true → a ≡ false
  first_is true b h e = absurd (false≢true (sym h ∙ e))
  first_is false b h e = refl

  pub shut_out : (j : ℕ) (way : List ℕ) {top : ℕ} {inside to o : Ep} → Climb chain j way top → Held v to (j ∷ way) inside o
      → AloneFrom v (j ∷ way) inside → AllCone (j ∷ way) ≡ false → length way ≤ length chain → IsShutBy (j ∷ way) top o
  shut_out j [] {top} {inside} {to} {o} climb h alone some few =
      at_first climb h alone refl (first_is (is_cone_kind (s j).kind) true some refl) few
  shut_out j (i ∷ way) {top} {inside} {to} {o} climb h alone some few = by (AllCone (i ∷ way)) refl
      (λ e. shut_out i way climb.1 h.2 (alone h.0 h.1.counts h.1.left).1 e fewer) where
        fewer : length way ≤ length chain
        fewer = let f : length (i ∷ way) ≤ length chain = few in omega (arith, f)

        by : (b : Bool) → AllCone (i ∷ way) ≡ b → (AllCone (i ∷ way) ≡ false → IsShutBy (i ∷ way) top o) → IsShutBy (j ∷ (i ∷ way)) top o
        by true e ih = at_first climb h alone e (first_is (is_cone_kind (s j).kind) (AllCone (i ∷ way)) some e) few
        by false e ih = behind j (i ∷ way) top o (ih e)
