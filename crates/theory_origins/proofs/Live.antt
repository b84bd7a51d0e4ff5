-- What clients' addresses embed.
use Rattle.theory_origins.proofs.Words.{Behind, Bool, ClientNode, EachIsHeld, EachIsLive, Entry, EntryTellsWhereTo, Ep, Full, Ip4, Ip6, IsActOf, IsGiven, IsHeld, IsJournal, IsLive, IsToldAddress, Item, Lab, LeadsTo, List, None, OfNode, Option, Reaches, Restart, Send, Settings, Some, TopologyState, [], acts, address_there, all_at, and_parts, ap, are_honest_for, armed, arrived, by_way, client, client_at, client_journals, client_made, client_settings, cond, delivered, each_address_is_told, embedded, entry_input, false, false≢true, forgotten, frame, hosted, inner_at, input_of, is_honest_event_for, is_some, journal, nat_history, nat_set_up, now, origin_in, outs_at, qualification, refl, rests, routes, sets_address, six, slice_get, subst, sym, ticks, true, turn_of, udp, unwrap_or, value_in, way_out, wire, with_entry, ℕ, ◌∙◌, ◌∷◌, ◌≡◌}
use Rattle.theory_origins.proofs.HonestFor.{from_its}
use Rattle.theory_origins.specs.Live as live
use Rattle.theory_origins.proofs.Inwards.{is_live, still_live}
use Rattle.theory_origins.proofs.Records.{Latest, of_client}
use Rattle.theory_origins.proofs.Inputs.{is_arrived, from_of, bytes_of}
use Rattle.theory_origins.proofs.SentOn.{act_made, each_tells}

-- THE ADVERTISEMENT

-- an address that was set was told, and so the record's address is that one
record IsSet (lab : Lab) (H : List Full) (n : ℕ) (c : ClientNode) (e : Entry) (own : Ip6) : Type 0 where
  turn : sets_address (turn_of e) ≡ true
  address : (qualification (client_settings lab.topology c) (with_entry (journal n H) e)).address ≡ Some own

is_set : (lab : Lab) (H : List Full) (n : ℕ) (c : ClientNode) (e : Entry) (own : Ip6)
    → cond (sets_address (turn_of e)) (qualification (client_settings lab.topology c) (with_entry (journal n H) e)).address None ≡ Some own
    → IsSet lab H n c e own
is_set lab H n c e own h = by (sets_address (turn_of e)) refl h where
  by : (b : Bool) → sets_address (turn_of e) ≡ b → cond b
      (qualification (client_settings lab.topology c) (with_entry (journal n H) e)).address None ≡ Some own → IsSet lab H n c e own
  by true t a = record { turn = t; address = a }
  by false t a = absurd (false≢true (ap (λ (o : Option Ip6). is_some o) a))

-- THE RECORD

-- one in which a node sends nothing changes no NAT
abbrev Unchanged : Lab → List Full → Full → Type 0
Unchanged lab H r = (k : ℕ) → nat_history lab k (r ∷ H) ≡ nat_history lab k H

unchanged : (l : Latest) (n : ℕ) (c : ClientNode) (e : Entry) → IsActOf l.lab l.before l.full n (client c) e → e.step.sends ≡ []
    → Unchanged l.lab l.before l.full
unchanged l n c e act none k =
    let passed : l.full.passed ≡ [] = act.passed ∙ ap (λ (xs : List Send).
    (by_way l.lab l.before l.full.moment (way_out l.lab.chain c.nat) c.inside (armed l.before) 0 [] xs).passed) none in
    (frame l.lab l.before l.full).silent k (ap (outs_at k) passed)
    (ap (λ (b : Bool). cond b (Restart ∷ []) (forgotten l.lab l.full.asked)) act.still ∙ act.lasting)

-- it is client n's, and nobody spoke for its server before
pub record IsHonestTo (l : Latest) (n : ℕ) (c : ClientNode) : Type 0 where
  pub listed : client_at l.lab.topology n ≡ Some c
  pub honest : are_honest_for l.lab.topology c l.before ≡ true

-- its latest record is an act of the client
record HonestAct : Type 0 where
  l : Latest
  n : ℕ
  c : ClientNode
  e : Entry
  own : Ip6
  honest : IsHonestTo l n c
  act : IsActOf l.lab l.before l.full n (client c) e

module _ (the : HonestAct) where
  open the use {l, n, c, e, own, honest, act}

  abbrev lab : Lab
  lab = l.lab

  abbrev H : List Full
  H = l.before

  abbrev r : Full
  r = l.full

  abbrev s : Settings
  s = client_settings lab.topology c

  is_told : IsSet lab H n c e own → IsToldAddress s (journal n H) e own
  is_told set =
      let is_j : IsJournal s (with_entry (journal n H) e) = subst (IsJournal s) act.later (client_journals lab (r ∷ H) n c l.grown act.there).journal in
      each_address_is_told s (journal n H) e own is_j (client_made lab.topology n c l.is act.there)
      (act_made l n (client c) e act).input set.turn set.address

  of_item : (told : IsToldAddress s (journal n H) e own) (number : ℕ) (x : Item) → slice_get (wire H) number ≡ Some x → Reaches lab H (now H) x n (client c)
      → arrived told.from told.bytes ≡ input_of x → Unchanged lab H r → r.moment ≡ now H → IsLive lab (r ∷ H) c (embedded own)
  of_item told number (udp src dst bytes) at goes same stay moment =
      let source : src ≡ told.from = sym (ap (from_of told.from) same) in
      let all : bytes ≡ told.bytes = sym (ap bytes_of same) in
      let its = from_its lab.topology c (qualification s (journal n H)) src (source ∙ told.source) in
      let tells : EntryTellsWhereTo lab c (udp src dst bytes) = all_at (EntryTellsWhereTo lab c) (wire H) number (udp src dst bytes)
      (each_tells lab H n c l.is l.grown.1 honest.listed honest.honest) at in
      let goes_to : origin_in (value_in bytes).lead ≡ Some dst = tells its
      (ap (λ (z : List ℕ). is_some (value_in z).lead.auth) all ∙ told.auth) in
      let one : dst ≡ embedded own = ap (λ (o : Option Ep). unwrap_or o dst) (sym goes_to ∙ ap (λ (z : List ℕ). origin_in (value_in z).lead) all ∙ told.told) in
      subst (IsLive lab (r ∷ H) c) one (still_live lab H r c stay moment dst (is_live lab H src c l.grown.1 dst goes))
  of_item told number (six to bytes) at goes same stay moment = absurd (false≢true (sym (ap is_arrived same)))

  of_given : IsToldAddress s (journal n H) e own → IsGiven lab H r n (client c) act.dst act.input → e.input ≡ act.input → Unchanged lab H r
      → IsLive lab (r ∷ H) c (embedded own)
  of_given told (delivered number x by at goes moment to is_x) same stay = of_item told number x at (routes lab H (now H) x n (client c) goes)
      (sym told.came ∙ same ∙ is_x) stay moment
  of_given told (hosted v z hands none moment to is_z) same stay = absurd (false≢true (sym (ap is_arrived (sym told.came ∙ same ∙ is_z))))
  of_given told (ticks d due at none moment to is_d) same stay = absurd (false≢true (sym (ap is_arrived (sym told.came ∙ same ∙ is_d))))

  of_act : r.address ≡ Some own → IsLive lab (r ∷ H) c (embedded own)
  of_act address =
      let told = is_told (is_set lab H n c e own (sym act.address ∙ address)) in
      of_given told act.is_given (ap (λ (z : Entry). z.input) act.step ∙ entry_input lab H r.moment n act.dst act.input (client c))
      (unchanged l n c e act told.quiet)

of_record : (l : Latest) (n : ℕ) (c : ClientNode) (own : Ip6) → IsHonestTo l n c → OfNode l.lab l.before l.full n (client c)
    → l.full.address ≡ Some own → IsLive l.lab (l.full ∷ l.before) c (embedded own)
of_record l n c own honest (rests idle) address = absurd (false≢true (ap (λ (z : Option Ip6). is_some z) (sym idle.address ∙ address)))
of_record l n c own honest (acts e act) address =
    of_act (record { l = l; n = n; c = c; e = e; own = own; honest = honest; act = act }) address

pub each_is_live : EachIsLive
each_is_live lab H r n c own is g honest node there address =
    let before = and_parts (is_honest_event_for lab.topology c r.asked) (are_honest_for lab.topology c H) honest in
    of_record (record { lab = lab; before = H; full = r; is = is; grown = g }) n c own (record { listed = there; honest = before.1 })
    (of_client lab H r n c g.0 node there) address

-- WHERE NO NAT IS BEHIND ANOTHER ONE

none_behind : (t : TopologyState) (chain : List Behind) (k j : ℕ) (ip : Ip4) → chain ≡ [] → inner_at t chain k ip ≡ Some j → ⊥
none_behind t chain k j ip none at = false≢true (ap (λ (o : Option ℕ). is_some o) (sym (ap (λ (xs : List Behind). inner_at t xs k ip) none) ∙ at))

pub each_is_held : EachIsHeld
each_is_held lab H c e flat l = by l.outer e.port l.leads (l.external ∙ address_there lab.topology l.outer l.row l.there) where
  by : (k port : ℕ) → LeadsTo lab H c k port → e.ip ≡ (nat_set_up lab.topology k).external → IsHeld lab H c (record { ip = e.ip; port = port })
  by _ _ (live.ends port held) same = record { external = same; port = held }
  by _ _ (live.goes_on k port j inside held at on) same = absurd (none_behind lab.topology lab.chain k j inside.ip flat at)
