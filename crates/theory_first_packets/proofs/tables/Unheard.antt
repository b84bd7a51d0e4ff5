-- A client hears nothing of another one for which it has no room.
use Rattle.theory_first_packets.proofs.Words.{Bool, ClientNode, Entry, Ep, Fate, Full, FullReceiverHearsNothing, Heard, Input, Ip6, IsUnheard, Journal, Lab, List, None, Option, ReceivedOnlyIf, Seen, Send, Settings, Some, Span, Standing, Step, Value, Words, [], ap, armed, arrived, by_way, client, client_in, client_settings, cond, entry_input, entry_of, false, false≢true, has_room, heard, is_payload, is_some, is_teredo, is_trusted_at, journal, known, known_in, mentions, no_peer, not_listed, option_and_then, part_of, reception, reception_fate, reception_is_warranted, reception_step, refl, seen, source_in, standing_at, standing_of, subst, sym, true, unlisted, unspecified, unwrap_or, value_in, way_out, words, ℕ, ◌∙◌, ◌≡◌}
use Rattle.teredo_node.specs.declared.fate.Fate.TheVariants as fate
use Rattle.theory_first_packets.proofs.tables.Known.{no_trust}

-- nothing is sent, and nothing handed over
pub record IsSilent (step : Step) : Type 0 where
  pub sends : step.sends ≡ []
  pub handed : step.handed ≡ None

-- WHAT WAS SEEN

-- what a client sees of a packet from a peer that it doesn't trust and has no room for
record UnheardTraits : Type 0 where
  s : Settings
  a : Standing
  from : Ep
  x : List ℕ
  v : Value
  w : Words
  z : Seen
  h : Heard
  full : z.peer.room ≡ false
  untrusted : z.peer.trusted_here ≡ false
  teredo : z.teredo ≡ true

-- of a packet of another client, which isn't trusted, and for which there is no room
module _ (traits : UnheardTraits) where
  open traits use {s, a, from, x, v, w, z, h, full, untrusted, teredo}

  no_room : {A : Type 0} → z.peer.room ≡ true → A
  no_room e = absurd (false≢true (sym full ∙ e))

  by_trust : {A : Type 0} → z.peer.trusted_here ≡ true → A
  by_trust e = absurd (false≢true (sym untrusted ∙ e))

  native : {A : Type 0} → z.teredo ≡ false → A
  native e = absurd (false≢true (sym e ∙ teredo))

  -- each fate that sends something or hands something over wants more
  by_fate : (f : Fate) → ReceivedOnlyIf f z h → IsSilent (reception_step s a from x v w f)
  by_fate fate.Indirect k = no_room k.room
  by_fate fate.Rule1 k = by_trust k.trusted
  by_fate fate.Rule1Bubble k = by_trust k.trusted
  by_fate fate.Rule2 k = native k.native
  by_fate fate.Rule3 k = no_room k.room
  by_fate fate.Rule3Bubble k = no_room k.room
  by_fate fate.HeldTest k = native k.native
  by_fate fate.SuspiciousTest k = native k.native
  by_fate _ k = record { sends = refl; handed = refl }

-- THE ENTRY

-- a packet from a peer for which a client has no room
pub record UnheardPeer : Type 0 where
  pub s : Settings
  pub j : Journal
  pub n : ℕ
  pub from : Ep
  pub x : List ℕ
  pub peer : Ip6
  pub source : source_in x ≡ Some peer
  pub teredo : is_teredo peer ≡ true
  pub full : has_room (mentions j.entries) n peer ≡ false

module _ (unheard_peer : UnheardPeer) where
  open unheard_peer use {s, j, n, from, x, peer, source, teredo, full}

  abbrev a : Standing
  a = standing_of s j n (source_in x)

  room_is : (seen s a from x).peer.room ≡ false
  unfolding seen standing_at
  room_is = ap (λ (o : Option Ip6). has_room (mentions j.entries) n (unwrap_or o unspecified)) source ∙ full

  nothing_known : known_in a ≡ no_peer
  unfolding standing_at
  nothing_known = ap (λ (o : Option Ip6). known (mentions j.entries) n (unwrap_or o unspecified)) source
      ∙ unlisted (mentions j.entries) n peer (not_listed (mentions j.entries) n peer full)

  untrusted : (seen s a from x).peer.trusted_here ≡ false
  unfolding seen
  untrusted = ap (is_trusted_at from) nothing_known ∙ no_trust from

  source_is : (b : Bool) → cond b (Some (value_in x).packet.src) None ≡ Some peer → (value_in x).packet.src ≡ peer
  source_is true e = ap (λ (o : Option Ip6). unwrap_or o (value_in x).packet.src) e
  source_is false e = absurd (false≢true (ap (λ (o : Option Ip6). is_some o) e))

  is_its : (value_in x).packet.src ≡ peer
  unfolding source_in
  is_its = source_is (is_payload x) source

  of_client : (seen s a from x).teredo ≡ true
  unfolding seen
  of_client = ap is_teredo is_its ∙ teredo

  pub silent : (w : Words) → IsSilent (client_in s j n from x w).step
  unfolding client_in reception
  silent w = by_fate (record { s = s; a = a; from = from; x = x; v = value_in x; w = w; z = seen s a from x; h = heard s a.qualification from (value_in x); full = room_is; untrusted = untrusted; teredo = of_client })
      (reception_fate s a from x) (reception_is_warranted s a from x)

-- THE RECORD

module _ (lab : Lab) (H : List Full) (q : Full) (m : ℕ) (b : ClientNode) (peer : Ip6)
    (is : IsUnheard lab H q m b peer) where
  input_is : is.act.input ≡ arrived is.from is.bytes
  input_is = sym (ap (λ (z : Entry). z.input) is.act.step ∙ entry_input lab H q.moment m is.act.dst is.act.input (client b)) ∙ is.datagram

  entry_is : is.entry ≡ client_in (client_settings lab.topology b) (journal m H) q.moment is.from is.bytes (words lab m H)
  entry_is = is.act.step ∙ ap (λ (z : Input). entry_of lab H q.moment m is.act.dst z (client b)) input_is

  is_silent : IsSilent is.entry.step
  is_silent = subst (λ (z : Entry). IsSilent z.step) (sym entry_is)
      (silent (record { s = client_settings lab.topology b; j = journal m H; n = q.moment; from = is.from; x = is.bytes; peer = peer; source = is.source; teredo = is.teredo; full = is.full }) (words lab m H))

  pub nothing : (q.made ≡ []) × (q.handed ≡ None)
  nothing = (
    is.act.made ∙ ap (λ (z : List Send). (by_way lab H q.moment (way_out lab.chain b.nat) b.inside (armed H) 0 [] z).made) is_silent.sends,
    is.act.handed ∙ ap (λ (o : Option Span). option_and_then (part_of is.entry.input) o) is_silent.handed,
  )

pub full_receiver_hears_nothing : FullReceiverHearsNothing
full_receiver_hears_nothing lab H q m b peer is = nothing lab H q m b peer is
