-- A datagram of which nothing comes, whatever other clients know or are told: it comes from no server, and whoever gets it drops it. Its packet
-- doesn't come from where its source says, or is for the IPv6 Internet, and goes where neither a server nor a relay answers.
use Rattle.theory_reaching.proofs.Words.{AllByRecursion, Bool, BringsTo, ClientNode, Delivery, Did, Entry, Ep, Full, Grown, Input, IsMadeItem, IsMissed, IsReached, IsTopology, Item, Lab, List, Node, None, Option, ReadsPayload, Send, Some, Span, [], ap, armed, arrived, by_way, client, client_in, client_journals, client_settings, deliveries, did_with, entry_input, entry_of, false, false≢true, fields_in, filter_map, from_six, inl, inr, is_from_server, is_some, item_in, items_of, journal, length, nat, native, node_at, now, option_and_then, outright, own_ep, part_of, relay, relay_in, relay_settings, same_ep, same_ep-self, server, server_settings, side_at, six_made, slice_get, subst, sym, to_node, true, udp, unwrap_or, value_written, way_out, wire, wire_is_made, words, ℕ, ◌++◌, ◌∙◌, ◌∷◌, ◌≡◌, ◌⊎◌}
use Rattle.server_core.specs.Server.{server_row}
use Rattle.legal.specs.Deliveries.{to_nobody}
use Rattle.theory_reaching.proofs.strays.Stray.{IsNothing, IsStray, at_client, not_its_own, at_another, at_relay}
use Rattle.theory_reaching.proofs.strays.StrayAtServer.{at_server}
use Rattle.theory_reaching.proofs.schedules.Throughout.{Goes, none_brings, NoneBrings, one_of, OneDelivery}
use Rattle.theory_reaching.proofs.to_native.Unanswered.{brings_nothing}
use Rattle.theory_reaching.proofs.strays.MovedOut.{IsForNobody}
use Rattle.theory_reaching.proofs.strays.MovedStray.{nobody_there, of_server}

-- a datagram from src to D with the packet z is one
pub record IsGone (lab : Lab) (src D : Ep) (z : List ℕ) : Type 0 where
  pub no_server : (i : ℕ) (e : ClientNode) → node_at lab.topology i ≡ Some (client e) → is_from_server (client_settings lab.topology e) src ≡ false
  pub reads : ReadsPayload (value_written None None (fields_in z)) z
  pub why : IsStray src z ⊎ IsForNobody lab D (fields_in z).dst

-- an entry of the wire is one
pub record IsGoneItem (lab : Lab) (y : Item) : Type 0 where
  pub src : Ep
  pub to : Ep
  pub bytes : List ℕ
  pub same : y ≡ udp src to bytes
  pub gone : IsMadeItem (udp src to bytes) → IsGone lab src to bytes

-- all that the record q after H made are such
pub record Leaving : Type 0 where
  pub lab : Lab
  pub H : List Full
  pub q : Full
  pub rules : IsTopology lab.topology
  pub number : q.first ≡ length (wire H)
  pub all : AllByRecursion (IsGoneItem lab) (items_of q)

abbrev is_six : Input → Bool
is_six (from_six x) = true
is_six _ = false

module _ (the : Leaving) where
  open the use {lab, H, q, rules}

  -- A DELIVERY

  -- nothing comes of it
  record EndsThere (p : Full) : Type 0 where
    made : p.made ≡ []
    handed : p.handed ≡ None
    late : p.late ≡ []
    entry : (w : Entry) → p.entry ≡ Some w → is_six w.input ≡ false

  -- one more record after a packet left from elsewhere
  pub record NextGone : Type 0 where
    pub G : List Full
    pub p : Full
    pub g : Grown lab (p ∷ G)
    pub src : Ep
    pub D : Ep
    pub z : List ℕ
    pub gone : IsGone lab src D z

  module _ (next_gone : NextGone) where
    open next_gone use {G, p, g, src, D, z, gone}

    abbrev it : Item
    it = udp src D z

    module _ (i : ℕ) (a : Node) (reached : IsReached lab G p i a it) where
      abbrev got : Entry
      got = entry_of lab G (now G) i D (arrived src z) a

      d : Did lab G p i a got
      d = did_with lab G p i a it reached

      input : got.input ≡ arrived src z
      input = entry_input lab G (now G) i D (arrived src z) a

      no_six : (w : Entry) → p.entry ≡ Some w → is_six w.input ≡ false
      no_six w has = ap (λ (o : Option Entry). is_six (unwrap_or o w).input) (sym has ∙ reached.act.entry)
          ∙ ap is_six (entry_input lab G p.moment i D (arrived src z) a)

      -- where the node's step is nothing, and makes this
      ends : IsNothing got.step → p.made ≡ [] → EndsThere p
      ends nothing made = record {
        made = made;
        handed = d.handed ∙ ap (λ (o : Option Span). option_and_then (part_of got.input) o) nothing.handed;
        late = d.late ∙ nothing.late;
        entry = no_six;
      }

    at_node : (i : ℕ) (a : Node) → IsReached lab G p i a it → EndsThere p
    at_node i (server b) reached =
        let nothing = by gone.why in
        ends i (server b) reached nothing ((d i (server b) reached).made
        ∙ ap (λ (xs : List Send). outright (own_ep (server b)) (armed G) 0 xs ++ six_made (arrived src z) (got i (server b) reached).step.six) nothing.sends
        ∙ ap (six_made (arrived src z)) nothing.six)
      where
        by : IsStray src z ⊎ IsForNobody lab D (fields_in z).dst → IsNothing (server_row (server_settings b) (side_at (server b) D) src z)
        by (inl stray) = at_server (server_settings b) (side_at (server b) D) src z stray
        by (inr nobody) = absurd (nobody_there lab D i (server b) reached.act.there (of_server lab D b reached.goes) nobody.unanswered)
    at_node i (nat b) reached = absurd reached.goes
    at_node i (client e) reached =
        let nothing = by gone.why in
        ends i (client e) reached nothing ((d i (client e) reached).made
        ∙ ap (λ (xs : List Send). (by_way lab G (now G) (way_out lab.chain e.nat) e.inside (armed G) 0 [] xs).made) nothing.sends)
      where
        by : IsStray src z ⊎ IsForNobody lab D (fields_in z).dst
            → IsNothing (client_in (client_settings lab.topology e) (journal i G) (now G) src z (words lab i G)).step
        by (inl stray) = at_client (client_settings lab.topology e) (journal i G) (now G)
            (client_journals lab G i e g.1 reached.act.there).journal src z stray (gone.no_server i e reached.act.there)
            (words lab i G)
        by (inr nobody) = at_another (client_settings lab.topology e) (journal i G) (now G) src z (gone.no_server i e reached.act.there)
            gone.reads
            (not_its_own (client_settings lab.topology e) (journal i G) (fields_in z).dst nobody.native nobody.global) (words lab i G)
    at_node i (relay b) reached =
        let nothing = by gone.why in
        let e = got i (relay b) reached in
        ends i (relay b) reached nothing ((d i (relay b) reached).made
        ∙ ap (λ (xs : List Send). outright (own_ep (relay b)) (armed G) 0 xs ++ six_made e.input e.step.six) nothing.sends
        ∙ ap (λ (u : Input). six_made u e.step.six) (input i (relay b) reached)
        ∙ ap (six_made (arrived src z)) nothing.six)
      where
        by : IsStray src z ⊎ IsForNobody lab D (fields_in z).dst
            → IsNothing (relay_in (relay_settings lab.topology i b) (journal i G).entries (now G) src z).step
        by (inl stray) = at_relay (relay_settings lab.topology i b) (journal i G).entries (now G) src z stray
        by (inr nobody) = absurd (nobody_there lab D i (relay b) reached.act.there
            (ap (λ (z : Ep). same_ep z b.at) reached.goes ∙ same_ep-self b.at) nobody.unanswered)
    at_node i (native b) reached = absurd reached.goes

    at_nobody : (u : Item) → IsMissed lab G p u → EndsThere p
    at_nobody u miss = record {
      made = miss.made;
      handed = miss.handed;
      late = miss.late;
      entry = λ w has. absurd (false≢true (ap (λ (o : Option Entry). is_some o) (sym miss.entry ∙ has)));
    }

  abbrev Anything : List Full → Type 0
  Anything G = Unit {0}

  module _ (m : ℕ) (b : Node) (x : List ℕ) where
    silent : (a : Node) (p : Full) → EndsThere p → BringsTo m a x p → ⊥
    silent (client e) p ends brings = brings_nothing p m x ends.handed ends.late brings
    silent (native h) p ends brings = false≢true (sym (ends.entry brings.entry brings.did) ∙ ap is_six brings.packet)
    silent (server a) p ends brings = brings
    silent (nat a) p ends brings = brings
    silent (relay a) p ends brings = brings

    step : (this : OneDelivery lab) → IsGoneItem lab this.y → Goes lab H q m b x (IsGoneItem lab) Anything this.G this.p
    step this item = of_ends (by (deliveries lab this.G this.p this.serial this.g this.delivered)) where
      same_item : (u : Item) → slice_get (wire this.G) this.serial ≡ Some u → u ≡ udp item.src item.to item.bytes
      same_item u to = ap (λ (o : Option Item). unwrap_or o u) (sym to ∙ this.at) ∙ item.same

      gone : IsGone lab item.src item.to item.bytes
      gone = item.gone (one_of IsMadeItem (wire this.G) this.serial (udp item.src item.to item.bytes) (this.at ∙ ap (λ (w : Item). Some w) item.same)
          (wire_is_made lab this.G rules this.g.1).wire)

      by : Delivery lab this.G this.p this.serial → EndsThere this.p
      by (to_node i a u to reached) = at_node (record { G = this.G; p = this.p; g = this.g; src = item.src; D = item.to; z = item.bytes; gone = gone }) i a
          (subst (IsReached lab this.G this.p i a) (same_item u to) reached)
      by (to_nobody u to miss) = at_nobody (record { G = this.G; p = this.p; g = this.g; src = item.src; D = item.to; z = item.bytes; gone = gone }) u miss

      of_ends : EndsThere this.p → Goes lab H q m b x (IsGoneItem lab) Anything this.G this.p
      of_ends ends = record {
        made = subst (AllByRecursion (IsGoneItem lab)) (sym (ap (filter_map item_in) ends.made)) tt;
        stays = tt;
        silent = silent b this.p ends;
      }

    -- so no delivery brings a packet
    pub none_come : NoneBrings lab H q m b x
    none_come = none_brings lab H q m b x (IsGoneItem lab) Anything (λ this sound is any. step this is) the.number the.all tt
