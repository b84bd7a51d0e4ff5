-- What is told of the record that follows: it is that of its node's entry.
use Rattle.follow_writer.proofs.Words.{Bool, Entry, Ep, Fate, Follows, Full, Grown, Input, Ip6, IsEntryOf, IsOnLatest, IsOnLatestIf, IsPeerOf, IsToldOf, KeepsItsPacket, Lab, List, Node, Option, Some, ap, begins_anew, changes_client, changes_peer, client, client_knows, concerns_peer, effect_at, entry_of, false, is_of_peer, is_some, journal, latest_at, latest_is_concerned, latest_peer_of, mention, mentions, nat, native, node_if, peer_concerned, record_of, refl, relay, relay_knows, relay_mention, relay_mentions, server, source_delivered, source_of, subst, sym, true, wire, ℕ, ◌∙◌, ◌∷◌, ◌≡◌}
use Rattle.legal.proofs.LawProofs as laws
use Rattle.follow_writer.proofs.ClientFates as client_fates
use Rattle.follow_writer.proofs.RelayFates as relay_fates
use Rattle.follow_writer.proofs.EntryKinds.{entry_is, server_peer, native_peer, nat_peer, client_is, relay_is}
use Rattle.follow_writer.proofs.LatestOne.{same_peer}
use Rattle.follow_writer.proofs.Doings.{idle_says, idle_of_nobody, idle_same_address, IsDone, What, nobody, somebody, what}

module _ (lab : Lab) (H : List Full) (r : Full) where
  -- THE PEER

  module _ (follows : Follows lab H r) (n m : ℕ) (dst : Ep) (input : Input) where
    abbrev peer_then : Option Ip6
    peer_then = latest_at lab.topology (r ∷ H) r.node

    its : (a : Node) → IsDone lab H r n a m dst input → peer_then ≡ latest_peer_of (journal n (r ∷ H)) (Some a)
    its a done = ap (latest_at lab.topology (r ∷ H)) done.node ∙ ap (latest_peer_of (journal n (r ∷ H))) done.there

    peer_is : (a : Node) → IsDone lab H r n a m dst input → is_of_peer (Some a) r.fate ≡ true → (entry_of lab H m n dst input a).peer ≡ peer_then
    peer_is (server x) done of = server_peer lab H m n dst x input ∙ sym (its (server x) done)
    peer_is (nat x) done of = nat_peer lab H m n dst x input ∙ sym (its (nat x) done)
    peer_is (native x) done of = native_peer lab H m n dst x input ∙ sym (its (native x) done)
    peer_is (client c) done of =
        let e = entry_of lab H m n dst input (client c) in
        let changes : changes_peer r.fate ≡ true = client_fates.of_clients r.fate (ap client_fates.is_clients done.fate_is ∙ client_is lab H m n dst c input) of in
        let one = latest_is_concerned lab H r n (client c) follows done.node done.there in
        let on : IsOnLatest client_knows (mentions (journal n (r ∷ H)).entries) r.moment (peer_concerned mention client_knows (mentions (journal n (r ∷ H)).entries) r.moment r.entry) =
        subst (λ (b : Bool). IsOnLatestIf b client_knows (mentions (journal n (r ∷ H)).entries) r.moment (peer_concerned mention client_knows (mentions (journal n (r ∷ H)).entries) r.moment r.entry)) changes one in
        same_peer client_knows (λ d x fs. refl) (mentions (journal n (r ∷ H)).entries) r.moment (concerns_peer (mention e).bearing) e.peer _
        (ap (peer_concerned mention client_knows (mentions (journal n (r ∷ H)).entries) r.moment) done.entry) on ∙ sym (its (client c) done)
    peer_is (relay q) done of =
        let e = entry_of lab H m n dst input (relay q) in
        let changes : changes_client r.fate ≡ true = relay_fates.of_relays r.fate (ap relay_fates.is_relays done.fate_is ∙ relay_is lab H m n dst q input) of in
        let one = latest_is_concerned lab H r n (relay q) follows done.node done.there in
        let on : IsOnLatest relay_knows (relay_mentions (journal n (r ∷ H)).entries) r.moment (peer_concerned relay_mention relay_knows (relay_mentions (journal n (r ∷ H)).entries) r.moment r.entry) =
        subst (λ (b : Bool). IsOnLatestIf b relay_knows (relay_mentions (journal n (r ∷ H)).entries) r.moment (peer_concerned relay_mention relay_knows (relay_mentions (journal n (r ∷ H)).entries) r.moment r.entry)) changes one in
        same_peer relay_knows (λ d x fs. refl) (relay_mentions (journal n (r ∷ H)).entries) r.moment (concerns_peer (relay_mention e).bearing) e.peer _
        (ap (peer_concerned relay_mention relay_knows (relay_mentions (journal n (r ∷ H)).entries) r.moment) done.entry) on ∙ sym (its (relay q) done)

  -- ALL OF IT

  abbrev node_of : Option Node
  node_of = node_if lab.topology r.node

  abbrev peer_of : Option Ip6
  peer_of = latest_at lab.topology (r ∷ H) r.node

  abbrev from_of : Option Ep
  from_of = source_delivered (wire (r ∷ H)) r.act

  entry_of_it : What lab H r → IsEntryOf (effect_at node_of r.fate) r r.entry
  entry_of_it (nobody none idle) = subst (λ (o : Option Entry). IsEntryOf (effect_at node_of r.fate) r o) (sym none) tt
  entry_of_it (somebody n a m dst input done) =
      let e = entry_of lab H m n dst input a in
      let is = entry_is lab H m n dst a input in
      let there : node_of ≡ Some a = ap (node_if lab.topology) done.node ∙ done.there in
      let keeps : KeepsItsPacket (effect_at node_of r.fate) e.packet (source_of e.input) =
      subst (λ (b : Option Node). KeepsItsPacket (effect_at b r.fate) e.packet (source_of e.input)) (sym there)
      (subst (λ (f : Fate). KeepsItsPacket (effect_at (Some a) f) e.packet (source_of e.input)) (sym done.fate_is) is.keeps) in
      subst (λ (o : Option Entry). IsEntryOf (effect_at node_of r.fate) r o) (sym done.entry) (is.moment ∙ sym done.moment, sym done.fate_is, keeps)

  about_it : Follows lab H r → What lab H r → is_of_peer node_of r.fate ≡ true → IsPeerOf peer_of from_of r.entry
  about_it follows (nobody none idle) of = let e : false ≡ true = sym (idle_of_nobody node_of r.fate (idle_says r.fate idle)) ∙ of in absurd (cc e)
  about_it follows (somebody n a m dst input done) of =
      let is = entry_is lab H m n dst a input in
      let there : node_of ≡ Some a = ap (node_if lab.topology) done.node ∙ done.there in
      let its_own : is_of_peer (Some a) r.fate ≡ true = subst (λ (b : Option Node). is_of_peer b r.fate ≡ true) there of in
      subst (λ (o : Option Entry). IsPeerOf peer_of from_of o) (sym done.entry) (peer_is follows n m dst input a done its_own, ap source_of is.input_is ∙ done.source)

  same_address : What lab H r → is_some r.entry ≡ false → begins_anew node_of r.fate ≡ false
  same_address (nobody none idle) missing_so = idle_same_address node_of r.fate (idle_says r.fate idle)
  same_address (somebody n a m dst input done) missing_so = let e : true ≡ false = sym (ap is_some done.entry) ∙ missing_so in absurd (cc e)

  pub told_of : Grown lab (r ∷ H) → IsToldOf lab.topology H r (record_of r) peer_of from_of
  told_of grown = let is = what lab H r (laws.kinds lab H r grown.0) in record {
    told = refl;
    later = laws.later lab H r grown;
    delivers = laws.asked_for lab H r grown.0;
    entry = entry_of_it is;
    about = about_it grown.0 is;
    changed = same_address is;
  }
