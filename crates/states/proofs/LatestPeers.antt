-- A record of a client or a relay concerned the latest peer of its journal, or none.
use Rattle.std.proofs.Common.{◌≡◌, ℕ, Bool, true, false, List, [], ◌∷◌, Option, Some, None, refl, sym, ap, subst, ◌∙◌, inl, inr, ◌⊎◌}
use Rattle.std.specs.Prelude.{if◌then◌else◌}
use Rattle.td_base.specs.declared.endpoint.Ep.{Ep}
use Rattle.teredo_node.specs.declared.fate.Fate.{Fate}
use Rattle.teredo_node.specs.declared.fate.Fate.TheVariants.{NatClosed, Done}
use Rattle.teredo_node.specs.Journal.{Input, arrived, given, from_six, ticked, Entry, Journal, is_changed, with_entry}
use Rattle.peer_list.specs.Mentions.{Mention}
use Rattle.client_rules.specs.Bearings.{mention, mentions}
use Rattle.client_rules.specs.Journals.{client_entry}
use Rattle.client_rules.proofs.LawProofs.{next_mentions}
use Rattle.relay_rules.specs.Bearings.{relay_mention, relay_mentions}
use Rattle.relay_rules.specs.Journals.{relay_entry}
use Rattle.topology.specs.declared.client_node.ClientNode.{ClientNode}
use Rattle.topology.specs.declared.relay_node.RelayNode.{RelayNode}
use Rattle.topology.specs.declared.node.Node.{Node}
use Rattle.topology.specs.declared.node.Node.TheVariants.{Server as server, Nat as nat, Client as client, Relay as relay, Native as native}
use Rattle.history.specs.Full.{Full}
use Rattle.legal.specs.Lab.{Lab}
use Rattle.legal.specs.Past.{journal, words}
use Rattle.legal.specs.Settings.{client_settings, relay_settings}
use Rattle.legal.specs.Emit.{entry_of}
use Rattle.legal.specs.Actors.{IsActOf}
use Rattle.legal.specs.OfNode.{OfNode, rests, acts, DoesNothing}
use Rattle.legal.proofs.LawProofs.{of_node}
use Rattle.states.specs.Facts.{client_knows, relay_knows}
use Rattle.states.specs.Concerned.{peer_concerned}
use Rattle.states.specs.PeerFates.{changes_peer, changes_client, IsOnLatestIf, ConcernsLatest, LatestIsConcerned}
use Rattle.states.proofs.OneMention.{on_latest, on_nobody}
use Rattle.states.proofs.ClientPeers.{unconcerned, entry_concerns, entry_moment, same_epoch}
use Rattle.states.proofs.RelayPeers.{unconcerned as no_client, entry_concerns as relay_entry_concerns, entry_moment as relay_entry_moment}

-- OF A CLIENT

-- with this fate, journal, entry and moment
abbrev OfClient : Fate → Journal → Option Entry → ℕ → Type 0
OfClient f k o m = IsOnLatestIf (changes_peer f) client_knows (mentions k.entries) m (peer_concerned mention client_knows (mentions k.entries) m o)

module _ (lab : Lab) (H : List Full) (m n : ℕ) (c : ClientNode) (input : Input) where
  abbrev e : Entry
  e = client_entry (client_settings lab.topology c) (journal n H) m input (words lab n H)

  one_more : is_changed e.step.fate ≡ false → mentions (e ∷ (journal n H).entries) ≡ mention e ∷ mentions (journal n H).entries
  one_more same = next_mentions e (journal n H).entries ∙ ap (λ (b : Bool). if b then [] else mention e ∷ mentions (journal n H).entries) same

  of_entry : (b : Bool) → changes_peer e.step.fate ≡ b
      → IsOnLatestIf b client_knows (mentions (e ∷ (journal n H).entries)) e.moment (peer_concerned mention client_knows (mentions (e ∷ (journal n H).entries)) e.moment (Some e))
  of_entry false is = on_nobody (mentions (e ∷ (journal n H).entries)) e.moment (mention e) client_knows (unconcerned e.step.fate e is)
  of_entry true is =
      subst (λ (ms : List Mention). IsOnLatestIf true client_knows ms e.moment (peer_concerned mention client_knows ms e.moment (Some e))) (sym (one_more (same_epoch e.step.fate is)))
      (on_latest (mentions (journal n H).entries) (mention e) client_knows (entry_concerns (client_settings lab.topology c) (journal n H) m input (words lab n H) is))

  of_client : OfClient e.step.fate (with_entry (journal n H) e) (Some e) m
  of_client = subst (λ (k : ℕ). OfClient e.step.fate (with_entry (journal n H) e) (Some e) k) (entry_moment (client_settings lab.topology c) (journal n H) m input (words lab n H))
      (of_entry (changes_peer e.step.fate) refl)

client_does : (lab : Lab) (H : List Full) (m n : ℕ) (dst : Ep) (c : ClientNode) (input : Input)
    → entry_of lab H m n dst input (client c) ≡ client_entry (client_settings lab.topology c) (journal n H) m input (words lab n H)
client_does lab H m n dst c (arrived from x) = refl
client_does lab H m n dst c (given x) = refl
client_does lab H m n dst c (from_six x) = refl
client_does lab H m n dst c ticked = refl

client_acts : (lab : Lab) (H : List Full) (r : Full) (n : ℕ) (c : ClientNode) (e : Entry) → IsActOf lab H r n (client c) e → OfClient r.fate (journal n (r ∷ H)) r.entry r.moment
client_acts lab H r n c e act =
    let is : OfClient e.step.fate (with_entry (journal n H) e) (Some e) r.moment =
    subst (λ (d : Entry). OfClient d.step.fate (with_entry (journal n H) d) (Some d) r.moment) (sym (act.step ∙ client_does lab H r.moment n act.dst c act.input)) (of_client lab H r.moment n c act.input) in
    subst (λ (f : Fate). OfClient f (journal n (r ∷ H)) r.entry r.moment) (sym act.fate)
    (subst (λ (k : Journal). OfClient e.step.fate k r.entry r.moment) (sym act.later)
    (subst (λ (o : Option Entry). OfClient e.step.fate (with_entry (journal n H) e) o r.moment) (sym act.entry) is))

client_rests : (r : Full) (k : Journal) → DoesNothing r → OfClient r.fate k r.entry r.moment
client_rests r k none = subst (λ (o : Option Entry). OfClient r.fate k o r.moment) (sym none.entry) (by none.fate) where
  by : (r.fate ≡ NatClosed) ⊎ (r.fate ≡ Done) → OfClient r.fate k None r.moment
  by (inl closed) = subst (λ (f : Fate). OfClient f k None r.moment) (sym closed) refl
  by (inr done) = subst (λ (f : Fate). OfClient f k None r.moment) (sym done) refl

-- OF A RELAY

abbrev OfRelay : Fate → Journal → Option Entry → ℕ → Type 0
OfRelay f k o m = IsOnLatestIf (changes_client f) relay_knows (relay_mentions k.entries) m (peer_concerned relay_mention relay_knows (relay_mentions k.entries) m o)

module _ (lab : Lab) (H : List Full) (m n : ℕ) (q : RelayNode) (input : Input) where
  abbrev d : Entry
  d = relay_entry (relay_settings lab.topology n q) (journal n H).entries m input

  of_relay_entry : (b : Bool) → changes_client d.step.fate ≡ b
      → IsOnLatestIf b relay_knows (relay_mentions (d ∷ (journal n H).entries)) d.moment (peer_concerned relay_mention relay_knows (relay_mentions (d ∷ (journal n H).entries)) d.moment (Some d))
  unfolding relay_mentions
  of_relay_entry false is = on_nobody (relay_mentions (d ∷ (journal n H).entries)) d.moment (relay_mention d) relay_knows (no_client d.step.fate d is)
  of_relay_entry true is = on_latest (relay_mentions (journal n H).entries) (relay_mention d) relay_knows (relay_entry_concerns (relay_settings lab.topology n q) (journal n H).entries m input is)

  of_relay : OfRelay d.step.fate (with_entry (journal n H) d) (Some d) m
  of_relay = subst (λ (k : ℕ). OfRelay d.step.fate (with_entry (journal n H) d) (Some d) k) (relay_entry_moment (relay_settings lab.topology n q) (journal n H).entries m input)
      (of_relay_entry (changes_client d.step.fate) refl)

relay_does : (lab : Lab) (H : List Full) (m n : ℕ) (dst : Ep) (q : RelayNode) (input : Input)
    → entry_of lab H m n dst input (relay q) ≡ relay_entry (relay_settings lab.topology n q) (journal n H).entries m input
relay_does lab H m n dst q (arrived from x) = refl
relay_does lab H m n dst q (given x) = refl
relay_does lab H m n dst q (from_six x) = refl
relay_does lab H m n dst q ticked = refl

relay_acts : (lab : Lab) (H : List Full) (r : Full) (n : ℕ) (q : RelayNode) (e : Entry) → IsActOf lab H r n (relay q) e → OfRelay r.fate (journal n (r ∷ H)) r.entry r.moment
relay_acts lab H r n q e act =
    let is : OfRelay e.step.fate (with_entry (journal n H) e) (Some e) r.moment =
    subst (λ (d : Entry). OfRelay d.step.fate (with_entry (journal n H) d) (Some d) r.moment) (sym (act.step ∙ relay_does lab H r.moment n act.dst q act.input)) (of_relay lab H r.moment n q act.input) in
    subst (λ (f : Fate). OfRelay f (journal n (r ∷ H)) r.entry r.moment) (sym act.fate)
    (subst (λ (k : Journal). OfRelay e.step.fate k r.entry r.moment) (sym act.later)
    (subst (λ (o : Option Entry). OfRelay e.step.fate (with_entry (journal n H) e) o r.moment) (sym act.entry) is))

relay_rests : (r : Full) (k : Journal) → DoesNothing r → OfRelay r.fate k r.entry r.moment
relay_rests r k none = subst (λ (o : Option Entry). OfRelay r.fate k o r.moment) (sym none.entry) (by none.fate) where
  by : (r.fate ≡ NatClosed) ⊎ (r.fate ≡ Done) → OfRelay r.fate k None r.moment
  by (inl closed) = subst (λ (f : Fate). OfRelay f k None r.moment) (sym closed) refl
  by (inr done) = subst (λ (f : Fate). OfRelay f k None r.moment) (sym done) refl

-- OF EACH RECORD

of_kind : (lab : Lab) (H : List Full) (r : Full) (n : ℕ) (a : Node) → OfNode lab H r n a → ConcernsLatest r (journal n (r ∷ H)) a
of_kind lab H r n (server a) is = tt
of_kind lab H r n (nat a) is = tt
of_kind lab H r n (client c) (acts e act) = client_acts lab H r n c e act
of_kind lab H r n (client c) (rests none) = client_rests r (journal n (r ∷ H)) none
of_kind lab H r n (relay q) (acts e act) = relay_acts lab H r n q e act
of_kind lab H r n (relay q) (rests none) = relay_rests r (journal n (r ∷ H)) none
of_kind lab H r n (native a) is = tt

pub latest_is_concerned : LatestIsConcerned
latest_is_concerned lab H r n a follows node there = of_kind lab H r n a (of_node lab H r n a follows node there)
