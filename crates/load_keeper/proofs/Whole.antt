-- A record that is of no peer says and leaves the same, whichever peer it is told to be of.
use Rattle.load_keeper.proofs.Words.{Bool, Effect, Entry, Ep, Fate, Full, Ip6, IsAskedFor, IsEntryOf, IsPeerOf, IsToldOf, KeepsItsPacket, List, Load, Node, NodeKept, None, Nothing, Option, Some, TopologyState, after_effect_on, ap, arith, begins_anew, changes_at, changes_client, changes_peer, client, client_effect, effect_at, ends_holding, false, gives_up, hands_over_held, if◌then◌else◌, is_of_peer, is_some, loads_released, nat, nat_eq, nat_tests, native, node_after, node_after_at, node_at, node_if, now, record_of, refl, relay, relay_effect, releases_all, says_by, server, source_of, subst, sym, true, unspecified, unwrap_or, ℕ, ◌||◌, ◌∙◌, ◌≡◌, ◌≤◌}
use Rattle.teredo_node.specs.declared.fate.Fate.TheVariants as fate

-- WHAT IS TOLD, WITH THE PEER AND THE SOURCE OF THE ENTRY

-- the peer of an entry, if there is one
abbrev pub peer_by : Option Entry → Option Ip6
peer_by None = None
peer_by (Some e) = e.peer

-- and where its datagram came from
abbrev pub source_by : Option Entry → Option Ep
source_by None = None
source_by (Some e) = source_of e.input

-- what a node did, of which this is the peer, and where its datagram came from
abbrev pub IsWholeEntry : Effect → Full → Option Ip6 → Option Ep → Option Entry → Type 0
IsWholeEntry x r peer from None = (peer ≡ None) × (from ≡ None)
IsWholeEntry x r peer from (Some e) =
    (e.moment ≡ r.moment) × (e.step.fate ≡ r.fate) × (e.peer ≡ peer) × (source_of e.input ≡ from) × KeepsItsPacket x e.packet from

pub record IsToldWhole (t : TopologyState) (H : List Full) (r : Full) (peer : Option Ip6) (from : Option Ep) : Type 0 where
  pub later : now H ≤ r.moment
  pub delivers : IsAskedFor H r
  pub entry : IsWholeEntry (effect_at (node_if t r.node) r.fate) r peer from r.entry
  pub changed : is_some r.entry ≡ false → begins_anew (node_if t r.node) r.fate ≡ false

whole_entry : (x : Effect) (r : Full) (o : Option Entry) → IsEntryOf x r o → IsWholeEntry x r (peer_by o) (source_by o) o
whole_entry x r None is = (refl, refl)
whole_entry x r (Some e) is = (is.0, is.1, refl, refl, is.2)

pub whole : (t : TopologyState) (H : List Full) (r : Full) (peer : Option Ip6) (from : Option Ep) → IsToldOf t H r (record_of r) peer from → IsToldWhole t H r (peer_by r.entry) (source_by r.entry)
whole t H r peer from told = record {
  later = told.later;
  delivers = told.delivers;
  entry = whole_entry (effect_at (node_if t r.node) r.fate) r r.entry told.entry;
  changed = told.changed;
}

-- they are what was told
pub peer_is : (peer : Option Ip6) (from : Option Ep) (o : Option Entry) → IsPeerOf peer from o → (peer ≡ peer_by o) × (from ≡ source_by o)
peer_is peer from None is = is
peer_is peer from (Some e) is = (sym is.0, sym is.1)

-- WHERE IT IS OF NO PEER

no_client_effect : (f : Fate) → changes_peer f ≡ false → client_effect f ≡ Nothing
no_client_effect fate.Sent none = absurd (cc none)
no_client_effect fate.Queued none = absurd (cc none)
no_client_effect fate.Indirect none = absurd (cc none)
no_client_effect fate.Rule1 none = absurd (cc none)
no_client_effect fate.Rule1Bubble none = absurd (cc none)
no_client_effect fate.Rule2 none = absurd (cc none)
no_client_effect fate.Rule3 none = absurd (cc none)
no_client_effect fate.Rule3Bubble none = absurd (cc none)
no_client_effect fate.HeldTest none = absurd (cc none)
no_client_effect fate.SuspiciousTest none = absurd (cc none)
no_client_effect fate.Held none = absurd (cc none)
no_client_effect fate.Bubbles none = absurd (cc none)
no_client_effect fate.Test none = absurd (cc none)
no_client_effect fate.GiveUp none = absurd (cc none)
no_client_effect _ none = refl

no_relay_effect : (f : Fate) → changes_client f ≡ false → relay_effect f ≡ Nothing
no_relay_effect fate.Sent none = absurd (cc none)
no_relay_effect fate.SentCone none = absurd (cc none)
no_relay_effect fate.Queued none = absurd (cc none)
no_relay_effect fate.FromClient none = absurd (cc none)
no_relay_effect fate.FromClientBubble none = absurd (cc none)
no_relay_effect fate.Unserved none = absurd (cc none)
no_relay_effect fate.Bubbles none = absurd (cc none)
no_relay_effect fate.GiveUp none = absurd (cc none)
no_relay_effect _ none = refl

no_effect : (a : Option Node) (f : Fate) → changes_at a f ≡ false → effect_at a f ≡ Nothing
no_effect None f none = refl
no_effect (Some (server x)) f none = refl
no_effect (Some (nat x)) f none = refl
no_effect (Some (client x)) f none = no_client_effect f none
no_effect (Some (relay x)) f none = no_relay_effect f none
no_effect (Some (native x)) f none = refl

idle : (peer : Option Ip6) (m : ℕ) (from : Option Ep) (l : Option Load) (s : NodeKept) → after_effect_on Nothing peer m from l s ≡ s
idle None m from l s = refl
idle (Some q) m from l s = refl

-- nothing ends or is handed over where nothing is released
no_ending : (f : Fate) → releases_all f ≡ false → (ends_holding f ≡ false) × (hands_over_held f ≡ false)
no_ending fate.Rule1 none = absurd (cc none)
no_ending fate.Rule1Bubble none = absurd (cc none)
no_ending fate.Rule2 none = absurd (cc none)
no_ending _ none = (refl, refl)

-- nothing is released, dropped, ended or handed over, and nothing is kept
record SaysNothingOfPeers (a : Option Node) (f : Fate) : Type 0 where
  releases : releases_all f ≡ false
  gives : gives_up f ≡ false
  ends : ends_holding f ≡ false
  hands : hands_over_held f ≡ false
  effect : effect_at a f ≡ Nothing

neither : (b c d : Bool) → (b || (c || d)) ≡ false → (b ≡ false) × (c ≡ false) × (d ≡ false)
neither true c d is = absurd (cc is)
neither false true d is = absurd (cc is)
neither false false d is = (refl, refl, is)

says_nothing : (a : Option Node) (f : Fate) → is_of_peer a f ≡ false → SaysNothingOfPeers a f
says_nothing a f none = let parts = neither (changes_at a f) (releases_all f) (gives_up f) none in
    let ended = no_ending f parts.1 in record { releases = parts.1; gives = parts.2; ends = ended.0; hands = ended.1; effect = no_effect a f parts.0 }

-- EITHER WAY

module _ (t : TopologyState) (x : Full) (peer : Option Ip6) (from : Option Ep) (about : is_of_peer (node_if t x.node) x.fate ≡ true → IsPeerOf peer from x.entry) where
  -- what depends on neither is the same where the record is of no peer, and where it is of one they are the entry's
  either : {A : Type 0} (f : Option Ip6 → Option Ep → A) → (SaysNothingOfPeers (node_if t x.node) x.fate → f peer from ≡ f (peer_by x.entry) (source_by x.entry)) → f peer from ≡ f (peer_by x.entry) (source_by x.entry)
  either f none = by (is_of_peer (node_if t x.node) x.fate) refl where
    by : (b : Bool) → is_of_peer (node_if t x.node) x.fate ≡ b → f peer from ≡ f (peer_by x.entry) (source_by x.entry)
    by false is = none (says_nothing (node_if t x.node) x.fate is)
    by true is = let same = peer_is peer from x.entry (about is) in rw (same.0, same.1) refl

  pub says_alike : (l : Option Load) (s : NodeKept) (handed : Bool) → says_by (record_of x) l (unwrap_or peer unspecified) from s handed
      ≡ says_by (record_of x) l (unwrap_or (peer_by x.entry) unspecified) (source_by x.entry) s handed
  says_alike l s handed = either (λ (p : Option Ip6) (o : Option Ep). says_by (record_of x) l (unwrap_or p unspecified) o s handed)
      (λ is. rw (is.releases, is.gives, is.ends, is.hands) refl)

  pub released_alike : (s : NodeKept) → loads_released x.fate s x.moment (unwrap_or peer unspecified) ≡ loads_released x.fate s x.moment (unwrap_or (peer_by x.entry) unspecified)
  released_alike s = either (λ (p : Option Ip6) (o : Option Ep). loads_released x.fate s x.moment (unwrap_or p unspecified)) (λ is. rw is.releases refl)

  own_alike : (l : Option Load) (s : NodeKept) → node_after (node_if t x.node) (record_of x) peer from l s ≡ node_after (node_if t x.node) (record_of x) (peer_by x.entry) (source_by x.entry) l s
  own_alike l s = either (λ (p : Option Ip6) (o : Option Ep). node_after (node_if t x.node) (record_of x) p o l s)
      (λ is. rw (is.effect, idle peer x.moment from l s, idle (peer_by x.entry) x.moment (source_by x.entry) l s) refl)

  pub kept_alike : (l : Option Load) (n : ℕ) (s : NodeKept) → node_after_at t (record_of x) peer from l x.node n s ≡ node_after_at t (record_of x) (peer_by x.entry) (source_by x.entry) l x.node n s
  kept_alike l n s = by_node x.node refl where
    by_node : (o : Option ℕ) → x.node ≡ o → node_after_at t (record_of x) peer from l o n s ≡ node_after_at t (record_of x) (peer_by x.entry) (source_by x.entry) l o n s
    by_node None is = refl
    by_node (Some k) is = by (nat_eq k n) refl where
      by : (b : Bool) → nat_eq k n ≡ b → (if b then node_after (node_at t n) (record_of x) peer from l s else s) ≡ (if b then node_after (node_at t n) (record_of x) (peer_by x.entry) (source_by x.entry) l s else s)
      by true same = let here : k ≡ n = grind (arith, nat_tests) in
          let there : node_if t x.node ≡ node_at t n = ap (node_if t) is ∙ ap (node_at t) here in
          subst (λ (a : Option Node). node_after a (record_of x) peer from l s ≡ node_after a (record_of x) (peer_by x.entry) (source_by x.entry) l s) there (own_alike l s)
      by false other = refl
