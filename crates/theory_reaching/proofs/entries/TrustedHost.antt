-- What a client does with a datagram of a peer that it trusts where the datagram comes from, and for which nothing waits: at most it hands over
-- the packet. It sends nothing, and goes on to trust the peer.
use Rattle.theory_reaching.proofs.Words.{Bearing, Bool, Entry, Ep, Fate, Ip6, Journal, List, Mention, None, Option, Peer, ReadsPayload, Seen, Settings, Some, Standing, Step, Value, Words, [], advert_row, and_left, ap, arrived, bearing_of, client_in, cond, direct_lines, entry, entry_here, false, first_line, inl, inr, is_changed, is_ep, is_from_server, is_trusted_at, known, known_in, mention, mentions, next_mentions, option_or, option_to_list, packet_in, reception_row, reception_step, refl, releases, rest_of, standing_at, subst, sym, true, ℕ, ◌&&◌, ◌++◌, ◌||◌, ◌∙◌, ◌∷◌, ◌≡◌, ◌⊎◌}
use Rattle.teredo_node.specs.declared.fate.Fate.TheVariants as fate
use Rattle.theory_first_packets.proofs.tables.Received.{seen_here}
use Rattle.theory_reaching.proofs.entries.IdleFates.{IsIdleIn, of_reception}
use Rattle.theory_reaching.proofs.entries.KnownAfter.{keeps}
use Rattle.theory_reaching.proofs.Tests.{never}

-- THE TABLE

-- a fate that comes alone, or rule 1
abbrev IsRuleOne : Fate → Type 0
IsRuleOne f = IsIdleIn f ⊎ ((f ≡ fate.Rule1) ⊎ (f ≡ fate.Rule1Bubble))

module _ (z : Seen) (advert : Fate) (no_server : z.from_server ≡ false) (trusted : z.peer.trusted_here ≡ true) where
  direct : IsRuleOne (first_line (direct_lines z) fate.Suspicious)
  direct = by z.bubble refl where
    by : (b : Bool) → z.bubble ≡ b → IsRuleOne (first_line (direct_lines z) fate.Suspicious)
    by true e = inr (inr (rw (trusted, e) refl))
    by false e = inr (inl (rw (trusted, e) refl))

  by_rule_one : IsRuleOne (reception_row z advert)
  by_rule_one = of_reception IsRuleOne z advert (λ f idle. inl idle) (λ e. never (z.from_server && z.advert) e (and_left z.from_server z.advert no_server))
      (λ answered. never z.from_server answered.server no_server) (λ _. direct)

-- THE ENTRY

module _ (s : Settings) (a : Standing) (from : Ep) (x : List ℕ) (v : Value) (w : Words) where
  record IsMild (f : Fate) : Type 0 where
    trusts : (e : Entry) → (bearing_of f e).trusts ≡ None
    queues : (e : Entry) → (bearing_of f e).queues ≡ None
    changes : is_changed f ≡ false
    fate : (reception_step s a from x v w f).fate ≡ f
    sends : (known_in a).waiting ≡ [] → (reception_step s a from x v w f).sends ≡ []
    handed : ((reception_step s a from x v w f).handed ≡ None) ⊎ ((reception_step s a from x v w f).handed ≡ Some (rest_of v.lead.at x))
    late : (reception_step s a from x v w f).late ≡ []

  mild : (f : Fate) → IsRuleOne f → IsMild f
  mild f (inl idle) = record {
    trusts = λ e. ap (λ (b : Bearing). b.trusts) (idle.bearing e);
    queues = λ e. ap (λ (b : Bearing). b.queues) (idle.bearing e);
    changes = idle.changes;
    fate = ap (λ (z : Step). z.fate) (idle.step s a from x v w);
    sends = λ _. ap (λ (z : Step). z.sends) (idle.step s a from x v w);
    handed = inl (ap (λ (z : Step). z.handed) (idle.step s a from x v w));
    late = ap (λ (z : Step). z.late) (idle.step s a from x v w);
  }
  mild f (inr (inl same)) = subst IsMild (sym same) (record {
    trusts = λ e. refl;
    queues = λ e. refl;
    changes = refl;
    fate = refl;
    sends = λ none. ap (releases from) none;
    handed = inr refl;
    late = refl;
  })
  mild f (inr (inr same)) = subst IsMild (sym same) (record {
    trusts = λ e. refl;
    queues = λ e. refl;
    changes = refl;
    fate = refl;
    sends = λ none. ap (releases from) none;
    handed = inl refl;
    late = refl;
  })

-- nothing waits on where nothing is queued
waits_on : (b : Bool) (o : Option (List ℕ)) (ws : List (List ℕ)) → o ≡ None → ws ≡ [] → cond b [] (ws ++ option_to_list o) ≡ []
waits_on true o ws none empty = refl
waits_on false o ws none empty = ap (λ (us : List (List ℕ)). us ++ option_to_list o) empty ∙ ap (λ (z : Option (List ℕ)). option_to_list z) none

-- trusted there, and nothing waits
abbrev Keeps : Ep → Peer → Type 0
Keeps from q = (is_trusted_at from q ≡ true) × (q.waiting ≡ [])

keeps_on : (e : Mention) (ms : List Mention) (n : ℕ) (p : Ip6) (from : Ep) → e.moment ≡ n → e.bearing.trusts ≡ None → e.bearing.queues ≡ None
    → Keeps from (known ms n p) → Keeps from (known (e ∷ ms) n p)
unfolding is_trusted_at
keeps_on e ms n p from at trusts queues = keeps e ms n p at (Keeps from) (λ q h. (
  ap (λ (o : Option Ep). is_ep from (option_or o q.trusted)) trusts ∙ h.0,
  waits_on (e.bearing.hears || e.bearing.gives_up) e.bearing.queues q.waiting queues h.1,
))

-- what a client reads from an endpoint that it trusts, while nothing waits
pub record FromTrusted : Type 0 where
  pub s : Settings
  pub j : Journal
  pub n : ℕ
  pub from : Ep
  pub x : List ℕ
  pub v : Value
  pub reads : ReadsPayload v x
  pub no_server : is_from_server s from ≡ false
  pub trusts_it : is_trusted_at from (known (mentions j.entries) n v.packet.src) ≡ true
  pub none : (known (mentions j.entries) n v.packet.src).waiting ≡ []

module _ (from_trusted : FromTrusted) where
  open from_trusted use {s, j, n, from, x, v, reads, no_server, trusts_it, none}

  abbrev peer : Ip6
  peer = v.packet.src

  -- so it is after the entry, by which at most the packet is handed over
  pub record StaysTrusted (e : Entry) : Type 0 where
    pub sends : e.step.sends ≡ []
    pub handed : (e.step.handed ≡ None) ⊎ (e.step.handed ≡ Some (rest_of v.lead.at x))
    pub late : e.step.late ≡ []
    pub input : e.input ≡ arrived from x
    pub trusted : is_trusted_at from (known (mentions (e ∷ j.entries)) n peer) ≡ true
    pub nothing_waits : (known (mentions (e ∷ j.entries)) n peer).waiting ≡ []

  abbrev row : Fate
  row = reception_row (seen_here s j n from x v reads) (advert_row s (standing_at s j n peer).qualification from v)

  rule : IsRuleOne row
  unfolding standing_at
  rule = by_rule_one (seen_here s j n from x v reads) (advert_row s (standing_at s j n peer).qualification from v) no_server trusts_it

  abbrev its : Words → Entry
  its w = entry n (arrived from x) (packet_in x) (Some peer) w (reception_step s (standing_at s j n peer) from x v w row)

  is_mild : (w : Words) → IsMild s (standing_at s j n peer) from x v w row
  is_mild w = mild s (standing_at s j n peer) from x v w row rule

  next_told : (w : Words) → mentions (its w ∷ j.entries) ≡ mention (its w) ∷ mentions j.entries
  next_told w = next_mentions (its w) j.entries
      ∙ ap (λ (f : Fate). cond (is_changed f) [] (mention (its w) ∷ mentions j.entries)) (is_mild w).fate
      ∙ ap (λ (b : Bool). cond b [] (mention (its w) ∷ mentions j.entries)) (is_mild w).changes

  kept_on : (w : Words) → Keeps from (known (mentions (its w ∷ j.entries)) n peer)
  kept_on w = subst (λ (ms : List Mention). Keeps from (known ms n peer)) (sym (next_told w))
      (keeps_on (mention (its w)) (mentions j.entries) n peer from refl
      (ap (λ (f : Fate). (bearing_of f (its w)).trusts) (is_mild w).fate ∙ (is_mild w).trusts (its w))
      (ap (λ (f : Fate). (bearing_of f (its w)).queues) (is_mild w).fate ∙ (is_mild w).queues (its w)) (trusts_it, none))

  stays_so : (w : Words) → StaysTrusted (its w)
  unfolding standing_at
  stays_so w = record {
    sends = (is_mild w).sends none;
    handed = (is_mild w).handed;
    late = (is_mild w).late;
    input = refl;
    trusted = (kept_on w).0;
    nothing_waits = (kept_on w).1;
  }

  pub stays_trusted : (w : Words) → StaysTrusted (client_in s j n from x w)
  stays_trusted w = subst StaysTrusted (sym (entry_here s j n from x v reads w {f = row} refl)) (stays_so w)
