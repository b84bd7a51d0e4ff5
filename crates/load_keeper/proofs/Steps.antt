-- What a node keeps after a record is what the history with that record says.
use Rattle.load_keeper.proofs.Words.{Bool, Effect, Entry, Ep, Fate, Full, GivesUp, Hears, Holds, Ip6, KeepsItsPacket, KeepsLoadsOf, List, Load, Mention, Node, NodeKept, None, Nothing, Option, Queues, Some, Tests, Touches, [], after_effect, after_effect_on, ap, arith, bearing_of, begins_anew, client, client_effect, effect_at, false, get_or-append_seam, held_of, if◌then◌else◌, is_changed, is_changed_address, is_node, is_restart, is_some, journal, length, load_at, mention, mentions, mentions_by, nat, native, node_after, nothing_kept, now, numbered_mentions, option_map, record_of, refl, relay, relay_bearing_of, relay_effect, relay_mention, relay_mentions, server, source_of, subst, sym, touched, true, unwrap_or, with_entries, with_number, with_record_numbers, ℕ, ◌++◌, ◌∙◌, ◌∷◌, ◌≡◌, ◌≤◌}
use Rattle.teredo_node.specs.declared.fate.Fate.TheVariants as fate
use Rattle.load_keeper.proofs.Keeping.{ComesFrom}
use Rattle.load_keeper.proofs.Whole.{IsWholeEntry}
use Rattle.load_keeper.proofs.Known.{BearsAs, Noting, keeps_about, keeps_about_nobody}
use Rattle.load_keeper.proofs.Numbers.{none_at, mentions_below, journal_below, keeps_with_more}

-- the same question
changed_alike : (f : Fate) → is_changed f ≡ is_changed_address f
changed_alike fate.Changed = refl
changed_alike _ = refl

-- where nothing was mentioned nothing is kept
pub keeps_nothing : (ls : List (Option Load)) (m : ℕ) → KeepsLoadsOf ls [] m nothing_kept
unfolding touched
keeps_nothing ls m = record { whom = refl; known = λ n p since. sym (ap (option_map _) (none_at n p)) }

pub keeps_nothing_by : (ls : List (Option Load)) (m : ℕ) (b : Node) → KeepsLoadsOf ls (mentions_by b []) m nothing_kept
unfolding mentions relay_mentions
keeps_nothing_by ls m (server x) = keeps_nothing ls m
keeps_nothing_by ls m (nat x) = keeps_nothing ls m
keeps_nothing_by ls m (client x) = keeps_nothing ls m
keeps_nothing_by ls m (relay x) = keeps_nothing ls m
keeps_nothing_by ls m (native x) = keeps_nothing ls m

-- WHAT AN ENTRY MEANS

-- the endpoint of what has none
abbrev ep_or : Ep → Option Ep → Ep
ep_or d o = unwrap_or o d

module _ (i : ℕ) (d : Ep) (e : Entry) where
  abbrev e' : Entry
  e' = with_number i e

  abbrev f : Ep
  f = ep_or d (source_of e.input)

  queued_as : (o : Option (List ℕ)) → is_some o ≡ true → option_map (λ (x : List ℕ). i ∷ []) o ≡ Some (i ∷ [])
  queued_as None some = absurd (cc some)
  queued_as (Some x) some = refl

  held_as : (from : Option Ep) (o : Option (List ℕ)) → is_some o ≡ true → is_some from ≡ true
      → held_of from (option_map (λ (x : List ℕ). i ∷ []) o) ≡ Some (record { from = ep_or d from; packet = i ∷ [] })
  held_as None o some source = absurd (cc source)
  held_as (Some from) None some source = absurd (cc some)
  held_as (Some from) (Some x) some source = refl

  pub comes_as : (x : Effect) → KeepsItsPacket x e.packet (source_of e.input) → ComesFrom x (source_of e.input) f
  comes_as Tests keeps = by (source_of e.input) keeps.1 where
    by : (o : Option Ep) → is_some o ≡ true → o ≡ Some (ep_or d o)
    by None some = absurd (cc some)
    by (Some from) some = refl
  comes_as Holds keeps = by (source_of e.input) keeps.1 where
    by : (o : Option Ep) → is_some o ≡ true → o ≡ Some (ep_or d o)
    by None some = absurd (cc some)
    by (Some from) some = refl
  comes_as Nothing keeps = tt
  comes_as Touches keeps = tt
  comes_as Queues keeps = tt
  comes_as Hears keeps = tt
  comes_as GivesUp keeps = tt

  pub client_bears : (w : Fate) → KeepsItsPacket (client_effect w) e.packet (source_of e.input) → BearsAs (client_effect w) f (i ∷ []) (bearing_of w e')
  client_bears fate.Sent keeps = record { is_touch = refl; is_heard = refl; is_given_up = refl; is_queued = refl; is_held = refl }
  client_bears fate.Queued keeps = record { is_touch = refl; is_heard = refl; is_given_up = refl; is_queued = queued_as e.packet keeps; is_held = refl }
  client_bears fate.Indirect keeps = record { is_touch = refl; is_heard = refl; is_given_up = refl; is_queued = refl; is_held = refl }
  client_bears fate.Rule1 keeps = record { is_touch = refl; is_heard = refl; is_given_up = refl; is_queued = refl; is_held = refl }
  client_bears fate.Rule1Bubble keeps = record { is_touch = refl; is_heard = refl; is_given_up = refl; is_queued = refl; is_held = refl }
  client_bears fate.Rule2 keeps = record { is_touch = refl; is_heard = refl; is_given_up = refl; is_queued = refl; is_held = refl }
  client_bears fate.Rule3 keeps = record { is_touch = refl; is_heard = refl; is_given_up = refl; is_queued = refl; is_held = refl }
  client_bears fate.Rule3Bubble keeps = record { is_touch = refl; is_heard = refl; is_given_up = refl; is_queued = refl; is_held = refl }
  client_bears fate.HeldTest keeps = record { is_touch = refl; is_heard = refl; is_given_up = refl; is_queued = refl; is_held = held_as (source_of e.input) e.packet keeps.0 keeps.1 }
  client_bears fate.SuspiciousTest keeps = record { is_touch = refl; is_heard = refl; is_given_up = refl; is_queued = refl; is_held = refl }
  client_bears fate.Held keeps = record { is_touch = refl; is_heard = refl; is_given_up = refl; is_queued = refl; is_held = held_as (source_of e.input) e.packet keeps.0 keeps.1 }
  client_bears fate.Bubbles keeps = record { is_touch = refl; is_heard = refl; is_given_up = refl; is_queued = refl; is_held = refl }
  client_bears fate.Test keeps = record { is_touch = refl; is_heard = refl; is_given_up = refl; is_queued = refl; is_held = refl }
  client_bears fate.GiveUp keeps = record { is_touch = refl; is_heard = refl; is_given_up = refl; is_queued = refl; is_held = refl }
  client_bears _ keeps = record { is_touch = refl; is_heard = refl; is_given_up = refl; is_queued = refl; is_held = refl }

  pub relay_bears : (w : Fate) → KeepsItsPacket (relay_effect w) e.packet (source_of e.input) → BearsAs (relay_effect w) f (i ∷ []) (relay_bearing_of w e')
  relay_bears fate.Sent keeps = record { is_touch = refl; is_heard = refl; is_given_up = refl; is_queued = refl; is_held = refl }
  relay_bears fate.SentCone keeps = record { is_touch = refl; is_heard = refl; is_given_up = refl; is_queued = refl; is_held = refl }
  relay_bears fate.Queued keeps = record { is_touch = refl; is_heard = refl; is_given_up = refl; is_queued = queued_as e.packet keeps; is_held = refl }
  relay_bears fate.FromClient keeps = record { is_touch = refl; is_heard = refl; is_given_up = refl; is_queued = refl; is_held = refl }
  relay_bears fate.FromClientBubble keeps = record { is_touch = refl; is_heard = refl; is_given_up = refl; is_queued = refl; is_held = refl }
  relay_bears fate.Unserved keeps = record { is_touch = refl; is_heard = refl; is_given_up = refl; is_queued = refl; is_held = refl }
  relay_bears fate.Bubbles keeps = record { is_touch = refl; is_heard = refl; is_given_up = refl; is_queued = refl; is_held = refl }
  relay_bears fate.GiveUp keeps = record { is_touch = refl; is_heard = refl; is_given_up = refl; is_queued = refl; is_held = refl }
  relay_bears _ keeps = record { is_touch = refl; is_heard = refl; is_given_up = refl; is_queued = refl; is_held = refl }

-- ONE RECORD MORE

-- One record more, with the load that it carries, and a node that it may be of.
pub record OneRecord : Type 0 where
  pub ls : List (Option Load)
  pub H : List Full
  pub n : ℕ
  pub a : Node
  pub r : Full
  pub l : Option Load
  pub counted : length ls ≡ length H
  pub later : now H ≤ r.moment

-- What a node did in it: an entry of its moment, by this fate, and where its datagram came from.
record OneEntry (moment : ℕ) : Type 0 where
  e : Entry
  at : e.moment ≡ moment
  w : Fate
  fate_is : e.step.fate ≡ w
  from : Option Ep
  source : source_of e.input ≡ from

module _ (the : OneRecord) (s : NodeKept) where
  open the use {ls, H, n, a, r, l, counted, later}

  abbrev ls' : List (Option Load)
  ls' = ls ++ l ∷ []

  abbrev entries : List Entry
  entries = (journal n (with_record_numbers H)).entries

  -- the loads with one more say the same of what was kept
  still : KeepsLoadsOf ls (mentions_by a entries) (now H) s → (m : ℕ) → now H ≤ m → KeepsLoadsOf ls' (mentions_by a entries) m s
  still keeps m since = keeps_with_more ls l (mentions_by a entries) (now H) m s
      (mentions_below (length ls) a entries (journal_below (length ls) H n (omega (arith, counted)))) since keeps

  -- of a record of another node
  pub step_of_other : is_node n r.node ≡ false → KeepsLoadsOf ls (mentions_by a entries) (now H) s → KeepsLoadsOf ls' (numbered_mentions (r ∷ H) n a) r.moment s
  step_of_other other keeps = rw other (still keeps r.moment later)

  -- of a restart of its own
  pub step_of_restart : is_node n r.node ≡ true → is_restart r.act ≡ true → KeepsLoadsOf ls' (numbered_mentions (r ∷ H) n a) r.moment nothing_kept
  step_of_restart its anew = rw (its, anew) (keeps_nothing_by ls' r.moment a)

  -- of an entry more
  at_end : load_at ls' (length H) ≡ l
  at_end = ap (λ (k : ℕ). load_at ls' k) (sym counted) ∙ get_or-append_seam ls l [] None

  -- it is that of this peer, or of none
  module _ (d : Ep) (did : OneEntry r.moment) (keeps : KeepsLoadsOf ls (mentions_by a entries) (now H) s) where
    open did use {e, w, fate_is, from, source}

    abbrev mention_after : Effect → Option Ip6 → NodeKept
    mention_after x peer = after_effect_on x peer r.moment from l s

    -- of a mention that means this
    by_mention : (j : List Mention) → KeepsLoadsOf ls' j (now H) s → (m : Mention) → m.moment ≡ r.moment → (x : Effect) → BearsAs x (ep_or d (source_of e.input)) (length H ∷ []) m.bearing
        → ComesFrom x (source_of e.input) (ep_or d (source_of e.input)) → (peer : Option Ip6) → m.peer ≡ peer → KeepsLoadsOf ls' (m ∷ j) r.moment (mention_after x peer)
    by_mention j old m at x bears comes None none = subst (λ (k : ℕ). KeepsLoadsOf ls' (m ∷ j) k s) at
        (keeps_about_nobody ls' j (now H) s old m (subst (λ (k : ℕ). now H ≤ k) (sym at) later) none)
    by_mention j old m at x bears comes (Some q) about =
        let noting : Noting ls' m = record {
          q = q;
          about = about;
          x = x;
          f = ep_or d (source_of e.input);
          y = length H ∷ [];
          bears = bears;
          from = source_of e.input;
          l = l;
          at = at_end;
          comes = comes;
        } in
        subst (λ (k : ℕ). KeepsLoadsOf ls' (m ∷ j) k (after_effect x q k from l s)) at
        (subst (λ (o : Option Ep). KeepsLoadsOf ls' (m ∷ j) m.moment (after_effect x q m.moment o l s)) source
        (keeps_about ls' j (now H) s old m (subst (λ (k : ℕ). now H ≤ k) (sym at) later) noting))

    in_client : mentions_by a entries ≡ mentions entries → KeepsItsPacket (client_effect w) e.packet (source_of e.input) → (peer : Option Ip6) → e.peer ≡ peer → (b : Bool) → is_changed_address w ≡ b
        → KeepsLoadsOf ls' (mentions (with_number (length H) e ∷ entries)) r.moment (if b then nothing_kept else mention_after (client_effect w) peer)
    unfolding mentions
    in_client same packet peer about true new = let is : is_changed e.step.fate ≡ true = ap is_changed fate_is ∙ changed_alike w ∙ new in rw is (keeps_nothing ls' r.moment)
    in_client same packet peer about false old = let is : is_changed e.step.fate ≡ false = ap is_changed fate_is ∙ changed_alike w ∙ old in rw is
        (by_mention (mentions entries) (subst (λ (j : List Mention). KeepsLoadsOf ls' j (now H) s) same (still keeps (now H) (omega arith))) (mention (with_number (length H) e)) did.at (client_effect w)
        (subst (λ (v : Fate). BearsAs (client_effect w) (ep_or d (source_of e.input)) (length H ∷ []) (bearing_of v (with_number (length H) e))) (sym fate_is) (client_bears (length H) d e w packet))
        (comes_as (length H) d e (client_effect w) packet) peer about)

    in_relay : mentions_by a entries ≡ relay_mentions entries → KeepsItsPacket (relay_effect w) e.packet (source_of e.input) → (peer : Option Ip6) → e.peer ≡ peer
        → KeepsLoadsOf ls' (relay_mentions (with_number (length H) e ∷ entries)) r.moment (mention_after (relay_effect w) peer)
    unfolding relay_mentions
    in_relay same packet peer about = by_mention (relay_mentions entries) (subst (λ (j : List Mention). KeepsLoadsOf ls' j (now H) s) same (still keeps (now H) (omega arith))) (relay_mention (with_number (length H) e)) did.at
        (relay_effect w)
        (subst (λ (v : Fate). BearsAs (relay_effect w) (ep_or d (source_of e.input)) (length H ∷ []) (relay_bearing_of v (with_number (length H) e))) (sym fate_is) (relay_bears (length H) d e w packet))
        (comes_as (length H) d e (relay_effect w) packet) peer about

  -- a record of its own, whatever it did
  module _ (d : Ep) (peer : Option Ip6) (from : Option Ep) (keeps : KeepsLoadsOf ls (mentions_by a entries) (now H) s) where
    -- with an entry
    of_entry : (b : Node) → mentions_by a entries ≡ mentions_by b entries → (e : Entry) → e.moment ≡ r.moment → e.step.fate ≡ r.fate → e.peer ≡ peer → source_of e.input ≡ from
        → KeepsItsPacket (effect_at (Some b) r.fate) e.packet (source_of e.input)
        → KeepsLoadsOf ls' (mentions_by b (with_number (length H) e ∷ entries)) r.moment
        (if begins_anew (Some b) r.fate then nothing_kept else after_effect_on (effect_at (Some b) r.fate) peer r.moment from l s)
    of_entry (server x) same e at w about source packet = subst (λ (z : NodeKept). KeepsLoadsOf ls' [] r.moment z) (sym (idle peer))
        (subst (λ (j : List Mention). KeepsLoadsOf ls' j r.moment s) same (still keeps r.moment later)) where
          idle : (o : Option Ip6) → after_effect_on Nothing o r.moment from l s ≡ s
          idle None = refl
          idle (Some q) = refl
    of_entry (nat x) same e at w about source packet = subst (λ (z : NodeKept). KeepsLoadsOf ls' [] r.moment z) (sym (idle peer))
        (subst (λ (j : List Mention). KeepsLoadsOf ls' j r.moment s) same (still keeps r.moment later)) where
          idle : (o : Option Ip6) → after_effect_on Nothing o r.moment from l s ≡ s
          idle None = refl
          idle (Some q) = refl
    of_entry (native x) same e at w about source packet = subst (λ (z : NodeKept). KeepsLoadsOf ls' [] r.moment z) (sym (idle peer))
        (subst (λ (j : List Mention). KeepsLoadsOf ls' j r.moment s) same (still keeps r.moment later)) where
          idle : (o : Option Ip6) → after_effect_on Nothing o r.moment from l s ≡ s
          idle None = refl
          idle (Some q) = refl
    of_entry (client x) same e at w about source packet =
        in_client d (record { e = e; at = at; w = r.fate; fate_is = w; from = from; source = source }) keeps same packet peer about (is_changed_address r.fate) refl
    of_entry (relay x) same e at w about source packet =
        in_relay d (record { e = e; at = at; w = r.fate; fate_is = w; from = from; source = source }) keeps same packet peer about

    by_entry : (o : Option Entry) → r.entry ≡ o → IsWholeEntry (effect_at (Some a) r.fate) r peer from o → (is_some o ≡ false → begins_anew (Some a) r.fate ≡ false)
        → KeepsLoadsOf ls' (mentions_by a (with_entries (journal n (with_record_numbers H)) (option_map (with_number (length H)) o)).entries) r.moment
        (if begins_anew (Some a) r.fate then nothing_kept else after_effect_on (effect_at (Some a) r.fate) peer r.moment from l s)
    by_entry None is none stays = rw (stays refl, none.0) (still keeps r.moment later)
    by_entry (Some e) is some stays = of_entry a refl e some.0 some.1 some.2 some.3 (subst (λ (o : Option Ep). KeepsItsPacket (effect_at (Some a) r.fate) e.packet o) (sym some.3) some.4)

    pub step_of_own : is_node n r.node ≡ true → is_restart r.act ≡ false → IsWholeEntry (effect_at (Some a) r.fate) r peer from r.entry → (is_some r.entry ≡ false → begins_anew (Some a) r.fate ≡ false)
        → KeepsLoadsOf ls' (numbered_mentions (r ∷ H) n a) r.moment (node_after (Some a) (record_of r) peer from l s)
    step_of_own its on entry stays = rw (its, on) (by_entry r.entry refl entry stays)
