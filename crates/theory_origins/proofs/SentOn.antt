-- What servers and relays send, over histories.
use Rattle.theory_origins.proofs.Words.{AllByRecursion, AreMadeInputs, Bool, ClientNode, ComesFromClient, Contains, EachComesFromClient, EachEntryTellsWhereTo, Entry, EntryTellsWhereTo, Ep, Full, HasServer, Input, IsActOf, IsForeignSend, IsFromClient, IsMadeInput, IsRelayJournal, IsRelayNode, IsServerNode, Item, Journal, List, MadeBy, Node, Send, ServerNode, Side, [], all_joined, all_map, and_parts, ap, are_honest_for, arrived, by_client, by_native, by_relay, by_server, client_is_there, each_is_from_client, each_node, each_send_is_foreign, each_tells_where_to, entry_input, entry_of, false, false≢true, forged, from_nowhere, from_six, given, is_honest_event_for, is_own, items_are_made, items_of, journal, nothing_in, one_of, own_ep, own_is_own, refl, relay, relay_journals, relay_settings, sent_by, server, server_settings, side_at, subst, sym, ticked, to_six, true, wire, wire_is_made, ℕ, ◌∙◌, ◌∷◌, ◌≡◌}
use Rattle.server_core.specs.Server as row
use Rattle.server_core.specs.Laws as server_laws
use Rattle.theory_origins.proofs.HonestFor.{not_its, its_has}
use Rattle.theory_origins.proofs.Records.{Latest}
use Rattle.theory_origins.proofs.SentFrom.{same_node, one_has, leaves_at, nat_has}

-- what a node was given, and all before, is made
pub record IsMadeAct (H : List Full) (n : ℕ) (e : Entry) : Type 0 where
  pub input : IsMadeInput e.input
  pub before : AreMadeInputs (journal n H).entries

pub act_made : (l : Latest) (n : ℕ) (a : Node) (e : Entry) → IsActOf l.lab l.before l.full n a e → IsMadeAct l.before n e
act_made l n a e act =
    let all : AreMadeInputs (journal n (l.full ∷ l.before)).entries = (wire_is_made l.lab (l.full ∷ l.before) l.is l.grown).journals n in
    let both = subst (λ (j : Journal). AreMadeInputs j.entries) act.later all in
    record { input = both.0; before = both.1 }

-- A SERVER'S SENDS

-- what holds of all that a server sends for a datagram
abbrev pub OfAnswers : (Ep → Send → Type 0) → ServerNode → Type 0
OfAnswers P a = (side : Side) (from : Ep) (x : List ℕ) → IsMadeInput (arrived from x) → AllByRecursion (P from)
    (row.server_row (server_settings a) side from x).sends

-- the latest record is a server's, which sends this in it
pub record ServerSends (l : Latest) (a : ServerNode) (s : Send) : Type 0 where
  pub number : ℕ
  pub entry : Entry
  pub act : IsActOf l.lab l.before l.full number (server a) entry
  pub sent : Contains entry.step.sends s

-- holds of each of its sends
pub by_act : (P : Ep → Send → Type 0) → (l : Latest) (a : ServerNode) (s : Send) (d : ServerSends l a s) → OfAnswers P a
    → (from : Ep) × P from s
by_act P l a s d each = by d.act.input (subst IsMadeInput same (act_made l d.number (server a) d.entry d.act).input)
    (subst (λ (z : Entry). Contains z.step.sends s) d.act.step d.sent) where
      same : d.entry.input ≡ d.act.input
      same = ap (λ (z : Entry). z.input) d.act.step ∙ entry_input l.lab l.before l.full.moment d.number d.act.dst d.act.input (server a)

      by : (input : Input) → IsMadeInput input → Contains (entry_of l.lab l.before l.full.moment d.number d.act.dst input (server a)).step.sends s
          → (from : Ep) × P from s
      by (arrived from x) made c = (
        from,
        one_of (P from) (row.server_row (server_settings a) (side_at (server a) d.act.dst) from x).sends s
            (each (side_at (server a) d.act.dst) from x made) c,
      )
      by (given x) made c = absurd (nothing_in s c)
      by (from_six x) made c = absurd (nothing_in s c)
      by ticked made c = absurd (nothing_in s c)

-- WHERE ADVERTISEMENTS GO

abbrev is_server : Node → Bool
is_server (server a) = true
is_server _ = false

module _ (l : Latest) (c : ClientNode) (its : HasServer l.lab.topology c) where
  abbrev Tells : Item → Type 0
  Tells x = EntryTellsWhereTo l.lab c x

  tells : (x : Item) → is_honest_event_for l.lab.topology c l.full.asked ≡ true → MadeBy l.lab l.before l.full x → Tells x
  tells x honest (from_nowhere src dst bytes forges same) = subst Tells (sym same) (λ is auth.
      absurd (false≢true (sym (not_its l.lab.topology c l.before forges honest) ∙ is)))
  tells x honest (by_server k b e s act d same) = subst Tells (sym same) (λ is auth.
      let keeps : IsServerNode b = each_node l.lab.topology k (server b) l.is act.there in
      let one = by_act (λ from z. server_laws.TellsWhereTo z) l b s (record { number = k; entry = e; act = act; sent = d })
      (λ side from y h. each_tells_where_to (server_settings b) side from y keeps.primary.made h.0 h.1) in
      one.1.origin auth)
  tells x honest (by_relay k b e s act d same) = subst Tells (sym same) (λ is auth.
      absurd (false≢true (ap is_server (same_node l.lab.topology k c.server b.at.ip l.is
      (record { node = relay b; at = act.there; has = one_has b.at.ip })
      (record { node = server its.row; at = its.there; has = its_has l.lab.topology c b.at its is })).1)))
  tells x honest (by_client k b e s src act held leaves same) = subst Tells (sym same) (λ is auth.
      absurd (false≢true (ap is_server (nat_has l.lab b src.ip c.server l.is (leaves_at l.lab l.before l.full.moment b s.to src leaves)
      (record { node = server its.row; at = its.there; has = its_has l.lab.topology c src its is })).2)))
  tells x honest (by_native k h e bytes act p same) = subst Tells (sym same) tt
  tells x honest (to_six k a e from bytes span act i p same) = subst Tells (sym same) tt

pub each_tells : EachEntryTellsWhereTo
each_tells lab [] n c is g at honest = tt
each_tells lab (r ∷ H) n c is g at honest =
    let both = and_parts (is_honest_event_for lab.topology c r.asked) (are_honest_for lab.topology c H) honest in
    let its = client_is_there.server_of lab.topology n c is (client_is_there.node lab.topology n c at) in
    all_joined (EntryTellsWhereTo lab c) (wire H) (items_of r) (each_tells lab H n c is g.1 at both.1)
    (all_map (MadeBy lab H r) (EntryTellsWhereTo lab c) (items_of r)
    (λ x m. tells (record { lab = lab; before = H; full = r; is = is; grown = g }) c its x both.0 m) (items_are_made lab H r g))

-- WHOSE PACKETS COME FROM WHERE THEY SAY

comes : (l : Latest) (x : Item) → MadeBy l.lab l.before l.full x → ComesFromClient l.lab l.before l.full x
comes l x (from_nowhere src dst bytes forges same) = subst (ComesFromClient l.lab l.before l.full) (sym same) (λ teredo embeds. forged forges)
comes l x (by_server k b e s act c same) = subst (ComesFromClient l.lab l.before l.full) (sym same) (λ teredo embeds.
    let keeps : IsServerNode b = each_node l.lab.topology k (server b) l.is act.there in
    let one = by_act (IsFromClient (server_settings b)) l b s (record { number = k; entry = e; act = act; sent = c })
    (λ side from y h. each_is_from_client (server_settings b) side from y keeps.primary.made h.0 h.1) in
    let from_own : one.0 ≡ own_ep (server b) s.side = one.1.embeds teredo ∙ sym embeds in
    absurd (false≢true (sym one.1.elsewhere ∙ ap (λ (z : Ep). is_own (server_settings b) z.ip) from_own ∙ own_is_own b s.side)))
comes l x (by_relay k b e s act c same) = subst (ComesFromClient l.lab l.before l.full) (sym same) (λ teredo embeds.
    let t = l.lab.topology in
    let keeps : IsRelayNode b = each_node t k (relay b) l.is act.there in
    let made = act_made l k (relay b) e act in
    let j = (relay_journals l.lab (l.full ∷ l.before) k b l.grown act.there).journal in
    let is_j = subst (λ (z : Journal). IsRelayJournal (relay_settings t k b) z.entries) act.later j in
    let all = each_send_is_foreign (relay_settings t k b) (journal k l.before).entries e is_j
    (record { six = keeps.six; native = keeps.outside.other }) made.input made.before in
    let one = one_of IsForeignSend e.step.sends s all c in
    absurd (false≢true (sym one.foreign ∙ teredo)))
comes l x (by_client k b e s src act held leaves same) = subst (ComesFromClient l.lab l.before l.full) (sym same)
    (λ teredo embeds. sent_by k b e s act held leaves refl refl)
comes l x (by_native k h e bytes act p same) = subst (ComesFromClient l.lab l.before l.full) (sym same) tt
comes l x (to_six k a e from bytes span act i p same) = subst (ComesFromClient l.lab l.before l.full) (sym same) tt

pub each_comes : EachComesFromClient
each_comes lab H r is g = all_map (MadeBy lab H r) (ComesFromClient lab H r) (items_of r)
    (λ x m. comes (record { lab = lab; before = H; full = r; is = is; grown = g }) x m) (items_are_made lab H r g)
