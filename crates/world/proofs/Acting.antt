-- A node that acts: what it is asked, what comes onto the wire, and the record.
use Rattle.world.proofs.Words.{Act, AnswersCall, AnswersFor, AreNatsAmid, AreNatsOf, AreNatsWith, Asked, Bool, Call, ChainsState, ComesOnto, Draws, Err, Finds, Halted, IsCause, IsKept, IsPrompt, IsTopology, Item, Lab, List, Mark, MayTakeMemory, NatNode, NatSettings, NatStandsFor, NatState, NeedsMemory, Node, NodesOf, None, Numbered, Ok, Option, Passing, PlayedAsBefore, PlayedNode, Plays, Prompt, Puts, Record, Sender, Sendings, Some, Step, Stop, TopologyState, Wants, WireState, WorldState, [], acts, ap, arith, armed, armed_after, arms, as_nat, at_nat, client, delivered_by, done_by, drawn, dst_by, dst_lent, emitted_by, entries_in, entry_in, eqb_tells, false, false≢true, fresh_record, get_or, has_any, inl, input_by, input_lent, inr, is_number, is_some, journal, lab_in, length, length-append, map, marks_of, nat, nat_history, nat_settings, native, node_at, nodes, option_map, option_or, outs_at, past_of, prompted, record_of, refl, relay, replicate, row_of, same_Some, sendings, sendings_but, server, set_ups, slice_get, slice_get-map, subst, sym, true, unplaced, wire, with_call, with_deed, with_entry, words, ℕ, ◌++◌, ◌+◌, ◌==◌, ◌||◌, ◌∙◌, ◌∷◌, ◌≡◌, ◌≢◌, ◌⊎◌}
use Rattle.teredo_node.specs.Journal.{Entry}
use Rattle.history.specs.declared.turn.Stop.TheVariants as stop
use Rattle.history.specs.Full.{Full}
use Rattle.lab_nodes.specs.declared.played_node.PlayedNode.TheVariants as played
use Rattle.world.specs.declared.prompt.Prompt.TheVariants as prompt
use Rattle.world.proofs.Kept.{AsPast, kept_as, is_itself, starts_none, away}
use Rattle.world.proofs.Played.{remembered, flags_same}
use Rattle.world.proofs.Routes.{row_at}

-- A CALL

-- a node is asked, by a prompt; before it was so
pub record Doing : Type 0 where
  pub draws : Draws
  pub world : WorldState
  pub history : List Full
  pub event : Numbered
  pub act : Act
  pub prompt : Prompt
  pub call : Call
  pub before : PlayedNode

abbrev pub lab_of_doing : Doing → Lab
lab_of_doing x = lab_in x.draws x.world

abbrev pub row_by : Doing → Node
row_by x = row_of x.before

abbrev pub entry_by : Doing → Entry
entry_by x = entry_in (lab_of_doing x) x.history x.call (row_by x)

abbrev pub record_by : Doing → Full
record_by x = acts (lab_of_doing x) x.history x.event x.act (delivered_by x.prompt) x.call.now.0 x.call.node (dst_lent x.call.input) (input_lent x.call.input) (row_by x)

-- the call is what the prompt brings, now
pub record IsCall (w : WorldState) (p : Prompt) (call : Call) : Type 0 where
  pub at : call.now.0 ≡ w.moment
  pub dst : dst_lent call.input ≡ dst_by w.wire p
  pub input : input_lent call.input ≡ input_by w.wire p

-- the node is there, no NAT is told of the event, and it arms nothing
pub record IsDoing (x : Doing) : Type 0 where
  pub finds : Finds x.draws x.world x.history
  pub rules : IsTopology x.world.topology
  pub quiet : at_nat (lab_of_doing x) x.event.event x.act ≡ []
  pub mild : arms x.event.event ≡ None
  pub was : slice_get x.world.nodes x.call.node ≡ Some x.before

-- it is the record of the prompt
pub prompted_is : (x : Doing) (a : Node) → IsDoing x → IsCall x.world x.prompt x.call → node_at x.world.topology x.call.node ≡ Some a
    → record_by x ≡ prompted x.draws x.world x.history x.event x.act x.prompt x.call.node a
prompted_is x a is call at =
    let row : row_by x ≡ a = same_Some (row_by x) a (sym (row_at x.world.topology x.world.nodes x.call.node x.before is.finds.nodes.rows is.was) ∙ at) in
    λ i. acts (lab_of_doing x) x.history x.event x.act (delivered_by x.prompt) (call.at i) x.call.node (call.dst i) (call.input i) (row i)

-- what it gave
pub record Asking : Type 0 where
  pub mid : List PlayedNode
  pub after : PlayedNode
  pub step : Step
  pub asked : Asked

pub record IsAsked (x : Doing) (y : Asking) : Type 0 where
  pub answers : AnswersCall x.call x.before y.after y.step y.asked
  pub is : slice_get y.mid x.call.node ≡ Some y.after
  pub elsewhere : (k : ℕ) → k ≢ x.call.node → slice_get y.mid k ≡ slice_get x.world.nodes k
  pub rows : map row_of y.mid ≡ map row_of x.world.nodes

asked_for : (x : Doing) (y : Asking) → IsDoing x → IsAsked x y → AnswersFor (lab_of_doing x) x.history x.call x.before y.after y.step y.asked
asked_for x y is asked = asked.answers.each (lab_of_doing x) x.history (is.finds.nodes.each x.call.node x.before is.was)

there : (x : Doing) → IsDoing x → node_at x.world.topology x.call.node ≡ Some (row_by x)
there x is = row_at x.world.topology x.world.nodes x.call.node x.before is.finds.nodes.rows is.was

-- WHAT IT SENDS

abbrev pub sender_of : Doing → Asking → Sender
sender_of x y = record { outlet = y.asked.outlet; now = x.call.now; fails = x.world.armed }

-- what becomes of it
abbrev pub leaving : Doing → Asking → Sendings
leaving x y = emitted_by (lab_of_doing x) x.history (sender_of x y) y.asked.packet y.step.sends

-- the one that fails is the one that was armed
leaves_so : (x : Doing) (y : Asking) → IsDoing x → IsAsked x y → sendings (lab_of_doing x) x.history x.call.now.0 (entry_by x) (row_by x) ≡ leaving x y
leaves_so x y is asked =
    (asked_for x y is asked).leaves ∙ ap (λ (a : Option ℕ). sendings_but (lab_of_doing x) x.history x.call.now.0 a y.asked.outlet y.asked.packet y.step.sends) (sym is.finds.armed)

abbrev pub wire_in : WorldState → WireState
wire_in w = record { items = w.wire; done = w.done }

-- it came onto the wire, and the NATs know what they let out of it
pub record IsSent (x : Doing) (y : Asking) (nats : ChainsState) (new : WireState) (marks : List Mark) : Type 0 where
  pub enters : ComesOnto (wire_in x.world) new [] marks (leaving x y).made
  pub knows : AreNatsWith (lab_of_doing x) x.history (leaving x y).passed nats
  pub rows : AreNatsOf nats.topology nats.nats

-- THE RECORD

abbrev pub said_by : Doing → Asking → List Mark → Record
said_by x y marks = record (with_deed (fresh_record x.event.number x.call.now.0) x.act (Some x.call.node) y.step.fate) { late = map length y.step.late; gone = y.step.gone; marks = marks; handed = y.asked.handed; address = y.asked.address }

said_is : (x : Doing) (y : Asking) (nats : ChainsState) (new : WireState) (marks : List Mark) → IsDoing x → IsAsked x y → IsSent x y nats new marks → said_by x y marks ≡ record_of (record_by x)
said_is x y nats new marks is asked done =
    let of = asked_for x y is asked in
    let these : marks ≡ marks_of (length (wire x.history)) (record_by x).made =
    done.enters.marks ∙ ap (λ (items : List Item). marks_of (length items) (leaving x y).made) is.finds.wire ∙ ap (λ (s : Sendings). marks_of (length (wire x.history)) s.made) (sym (leaves_so x y is asked)) in
    λ i. record (with_deed (fresh_record x.event.number x.call.now.0) x.act (Some x.call.node) (of.did i).fate) { late = map length (of.did i).late; gone = (of.did i).gone; marks = these i; handed = of.handed i; address = of.address i }

-- THE NODES

-- the past of the node with its call is that of the history with the record
itself_as : (x : Doing) (p : PlayedNode) → IsDoing x → AsPast p (with_call (entry_by x) (past_of (lab_of_doing x) x.call.node x.history)) (past_of (lab_of_doing x) x.call.node (record_by x ∷ x.history))
itself_as x p is = by p where
  its_journal : journal x.call.node (record_by x ∷ x.history) ≡ with_entry (journal x.call.node x.history) (entry_by x)
  its_journal = rw (is_itself x.call.node, starts_none (lab_of_doing x) x.event.event x.act is.quiet) refl

  its_words : words (lab_of_doing x) x.call.node (record_by x ∷ x.history) ≡ (λ k. words (lab_of_doing x) x.call.node x.history ((entry_by x).step.drawn + k))
  its_words =
      let so_far = drawn x.call.node x.history in
      let more = (entry_by x).step.drawn in
      let total : drawn x.call.node (record_by x ∷ x.history) ≡ so_far + more = rw (is_itself x.call.node) refl in
      let regrouped : (k : ℕ) → so_far + more + k ≡ so_far + (more + k) = λ k. omega arith in
      ap (λ (m : ℕ). λ (k : ℕ). x.draws x.call.node (m + k)) total ∙ (λ i k. x.draws x.call.node (regrouped k i))

  by : (p : PlayedNode) → AsPast p (with_call (entry_by x) (past_of (lab_of_doing x) x.call.node x.history)) (past_of (lab_of_doing x) x.call.node (record_by x ∷ x.history))
  by (played.Server row) = tt
  by (played.Nat row) = tt
  by (played.Client row kept) = (its_journal, its_words)
  by (played.Relay row kept) = its_journal
  by (played.Native row) = tt

-- node k is kept so
abbrev After : Doing → ℕ → PlayedNode → Type 0
After x k p = IsKept x.world.topology k (past_of (lab_of_doing x) k (record_by x ∷ x.history)) p

after_itself : (x : Doing) (y : Asking) (p : PlayedNode) → IsDoing x → IsAsked x y → slice_get y.mid x.call.node ≡ Some p → After x x.call.node p
after_itself x y p is asked at =
    let n = x.call.node in
    let same : y.after ≡ p = same_Some y.after p (sym asked.is ∙ at) in
    subst (After x n) same
    (kept_as x.world.topology n (with_call (entry_by x) (past_of (lab_of_doing x) n x.history)) (past_of (lab_of_doing x) n (record_by x ∷ x.history)) y.after
    (itself_as x y.after is) (asked_for x y is asked).keeps)

after_other : (x : Doing) (y : Asking) (k : ℕ) (p : PlayedNode) → IsDoing x → IsAsked x y → k ≢ x.call.node → slice_get y.mid k ≡ Some p → After x k p
after_other x y k p is asked apart at =
    let lab = lab_of_doing x in
    kept_as x.world.topology k (past_of lab k x.history) (past_of lab k (record_by x ∷ x.history)) p
    (away lab x.history (record_by x) k p (λ same. apart (sym (same_Some x.call.node k same))))
    (is.finds.nodes.each k p (sym (asked.elsewhere k apart) ∙ at))

-- all nodes are kept as the history with the record has them
nodes_after : (x : Doing) (y : Asking) → IsDoing x → IsAsked x y → NodesOf (lab_of_doing x) y.mid (record_by x ∷ x.history)
nodes_after x y is asked = record { rows = asked.rows ∙ is.finds.nodes.rows; each = λ k p at. by k p at (eqb_tells k x.call.node) } where
  by : (k : ℕ) (p : PlayedNode) → slice_get y.mid k ≡ Some p → ((k == x.call.node) ≡ true) × (k ≡ x.call.node) ⊎ ((k == x.call.node) ≡ false) × (k ≢ x.call.node) → After x k p
  by k p at (inl (yeah, same)) = subst (λ (j : ℕ). After x j p) (sym same) (after_itself x y p is asked (ap (slice_get y.mid) (sym same) ∙ at))
  by k p at (inr (nope, apart)) = after_other x y k p is asked apart at

-- THE NATS

-- where a NAT is kept the node is one
nat_kept : (t : TopologyState) (list : List (Option NatState)) (k : ℕ) (its : NatState) (a : Node) → AreNatsOf t list → slice_get list k ≡ Some (Some its) → node_at t k ≡ Some a
    → (row : NatNode) × (a ≡ nat row)
nat_kept t list k its a rows at there = by a (sym kept ∙ ap (λ (xs : List (Option NatSettings)). slice_get xs k) rows ∙ slice_get-map set_up (nodes t) k ∙ ap (option_map set_up) there) where
  set_up : Node → Option NatSettings
  set_up b = option_map nat_settings (as_nat b)

  kept : slice_get (set_ups list) k ≡ Some (Some its.settings)
  kept = slice_get-map (option_map (λ (n : NatState). n.settings)) list k ∙ ap (option_map (option_map (λ (n : NatState). n.settings))) at

  none : (b : Node) → Some (Some its.settings) ≡ Some None → (row : NatNode) × (b ≡ nat row)
  none b e = absurd (false≢true (ap (λ (o : Option NatSettings). is_some o) (same_Some None (Some its.settings) (sym e))))

  by : (b : Node) → Some (Some its.settings) ≡ Some (option_map nat_settings (as_nat b)) → (row : NatNode) × (b ≡ nat row)
  by (nat row) e = (row, refl)
  by (server x) e = none (server x) e
  by (client x) e = none (client x) e
  by (relay x) e = none (relay x) e
  by (native x) e = none (native x) e

-- they stand for the history with the record
nats_after : (x : Doing) (y : Asking) (nats : ChainsState) (new : WireState) (marks : List Mark) → IsDoing x → IsAsked x y → IsSent x y nats new marks
    → AreNatsWith (lab_of_doing x) (record_by x ∷ x.history) [] nats
nats_after x y nats new marks is asked done = record {
  topology = done.knows.topology;
  chain = done.knows.chain;
  stands = record { set_up = done.knows.stands.set_up; stands = λ k its at. subst (NatStandsFor its) (by k its at (eqb_tells k x.call.node)) (done.knows.stands.stands k its at) };
} where
  passed : (leaving x y).passed ≡ (record_by x).passed
  passed = ap (λ (s : Sendings). s.passed) (sym (leaves_so x y is asked))

  -- a NAT sends nothing
  silent : (row : NatNode) → row_by x ≡ nat row → (record_by x).passed ≡ []
  silent row e = ap (λ (a : Node). (sendings (lab_of_doing x) x.history x.call.now.0 (entry_by x) a).passed) e

  by : (k : ℕ) (its : NatState) → slice_get nats.nats k ≡ Some (Some its) → ((k == x.call.node) ≡ true) × (k ≡ x.call.node) ⊎ ((k == x.call.node) ≡ false) × (k ≢ x.call.node)
      → outs_at k (leaving x y).passed ++ nat_history (lab_of_doing x) k x.history ≡ nat_history (lab_of_doing x) k (record_by x ∷ x.history)
  by k its at (inl (yeah, same)) =
      let at_node : node_at nats.topology k ≡ Some (row_by x) = ap (λ (t : TopologyState). node_at t k) done.knows.topology ∙ ap (node_at x.world.topology) same ∙ there x is in
      let a = nat_kept nats.topology nats.nats k its (row_by x) done.rows at at_node in
      ap (λ (ps : List Passing). outs_at k ps ++ nat_history (lab_of_doing x) k x.history) (passed ∙ silent a.0 a.1)
      ∙ sym (rw (yeah, is.quiet) refl)
  by k its at (inr (nope, apart)) =
      ap (λ (ps : List Passing). outs_at k ps ++ nat_history (lab_of_doing x) k x.history) passed ∙ sym (rw nope refl)

-- IT ACTED

-- what was delivered is remembered
done_is : (x : Doing) (y : Asking) (nats : ChainsState) (new : WireState) (marks : List Mark) → IsSent x y nats new marks → IsPrompt x.world.wire x.world.done x.prompt
    → (i : ℕ) → get_or (done_by x.prompt new.done) i false ≡ (is_number i (delivered_by x.prompt) || get_or x.world.done i false)
done_is x y nats new marks done there i = by x.prompt there where
  entries : List Item
  entries = entries_in (leaving x y).made

  flags : new.done ≡ x.world.done ++ replicate (length (entries_in (leaving x y).made)) false
  flags = ap (λ (w : WireState). w.done) done.enters.wire

  same : get_or new.done i false ≡ get_or x.world.done i false
  same = ap (λ (bs : List Bool). get_or bs i false) flags ∙ flags_same x.world.done (length (entries_in (leaving x y).made)) i

  by : (p : Prompt) → IsPrompt x.world.wire x.world.done p → get_or (done_by p new.done) i false ≡ (is_number i (delivered_by p) || get_or x.world.done i false)
  by (prompt.Entry number) there =
      let longer : length new.done ≡ length x.world.done + length (replicate (length (entries_in (leaving x y).made)) false) =
      ap (λ (xs : List Bool). length xs) flags ∙ length-append x.world.done _ in
      let within = there.1 in
      remembered new.done number (omega (arith, longer, within)) i ∙ ap (λ (b : Bool). is_number i (Some number) || b) same
  by (prompt.Packet bytes) there = same
  by prompt.Tick there = same

-- what stays armed
abbrev pub armed_by : Doing → Asking → Option ℕ
armed_by x y = armed_after (has_any y.step.sends) x.world.armed

armed_is : (x : Doing) (y : Asking) → IsDoing x → IsAsked x y → armed_by x y ≡ armed (record_by x ∷ x.history)
armed_is x y is asked =
    ap (λ (s : Step). armed_after (has_any s.sends) x.world.armed) (asked_for x y is asked).did
    ∙ ap (armed_after (has_any (entry_by x).step.sends)) (is.finds.armed ∙ ap (λ (o : Option ℕ). option_or o (armed x.history)) (sym is.mild))

pub acted_plays : (x : Doing) (y : Asking) (nats : ChainsState) (new : WireState) (marks : List Mark) → IsCall x.world x.prompt x.call → IsPrompt x.world.wire x.world.done x.prompt
    → (a : Node) → node_at x.world.topology x.call.node ≡ Some a → IsDoing x → IsAsked x y → IsSent x y nats new marks
    → Plays x.draws x.world (record x.world { armed = armed_by x y; chain = nats.chain; nodes = y.mid; nats = nats; wire = new.items; done = done_by x.prompt new.done }) x.history
    (prompted x.draws x.world x.history x.event x.act x.prompt x.call.node a) (Ok (said_by x y marks))
acted_plays x y nats new marks call there a at is asked done =
    let now = record x.world { armed = armed_by x y; chain = nats.chain; nodes = y.mid; nats = nats; wire = new.items; done = done_by x.prompt new.done } in
    subst (λ (r : Full). Plays x.draws x.world now x.history r (Ok (said_by x y marks))) (prompted_is x a is call at) (
      said_is x y nats new marks is asked done,
      record {
        moment = sym call.at;
        nodes = nodes_after x y is asked;
        nats = nats_after x y nats new marks is asked done;
        wire = ap (λ (w : WireState). w.items) done.enters.wire ∙ ap (λ (s : Sendings). x.world.wire ++ entries_in s.made) (sym (leaves_so x y is asked));
        done = done_is x y nats new marks done there;
        armed = armed_is x y is asked;
      },
    )

-- OR DIDN'T

-- it was wanting at a client or a relay
wanted : (x : Call) (old : PlayedNode) → Wants x old → MayTakeMemory x old
wanted x (played.Server row) wants = absurd wants
wanted x (played.Nat row) wants = absurd wants
wanted x (played.Client row is) wants = wants
wanted x (played.Relay row is) wants = wants
wanted x (played.Native row) wants = absurd wants

-- memory was wanting when it was asked, and it is as before
pub record IsRefused (x : Doing) (mid : List PlayedNode) : Type 0 where
  pub after : PlayedNode
  pub wants : Wants x.call x.before
  pub as_before : PlayedAsBefore x.before after
  pub is : slice_get mid x.call.node ≡ Some after
  pub elsewhere : (k : ℕ) → k ≢ x.call.node → slice_get mid k ≡ slice_get x.world.nodes k
  pub rows : map row_of mid ≡ map row_of x.world.nodes

pub wants_memory : (x : Doing) (mid : List PlayedNode) (a : Node) → IsCall x.world x.prompt x.call → IsDoing x → node_at x.world.topology x.call.node ≡ Some a → IsRefused x mid
    → NeedsMemory (prompted x.draws x.world x.history x.event x.act x.prompt x.call.node a)
wants_memory x mid a call is at refused =
    subst (λ (r : Full). NeedsMemory r) (prompted_is x a is call at) (wanted x.call x.before refused.wants (lab_of_doing x) x.history (is.finds.nodes.each x.call.node x.before is.was))

-- node k is kept as before
abbrev Still : Doing → ℕ → PlayedNode → Type 0
Still x k p = IsKept x.world.topology k (past_of (lab_of_doing x) k x.history) p

-- all nodes are kept as the history has them
pub nodes_still : (x : Doing) (mid : List PlayedNode) → IsDoing x → IsRefused x mid → NodesOf (lab_of_doing x) mid x.history
nodes_still x mid is refused = record { rows = refused.rows ∙ is.finds.nodes.rows; each = λ k p at. by k p at (eqb_tells k x.call.node) } where
  itself : (p : PlayedNode) → slice_get mid x.call.node ≡ Some p → Still x x.call.node p
  itself p at = subst (Still x x.call.node) (same_Some refused.after p (sym refused.is ∙ at))
      (refused.as_before x.world.topology x.call.node (past_of (lab_of_doing x) x.call.node x.history) (is.finds.nodes.each x.call.node x.before is.was))

  by : (k : ℕ) (p : PlayedNode) → slice_get mid k ≡ Some p → ((k == x.call.node) ≡ true) × (k ≡ x.call.node) ⊎ ((k == x.call.node) ≡ false) × (k ≢ x.call.node) → Still x k p
  by k p at (inl (yeah, same)) = subst (λ (j : ℕ). Still x j p) (sym same) (itself p (ap (slice_get mid) (sym same) ∙ at))
  by k p at (inr (nope, apart)) = is.finds.nodes.each k p (sym (refused.elsewhere k apart) ∙ at)

-- the wire has no room for what it sends, or memory was wanting for it
pub acted_cause : (x : Doing) (y : Asking) (new : WireState) (marks : List Mark) (why : Stop) (a : Node) → IsCall x.world x.prompt x.call → IsDoing x → IsAsked x y → node_at x.world.topology x.call.node ≡ Some a
    → Puts (wire_in x.world) new [] marks (leaving x y).made (Err why) → IsCause x.world (prompted x.draws x.world x.history x.event x.act x.prompt x.call.node a) why
acted_cause x y new marks why a call is asked at puts = subst (λ (r : Full). IsCause x.world r why) (prompted_is x a is call at)
    (by why (subst (λ (s : Sendings). Puts (wire_in x.world) new [] marks s.made (Err why)) (sym (leaves_so x y is asked)) puts)) where
      by : (why : Stop) → Puts (wire_in x.world) new [] marks (record_by x).made (Err why) → IsCause x.world (record_by x) why
      by stop.WireFull more = more
      by stop.NoMemory some = λ none. absurd (some none)

-- it acted, and the NATs know a part of what it lets out
pub acted_left : (x : Doing) (y : Asking) (nats : ChainsState) (a : Node) → IsCall x.world x.prompt x.call → IsDoing x → IsAsked x y → node_at x.world.topology x.call.node ≡ Some a
    → AreNatsAmid (lab_of_doing x) x.history (leaving x y).passed nats → Halted (lab_of_doing x) y.mid nats x.history (prompted x.draws x.world x.history x.event x.act x.prompt x.call.node a)
acted_left x y nats a call is asked at amid =
    subst (λ (r : Full). Halted (lab_of_doing x) y.mid nats x.history r) (prompted_is x a is call at)
    (unplaced (nodes_after x y is asked) (subst (λ (s : Sendings). AreNatsAmid (lab_of_doing x) x.history s.passed nats) (sym (leaves_so x y is asked)) amid))
