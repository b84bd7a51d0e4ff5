-- The turns of a session, and the journal that they make. Lists of turns and of entries have the latest first, what a link
-- or a clock tells has the oldest first.
use Rattle.std.specs.Prelude.{◌≡◌, ◌≤◌, ◌+◌, ℕ, ⊤, Bool, true, false, if◌then◌else◌, List, [], ◌∷◌, ◌++◌}
use Rattle.td_outside.specs.Link.{Came, Datagram, Nothing}
use Rattle.teredo_node.specs.Step.{Send}
use Rattle.teredo_node.specs.Journal.{Input, arrived, ticked, Entry, Journal, with_entry}
use Rattle.qualify.specs.declared.phase.Phase.{Phase}
use Rattle.qualify.specs.declared.phase.Phase.TheVariants.{Cone, Restricted, Secondary}
use Rattle.qualify.specs.Qualification.{qualification}
use Rattle.qualify.specs.Solicitations.{is_due}
use Rattle.qualify.specs.Generator.{words_of, after_words}
use Rattle.client_rules.specs.Journals.{client_entry, client_due, journal_since}
use Rattle.td_live.specs.Asked.{LiveClient}

-- ENTRIES

-- how many words entries drew
abbrev pub drawn_in : List Entry → ℕ
drawn_in [] = 0
drawn_in (e ∷ es) = drawn_in es + e.step.drawn

-- the datagrams that they send, the oldest first
abbrev pub sends_in : List Entry → List Send
sends_in [] = []
sends_in (e ∷ es) = sends_in es ++ e.step.sends

-- the entry that follows: it draws the next words of the client's stream
abbrev pub live_entry : LiveClient → Journal → ℕ → Input → Entry
live_entry c j n input = client_entry c.settings j n input (words_of (after_words (drawn_in j.entries) c.generator))

-- TURNS

-- a turn, at a moment
pub data LiveTurn : Type 0 where
  Over : (moment : ℕ) → LiveTurn  -- the phase isn't one that receives any more
  Took : (moment : ℕ) (came : Came) → LiveTurn
  Broke : (moment : ℕ) → LiveTurn  -- the receive failed

-- the moment of a turn
abbrev pub live_moment : LiveTurn → ℕ
live_moment (Over n) = n
live_moment (Took n came) = n
live_moment (Broke n) = n

-- it received, or tried to
abbrev pub is_asking : LiveTurn → Bool
is_asking (Over n) = false
is_asking (Took n came) = true
is_asking (Broke n) = true

-- did the turn's receiving fail?
abbrev pub is_broken : LiveTurn → Bool
is_broken (Broke n) = true
is_broken _ = false

-- what came in it
abbrev pub taken_in : LiveTurn → List Came
taken_in (Took n came) = came ∷ []
taken_in _ = []

-- the phases in which a client waits for its server's answer
abbrev pub receives : Phase → Bool
receives Cone = true
receives Restricted = true
receives Secondary = true
receives _ = false

-- the client's phase after a journal
abbrev pub phase_after : LiveClient → Journal → Phase
phase_after c j = (qualification c.settings j).phase

-- THE JOURNAL

-- where something is due at a moment there is the entry of a tick
abbrev pub after_due : LiveClient → Journal → ℕ → Journal
after_due c j n = if is_due n (client_due c.settings j n) then with_entry j (live_entry c j n ticked) else j

-- a datagram that came gives an entry, and nothing gives none
abbrev pub after_came : LiveClient → Journal → ℕ → Came → Journal
after_came c j n (Datagram side from bytes) = with_entry j (live_entry c j n (arrived from bytes))
after_came c j n Nothing = j

-- the journal after one more turn
abbrev pub after_turn : LiveClient → Journal → LiveTurn → Journal
after_turn c j (Took n came) = after_came c (after_due c j n) n came
after_turn c j (Over n) = after_due c j n
after_turn c j (Broke n) = after_due c j n

-- of turns from a start on
abbrev pub journal_from : LiveClient → ℕ → List LiveTurn → Journal
journal_from c start [] = journal_since start []
journal_from c start (t ∷ ts) = after_turn c (journal_from c start ts) t

-- the first of the moments
abbrev pub start_of : List LiveTurn → ℕ
start_of [] = 0
start_of (t ∷ []) = live_moment t
start_of (t ∷ u ∷ ts) = start_of (u ∷ ts)

-- the journal of a session's turns: it starts at the first moment
abbrev pub live_journal : LiveClient → List LiveTurn → Journal
live_journal c turns = journal_from c (start_of turns) turns

-- WHICH TURNS THERE ARE

-- the latest receive failed
abbrev pub ends_broken : List LiveTurn → Bool
ends_broken [] = false
ends_broken (t ∷ ts) = is_broken t

-- A turn is begun only in a phase that receives, and after no receive that failed. It receives where the phase is still
-- such a one after what was due.
pub record IsTurn (c : LiveClient) (start : ℕ) (ts : List LiveTurn) (t : LiveTurn) : Type 0 where
  pub begun : receives (phase_after c (journal_from c start ts)) ≡ true
  pub whole : ends_broken ts ≡ false
  pub kind : receives (phase_after c (after_due c (journal_from c start ts) (live_moment t))) ≡ is_asking t

-- each turn is one of this client, after those before it
abbrev pub AreTurns : LiveClient → ℕ → List LiveTurn → Type 0
AreTurns c start [] = ⊤
AreTurns c start (t ∷ ts) = IsTurn c start ts t × AreTurns c start ts

-- their moments lie between two, and none is before the one of an earlier turn
abbrev pub LiveRising : ℕ → List LiveTurn → ℕ → Type 0
LiveRising first [] last = first ≤ last
LiveRising first (t ∷ ts) last = (live_moment t ≤ last) × LiveRising first ts (live_moment t)

-- WHAT A CLOCK AND A LINK TELL OF THEM

-- the moments, one for each turn
abbrev pub live_moments : List LiveTurn → List ℕ
live_moments [] = []
live_moments (t ∷ ts) = live_moments ts ++ live_moment t ∷ []

-- what was taken, one element for each turn that received
abbrev pub live_came : List LiveTurn → List Came
live_came [] = []
live_came (t ∷ ts) = live_came ts ++ taken_in t
