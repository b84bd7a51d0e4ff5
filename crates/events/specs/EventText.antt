-- The event that a text asks for, or the place of the fault.
use Rattle.std.specs.Prelude.{ℕ, ◌+◌, List, [], ◌∷◌, length, Option, Some, None, Result, Ok, Err}
use Rattle.td_base.specs.Results.{◌>>=◌}
use Rattle.events.specs.declared.event.Event.{Event}
use Rattle.events.specs.declared.event.Event.TheVariants as event
use Rattle.events.specs.declared.event.TheConstants.{ADVANCE_MAX_MS, ENTRY_NUMBER_MAX, SEQUENCE_MAX, BODY_MAX, FAULT_MAX}
use Rattle.td_base.specs.declared.datagram.TheConstants.{DATAGRAM_MAX}
use Rattle.events.specs.declared.verb.Verb.{Verb}
use Rattle.events.specs.declared.verb.Verb.TheVariants as verb
use Rattle.topology.specs.Rows.{TopologyState}
use Rattle.topology.specs.Named.{has_host, is_nat, is_client_of}
use Rattle.td_base.specs.Values.{parts_at, number_of, ep_of}
use Rattle.events.specs.Words.{space, bytes_spelled}
use Rattle.events.specs.Verbs.{verb_of}
use Rattle.topology.specs.Named.{any_kind, named}
use Rattle.events.specs.NodeWords.{target_of}

-- the words of a text with their places, and the place where the text ends
pub data TextWords : Type 0 where
  no_word : (place : ℕ) → TextWords
  a_word : (place : ℕ) (text : List ℕ) (more : TextWords) → TextWords

-- these words, the first of them at this place, with a space before each other one
abbrev pub placed : ℕ → List (List ℕ) → TextWords
placed place [] = no_word place
placed place (text ∷ []) = a_word place text (no_word (place + length text))
placed place (text ∷ next ∷ more) = a_word place text (placed (place + length text + 1) (next ∷ more))

-- a text is cut at every single space
abbrev pub text_words : List ℕ → TextWords
text_words text = placed 0 (parts_at space text)

-- what a word says, with the words behind it, or the word's place as the fault
abbrev pub said : {A : Type 0} → ℕ → TextWords → Option A → Result (A × TextWords) ℕ
said place more None = Err place
said place more (Some x) = Ok (x, more)

-- what the next word says by its rule, and the words behind it; else the place of the fault
abbrev pub word : {A : Type 0} → (List ℕ → Option A) → TextWords → Result (A × TextWords) ℕ
word rule (no_word place) = Err place
word rule (a_word place text more) = said place more (rule text)

-- the event, where no word is left
abbrev pub no_more : Event → TextWords → Result Event ℕ
no_more e (no_word place) = Ok e
no_more e (a_word place text more) = Err place

-- the event of the words behind the first
unfoldable pub event_behind : TopologyState → Verb → TextWords → Result Event ℕ
event_behind t verb.Advance more = do
  ms ← word (number_of ADVANCE_MAX_MS) more
  no_more (event.Advance ms.0) ms.1
event_behind t verb.Deliver more = do
  number ← word (number_of ENTRY_NUMBER_MAX) more
  no_more (event.Deliver number.0) number.1
event_behind t verb.Next more = no_more event.Next more
event_behind t verb.Host more = do
  node ← word (named has_host t) more
  to ← word (target_of t) node.1
  body ← word (bytes_spelled BODY_MAX) to.1
  no_more (event.Host node.0 to.0 body.0) body.1
event_behind t verb.Echo more = do
  node ← word (named has_host t) more
  to ← word (target_of t) node.1
  seq ← word (number_of SEQUENCE_MAX) to.1
  no_more (event.Echo node.0 to.0 seq.0) seq.1
event_behind t verb.Raw more = do
  node ← word (named has_host t) more
  bytes ← word (bytes_spelled DATAGRAM_MAX) node.1
  no_more (event.Raw node.0 bytes.0) bytes.1
event_behind t verb.Stranger more = do
  src ← word ep_of more
  dst ← word ep_of src.1
  bytes ← word (bytes_spelled DATAGRAM_MAX) dst.1
  no_more (event.Stranger src.0 dst.0 bytes.0) bytes.1
event_behind t verb.Copy more = do
  number ← word (number_of ENTRY_NUMBER_MAX) more
  src ← word ep_of number.1
  dst ← word ep_of src.1
  no_more (event.Copy number.0 src.0 dst.0) dst.1
event_behind t verb.Restart more = do
  node ← word (named any_kind t) more
  no_more (event.Restart node.0) node.1
event_behind t verb.Forget more = do
  nat ← word (named is_nat t) more
  client ← word (named (is_client_of nat.0) t) nat.1
  no_more (event.Forget nat.0 client.0) client.1
event_behind t verb.Fault more = do
  send ← word (number_of FAULT_MAX) more
  no_more (event.Fault send.0) send.1
event_behind t verb.Settle more = no_more event.Settle more

-- the event of a text, or the place of the first word that breaks its rule, of the first word too many, or of the text's end where a word is missing
unfoldable pub event_of : TopologyState → List ℕ → Result Event ℕ
event_of t text = do
  verb ← word verb_of (text_words text)
  event_behind t verb.0 verb.1
