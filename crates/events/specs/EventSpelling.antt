-- The text of an event.
use Rattle.std.specs.Prelude.{◌≡◌, ℕ, ◌==◌, ◌&&◌, not, Bool, true, List, [], ◌∷◌, codes, decimal, option_map, Option, Some, None}
use Rattle.std.specs.List.{list_all, join_with_byte, AllByRecursion}
use Rattle.hex.specs.Hex.{encode_lower}
use Rattle.topology.specs.Names.{name_text}
use Rattle.td_base.specs.Texts.{ep_text}
use Rattle.td_base.specs.Ip6.{IsIp6}
use Rattle.td_base.specs.Ip6Texts.{ip6_text}
use Rattle.topology.specs.declared.node_name.Name.{Name}
use Rattle.events.specs.declared.event.Event.{Event}
use Rattle.events.specs.declared.event.Event.TheVariants as event
use Rattle.events.specs.declared.verb.Verb.TheVariants as verb
use Rattle.events.specs.declared.target.Target.{Target}
use Rattle.events.specs.declared.target.Target.TheVariants as target
use Rattle.topology.specs.Rows.{TopologyState}
use Rattle.topology.specs.Topology.{node_at, name_of}
use Rattle.topology.specs.Rules.{names_of}
use Rattle.td_base.specs.Values.{colon}
use Rattle.events.specs.Words.{space}
use Rattle.events.specs.Verbs.{verb_word}

-- two digits in lower case for each byte, or `-` for none
abbrev pub hex_word : List ℕ → List ℕ
hex_word [] = codes "-"
hex_word (byte ∷ more) = encode_lower (byte ∷ more)

-- the text of a name, or nothing where there is none
abbrev pub word_of_name : Option Name → List ℕ
word_of_name None = []
word_of_name (Some name) = name_text name

-- the name of a node
abbrev pub name_word : TopologyState → ℕ → List ℕ
name_word t n = word_of_name (option_map name_of (node_at t n))

-- the word of where a packet goes: the name of a node, or an address
abbrev pub target_word : TopologyState → Target → List ℕ
target_word t (target.Node number) = name_word t number
target_word t (target.At ip) = ip6_text ip

-- the words of an event's text, in order
abbrev pub event_words : TopologyState → Event → List (List ℕ)
event_words t (event.Advance ms) = verb_word verb.Advance ∷ decimal ms ∷ []
event_words t (event.Deliver number) = verb_word verb.Deliver ∷ decimal number ∷ []
event_words t event.Next = verb_word verb.Next ∷ []
event_words t (event.Host node to body) = verb_word verb.Host ∷ name_word t node ∷ target_word t to ∷ hex_word body ∷ []
event_words t (event.Echo node to seq) = verb_word verb.Echo ∷ name_word t node ∷ target_word t to ∷ decimal seq ∷ []
event_words t (event.Raw node bytes) = verb_word verb.Raw ∷ name_word t node ∷ hex_word bytes ∷ []
event_words t (event.Stranger src dst bytes) = verb_word verb.Stranger ∷ ep_text src ∷ ep_text dst ∷ hex_word bytes ∷ []
event_words t (event.Copy number src dst) = verb_word verb.Copy ∷ decimal number ∷ ep_text src ∷ ep_text dst ∷ []
event_words t (event.Restart node) = verb_word verb.Restart ∷ name_word t node ∷ []
event_words t (event.Forget nat client) = verb_word verb.Forget ∷ name_word t nat ∷ name_word t client ∷ []
event_words t (event.Fault send) = verb_word verb.Fault ∷ decimal send ∷ []
event_words t event.Settle = verb_word verb.Settle ∷ []

-- its words, with single spaces between them
unfoldable pub event_text : TopologyState → Event → List ℕ
event_text t e = join_with_byte space (event_words t e)

-- a text without a space, and without a colon, which each IPv6 address has
abbrev pub is_plain_text : List ℕ → Bool
is_plain_text text = list_all (λ byte. not (byte == space) && not (byte == colon)) text

-- no name has a space or a colon
abbrev pub HasPlainNames : TopologyState → Type 0
HasPlainNames t = AllByRecursion (λ name. is_plain_text (name_text name) ≡ true) (names_of t)

-- an address of a target has sixteen bytes
abbrev pub IsMadeTarget : Target → Type 0
IsMadeTarget (target.Node number) = Unit {0}
IsMadeTarget (target.At ip) = IsIp6 ip
