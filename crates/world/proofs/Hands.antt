-- Nodes that events name, and packets that their hosts hand in.
use Rattle.world.proofs.Words.{AreOf, Draws, Event, IsEvent, List, Node, None, Numbered, PlayedNode, Plays, Record, Result, Some, StandsFor, Stop, TopologyState, Verb, WorldState, acts, ap, given, hands_in, lab_in, length, no_ep, node_at, plain, subst, sym, ℕ, ◌<◌, ◌∙◌, ◌≡◌}
use Rattle.events.specs.declared.event.Event.TheVariants as event
use Rattle.world.proofs.Routes.{host_within, within_as}
use Rattle.history.specs.Full.{Full}

-- the node that an event names is one of these
abbrev pub IsWithin : Event → List PlayedNode → Type 0
IsWithin (event.Host n to body) list = n < length list
IsWithin (event.Echo n to seq) list = n < length list
IsWithin (event.Raw n bytes) list = n < length list
IsWithin (event.Restart n) list = n < length list
IsWithin _ list = Unit {0}

pub event_within : (t : TopologyState) (list : List PlayedNode) (e : Event) → AreOf t list → IsEvent t e → IsWithin e list
event_within t list (event.Host n to body) of is = host_within t list n of is.from
event_within t list (event.Echo n to seq) of is = host_within t list n of is.from
event_within t list (event.Raw n bytes) of is = host_within t list n of is.from
event_within t list (event.Restart n) of is = within_as t list n of is
event_within t list (event.Advance ms) of is = tt
event_within t list (event.Deliver number) of is = tt
event_within t list event.Next of is = tt
event_within t list (event.Stranger src dst bytes) of is = tt
event_within t list (event.Copy number src dst) of is = tt
event_within t list (event.Forget n who) of is = tt
event_within t list (event.Fault send) of is = tt
event_within t list event.Settle of is = tt

-- it does what it does
pub hands : (d : Draws) (w new : WorldState) (H : List Full) (e : Numbered) (v : Verb) (n : ℕ) (x : List ℕ) (a : Node) (result : Result Record Stop) → StandsFor d w H → node_at w.topology n ≡ Some a
    → Plays d w new H (acts (lab_in d w) H e (plain v) None w.moment n no_ep (given x) a) result
    → Plays d w new H (hands_in (lab_in d w) H e v n x (node_at w.topology n)) result
hands d w new H e v n x a result s there plays =
    let same : acts (lab_in d w) H e (plain v) None w.moment n no_ep (given x) a ≡ hands_in (lab_in d w) H e v n x (node_at w.topology n) =
    ap (λ (j : ℕ). acts (lab_in d w) H e (plain v) None j n no_ep (given x) a) s.moment ∙ ap (hands_in (lab_in d w) H e v n x) (sym there) in
    subst (λ (r : Full). Plays d w new H r result) same plays
