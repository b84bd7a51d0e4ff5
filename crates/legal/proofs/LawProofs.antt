-- The laws of this crate, each under the name of its call: crates above cite them from here.
use Rattle.legal.proofs.Words.{AllByRecursion, Begun, EachFrames, EachIsTold, Event, Follows, Full, Grown, IsEvent, Kind, Lab, List}
use Rattle.legal.proofs.Framed as framed
use Rattle.legal.proofs.Asked as asked
use Rattle.legal.proofs.ByKind as by_kind
use Rattle.legal.proofs.Tells as tells
pub use Rattle.legal.proofs.Unique.{one_history}
pub use Rattle.legal.proofs.Ways.{keeps as keeps_to_its_way}
pub use Rattle.legal.proofs.Actors.{each_acts as acted}
pub use Rattle.legal.proofs.OfNode.{each_is_of_node as of_node}
pub use Rattle.legal.proofs.Recorded.{each_is_recorded as is_recorded}
pub use Rattle.legal.proofs.ItemsMade.{each_is_made as items_are_made}
pub use Rattle.legal.proofs.OwnSends.{each_makes_its_own as makes_its_own}
pub use Rattle.legal.proofs.ReachedBy.{each_route as routes}
pub use Rattle.legal.proofs.NextLaws.{next_is_of as of_its_event}
pub use Rattle.legal.proofs.AskedFor.{each_is_asked_for as asked_for}
pub use Rattle.legal.proofs.Times.{is_later as later, is_at_once as at_once}
pub use Rattle.legal.proofs.Makers.{one_maker as made}
pub use Rattle.legal.proofs.NatPasts.{past as nat_pasts}
pub use Rattle.legal.proofs.Growth.{each_grows as nat_grows}
pub use Rattle.legal.proofs.Journals.{of_client as client_journals, of_relay as relay_journals}
pub use Rattle.legal.proofs.GivesPacket.{each_gives_packet as gives_packet}
pub use Rattle.legal.proofs.MadeWire.{each_history_is_made as wire_is_made}
pub use Rattle.legal.proofs.Reached.{each_is_reached as is_reached, each_is_shut_out as is_shut_out}
pub use Rattle.legal.proofs.Delivered.{deliveries}
pub use Rattle.legal.proofs.Lessened.{falls as advances_fall, bounded as advances_are_bounded}

pub frame : EachFrames
frame = λ lab h r. framed.frames lab h r

pub grown : (lab : Lab) (events : List Event) (h : List Full) → AllByRecursion (IsEvent lab.topology) events
    → Begun lab events h → Grown lab h
grown = λ lab events h all b. asked.grown lab events h all b

pub kinds : (lab : Lab) (h : List Full) (r : Full) → Follows lab h r → Kind lab h r
kinds = λ lab h r follows. by_kind.kind_of lab h r follows

pub told : EachIsTold
told = tells.next_tells
