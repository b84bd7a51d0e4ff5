-- What a link that lends one datagram tells.
use Rattle.std.specs.Prelude.{if◌then◌else◌, [], ◌∷◌, take, Option, Some, None}
use Rattle.td_base.specs.declared.datagram.TheConstants.{DATAGRAM_MAX}
use Rattle.td_base.specs.declared.side.Side.{Side}
use Rattle.td_base.specs.declared.side.Side.TheVariants.{Primary}
use Rattle.td_outside.specs.declared.link.Place.{Place}
use Rattle.td_outside.specs.declared.link.Place.TheVariants.{Both, Client}
use Rattle.td_outside.specs.Link.{Datagram, Told}
use Rattle.lab_nodes.specs.declared.one_arrival.OneArrival.{OneArrival}

-- the side that it comes to: the primary one of one socket
abbrev pub coming_side : Option Place → Side → Side
coming_side None side = side
coming_side (Some (Both on)) side = side
coming_side (Some (Client at)) side = Primary

-- the datagram is still to come until it was taken
abbrev pub told_of : OneArrival → Told
told_of l = record {
  coming = Some (if l.is_taken then [] else Datagram (coming_side l.on l.side) l.from (take DATAGRAM_MAX l.bytes.now) ∷ []);
  taken = None;
  attempts = None;
}
