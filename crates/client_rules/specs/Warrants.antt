-- What was seen where a datagram or a packet of the host has a fate: most fates are those of one line (RFC 4380, sections
-- 5.2.1, 5.2.3 and 5.2.4).
use Rattle.std.specs.Prelude.{◌≡◌, Bool, true, false}
use Rattle.teredo_node.specs.declared.fate.Fate.{Fate}
use Rattle.teredo_node.specs.declared.fate.Fate.TheVariants as fate
use Rattle.qualify.specs.Advertisements.{Heard, phase_line}
use Rattle.client_rules.specs.Reception.{Seen}
use Rattle.client_rules.specs.Transmission.{Given}

-- DATAGRAMS

-- a payload that every line looks at
pub record IsSound (a : Seen) : Type 0 where
  pub payload : a.payload ≡ true
  pub unkeyed : a.keyed ≡ false
  pub unconfirmed : a.confirmed ≡ false
  pub short : a.big ≡ false

-- an advertisement of the server that no line refuses; the phase gives its fate
pub record IsAdvert (f : Fate) (a : Seen) (h : Heard) : Type 0 where
  pub sound : IsSound a
  pub server : a.from_server ≡ true
  pub well_formed : a.ill_formed ≡ false
  pub advert : a.advert ≡ true
  pub open_nonce : h.open_nonce ≡ true
  pub from_expected : h.from_expected ≡ true
  pub usable_origin : h.usable_origin ≡ true
  pub one_prefix : h.one_prefix ≡ true
  pub own_prefix : h.own_prefix ≡ true
  pub phase : phase_line h.phase h.same_origin ≡ f

-- a packet for a qualified client, from another source
pub record IsForClient (a : Seen) : Type 0 where
  pub sound : IsSound a
  pub qualified : a.qualified ≡ true
  pub mine : a.mine ≡ true
  pub foreign : a.itself ≡ false

-- a bubble through the server, which is answered
pub record IsIndirect (a : Seen) : Type 0 where
  pub mine : IsForClient a
  pub server : a.from_server ≡ true
  pub bubble : a.bubble ≡ true
  pub origin : a.good_origin ≡ true
  pub room : a.peer.room ≡ true
  pub unbarred : a.peer.barred ≡ false

-- a packet that came from a peer itself
pub record IsDirect (a : Seen) : Type 0 where
  pub mine : IsForClient a
  pub direct : a.from_server ≡ false

-- rule 1: of a peer that is trusted there
pub record IsTrusted (bubble : Bool) (a : Seen) : Type 0 where
  pub direct : IsDirect a
  pub trusted : a.peer.trusted_here ≡ true
  pub kind : a.bubble ≡ bubble

-- rule 2: an echo reply that answers the test of a listed native
pub record IsTested (a : Seen) : Type 0 where
  pub direct : IsDirect a
  pub untrusted : a.peer.trusted_here ≡ false
  pub native : a.teredo ≡ false
  pub listed : a.peer.listed ≡ true
  pub stale : a.peer.fresh ≡ false
  pub reply : a.peer.reply ≡ true

-- rule 3: of another client, from where its address says
pub record IsEmbedded (bubble : Bool) (a : Seen) : Type 0 where
  pub direct : IsDirect a
  pub untrusted : a.peer.trusted_here ≡ false
  pub embedded : a.embedded_here ≡ true
  pub room : a.peer.room ≡ true
  pub kind : a.bubble ≡ bubble

-- rule 6: of an unknown native, which is tested; whether so many packets are held for it that this one isn't
pub record IsSuspect (full : Bool) (a : Seen) : Type 0 where
  pub direct : IsDirect a
  pub untrusted : a.peer.trusted_here ≡ false
  pub native : a.teredo ≡ false
  pub global : a.global ≡ true
  pub stale : a.peer.fresh ≡ false
  pub unbarred : a.peer.barred ≡ false
  pub room : a.peer.room ≡ true
  pub no_bubble : a.bubble ≡ false
  pub no_reply : a.echo_reply ≡ false
  pub kept : a.peer.holds_most ≡ full

-- rule 6: of a native that is being tested
pub record IsUnderTest (a : Seen) : Type 0 where
  pub direct : IsDirect a
  pub untrusted : a.peer.trusted_here ≡ false
  pub native : a.teredo ≡ false
  pub global : a.global ≡ true
  pub listed : a.peer.listed ≡ true
  pub stale : a.peer.fresh ≡ false
  pub barred : a.peer.barred ≡ true
  pub tested : a.peer.tested ≡ true
  pub no_bubble : a.bubble ≡ false
  pub no_reply : a.echo_reply ≡ false
  pub kept : a.peer.holds_most ≡ false

-- what was seen of a datagram with this fate; drops say nothing
abbrev pub ReceivedOnlyIf : Fate → Seen → Heard → Type 0
ReceivedOnlyIf fate.QualifiedCone a h = IsAdvert fate.QualifiedCone a h
ReceivedOnlyIf fate.FirstAnswer a h = IsAdvert fate.FirstAnswer a h
ReceivedOnlyIf fate.QualifiedRestricted a h = IsAdvert fate.QualifiedRestricted a h
ReceivedOnlyIf fate.Symmetric a h = IsAdvert fate.Symmetric a h
ReceivedOnlyIf fate.Same a h = IsAdvert fate.Same a h
ReceivedOnlyIf fate.Changed a h = IsAdvert fate.Changed a h
ReceivedOnlyIf fate.Indirect a h = IsIndirect a
ReceivedOnlyIf fate.Rule1 a h = IsTrusted false a
ReceivedOnlyIf fate.Rule1Bubble a h = IsTrusted true a
ReceivedOnlyIf fate.Rule2 a h = IsTested a
ReceivedOnlyIf fate.Rule3 a h = IsEmbedded false a
ReceivedOnlyIf fate.Rule3Bubble a h = IsEmbedded true a
ReceivedOnlyIf fate.HeldTest a h = IsSuspect false a
ReceivedOnlyIf fate.SuspiciousTest a h = IsSuspect true a
ReceivedOnlyIf fate.Held a h = IsUnderTest a
ReceivedOnlyIf _ a h = Unit {0}

-- PACKETS OF THE HOST

-- a packet of this client to another address that can be reached
pub record GoesOut (a : Given) : Type 0 where
  pub qualified : a.qualified ≡ true
  pub packet : a.packet ≡ true
  pub short : a.big ≡ false
  pub own_source : a.own_source ≡ true
  pub global : a.global ≡ true
  pub no_bubble : a.bubble ≡ false
  pub foreign : a.itself ≡ false
  pub reachable : a.unreachable ≡ false

-- its destination is fresh
pub record GoesToFresh (a : Given) : Type 0 where
  pub out : GoesOut a
  pub fresh : a.fresh ≡ true

-- its destination is a cone
pub record GoesToCone (a : Given) : Type 0 where
  pub out : GoesOut a
  pub stale : a.fresh ≡ false
  pub cone : a.cone ≡ true

-- it may wait for its destination
pub record GoesLater (a : Given) : Type 0 where
  pub out : GoesOut a
  pub stale : a.fresh ≡ false
  pub no_cone : a.cone ≡ false
  pub room : a.room ≡ true
  pub unspent : a.spent ≡ false
  pub free : a.full ≡ false

-- what was seen of a packet with this fate; drops say nothing
abbrev pub SentOnlyIf : Fate → Given → Type 0
SentOnlyIf fate.Sent a = GoesToFresh a
SentOnlyIf fate.SentCone a = GoesToCone a
SentOnlyIf fate.Queued a = GoesLater a
SentOnlyIf _ a = Unit {0}
