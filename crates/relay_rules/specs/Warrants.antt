-- What was seen where a datagram or a packet of the IPv6 side has a fate: most fates are those of one line (RFC 4380, sections
-- 5.4.1 and 5.4.2).
use Rattle.std.specs.Prelude.{◌≡◌, true, false}
use Rattle.teredo_node.specs.declared.fate.Fate.{Fate}
use Rattle.teredo_node.specs.declared.fate.Fate.TheVariants as fate
use Rattle.relay_rules.specs.Reception.{RelaySeen}
use Rattle.relay_rules.specs.Transmission.{RelayGiven}

-- DATAGRAMS

-- a packet of a listed client, from where its address says
pub record IsOfPeer (a : RelaySeen) : Type 0 where
  pub payload : a.payload ≡ true
  pub unkeyed : a.keyed ≡ false
  pub short : a.big ≡ false
  pub teredo : a.teredo ≡ true
  pub embedded : a.embedded_here ≡ true
  pub listed : a.listed ≡ true

-- a bubble
pub record IsPeerBubble (a : RelaySeen) : Type 0 where
  pub peer : IsOfPeer a
  pub bubble : a.bubble ≡ true

-- none, for a native that the relay serves
pub record IsServed (a : RelaySeen) : Type 0 where
  pub peer : IsOfPeer a
  pub no_bubble : a.bubble ≡ false
  pub served : a.served ≡ true

-- none, and for nobody that it serves
pub record IsUnserved (a : RelaySeen) : Type 0 where
  pub peer : IsOfPeer a
  pub no_bubble : a.bubble ≡ false
  pub unserved : a.served ≡ false

-- what was seen of a datagram with this fate; other drops say nothing
abbrev pub RelayReceivedOnlyIf : Fate → RelaySeen → Type 0
RelayReceivedOnlyIf fate.FromClientBubble a = IsPeerBubble a
RelayReceivedOnlyIf fate.FromClient a = IsServed a
RelayReceivedOnlyIf fate.Unserved a = IsUnserved a
RelayReceivedOnlyIf _ a = Unit {0}

-- PACKETS OF THE IPV6 SIDE

-- a packet from outside Teredo to a client that can be reached, and isn't the relay itself
pub record RelayGoesOut (a : RelayGiven) : Type 0 where
  pub packet : a.packet ≡ true
  pub short : a.big ≡ false
  pub teredo : a.teredo ≡ true
  pub foreign_source : a.foreign_source ≡ true
  pub reachable : a.reachable ≡ true
  pub unlooped : a.looped ≡ false

-- its destination is trusted
pub record GoesToTrusted (a : RelayGiven) : Type 0 where
  pub out : RelayGoesOut a
  pub trusted : a.trusted ≡ true

-- its destination is a cone
pub record RelayGoesToCone (a : RelayGiven) : Type 0 where
  pub out : RelayGoesOut a
  pub untrusted : a.trusted ≡ false
  pub room : a.room ≡ true
  pub cone : a.cone ≡ true

-- it may wait for its destination
pub record RelayGoesLater (a : RelayGiven) : Type 0 where
  pub out : RelayGoesOut a
  pub untrusted : a.trusted ≡ false
  pub room : a.room ≡ true
  pub no_cone : a.cone ≡ false
  pub unspent : a.spent ≡ false
  pub free : a.full ≡ false

-- what was seen of a packet with this fate; drops say nothing
abbrev pub RelaySentOnlyIf : Fate → RelayGiven → Type 0
RelaySentOnlyIf fate.Sent a = GoesToTrusted a
RelaySentOnlyIf fate.SentCone a = RelayGoesToCone a
RelaySentOnlyIf fate.Queued a = RelayGoesLater a
RelaySentOnlyIf _ a = Unit {0}
