-- What is proved of every history of a laboratory, whichever NATs are behind others, as one record: it is what a run says of the
-- history that it played. What clients make of their NATs and what becomes of first packets is said along ways, where the chain
-- keeps its rules; their addresses and verdicts once more where no NAT is behind another one.
use Rattle.std.specs.Prelude.{◌≡◌, ◌⊎◌, ℕ, true, List, [], ◌∷◌, ◌++◌, Some, Contains}
use Rattle.std.specs.List.{AllByRecursion}
use Rattle.td_base.specs.declared.ipv6.Ip6.{Ip6}
use Rattle.teredo_addr.specs.Teredo.{embedded}
use Rattle.topology.specs.declared.client_node.ClientNode.{ClientNode}
use Rattle.topology.specs.Rules.{IsTopology}
use Rattle.topology.specs.Topology.{client_at}
use Rattle.topology.specs.Chains.{Behind}
use Rattle.events.specs.Events.{IsEvent}
use Rattle.events.specs.Scenario.{Scenario}
use Rattle.history.specs.Full.{Full}
use Rattle.legal.specs.Lab.{Lab, lab_of}
use Rattle.legal.specs.Legal.{Begun, Grown}
use Rattle.legal.specs.Honest.{is_honest, is_honest_for, are_honest, are_honest_for}
use Rattle.theory_origins.specs.Live.{IsHeld}
use Rattle.theory_origins.specs.Throughout.{HasOrigins}
use Rattle.theory_verdicts.specs.Throughout.{HasRightVerdicts}
use Rattle.theory_ways.specs.Ways.{IsChained}
use Rattle.theory_ways.specs.Throughout.{HoldsAlongWays}
use Rattle.theory_answers.specs.Questions.{DrawsWords}
use Rattle.theory_answers.specs.Throughout.{TellsAtOnce}
use Rattle.theory_storms.specs.Throughout.{HasNoStorm}
use Rattle.theory_storms.specs.NineThroughout.{NineFollowEach}
use Rattle.theory_first_packets.specs.AlongWays.{FirstPacketArrivesAlong, TakesACourseAlong}
use Rattle.theory_first_natives.specs.FromNative.{FirstFromNativeArrivesAlong}
use Rattle.theory_first_natives.specs.ToNative.{FirstToNativeArrivesAlong}
use Rattle.loads.specs.declared.load.Load.{Load}
use Rattle.loads.specs.declared.end.End.TheVariants.{Arrived, Lost}
use Rattle.loads.specs.declared.saying.Saying.{Saying}
use Rattle.loads.specs.declared.way.Way.TheVariants.{Arrives}
use Rattle.loads.specs.Loads.{loads}
use Rattle.loads.specs.Sayings.{sayings_of}
use Rattle.theory_loads.specs.Carried.{CarriesPackets}
use Rattle.theory_loads.specs.Arrivals.{IsHandedOut}
use Rattle.theory_ends.specs.LostStays.{NoneDelivers, StaysLost, end_after}
use Rattle.theory_ends.specs.FirstArrival.{IsFirstArrival}

-- no NAT is behind another one
abbrev pub IsFlat : Lab → Type 0
IsFlat lab = lab.chain ≡ []

-- the packets that the latest record hands to a client's host, or brings to a native one, have their origin where their sources
-- say, and those from outside Teredo come from their relay or from a named event
abbrev pub OriginsAreTold : Lab → List Full → Type 0
OriginsAreTold lab [] = Unit {0}
OriginsAreTold lab (r ∷ H) = HasOrigins lab H r

-- where no NAT is behind another one, and all is honest for the client, an address that the latest record sets embeds the
-- address of the client's NAT, and a port that this holds for the client. It is the case of one NAT: that an address leads to
-- its client through all NATs of the way is said of the origins
abbrev pub AddressIsHeld : Lab → List Full → Type 0
AddressIsHeld lab [] = Unit {0}
AddressIsHeld lab (r ∷ H) = IsFlat lab → (n : ℕ) (c : ClientNode) (own : Ip6) → are_honest_for lab.topology c (r ∷ H) ≡ true
    → r.node ≡ Some n → client_at lab.topology n ≡ Some c → r.address ≡ Some own → IsHeld lab (r ∷ H) c (embedded own)

-- what clients make of the NATs of their ways after the latest record is right, and their addresses stay and differ, where the
-- NATs that are behind others are so by the rules
abbrev pub WaysAreRight : Lab → List Full → Type 0
WaysAreRight lab H = IsChained lab → HoldsAlongWays lab H

-- what a client is answered at once tells it of the NATs of its way, where these are so by the rules and nodes draw words of 32
-- bits, as those of every scenario do
abbrev pub QuestionsTell : Lab → List Full → Type 0
QuestionsTell lab H = IsChained lab → DrawsWords lab → TellsAtOnce lab H

-- what clients make of their NATs after the latest record is right, where no NAT is behind another one
abbrev pub VerdictsAreRight : Lab → List Full → Type 0
VerdictsAreRight lab [] = Unit {0}
VerdictsAreRight lab (r ∷ H) = IsFlat lab → HasRightVerdicts lab (r ∷ H)

-- where the latest records deliver each an entry for the first time they are few, however many are taken
abbrev pub DeliveriesAreFew : Lab → List Full → Type 0
DeliveriesAreFew lab H = (later before : List Full) → H ≡ later ++ before → HasNoStorm lab.topology before later

-- nine at most for each entry that wasn't delivered before them, and each packet that waited
abbrev pub AtMostNineFollow : Lab → List Full → Type 0
AtMostNineFollow lab H = (later before : List Full) → H ≡ later ++ before → NineFollowEach lab.topology before later

-- where they are a fresh schedule after the first packet from one client to another they carry it, past however many NATs, where
-- those that are behind others are so by the rules
abbrev pub FirstPacketIsCarried : Lab → List Full → Type 0
FirstPacketIsCarried lab H = IsChained lab → (later : List Full) (r : Full) (before : List Full) → H ≡ later ++ r ∷ before
    → FirstPacketArrivesAlong lab before r later

-- and where it is complete it takes one of the courses of a first packet: these fates, in this order
abbrev pub FirstPacketTakesACourse : Lab → List Full → Type 0
FirstPacketTakesACourse lab H = IsChained lab → (later : List Full) (r : Full) (before : List Full) → H ≡ later ++ r ∷ before
    → TakesACourseAlong lab before r later

-- so they carry the first packet of a native host to a client, which hands it over once the host has answered its test
abbrev pub FirstFromNativeIsCarried : Lab → List Full → Type 0
FirstFromNativeIsCarried lab H = IsChained lab → (later : List Full) (r : Full) (before : List Full) → H ≡ later ++ r ∷ before
    → FirstFromNativeArrivesAlong lab before r later

-- and that of a client to a native host, with the host's answer if it answers
abbrev pub FirstToNativeIsCarried : Lab → List Full → Type 0
FirstToNativeIsCarried lab H = IsChained lab → (later : List Full) (r : Full) (before : List Full) → H ≡ later ++ r ∷ before
    → FirstToNativeArrivesAlong lab before r later

-- where the latest record says that a packet arrives, or a reply, a host gets its bytes
abbrev pub ArrivalsAreHanded : Lab → List Full → Type 0
ArrivalsAreHanded lab [] = Unit {0}
ArrivalsAreHanded lab (r ∷ H) = (s : Saying) → Contains (sayings_of lab.topology H (loads lab.topology H) r) s → s.way ≡ Arrives → IsHandedOut lab H r s.load

-- a packet that was lost after earlier records, or a reply that was, stays so until an entry that carries it is delivered again
abbrev pub LostOnesStayLost : Lab → List Full → Type 0
LostOnesStayLost lab H = (later before : List Full) → H ≡ later ++ before → (l : Load) (j : ℕ) → end_after lab.topology before l ≡ Some (Lost j)
    → NoneDelivers lab.topology before later l → StaysLost lab.topology before later l j

-- the record that the end of a packet names, or that of a reply, was the first by which it arrived
abbrev pub ArrivalsAreFirst : Lab → List Full → Type 0
ArrivalsAreFirst lab H = (l : Load) (j : ℕ) → end_after lab.topology H l ≡ Some (Arrived j) → IsFirstArrival lab.topology H l j

-- *kept*: of a history: each theorem on histories is so of its latest record, along ways where it is chained, of one
-- NAT where none is behind another; throughout: of each.
-- of a history, at its latest record
pub record Kept (lab : Lab) (H : List Full) : Type 0 where
  pub origins : OriginsAreTold lab H
  pub held : AddressIsHeld lab H
  pub ways : WaysAreRight lab H
  pub questions : QuestionsTell lab H
  pub verdicts : VerdictsAreRight lab H
  pub no_storm : DeliveriesAreFew lab H
  pub nine : AtMostNineFollow lab H
  pub first_packet : FirstPacketIsCarried lab H
  pub course : FirstPacketTakesACourse lab H
  pub from_native : FirstFromNativeIsCarried lab H
  pub to_native : FirstToNativeIsCarried lab H
  pub packets : CarriesPackets lab H
  pub handed : ArrivalsAreHanded lab H
  pub lost : LostOnesStayLost lab H
  pub arrived : ArrivalsAreFirst lab H

-- at each of its records
abbrev pub KeptThroughout : Lab → List Full → Type 0
KeptThroughout lab H = (later before : List Full) → H ≡ later ++ before → Kept lab before

-- each history of a topology that keeps its rules, whichever NATs are behind others
abbrev pub HistoriesAreKept : Type 0
HistoriesAreKept = (lab : Lab) (H : List Full) → IsTopology lab.topology → Grown lab H → KeptThroughout lab H

-- so is a history of a scenario, whose nodes draw words of 32 bits; where it is honest, so is its history at each of its records,
-- and for each client; where it is honest for a client alone, for that client
pub record KeptOf (s : Scenario) (chain : List Behind) (H : List Full) : Type 0 where
  pub kept : KeptThroughout (lab_of s chain) H
  pub words : DrawsWords (lab_of s chain)
  pub honest : is_honest s ≡ true → (later before : List Full) → H ≡ later ++ before → are_honest s.topology before ≡ true
  pub honest_for : (n : ℕ) (c : ClientNode) → client_at s.topology n ≡ Some c → (is_honest s ≡ true) ⊎ (is_honest_for s c ≡ true)
      → (later before : List Full) → H ≡ later ++ before → are_honest_for s.topology c before ≡ true

-- as far as it was played
abbrev pub IsKeptSoFar : Scenario → List Behind → Type 0
IsKeptSoFar s chain = (H : List Full) → Begun (lab_of s chain) s.events H → KeptOf s chain H

-- each, whichever NATs are behind others
abbrev pub ScenariosAreKept : Type 0
ScenariosAreKept = (s : Scenario) (chain : List Behind) → IsTopology s.topology → AllByRecursion (IsEvent s.topology) s.events → IsKeptSoFar s chain
