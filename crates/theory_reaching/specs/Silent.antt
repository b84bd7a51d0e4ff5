-- Packets of a host of which nothing comes at all: their record makes nothing.
use Rattle.std.specs.Prelude.{◌≡◌, ℕ, true, false, List, [], ◌∷◌, Some}
use Rattle.teredo_node.specs.declared.fate.Fate.TheVariants.{Off}
use Rattle.teredo_node.specs.Journal.{given, Entry}
use Rattle.peer_list.specs.Judged.{is_barred}
use Rattle.topology.specs.declared.client_node.ClientNode.{ClientNode}
use Rattle.topology.specs.declared.node.Node.TheVariants.{Client as client}
use Rattle.topology.specs.Topology.{node_at}
use Rattle.history.specs.Full.{Full}
use Rattle.legal.specs.Lab.{Lab}
use Rattle.legal.specs.Past.{now}
use Rattle.legal.specs.Next.{address_at}
use Rattle.legal.specs.Legal.{Grown}
use Rattle.theory_first_packets.specs.MayMeet.{known_by}
use Rattle.theory_reaching.specs.declared.word.Reach.TheVariants as word
use Rattle.theory_reaching.specs.Reach.{reach_of}
use Rattle.theory_reaching.specs.Conditions.{is_on}
use Rattle.theory_reaching.specs.Promises.{IsSentNext}

-- in a record the host of node n hands in x, whatever it is
pub record HandsIn (q : Full) (n : ℕ) (x : List ℕ) : Type 0 where
  pub node : q.node ≡ Some n
  pub entry : Entry
  pub did : q.entry ≡ Some entry
  pub packet_in : entry.input ≡ given x

-- where client n isn't qualified x is `off`, and its record makes nothing
abbrev pub OffMakesNothingIn : Lab → List Full → Type 0
OffMakesNothingIn lab H = (q : Full) (n : ℕ) (c : ClientNode) (x : List ℕ) → Grown lab (q ∷ H) → node_at lab.topology n ≡ Some (client c)
    → is_on lab H n c ≡ false → HandsIn q n x → (q.fate ≡ Off) × (q.made ≡ [])

-- nor does the record of a packet for a client where the word is `barred`, and its sender is barred for that one. Where the receiver is
-- barred the sender makes bubbles
abbrev pub BarredSenderIsSilentIn : Lab → List Full → Type 0
BarredSenderIsSilentIn lab H = (q : Full) (n m : ℕ) (c d : ClientNode) (x : List ℕ) → Grown lab (q ∷ H) → node_at lab.topology n ≡ Some (client c)
    → node_at lab.topology m ≡ Some (client d) → reach_of lab H n m ≡ Some word.Barred → is_barred (now H) (known_by H n (address_at lab H m)) ≡ true
    → IsSentNext lab H q n m (client c) x → q.made ≡ []

-- IN EACH HISTORY

-- whatever the host of a client that isn't qualified hands in is `off`, and makes nothing
abbrev pub OffMakesNothing : Type 0
OffMakesNothing = (lab : Lab) (H : List Full) → OffMakesNothingIn lab H

-- a packet for a client for which the sender is barred makes nothing
abbrev pub BarredSenderIsSilent : Type 0
BarredSenderIsSilent = (lab : Lab) (H : List Full) → BarredSenderIsSilentIn lab H
