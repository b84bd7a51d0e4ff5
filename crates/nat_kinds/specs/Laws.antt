-- What holds of every history of a NAT.
use Rattle.std.specs.Prelude.{◌≡◌, ℕ, ◌≤◌, List, [], ◌∷◌, Contains, Ok}
use Rattle.td_base.specs.declared.endpoint.Ep.{Ep}
use Rattle.nat_kinds.specs.declared.kind.NatKind.{NatKind}
use Rattle.nat_kinds.specs.declared.kind.NatKind.TheVariants.{Cone, Restricted, Port, Symmetric}
use Rattle.nat_kinds.specs.declared.outgoing.Outward.{Outward}
use Rattle.nat_kinds.specs.declared.settings.NatSettings.{NatSettings}
use Rattle.nat_kinds.specs.History.{NatEntry, Out, Forget, Restart, counting}
use Rattle.nat_kinds.specs.Answer.{nat_answer}

-- when the latest datagram went out
abbrev pub latest_moment : List NatEntry → ℕ
latest_moment [] = 0
latest_moment (Out e ∷ h) = e.moment.0
latest_moment (Forget who ∷ h) = latest_moment h
latest_moment (Restart ∷ h) = latest_moment h

-- each datagram left from the port that the history before it answers, and not before the one before it
abbrev pub IsHistory : NatSettings → List NatEntry → Type 0
IsHistory s [] = Unit {0}
IsHistory s (Out e ∷ h) = (latest_moment h ≤ e.moment.0) × (nat_answer s h e.moment.0 e.inside e.dst ≡ Ok e.port) × IsHistory s h
IsHistory s (Forget who ∷ h) = IsHistory s h
IsHistory s (Restart ∷ h) = IsHistory s h

-- h is a history, and n is not before its latest datagram
pub record IsPast (s : NatSettings) (h : List NatEntry) (n : ℕ) : Type 0 where
  pub history : IsHistory s h
  pub moments : latest_moment h ≤ n

-- a datagram from a to b has the key of one from c to d
abbrev pub SameKey : NatKind → Ep → Ep → Ep → Ep → Type 0
SameKey Cone a b c d = a ≡ c
SameKey Restricted a b c d = a ≡ c
SameKey Port a b c d = a ≡ c
SameKey Symmetric a b c d = (a ≡ c) × (b ≡ d)

-- an outward datagram asked src, as far as the kind looks: at nothing, at the address, at address and port
abbrev pub Asked : NatKind → Ep → Outward → Type 0
Asked Cone src e = Unit {0}
Asked Restricted src e = e.dst.ip ≡ src.ip
Asked Port src e = e.dst ≡ src
Asked Symmetric src e = e.dst ≡ src

-- some datagram that counts at n left inside from the port, and asked src
pub record WasAsked (s : NatSettings) (h : List NatEntry) (n : ℕ) (src : Ep) (port : ℕ) (inside : Ep) : Type 0 where
  pub datagram : Outward
  pub counts : Contains (counting s.idle n h) datagram
  pub left : datagram.inside ≡ inside
  pub by_port : datagram.port ≡ port
  pub asked : Asked s.kind src datagram
