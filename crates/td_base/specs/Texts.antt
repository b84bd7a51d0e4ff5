-- The texts of numbers, of IPv4 addresses and of endpoints, and how far a text goes well.
use Rattle.std.specs.Prelude.{◌≡◌, ℕ, ◌<◌, ◌≤◌, List, ◌∷◌, ◌++◌, length, take, slice_index, decimal}
use Rattle.td_base.specs.declared.ipv4.Ip4.{Ip4}
use Rattle.td_base.specs.declared.endpoint.Ep.{Ep}
use Rattle.td_base.specs.Ip4.{IsIp4}
use Rattle.td_base.specs.Ep.{IsEp}

-- four decimal numbers, joined by dots (46)
abbrev pub ip4_text : Ip4 → List ℕ
ip4_text ip = decimal (slice_index ip.0 0) ++ 46 ∷ decimal (slice_index ip.0 1) ++ 46 ∷ decimal (slice_index ip.0 2) ++ 46 ∷ decimal (slice_index ip.0 3)

-- an address, a colon (58), and the port
abbrev pub ep_text : Ep → List ℕ
ep_text ep = ip4_text ep.ip ++ 58 ∷ decimal ep.port

-- the texts that are read
abbrev pub IsNumberText : ℕ → List ℕ → Type 0
IsNumberText most text = (number : ℕ) × (number ≤ most) × (text ≡ decimal number)

-- the text is that of some IPv4 address
abbrev pub IsIp4Text : List ℕ → Type 0
IsIp4Text text = (ip : Ip4) × IsIp4 ip × (text ≡ ip4_text ip)

-- the text is that of some endpoint
abbrev pub IsEpText : List ℕ → Type 0
IsEpText text = (ep : Ep) × IsEp ep × (text ≡ ep_text ep)

-- some accepted text begins so
abbrev pub Begins : (List ℕ → Type 0) → List ℕ → Type 0
Begins accepted front = (more : List ℕ) × accepted (front ++ more)

-- The first `place` bytes of the text begin an accepted text, and no more of them do.
pub record IsLongestBegin (accepted : List ℕ → Type 0) (text : List ℕ) (place : ℕ) : Type 0 where
  pub within : place ≤ length text
  pub begins : Begins accepted (take place text)
  pub longest : (k : ℕ) → place < k → k ≤ length text → Begins accepted (take k text) → ⊥
