-- What a client's phase says of the NATs of its way.
use Rattle.theory_ways.proofs.Words.{Bool, Cone, Ep, Ip6, List, None, OffLine, Option, Outward, Phase, Qualification, Qualified, Restricted, Secondary, Settings, Some, Symmetric, [], client_settings, embedded, false, has_cone, has_symmetric, is_all_cone, nats_of, standing, true, ℕ, ◌∷◌, ◌≡◌}
use Rattle.theory_ways.proofs.phases.OneMore.{Asker}
use Rattle.theory_ways.proofs.outwards.Asks.{server_of, Counts, left_at, AsksFrom}

-- THE CLIENT

-- its settings
abbrev pub settings_of : Asker → Settings
settings_of v = client_settings v.lab.topology v.row

-- its phase, what it was told, and its address
abbrev pub standing_of : Asker → Qualification
standing_of v = standing v.lab v.past v.number v.row

-- WHAT A PHASE SAYS

-- all that counts of the client, at each NAT where it leads on, went to its server
abbrev pub AloneFrom : Asker → List ℕ → Ep → Type 0
AloneFrom v [] inside = Unit {0}
AloneFrom v (k ∷ way) inside = (d : Outward) → Counts v k d → d.inside ≡ inside → (d.dst ≡ server_of v) × AloneFrom v way (left_at v.lab k d)

-- the NATs of its way
abbrev pub way_of : Asker → List ℕ
way_of v = nats_of v.lab v.row

-- its datagrams to its server leave its way at o
abbrev pub Asks : Asker → Ep → Type 0
Asks v o = AsksFrom v (way_of v) v.row.inside o

-- they do at one endpoint
abbrev pub HasAsked : Asker → Type 0
HasAsked v = (o : Ep) × Asks v o

-- this is where they do
abbrev pub IsOwn : Asker → Ep → Type 0
IsOwn v e = (o : Ep) → Asks v o → e ≡ o

-- all that counts of it went to its server, once it asked this at each NAT
abbrev pub IsAlone : Asker → Type 0
IsAlone v = (o : Ep) → Asks v o → AloneFrom v (way_of v) v.row.inside

-- the address embeds where they do, past no symmetric NAT. It has the cone bit only past cone ones, and where the client tries
-- the cone phase
pub record IsGoodAddress (v : Asker) (own : Ip6) : Type 0 where
  pub opened : IsOwn v (embedded own)
  pub plain : has_symmetric v.lab v.row ≡ false
  pub cone : has_cone own ≡ true → (is_all_cone v.lab v.row ≡ true) × (v.row.cone_try ≡ true)

-- there is an address, and it is such a one
abbrev pub GoodAddress : Asker → Option Ip6 → Type 0
GoodAddress v None = ⊥
GoodAddress v (Some own) = IsGoodAddress v own

-- there is an origin, and it is where they do
abbrev pub OwnOrigin : Asker → Option Ep → Type 0
OwnOrigin v None = ⊥
OwnOrigin v (Some e) = IsOwn v e

-- what a phase says. Cone: all that counts went to the server. Secondary: the first answer told where the client's datagrams
-- leave. Qualified: the address is good. Symmetric: some NAT is that
abbrev pub IsSoundAlong : Asker → Phase → Option Ep → Option Ip6 → Type 0
IsSoundAlong v Cone kept address = (v.row.cone_try ≡ true) × IsAlone v
IsSoundAlong v Restricted kept address = Unit {0}
IsSoundAlong v Secondary kept address = OwnOrigin v kept
IsSoundAlong v Qualified kept address = GoodAddress v address
IsSoundAlong v Symmetric kept address = has_symmetric v.lab v.row ≡ true
IsSoundAlong v OffLine kept address = Unit {0}

-- what the client's own says is so
abbrev pub IsSoundNow : Asker → Type 0
IsSoundNow v = IsSoundAlong v (standing_of v).phase (standing_of v).kept (standing_of v).address

-- a phase in which an advertisement is judged by what the client asked
abbrev pub needs_asks : Phase → Bool
needs_asks Cone = true
needs_asks Secondary = true
needs_asks Qualified = true
needs_asks _ = false

-- where the phase needs it, the client asked
abbrev pub HasAskedIn : Asker → Phase → Type 0
HasAskedIn v ph = needs_asks ph ≡ true → HasAsked v
