-- What asked a NAT, and the ports that it holds.
use Rattle.theory_verdicts.proofs.Words.{Asked, Ep, Ip4, List, NatKind, None, Option, Outward, SameKey, Some, all_any, ap, false, false≢true, find_alike, has_key, is_cone_kind, is_symmetric, live_port, port_in, refl, server_ep, sym, true, ℕ, ◌∙◌, ◌≡◌}
use Rattle.nat_kinds.specs.declared.kind.NatKind.TheVariants as kind

-- WHAT IT ASKED

-- what was sent to an endpoint asked it
pub asks_it : (k : NatKind) (src : Ep) (d : Outward) → d.dst ≡ src → Asked k src d
asks_it kind.Cone src d same = tt
asks_it kind.Restricted src d same = ap (λ (e : Ep). e.ip) same
asks_it kind.Port src d same = same
asks_it kind.Symmetric src d same = same

-- and a symmetric one is asked by what went there alone
pub asked_same : (k : NatKind) → is_symmetric k ≡ true → (src : Ep) (d : Outward) → Asked k src d → d.dst ≡ src
asked_same kind.Cone h src d a = absurd (false≢true h)
asked_same kind.Restricted h src d a = absurd (false≢true h)
asked_same kind.Port h src d a = absurd (false≢true h)
asked_same kind.Symmetric h src d a = a

-- who asked the server's primary address alone is let in from its secondary address only by a cone NAT
pub only_cone : (k : NatKind) (first second : Ip4) (d : Outward) → (first ≡ second → ⊥) → d.dst ≡ server_ep first → Asked k (server_ep second) d
    → is_cone_kind k ≡ true
only_cone kind.Cone first second d apart to a = refl
only_cone kind.Restricted first second d apart to a = absurd (apart (sym (ap (λ (e : Ep). e.ip) to) ∙ a))
only_cone kind.Port first second d apart to a = absurd (apart (ap (λ (e : Ep). e.ip) (sym to ∙ a)))
only_cone kind.Symmetric first second d apart to a = absurd (apart (ap (λ (e : Ep). e.ip) (sym to ∙ a)))

-- a cone NAT isn't symmetric
pub cone_is_plain : (k : NatKind) → is_cone_kind k ≡ true → is_symmetric k ≡ false
cone_is_plain kind.Cone h = refl
cone_is_plain kind.Restricted h = absurd (false≢true h)
cone_is_plain kind.Port h = absurd (false≢true h)
cone_is_plain kind.Symmetric h = absurd (false≢true h)

-- KEYS AND PORTS

-- one key has one inside endpoint
pub key_inside : (k : NatKind) (a b c d : Ep) → SameKey k a b c d → a ≡ c
key_inside kind.Cone a b c d same = same
key_inside kind.Restricted a b c d same = same
key_inside kind.Port a b c d same = same
key_inside kind.Symmetric a b c d same = same.0

-- and behind a symmetric NAT one destination
pub key_to : (k : NatKind) (a b c d : Ep) → is_symmetric k ≡ true → SameKey k a b c d → b ≡ d
key_to kind.Cone a b c d h same = absurd (false≢true h)
key_to kind.Restricted a b c d h same = absurd (false≢true h)
key_to kind.Port a b c d h same = absurd (false≢true h)
key_to kind.Symmetric a b c d h same = same.1

-- to a NAT that isn't symmetric one destination is as another
plain_key : (k : NatKind) → is_symmetric k ≡ false → (inside a b : Ep) (e : Outward) → has_key k inside a e ≡ has_key k inside b e
plain_key kind.Cone h inside a b e = refl
plain_key kind.Restricted h inside a b e = refl
plain_key kind.Port h inside a b e = refl
plain_key kind.Symmetric h inside a b e = absurd (false≢true (sym h))

-- so the port that it holds is the same towards both
pub plain_port : (k : NatKind) → is_symmetric k ≡ false → (inside a b : Ep) (live : List Outward) → live_port k inside a live ≡ live_port k inside b live
plain_port k h inside a b live = ap port_in (find_alike (has_key k inside a) (has_key k inside b) live (all_any _ live (plain_key k h inside a b)))

-- the port, or another where there is none
abbrev pub port_or : ℕ → Option ℕ → ℕ
port_or p None = p
port_or p (Some q) = q
