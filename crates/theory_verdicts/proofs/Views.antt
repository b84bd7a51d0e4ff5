-- What a client's NAT is to the client and its server, after a history.
use Rattle.theory_verdicts.proofs.Words.{Asked, Bool, Ep, IsPast, List, NatEntry, NatSettings, Option, Outward, Some, ap, counting, counting_datagram_holds_its_port, false, find, is_out_to, is_symmetric, live_after, live_port, refl, subst, sym, true, ℕ, ◌++◌, ◌∙◌, ◌≡◌}
use Rattle.theory_verdicts.proofs.Members.{Has, contains_of}
use Rattle.theory_verdicts.proofs.NatPorts.{asked_same, asks_it, plain_port, port_or}

-- a NAT after a history, at a moment, with the inside endpoint of one of its clients and the endpoint that this asks
pub record View : Type 0 where
  pub nat : NatSettings
  pub past : List NatEntry
  pub moment : ℕ
  pub inside : Ep
  pub server : Ep

-- after a further record
abbrev pub grown : View → List NatEntry → ℕ → View
grown v added m = record { nat = v.nat; past = added ++ v.past; moment = m; inside = v.inside; server = v.server }

-- the history is one that the laws of NATs speak of
abbrev pub IsPastOf : View → Type 0
IsPastOf v = IsPast v.nat v.past v.moment

-- what counts
abbrev pub counts_in : View → List Outward
counts_in v = counting v.nat.idle v.moment v.past

-- the latest datagram to the server
abbrev pub latest_ask : View → Option NatEntry
latest_ask v = find (is_out_to v.inside v.server) v.past

-- PORTS

-- a datagram of the client that counts at its NAT
pub record CountsOwn (v : View) (d : Outward) : Type 0 where
  pub counts : Has (counts_in v) d
  pub left : d.inside ≡ v.inside

-- which asked an endpoint
pub record AskedOwn (v : View) (src : Ep) (d : Outward) : Type 0 where
  pub own : CountsOwn v d
  pub asked : Asked v.nat.kind src d

-- the inside endpoint holds, towards what it asked, the datagram's port
pub asked_port : (v : View) (src : Ep) (d : Outward) → IsPastOf v → AskedOwn v src d
    → live_port v.nat.kind v.inside src (live_after v.nat v.past v.moment) ≡ Some d.port
asked_port v src d p x = by (is_symmetric v.nat.kind) refl where
  held : live_port v.nat.kind v.inside d.dst (live_after v.nat v.past v.moment) ≡ Some d.port
  held = subst (λ (e : Ep). live_port v.nat.kind e d.dst (live_after v.nat v.past v.moment) ≡ Some d.port) x.own.left
      (counting_datagram_holds_its_port v.nat v.past v.moment p d (contains_of (counts_in v) d x.own.counts))

  by : (b : Bool) → is_symmetric v.nat.kind ≡ b → live_port v.nat.kind v.inside src (live_after v.nat v.past v.moment) ≡ Some d.port
  by true e = subst (λ (z : Ep). live_port v.nat.kind v.inside z (live_after v.nat v.past v.moment) ≡ Some d.port) (asked_same v.nat.kind e src d x.asked) held
  by false e = plain_port v.nat.kind e v.inside src d.dst (live_after v.nat v.past v.moment) ∙ held

-- two that asked the same have one port
pub one_port : (v : View) (src : Ep) (d e : Outward) → IsPastOf v → AskedOwn v src d → AskedOwn v src e → d.port ≡ e.port
one_port v src d e p x y = ap (port_or d.port) (sym (asked_port v src d p x) ∙ asked_port v src e p y)

-- and, of a NAT that isn't symmetric, any two
pub plain_one_port : (v : View) (d e : Outward) → is_symmetric v.nat.kind ≡ false → IsPastOf v → CountsOwn v d → CountsOwn v e → d.port ≡ e.port
plain_one_port v d e h p x y =
    ap (port_or d.port) (sym (asked_port v d.dst d p (record { own = x; asked = asks_it v.nat.kind d.dst d refl }))
    ∙ plain_port v.nat.kind h v.inside d.dst e.dst (live_after v.nat v.past v.moment)
    ∙ asked_port v e.dst e p (record { own = y; asked = asks_it v.nat.kind e.dst e refl }))
