-- An advertisement that was let in keeps what a client's phase rests on.
use Rattle.theory_verdicts.proofs.Words.{Asked, Bool, Cone, Ep, Fate, Ip6, IsEp, IsIp4, List, NatKind, None, OffLine, Option, Outward, Phase, Qualification, Qualified, Restricted, Secondary, Settings, Some, Symmetric, WasAsked, address_told, ap, begins, embedded, expected_in, false, false≢true, flags_of, flags_tell, has_cone, is_cone_kind, is_same_origin, is_symmetric, let_in_where_asked, lets_in, live_after, live_port, origin_before, phase_line, port_has_one_key, refl, same_ep, same_ep-self, same_ep-true, server_ep, subst, sym, teredo_ip, teredo_tells, true, turn, unwrap_or, ℕ, ◌∙◌, ◌≡◌}
use Rattle.nat_kinds.specs.declared.kind.NatKind.TheVariants as kind
use Rattle.theory_verdicts.proofs.Members.{Has, has_of}
use Rattle.theory_verdicts.proofs.Opened.{IsOpen, opens, AsksAlone}
use Rattle.theory_verdicts.proofs.Views.{View, IsPastOf, counts_in, asked_port, plain_one_port}
use Rattle.theory_verdicts.proofs.Sound.{IsGoodAddress, GoodAddress, OpenOrigin, IsSoundIn}
use Rattle.theory_verdicts.proofs.NatPorts.{only_cone, cone_is_plain, key_to}
use Rattle.theory_verdicts.proofs.Phases.{address_then, kept_then}

-- a datagram from src to dst was let in to the client
pub record IsLetInAt (v : View) (src dst : Ep) : Type 0 where
  pub external : dst.ip ≡ v.nat.external
  pub enters : lets_in v.nat v.past v.moment src dst.port ≡ Some v.inside

-- the client asked it, by a datagram that counts
pub record IsAsked (v : View) (src dst : Ep) : Type 0 where
  pub datagram : Outward
  pub counts : Has (counts_in v) datagram
  pub left : datagram.inside ≡ v.inside
  pub asked : Asked v.nat.kind src datagram
  pub port : dst.port ≡ datagram.port

-- it did, where it was let in
pub was_asked : (v : View) (src dst : Ep) → IsPastOf v → IsLetInAt v src dst → IsAsked v src dst
was_asked v src dst p in_ =
    let w : WasAsked v.nat v.past v.moment src dst.port v.inside = (let_in_where_asked v.nat v.past v.moment p src dst.port v.inside).0 in_.enters in
    record { datagram = w.datagram; counts = has_of (counts_in v) w.datagram w.counts; left = w.left; asked = w.asked; port = sym w.by_port }

-- the same endpoint
pub same_of : (a b : Ep) → a.ip ≡ b.ip → a.port ≡ b.port → same_ep a b ≡ true
unfolding same_ep
same_of a b ip port = rw (ip, port) (same_ep-self b)

-- a cone NAT lets everybody in
pub cone_asked : (k : NatKind) (src : Ep) (d : Outward) → is_cone_kind k ≡ true → Asked k src d
cone_asked kind.Cone src d h = tt
cone_asked kind.Restricted src d h = absurd (false≢true h)
cone_asked kind.Port src d h = absurd (false≢true h)
cone_asked kind.Symmetric src d h = absurd (false≢true h)

-- a client of a server with these addresses, that an advertisement told where it was let in
pub record AdvertTold : Type 0 where
  pub s : Settings
  pub v : View
  pub b : Bool
  pub primary : IsIp4 s.primary
  pub apart : s.primary ≡ s.secondary → ⊥
  pub asks : v.server ≡ server_ep s.primary
  pub p : IsPastOf v
  pub dst : Ep
  pub is_ep : IsEp dst

module _ (the : AdvertTold) where
  open the use {s, v, b, primary, apart, asks, p, dst, is_ep}

  -- the address embeds that, and has the cone bit as asked
  embeds : (cone : Bool) (w : Option ℕ) → embedded (teredo_ip s.primary (flags_of cone w) dst) ≡ dst
  embeds cone w = (teredo_tells s.primary (flags_of cone w) dst primary (flags_tell cone w).sixteen is_ep).mapped_is

  bit : (cone : Bool) (w : Option ℕ) → has_cone (teredo_ip s.primary (flags_of cone w) dst) ≡ cone
  bit cone w = (teredo_tells s.primary (flags_of cone w) dst primary (flags_tell cone w).sixteen is_ep).cone_is ∙ (flags_tell cone w).cone_is

  -- and is good where that is open
  good : (cone : Bool) (w : Option ℕ) → IsOpen v dst → is_symmetric v.nat.kind ≡ false → (cone ≡ true → (is_cone_kind v.nat.kind ≡ true) × (b ≡ true))
      → GoodAddress v b (address_told s cone w (Some dst))
  good cone w o plain says = record { opened = subst (IsOpen v) (sym (embeds cone w)) o; plain = plain; cone = λ h. says (sym (bit cone w) ∙ h) }

  -- in phase Cone, from the secondary address
  in_cone : (w : Option ℕ) → b ≡ true → AsksAlone v → IsLetInAt v (server_ep s.secondary) dst → GoodAddress v b (address_told s true w (Some dst))
  in_cone w tries alone in_ =
      let a = was_asked v (server_ep s.secondary) dst p in_ in
      let cone = only_cone v.nat.kind s.primary s.secondary a.datagram apart (alone a.datagram a.counts a.left ∙ asks) a.asked in
      good true w (opens (record { p = p; o = dst; d = a.datagram; c = a.counts; left = a.left; asked = cone_asked v.nat.kind v.server a.datagram cone; external = in_.external; port = a.port }))
      (cone_is_plain v.nat.kind cone) (λ h. (cone, tries))

  -- in phase Restricted, from the primary address
  in_restricted : IsLetInAt v (server_ep s.primary) dst → IsOpen v dst
  in_restricted in_ =
      let a = was_asked v (server_ep s.primary) dst p in_ in
      opens (record { p = p; o = dst; d = a.datagram; c = a.counts; left = a.left; asked = subst (λ (e : Ep). Asked v.nat.kind e a.datagram) (sym asks) a.asked; external = in_.external; port = a.port })

  -- in phase Secondary, from the secondary address: a NAT that isn't symmetric lets it in where the first answer came
  plain_same : (o : Ep) → is_symmetric v.nat.kind ≡ false → IsOpen v o → IsLetInAt v (server_ep s.secondary) dst → same_ep dst o ≡ true
  plain_same o plain is in_ =
      let a = was_asked v (server_ep s.secondary) dst p in_ in
      same_of dst o (in_.external ∙ sym is.external) (a.port ∙ plain_one_port v a.datagram is.datagram plain p
      (record { counts = a.counts; left = a.left }) (record { counts = is.counts; left = is.left }) ∙ sym is.port)

  -- so where it came to another endpoint the NAT is symmetric
  in_other : (o : Ep) → same_ep dst o ≡ false → IsOpen v o → IsLetInAt v (server_ep s.secondary) dst → is_symmetric v.nat.kind ≡ true
  in_other o other is in_ = by (is_symmetric v.nat.kind) refl where
    by : (c : Bool) → is_symmetric v.nat.kind ≡ c → is_symmetric v.nat.kind ≡ true
    by true e = e
    by false e = absurd (false≢true (sym other ∙ plain_same o e is in_))

  -- and where it came to the same one it isn't
  same_plain : (o : Ep) → dst ≡ o → IsOpen v o → IsLetInAt v (server_ep s.secondary) dst → is_symmetric v.nat.kind ≡ false
  same_plain o same is in_ = by (is_symmetric v.nat.kind) refl where
    live : List Outward
    live = live_after v.nat v.past v.moment

    by : (c : Bool) → is_symmetric v.nat.kind ≡ c → is_symmetric v.nat.kind ≡ false
    by false e = e
    by true e =
        let a = was_asked v (server_ep s.secondary) dst p in_ in
        let first : live_port v.nat.kind v.inside v.server live ≡ Some is.datagram.port =
        asked_port v v.server is.datagram p (record { own = record { counts = is.counts; left = is.left }; asked = is.asked }) in
        let one : a.datagram.port ≡ is.datagram.port = sym a.port ∙ ap (λ (x : Ep). x.port) same ∙ is.port in
        let second : live_port v.nat.kind v.inside (server_ep s.secondary) live ≡ Some is.datagram.port = asked_port v
        (server_ep s.secondary) a.datagram p (record { own = record { counts = a.counts; left = a.left }; asked = a.asked }) ∙ ap (λ (q : ℕ). Some q) one in
        let key = port_has_one_key v.nat v.past v.moment p v.inside v.server v.inside (server_ep s.secondary) is.datagram.port first second in
        absurd (apart (ap (λ (x : Ep). x.ip) (sym asks ∙ key_to v.nat.kind v.inside v.server v.inside (server_ep s.secondary) e key)))

  -- while Qualified, from where the NAT lets it in
  in_qualified : (src : Ep) (w : Option ℕ) (own : Ip6) → IsGoodAddress v b own → IsLetInAt v src dst
      → GoodAddress v b (address_told s (has_cone own) w (Some dst))
  in_qualified src w own is in_ =
      let a = was_asked v src dst p in_ in
      let o = is.opened in
      good (has_cone own) w (record {
        datagram = o.datagram;
        counts = o.counts;
        left = o.left;
        asked = o.asked;
        external = in_.external;
        port = a.port ∙ plain_one_port v a.datagram o.datagram is.plain p
            (record { counts = a.counts; left = a.left }) (record { counts = o.counts; left = o.left });
        latest = o.latest;
      }) is.plain is.cone

  -- what holds after an advertisement
  module _ (w : Option ℕ) where
    abbrev pub After : Phase → Option Ep → Option Ip6 → Fate → Type 0
    After ph k a f = IsSoundIn v b (unwrap_or (begins (turn f)) ph) (kept_then ph (turn f) (Some dst) k) (address_then s ph (turn f) w (Some dst) a)

    by_second : (k : Option Ep) (a : Option Ip6) → OpenOrigin v k → IsLetInAt v (server_ep s.secondary) dst → (same : Bool)
        → is_same_origin (Some dst) k ≡ same → After Secondary k a (phase_line Secondary same)
    by_second None a is in_ same e = absurd is
    by_second (Some o) a is in_ true e =
        let one : dst ≡ o = same_ep-true dst o e in
        good false w (subst (IsOpen v) (sym one) is) (same_plain o one is in_) (λ h. absurd (false≢true h))
    by_second (Some o) a is in_ false e = in_other o e is in_

    by_refresh : (src : Ep) (k : Option Ep) (a : Option Ip6) → GoodAddress v b a → IsLetInAt v src dst → (same : Bool)
        → After Qualified k a (phase_line Qualified same)
    by_refresh src k None is in_ same = absurd is
    by_refresh src k (Some own) is in_ true = is
    by_refresh src k (Some own) is in_ false = in_qualified src w own is in_

    pub told : (q : Qualification) (cone : Bool) (ph : Phase) → IsSoundIn v b ph q.kept q.address → IsLetInAt v (expected_in s ph cone) dst → {same : Bool}
        → is_same_origin (Some dst) (origin_before q ph) ≡ same → After ph q.kept q.address (phase_line ph same)
    told q cone Cone i in_ e = in_cone w i.0 i.1 in_
    told q cone Restricted i in_ e = in_restricted in_
    told q cone Secondary i in_ {same} e = by_second q.kept q.address i in_ same e
    told q cone Qualified i in_ {same} e = by_refresh (expected_in s Qualified cone) q.kept q.address i in_ same
    told q cone Symmetric i in_ e = i
    told q cone OffLine i in_ e = tt
