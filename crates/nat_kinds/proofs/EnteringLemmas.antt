-- Letting in: one pass over the outward datagrams finds what the mapping and the kind's test say.
use Rattle.nat_kinds.proofs.Words.{Agree, AgreesWith, AllByRecursion, Bool, Cone, Ep, List, NatKind, None, Option, Outward, Port, Restricted, Some, Symmetric, all_map, and_parts, ap, cond, eqb-true, false, find, has_key, inside_if, inside_in, inside_of, is_way_in, list_any, reaches, refl, same_ep, same_ep-true, same_ip, sym, true, ℕ, ◌&&◌, ◌==◌, ◌∙◌, ◌≡◌}
use Rattle.std.specs.Option.{is_some}
use Rattle.nat_kinds.proofs.ListLemmas.{any_found, found_passes, none_found, find_alike, find_none}
use Rattle.nat_kinds.proofs.PortLemmas.{AgreesWith-found}
use Rattle.nat_kinds.proofs.ChoiceLemmas.{inside_is}

-- some datagram of m's inside endpoint passes the test: the first one does
by_any : (test : Outward → Bool) (m : Outward) (outs : List Outward) → cond (list_any (λ e. same_ep e.inside m.inside && test e) outs) (Some m.inside) None ≡ inside_in (find (λ e. same_ep e.inside m.inside && test e) outs)
by_any test m outs = ap (λ b. cond b (Some m.inside) None) (any_found _ outs) ∙ by_found (find (λ e. same_ep e.inside m.inside && test e) outs) (λ f h. same_ep-true f.inside m.inside (and_parts _ _ (found_passes _ outs f h)).0)
  where
    by_found : (r : Option Outward) → ((f : Outward) → r ≡ Some f → f.inside ≡ m.inside) → cond (is_some r) (Some m.inside) None ≡ inside_in r
    by_found None h = refl
    by_found (Some f) h = ap (λ i. Some i) (sym (h f refl))

-- what has the port has the key
alike_any : (test : Outward → Bool) (m : Outward) (port : ℕ) (outs : List Outward) → port ≡ m.port
    → AllByRecursion (λ o. same_ep o.inside m.inside ≡ (m.port == o.port)) outs
    → find (λ e. same_ep e.inside m.inside && test e) outs ≡ find (λ e. (port == e.port) && test e) outs
alike_any test m port outs p a = find_alike _ _ outs (all_map _ _ outs (λ o h. ap (λ b. b && test o) (h ∙ ap (λ n. n == o.port) (sym p))) a)

alike_symmetric : (m : Outward) (src : Ep) (port : ℕ) (outs : List Outward) → port ≡ m.port → AgreesWith Symmetric m outs
    → find (λ e. port == e.port) outs ≡ Some m → cond (same_ep m.dst src) (Some m.inside) None ≡ inside_in (find (is_way_in Symmetric src port) outs)
alike_symmetric m src port outs p a f = by_case (same_ep m.dst src) refl
  where
    same : (o : Outward) (b : Bool) → same_ep m.dst src ≡ b → has_key Symmetric m.inside m.dst o ≡ (m.port == o.port) → is_way_in Symmetric src port o ≡ ((port == o.port) && b)
    same o b e h = by_port (port == o.port) refl
      where
        by_port : (t : Bool) → (port == o.port) ≡ t → (t && same_ep o.dst src) ≡ (t && b)
        by_port false k = refl
        by_port true k =
            let key : has_key Symmetric m.inside m.dst o ≡ true = h ∙ ap (λ n. n == o.port) (sym p) ∙ k in
            let d : o.dst ≡ m.dst = same_ep-true o.dst m.dst (and_parts _ _ key).1 in
            ap (λ x. same_ep x src) d ∙ e

    and_true : (t : Bool) → (t && true) ≡ t
    and_true true = refl
    and_true false = refl

    and_false : (t : Bool) → (t && false) ≡ false
    and_false true = refl
    and_false false = refl

    by_case : (b : Bool) → same_ep m.dst src ≡ b → cond b (Some m.inside) None ≡ inside_in (find (is_way_in Symmetric src port) outs)
    by_case true e = sym (ap inside_in (find_alike _ _ outs (all_map _ _ outs (λ o h. same o true e h ∙ and_true (port == o.port)) a) ∙ f))
    by_case false e = sym (ap inside_in (find_none _ outs (all_map _ _ outs (λ o h. same o false e h ∙ and_false (port == o.port)) a)))

through : (kind : NatKind) (outs : List Outward) (src : Ep) (port : ℕ) (m : Outward) → AgreesWith kind m outs → port ≡ m.port
    → find (λ e. port == e.port) outs ≡ Some m → inside_if kind outs src (Some m) ≡ inside_in (find (is_way_in kind src port) outs)
through Cone outs src port m a p f = sym (ap inside_in (find_alike _ _ outs (all_map _ _ outs (λ o h. and_true (port == o.port)) a) ∙ f))
  where
    and_true : (t : Bool) → (t && true) ≡ t
    and_true true = refl
    and_true false = refl
through Restricted outs src port m a p f = by_any _ m outs ∙ ap inside_in (alike_any (λ e. same_ip e.dst.ip src.ip) m port outs p a)
through Port outs src port m a p f = by_any _ m outs ∙ ap inside_in (alike_any (λ e. same_ep e.dst src) m port outs p a)
through Symmetric outs src port m a p f = alike_symmetric m src port outs p a f

-- where the same key and the same port go together, the first way in leads to the inside endpoint that owns the port
pub inside_of-is : (kind : NatKind) (outs : List Outward) (src : Ep) (port : ℕ) → Agree kind outs → inside_of kind outs src port ≡ inside_in (find (is_way_in kind src port) outs)
inside_of-is kind outs src port a = inside_is kind outs src port a ∙ by_mapping (find (λ e. port == e.port) outs) refl
  where
    by_mapping : (r : Option Outward) → find (λ e. port == e.port) outs ≡ r → inside_if kind outs src r ≡ inside_in (find (is_way_in kind src port) outs)
    by_mapping None f = sym (ap inside_in (find_none _ outs (all_map _ _ outs (λ o h. ap (λ b. b && reaches kind src o) h) (none_found _ outs f))))
    by_mapping (Some m) f = through kind outs src port m (AgreesWith-found kind _ outs m a f) (eqb-true port m.port (found_passes _ outs m f)) f
