-- A record of a node.
use Rattle.legal.proofs.Words.{Acted, Done, EachIsOfNode, Entry, Full, IsActOf, Kind, Lab, List, NatClosed, Node, None, OfNode, Option, Quiet, Some, ap, does, false≢true, faulted, forgot, handed, idles, inl, inr, is_some, missing, node_at, none_left, passed, put, quiet, reached, restarted, rests, settled, shut, strayed, subst, sym, true, uncopied, unwrap_or, ℕ, ◌∙◌, ◌≡◌, ◌⊎◌}
use Rattle.legal.specs.Kinds.{hosted}
use Rattle.legal.specs.Kinds.{copied, ticks}
use Rattle.legal.specs.OfNode.{acts}
use Rattle.legal.proofs.ByKind.{kind_of}
use Rattle.legal.proofs.Actors.{hands_nothing, acted_in}

module _ (lab : Lab) (H : List Full) (r : Full) (n : ℕ) (a : Node) (node : r.node ≡ Some n) (there : node_at lab.topology n ≡ Some a) where
  -- a record of no node is none of it
  elsewhere : {A : Type 0} → r.node ≡ None → A
  elsewhere none = absurd (false≢true (ap (λ (o : Option ℕ). is_some o) (sym none ∙ node)))

  -- where it does nothing
  fate_of : Quiet lab H r → (r.fate ≡ NatClosed) ⊎ (r.fate ≡ Done)
  fate_of (passed ms asked before is) = elsewhere (ap (λ (z : Full). z.node) is)
  fate_of (shut number k x asks at goes is) = inl (ap (λ (z : Full). z.fate) is)
  fate_of (strayed number x asks at goes is) = elsewhere (ap (λ (z : Full). z.node) is)
  fate_of (missing number asks at is) = elsewhere (ap (λ (z : Full). z.node) is)
  fate_of (none_left asked none is) = elsewhere (ap (λ (z : Full). z.node) is)
  fate_of (settled asked none is) = elsewhere (ap (λ (z : Full). z.node) is)
  fate_of (uncopied number src dst asked at is) = elsewhere (ap (λ (z : Full). z.node) is)
  fate_of (hosted v k x hands none is) =
      let same : k ≡ n = ap (λ (o : Option ℕ). unwrap_or o k) (sym (ap (λ (z : Full). z.node) is) ∙ node) in
      absurd (false≢true (ap (λ (o : Option Node). is_some o) (sym none ∙ ap (node_at lab.topology) same ∙ there)))
  fate_of (restarted k asked is) = inr (ap (λ (z : Full). z.fate) is)
  fate_of (forgot k who asked is) = inr (ap (λ (z : Full). z.fate) is)
  fate_of (faulted send asked is) = elsewhere (ap (λ (z : Full). z.node) is)

  -- where somebody acts it is this node
  of_act : Acted lab H r → is_some r.entry ≡ true → OfNode lab H r n a
  of_act (idles entry address hands late lets) some = absurd (false≢true (sym (ap (λ (o : Option Entry). is_some o) entry) ∙ some))
  of_act (does k b e act) some =
      let same : k ≡ n = ap (λ (o : Option ℕ). unwrap_or o k) (sym act.node ∙ node) in
      let one : b ≡ a = ap (λ (o : Option Node). unwrap_or o b) (sym act.there ∙ ap (node_at lab.topology) same ∙ there) in
      acts e (subst (λ (z : Node). IsActOf lab H r n z e) one (subst (λ (j : ℕ). IsActOf lab H r j b e) same act))

  of_kind : Acted lab H r → Kind lab H r → OfNode lab H r n a
  of_kind acted (quiet entry address made lets why) = rests (record {
    entry = entry;
    address = address;
    handed = (hands_nothing lab H r why).0;
    late = (hands_nothing lab H r why).1;
    made = made;
    passed = lets;
    fate = fate_of why;
  })
  of_kind acted (put src dst bytes asked is) = elsewhere (ap (λ (z : Full). z.node) is)
  of_kind acted (copied number src dst x asked at is) = elsewhere (ap (λ (z : Full). z.node) is)
  of_kind acted (ticks ms x asked due within is) = of_act acted (ap (λ (z : Full). is_some z.entry) is)
  of_kind acted (handed v k x b hands at is) = of_act acted (ap (λ (z : Full). is_some z.entry) is)
  of_kind acted (reached number k x b asks at goes to is) = of_act acted (ap (λ (z : Full). is_some z.entry) is)

pub each_is_of_node : EachIsOfNode
each_is_of_node lab H r n a follows node there =
    let kind : Kind lab H r = kind_of lab H r follows in of_kind lab H r n a node there (acted_in lab H r kind) kind
