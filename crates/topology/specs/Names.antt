-- Names: their text, and which are the same.
use Rattle.std.specs.Cmp.{IsEquivalence, on_equiv, nat_eq_equiv}
use Rattle.std.specs.Cmp.Lexicographic.{pointwise, lists_equiv}
use Rattle.std.specs.Prelude.{ℕ, Bool, nat_eq, List, take}
use Rattle.topology.specs.declared.node_name.Name.{Name}

-- its bytes, as many as it says
abbrev pub name_text : Name → List ℕ
name_text name = take name.len name.bytes

-- the names have the same text
unfoldable pub same_name : Name → Name → Bool
same_name a b = pointwise nat_eq (name_text a) (name_text b)

-- sameness of names is an equivalence
pub same_name_equiv : IsEquivalence same_name
unfolding same_name
same_name_equiv = on_equiv name_text (lists_equiv nat_eq_equiv)
