-- Where no send is to fail none does.
use Rattle.theory_reaching.proofs.Words.{Entry, Ep, Err, Full, HasNoFault, Input, Item, Lab, List, Made, NatRefusal, NativeNode, Node, None, Numbered, Ok, Option, Passing, Result, Route, Send, Some, Span, [], armed, arrived, astray, by_way, client, closed, crossing_unless, delivers_to, dst_of, entry_of, false, from_six, input_of, is_fault, list_any, marked, nat, native, native_made, native_packet, now, or_from, or_loss, outright, own_ep, reaches, refl, relay, sendings, server, six_made, subst, sym, ticked, way_out, ℕ, ◌++◌, ◌+◌, ◌∷◌, ◌≡◌}
use Rattle.td_base.specs.declared.side.Side.{Side}
use Rattle.nat_kinds.specs.declared.refusal.NatRefusal.TheVariants as refusal
use Rattle.teredo_node.specs.Journal.{given}

-- none of these failed so
abbrev pub NoneFailed : List Made → Type 0
NoneFailed made = list_any is_fault made ≡ false

of_loss : (why : NatRefusal) (x : Send) → is_fault (marked x (or_loss false (Err why))) ≡ false
of_loss refusal.Hairpin x = refl
of_loss refusal.Full x = refl
of_loss refusal.NoMemory x = refl

of_send : (r : Result Ep NatRefusal) (x : Send) → is_fault (marked x (or_loss false r)) ≡ false
of_send (Ok src) x = refl
of_send (Err why) x = of_loss why x

module _ (lab : Lab) (H : List Full) (m : ℕ) where
  -- a client's
  of_way : (way : List ℕ) (inside : Ep) (i : ℕ) (passed : List Passing) (xs : List Send) → NoneFailed (by_way lab H m way inside None i passed xs).made
  of_way way inside i passed [] = refl
  of_way way inside i passed (x ∷ xs) =
      or_from (is_fault (marked x (or_loss false (crossing_unless false lab H m x.to way inside passed).leaves))) _
      (of_send (crossing_unless false lab H m x.to way inside passed).leaves x)
      (of_way way inside (i + 1) (crossing_unless false lab H m x.to way inside passed).passed xs)

  -- a server's or relay's, and the packet besides
  of_outright : (own : Side → Ep) (i : ℕ) (xs : List Send) (rest : List Made) → NoneFailed rest → NoneFailed (outright own None i xs ++ rest)
  of_outright own i [] rest e = e
  of_outright own i (x ∷ xs) rest e = of_outright own (i + 1) xs rest e

  of_six : (input : Input) (o : Option Span) → NoneFailed (six_made input o)
  of_six (arrived from x) None = refl
  of_six (arrived from x) (Some span) = refl
  of_six (given x) o = refl
  of_six (from_six x) o = refl
  of_six ticked o = refl

  of_native : (h : NativeNode) (o : Option (List ℕ)) → NoneFailed (native_made h o)
  of_native h None = refl
  of_native h (Some x) = refl

  -- whoever sends
  of_node : (e : Entry) (a : Node) → armed H ≡ None → NoneFailed (sendings lab H m e a).made
  of_node e (server a) none = subst (λ (o : Option ℕ). NoneFailed (outright (own_ep (server a)) o 0 e.step.sends ++ six_made e.input e.step.six)) (sym none)
      (of_outright (own_ep (server a)) 0 e.step.sends (six_made e.input e.step.six) (of_six e.input e.step.six))
  of_node e (nat a) none = refl
  of_node e (client c) none = subst (λ (o : Option ℕ). NoneFailed (by_way lab H m (way_out lab.chain c.nat) c.inside o 0 [] e.step.sends).made) (sym none)
      (of_way (way_out lab.chain c.nat) c.inside 0 [] e.step.sends)
  of_node e (relay r) none = subst (λ (o : Option ℕ). NoneFailed (outright (own_ep (relay r)) o 0 e.step.sends ++ six_made e.input e.step.six)) (sym none)
      (of_outright (own_ep (relay r)) 0 e.step.sends (six_made e.input e.step.six) (of_six e.input e.step.six))
  of_node e (native h) none = of_native h (native_packet h e.input)

-- so the delivery of an entry has no such send
pub sound : (lab : Lab) (H : List Full) (e : Numbered) (k : ℕ) (x : Item) (w : Route) → armed H ≡ None → HasNoFault (delivers_to lab H e k x w)
sound lab H e k x (reaches n a) none = of_node lab H (now H) (entry_of lab H (now H) n (dst_of x) (input_of x) a) a none
sound lab H e k x (closed n) none = refl
sound lab H e k x astray none = refl

-- and delivers it
pub delivers_it : (lab : Lab) (H : List Full) (e : Numbered) (k : ℕ) (x : Item) (w : Route) → (delivers_to lab H e k x w).delivered ≡ Some k
delivers_it lab H e k x (reaches n a) = refl
delivers_it lab H e k x (closed n) = refl
delivers_it lab H e k x astray = refl
