-- Where a delivery goes, and the wire after it: one entry more, or none.
use Rattle.theory_first_packets.proofs.Words.{Delivery, Ep, Full, Ip6, Item, Lab, List, Made, Node, None, Option, Some, [], ap, arith, bubble_of, dst_of, entry_of, false, filter_map, input_of, is_big, is_ill_formed, item_in, items_of, length, message_in, now, on_wire, reaches, refl, route, same_end, sent, slice_get, subst, suc, sym, to_nobody, to_node, udp, unwrap_or, wire, ℕ, ◌++◌, ◌<◌, ◌∙◌, ◌∷◌, ◌≡◌, ◌≤◌}
use Rattle.std.proofs.Common.{append-nil}
use Rattle.theory_first_packets.proofs.passing.Ways.{LeavesNats, nats_left}
use Rattle.theory_first_packets.proofs.Deliveries.{Did, did_with}
use Rattle.theory_first_packets.proofs.tables.Lists.{last_there, one_longer}

-- entry number k of the wire is this datagram
abbrev pub At : List Full → ℕ → Ep → Ep → List ℕ → Type 0
At H k src dst bytes = slice_get (wire H) k ≡ Some (udp src dst bytes)

-- what is delivered isn't behind the latest entry
pub at_most_last : (lab : Lab) (H : List Full) (q : Full) (k last : ℕ) → Delivery lab H q k → length (wire H) ≡ suc last → k ≤ last
at_most_last lab H q k last d long = let less = on_wire lab H q k d in omega (arith, less, long)

-- no number is both before a record and behind the one before it
pub beyond : (k first before after : ℕ) → first ≤ k → first ≡ before → after ≡ before → k < after → ⊥
beyond k first before after low same still high = omega (arith, low, same, still, high)

-- WHERE A DELIVERY GOES

-- the node did what it does with the entry
pub record Arrival (lab : Lab) (H : List Full) (q : Full) (n : ℕ) (a : Node) (x : Item) : Type 0 where
  pub calm : LeavesNats lab q
  pub did : Did lab H q n a (entry_of lab H (now H) n (dst_of x) (input_of x) a)

pub same_item : (H : List Full) (k : ℕ) (x y : Item) → slice_get (wire H) k ≡ Some x → slice_get (wire H) k ≡ Some y → x ≡ y
same_item H k x y at to = ap (λ (o : Option Item). unwrap_or o x) (sym at ∙ to)

-- the entry of a number leads to a node
pub record Leads (lab : Lab) (H : List Full) (k : ℕ) : Type 0 where
  pub number : ℕ
  pub node : Node
  pub item : Item
  pub at : slice_get (wire H) k ≡ Some item
  pub goes : route lab H (now H) item ≡ reaches number node

-- and comes to it
pub arrival : (lab : Lab) (H : List Full) (q : Full) (k : ℕ) → Delivery lab H q k → (l : Leads lab H k) → Arrival lab H q l.number l.node l.item
arrival lab H q k (to_nobody y at miss) l =
    absurd (miss.nobody l.number l.node (subst (λ (z : Item). route lab H (now H) z ≡ reaches l.number l.node) (sym (same_item H k y l.item at l.at)) l.goes))
arrival lab H q k (to_node i b y at reached) l =
    let x = l.item in
    let item : y ≡ x = same_item H k y x at l.at in
    let end = same_end (route lab H (now H) x) i l.number b l.node (subst (λ (z : Item). route lab H (now H) z ≡ reaches i b) item reached.leads) l.goes in
    record {
      calm = nats_left lab q reached.act.still reached.act.lasting;
      did = subst (λ (c : Node). Did lab H q l.number c (entry_of lab H (now H) l.number (dst_of x) (input_of x) c)) end.1
          (subst (λ (m : ℕ). Did lab H q m b (entry_of lab H (now H) m (dst_of x) (input_of x) b)) end.0
          (subst (λ (z : Item). Did lab H q i b (entry_of lab H (now H) i (dst_of z) (input_of z) b)) item (did_with lab H q i b y reached)));
    }

-- ONE MORE ENTRY, OR NONE

-- one entry more, the last
pub record OneMore (H : List Full) (q : Full) (last : ℕ) (x : Item) : Type 0 where
  pub at : slice_get (wire (q ∷ H)) (suc last) ≡ Some x
  pub longer : length (wire (q ∷ H)) ≡ suc (suc last)

pub one_more : (H : List Full) (q : Full) (last : ℕ) (x : Item) → length (wire H) ≡ suc last → q.made ≡ sent x ∷ [] → OneMore H q last x
one_more H q last x long made =
    let items : items_of q ≡ x ∷ [] = ap (filter_map item_in) made in
    record {
      at = ap (λ (xs : List Item). slice_get (wire H ++ xs) (suc last)) items ∙ ap (slice_get (wire H ++ x ∷ [])) (sym long) ∙ last_there (wire H) x;
      longer = ap (λ (xs : List Item). length (wire H ++ xs)) items ∙ one_longer (wire H) x ∙ ap suc long;
    }

-- none more
pub no_more : (H : List Full) (q : Full) → q.made ≡ [] → wire (q ∷ H) ≡ wire H
no_more H q made = ap (λ (ms : List Made). wire H ++ filter_map item_in ms) made ∙ append-nil (wire H)

-- WHAT IS ON IT

-- a bubble isn't big
pub bubble_small : (src dst : Ip6) → is_big (bubble_of src dst) ≡ false
unfolding is_big
bubble_small src dst = refl

-- and says nothing
pub bubble_message : (src dst : Ip6) → message_in (bubble_of src dst) ≡ None
unfolding message_in
bubble_message src dst = refl

pub bubble_formed : (src dst : Ip6) → is_ill_formed (bubble_of src dst) ≡ false
unfolding is_ill_formed
bubble_formed src dst = refl
