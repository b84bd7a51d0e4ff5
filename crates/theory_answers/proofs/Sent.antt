-- What a record put onto the wire, where one send of it got through.
use Rattle.theory_answers.proofs.Words.{Bool, Ep, Err, Item, List, Loss, Made, Ok, Result, Send, Side, Some, [], ap, false, false≢true, length, made_outright, marked, refl, sent, slice_get, sym, true, udp, ◌++◌, ◌∷◌, ◌≡◌}

-- the entry behind all others
pub last_entry : (xs : List Item) (y : Item) → slice_get (xs ++ y ∷ []) (length xs) ≡ Some y
last_entry [] y = refl
last_entry (x ∷ xs) y = last_entry xs y

abbrev pub sent_or : Item → List Made → Item
sent_or y (sent x ∷ rest) = x
sent_or y _ = y

abbrev pub is_sent : List Made → Bool
is_sent (sent x ∷ rest) = true
is_sent _ = false

-- a send of a server that got through
pub got_through : (own : Side → Ep) (x : Send) (y : Item) (b : Bool) → made_outright b own x ∷ [] ≡ sent y ∷ [] → y ≡ udp (own x.side) x.to x.bytes
got_through own x y true e = absurd (false≢true (ap is_sent e))
got_through own x y false e = ap (sent_or y) (sym e)

-- an entry of a client's send that got through
pub record LeavesAt (x : Send) (y : Item) : Type 0 where
  pub left : Ep
  pub is : y ≡ udp left x.to x.bytes

pub leaves_at : (x : Send) (y : Item) (o : Result Ep Loss) → marked x o ∷ [] ≡ sent y ∷ [] → LeavesAt x y
leaves_at x y (Ok left) e = record { left = left; is = ap (sent_or y) (sym e) }
leaves_at x y (Err why) e = absurd (false≢true (ap is_sent e))
