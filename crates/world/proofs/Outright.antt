-- What a node sends from its own endpoints, one after the other.
use Rattle.world.proofs.Words.{Bool, ComesOnto, Ep, Err, List, Made, Mark, Ok, Option, Puts, Send, Side, Some, Stop, WireState, [], ap, arith, drop, false, get_or_from_slice_get, is_at_place, length, length-append, length-take-le, made_outright, mark_of, marked, or_loss, outright, refl, slice_get, slice_get_within, subst, sym, take, take-append-drop, take_more, true, ℕ, ◌++◌, ◌+◌, ◌<◌, ◌∙◌, ◌∷◌, ◌≡◌}
use Rattle.world.proofs.Entered.{nothing_enters, enters_twice, puts_then, puts_stop}

-- the first sends, and one more
pub taken : (sends : List Send) (i : ℕ) (x : Send) → slice_get sends i ≡ Some x → take (i + 1) sends ≡ take i sends ++ x ∷ []
taken sends i x at = take_more sends i x (slice_get_within sends i x at) ∙ ap (λ (y : Send). take i sends ++ y ∷ []) (get_or_from_slice_get sends i x x at)

-- the first sends, and the others
pub parted : {A : Type 0} → (n : ℕ) (xs : List A) → take n xs ++ drop n xs ≡ xs
parted n xs = take-append-drop n xs

pub outright_append : (own : Side → Ep) (fails : Option ℕ) (i : ℕ) (xs ys : List Send) → outright own fails i (xs ++ ys) ≡ outright own fails i xs ++ outright own fails (i + length xs) ys
outright_append own fails i [] ys = ap (λ (k : ℕ). outright own fails k ys) (omega arith)
outright_append own fails i (x ∷ xs) ys =
    let one = made_outright (is_at_place i fails) own x in
    let next : i + 1 + length xs ≡ i + length (x ∷ xs) = omega arith in
    ap (λ (ms : List Made). one ∷ ms) (outright_append own fails (i + 1) xs ys ∙ ap (λ (k : ℕ). outright own fails (i + 1) xs ++ outright own fails k ys) next)

-- the number of the next one
pub place_of : (sends : List Send) (i : ℕ) (x : Send) → slice_get sends i ≡ Some x → 0 + length (take i sends) ≡ i
place_of sends i x at =
    let within : i < length sends = slice_get_within sends i x at in
    let same : length (take i sends) ≡ i = length-take-le i sends (omega (arith, within)) in
    omega (arith, same)

-- from which endpoints it is sent, and which one fails
pub record From : Type 0 where
  pub own : Side → Ep
  pub fails : Option ℕ

abbrev pub all_of : From → List Send → List Made
all_of f sends = outright f.own f.fails 0 sends

-- what becomes of one send
abbrev pub one_of : From → ℕ → Send → Made
one_of f i x = made_outright (is_at_place i f.fails) f.own x

-- as it is marked by its source
pub made_as : (failing : Bool) (own : Side → Ep) (x : Send) → marked x (or_loss failing (Ok (own x.side))) ≡ made_outright failing own x
made_as true own x = refl
made_as false own x = refl

made_more : (f : From) (sends : List Send) (i : ℕ) (x : Send) → slice_get sends i ≡ Some x → all_of f (take (i + 1) sends) ≡ all_of f (take i sends) ++ one_of f i x ∷ []
made_more f sends i x at =
    ap (all_of f) (taken sends i x at) ∙ outright_append f.own f.fails 0 (take i sends) (x ∷ [])
    ∙ ap (λ (k : ℕ). all_of f (take i sends) ++ one_of f k x ∷ []) (place_of sends i x at)

made_whole : (f : From) (sends : List Send) (n : ℕ) → all_of f (take n sends) ++ outright f.own f.fails (0 + length (take n sends)) (drop n sends) ≡ all_of f sends
made_whole f sends n = sym (outright_append f.own f.fails 0 (take n sends) (drop n sends)) ∙ ap (all_of f) (parted n sends)

-- the first i sends are on the wire or lost, with their marks
pub record OutrightSoFar (old now : WireState) (f : From) (sends : List Send) (i : ℕ) (said : List Mark) : Type 0 where
  pub enters : ComesOnto old now [] said (all_of f (take i sends))
  pub count : length said ≡ i

pub none_outright : (w : WireState) (f : From) (sends : List Send) (said : List Mark) → said ≡ [] → OutrightSoFar w w f sends 0 said
none_outright w f sends said none = record {
  enters = subst (λ (s : List Mark). ComesOnto w w [] s []) (sym none) (nothing_enters w []);
  count = ap (λ (s : List Mark). length s) none;
}

-- a mark more
pub one_said : (old new : WireState) (said more : List Mark) (m : Made) → ComesOnto old new said more (m ∷ []) → length more ≡ length said + 1
one_said old new said more m p = ap (λ (l : List Mark). length l) p.marks ∙ length-append said (mark_of (length old.items) m ∷ [])

module _ (old : WireState) (f : From) (sends : List Send) (i : ℕ) (x : Send) (at : slice_get sends i ≡ Some x) where
  -- the next one is put, or lost
  pub one_outright : (now new : WireState) (said more : List Mark) → OutrightSoFar old now f sends i said → ComesOnto now new said more (one_of f i x ∷ []) → OutrightSoFar old new f sends (i + 1) more
  one_outright now new said more so puts = record {
    enters = subst (λ (ms : List Made). ComesOnto old new [] more ms) (sym (made_more f sends i x at))
        (enters_twice (all_of f (take i sends)) (one_of f i x ∷ []) old now new [] said more so.enters puts);
    count = let longer = one_said now new said more (one_of f i x) puts in let so_far = so.count in omega (arith, longer, so_far);
  }

  -- where it isn't, not all are
  pub stops_outright : (now new : WireState) (said more : List Mark) (why : Stop) → OutrightSoFar old now f sends i said → Puts now new said more (one_of f i x ∷ []) (Err why)
      → Puts old new [] more (all_of f sends) (Err why)
  stops_outright now new said more why so puts =
      let front = all_of f (take i sends) in
      let both : Puts old new [] more (front ++ one_of f i x ∷ []) (Err why) = puts_then front (one_of f i x ∷ []) old now new [] said more (Err why) so.enters puts in
      let first : Puts old new [] more (all_of f (take (i + 1) sends)) (Err why) = subst (λ (ms : List Made). Puts old new [] more ms (Err why)) (sym (made_more f sends i x at)) both in
      subst (λ (ms : List Made). Puts old new [] more ms (Err why)) (made_whole f sends (i + 1))
      (puts_stop (all_of f (take (i + 1) sends)) (outright f.own f.fails (0 + length (take (i + 1) sends)) (drop (i + 1) sends)) old new new [] more more why first)
