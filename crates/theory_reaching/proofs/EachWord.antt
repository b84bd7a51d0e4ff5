-- Each word keeps its promise: what is proved of two clients, of a client on a native host and of a native host on a client, together.
use Rattle.theory_reaching.proofs.Words.{AreFresh, AwayBringsNothingIn, BarredSenderIsSilentIn, Full, Grown, IsPromised, IsSentNext, KeepsBetweenClientsIn, KeepsFromNativesIn, KeepsItsPromiseIn, KeepsToNativesIn, Lab, List, Node, OffMakesNothingIn, Reach, Relayed, Some, WordsKept, ap, client, from_native_lines, from_native_row, native, node_at, reach_of, refl, relayed, subst, sym, to_native_lines, to_native_row, ℕ, ◌++◌, ◌∷◌, ◌≡◌}
use Rattle.theory_reaching.specs.declared.word.Reach.TheVariants as word
use Rattle.theory_reaching.proofs.WordTests.{is_moved, is_one_nat, is_self}
use Rattle.theory_reaching.proofs.Lines.{which_held}
use Rattle.theory_reaching.proofs.Pairs.{SaidBy, between_clients, to_native, from_native, said_by}

-- THE PARTS

-- of a word that each of the three tables says
record Apart (lab : Lab) (H : List Full) (said : Reach) : Type 0 where
  between : KeepsBetweenClientsIn lab H said
  out : KeepsToNativesIn lab H said
  back : KeepsFromNativesIn lab H said

-- all that is proved of the words
pub record Parts (lab : Lab) (H : List Full) : Type 0 where
  pub off : KeepsItsPromiseIn lab H word.Off
  pub off_nothing : OffMakesNothingIn lab H
  pub away_nothing : AwayBringsNothingIn lab H
  pub barred_silent : BarredSenderIsSilentIn lab H
  pub away : KeepsItsPromiseIn lab H word.Away
  pub self : KeepsBetweenClientsIn lab H word.OneAddress
  pub moved : KeepsBetweenClientsIn lab H word.Moved
  pub moved_to_native : KeepsToNativesIn lab H word.Moved
  pub one_nat : KeepsBetweenClientsIn lab H word.OneNat
  pub full : KeepsBetweenClientsIn lab H word.Full
  pub full_to_native : KeepsToNativesIn lab H word.Full
  pub full_from_native : KeepsFromNativesIn lab H word.Full
  pub stale : KeepsBetweenClientsIn lab H word.Stale
  pub stale_to_native : KeepsToNativesIn lab H word.Stale
  pub stale_from_native : KeepsFromNativesIn lab H word.Stale
  pub barred : KeepsBetweenClientsIn lab H word.Barred
  pub barred_to_native : KeepsToNativesIn lab H word.Barred
  pub barred_from_native : KeepsFromNativesIn lab H word.Barred
  pub within_one : KeepsItsPromiseIn lab H word.Within1
  pub within_two : KeepsItsPromiseIn lab H word.Within2
  pub within_four : KeepsItsPromiseIn lab H word.Within4
  pub within_five : KeepsItsPromiseIn lab H word.Within5
  pub within_six : KeepsItsPromiseIn lab H word.Within6
  pub within_nine : KeepsItsPromiseIn lab H word.Within9
  pub within_seven : KeepsItsPromiseIn lab H word.Within7
  pub within_eight : KeepsItsPromiseIn lab H word.Within8
  pub within_ten : KeepsItsPromiseIn lab H word.Within10
  pub within_eleven : KeepsItsPromiseIn lab H word.Within11
  pub within_twelve : KeepsItsPromiseIn lab H word.Within12
  pub within_thirteen : KeepsItsPromiseIn lab H word.Within13

module _ (lab : Lab) (H : List Full) (parts : Parts lab H) where
  full : Apart lab H word.Full
  full = record { between = parts.full; out = parts.full_to_native; back = parts.full_from_native }

  stale : Apart lab H word.Stale
  stale = record { between = parts.stale; out = parts.stale_to_native; back = parts.stale_from_native }

  barred : Apart lab H word.Barred
  barred = record { between = parts.barred; out = parts.barred_to_native; back = parts.barred_from_native }

-- THE TABLES

-- after the record q the records `later` are a fresh schedule, in which the packet x of node n may come to node m
record FreshSchedule : Type 0 where
  lab : Lab
  H : List Full
  q : Full
  later : List Full
  n : ℕ
  m : ℕ
  x : List ℕ
  grown : Grown lab (later ++ q ∷ H)
  fresh : AreFresh q later

module _ (the : FreshSchedule) where
  open the use {lab, H, q, later, n, m, x, grown, fresh}

  -- what the word promises of two nodes
  abbrev Promised : Reach → Node → Node → Type 0
  Promised said a b = node_at lab.topology n ≡ Some a → node_at lab.topology m ≡ Some b → IsSentNext lab H q n m a x
      → IsPromised lab H q m a b x later said

  moved : (said : Reach) (a b c d : Node) → a ≡ c → b ≡ d → Promised said c d → Promised said a b
  moved said a b c d f g promised = subst (λ (z : Node). Promised said z b) (sym f) (subst (λ (z : Node). Promised said c z) (sym g) promised)

  -- of two clients alone: neither table of a native host has such a word
  of_two : (said : Reach) → ((a : Relayed) → to_native_row a ≡ said → ⊥) → ((a : Relayed) → from_native_row a ≡ said → ⊥) → KeepsBetweenClientsIn lab H said
      → (a b : Node) → reach_of lab H n m ≡ Some said → Promised said a b
  of_two said no_out no_back keeps a b word_is at to = by (said_by (record { lab = lab; H = H; n = n; m = m; said = said }) a b at to word_is) at to where
    by : SaidBy lab H n m a b said → Promised said a b
    by (between_clients c d f g w) =
        moved said a b (client c) (client d) f g (λ here there sent. keeps q later n m c d x grown here there word_is sent fresh)
    by (to_native c h r f g relay w) = absurd (no_out (relayed lab H n c h r) w)
    by (from_native h c r f g relay w) = absurd (no_back (relayed lab H m c h r) w)

  -- of two clients, and of a client on a native host
  not_back : (said : Reach) → ((a : Relayed) → from_native_row a ≡ said → ⊥) → KeepsBetweenClientsIn lab H said → KeepsToNativesIn lab H said
      → (a b : Node) → reach_of lab H n m ≡ Some said → Promised said a b
  not_back said no_back keeps out a b word_is at to = by (said_by (record { lab = lab; H = H; n = n; m = m; said = said }) a b at to word_is) at to where
    by : SaidBy lab H n m a b said → Promised said a b
    by (between_clients c d f g w) =
        moved said a b (client c) (client d) f g (λ here there sent. keeps q later n m c d x grown here there word_is sent fresh)
    by (to_native c h r f g relay w) =
        moved said a b (client c) (native h) f g (λ here there sent. out q later n m c h x grown here there word_is sent fresh)
    by (from_native h c r f g relay w) = absurd (no_back (relayed lab H m c h r) w)

  -- of each table
  shut : (said : Reach) → Apart lab H said → (a b : Node) → reach_of lab H n m ≡ Some said → Promised said a b
  shut said keeps a b word_is at to = by (said_by (record { lab = lab; H = H; n = n; m = m; said = said }) a b at to word_is) at to where
    by : SaidBy lab H n m a b said → Promised said a b
    by (between_clients c d f g w) =
        moved said a b (client c) (client d) f g (λ here there sent. keeps.between q later n m c d x grown here there word_is sent fresh)
    by (to_native c h r f g relay w) =
        moved said a b (client c) (native h) f g (λ here there sent. keeps.out q later n m c h x grown here there word_is sent fresh)
    by (from_native h c r f g relay w) =
        moved said a b (native h) (client c) f g (λ here there sent. keeps.back q later n m h c x grown here there word_is sent fresh)

-- EACH WORD

module _ (lab : Lab) (H : List Full) (parts : Parts lab H) where
  each_word : (said : Reach) → KeepsItsPromiseIn lab H said
  each_word word.Off q later n m a b x grown at to word_is sent fresh = parts.off q later n m a b x grown at to word_is sent fresh
  each_word word.Away q later n m a b x grown at to word_is sent fresh = parts.away q later n m a b x grown at to word_is sent fresh
  each_word word.OneAddress q later n m a b x grown at to word_is sent fresh =
      of_two (record { lab = lab; H = H; q = q; later = later; n = n; m = m; x = x; grown = grown; fresh = fresh }) word.OneAddress
      (λ a w. which_held is_self (to_native_lines a) word.Within6 refl (ap is_self w))
      (λ a w. which_held is_self (from_native_lines a) word.Within6 refl (ap is_self w)) parts.self a b word_is at to sent
  each_word word.Moved q later n m a b x grown at to word_is sent fresh =
      not_back (record { lab = lab; H = H; q = q; later = later; n = n; m = m; x = x; grown = grown; fresh = fresh }) word.Moved
      (λ a w. which_held is_moved (from_native_lines a) word.Within6 refl (ap is_moved w)) parts.moved parts.moved_to_native a b word_is at to sent
  each_word word.Lost q later n m a b x grown at to word_is sent fresh = tt
  each_word word.OneNat q later n m a b x grown at to word_is sent fresh =
      of_two (record { lab = lab; H = H; q = q; later = later; n = n; m = m; x = x; grown = grown; fresh = fresh }) word.OneNat
      (λ a w. which_held is_one_nat (to_native_lines a) word.Within6 refl (ap is_one_nat w))
      (λ a w. which_held is_one_nat (from_native_lines a) word.Within6 refl (ap is_one_nat w)) parts.one_nat a b word_is at to sent
  each_word word.Full q later n m a b x grown at to word_is sent fresh =
      shut (record { lab = lab; H = H; q = q; later = later; n = n; m = m; x = x; grown = grown; fresh = fresh }) word.Full (full lab H parts) a b word_is at to sent
  each_word word.Stale q later n m a b x grown at to word_is sent fresh =
      shut (record { lab = lab; H = H; q = q; later = later; n = n; m = m; x = x; grown = grown; fresh = fresh }) word.Stale (stale lab H parts) a b word_is at to sent
  each_word word.Barred q later n m a b x grown at to word_is sent fresh =
      shut (record { lab = lab; H = H; q = q; later = later; n = n; m = m; x = x; grown = grown; fresh = fresh }) word.Barred (barred lab H parts) a b word_is at to sent
  each_word word.Known q later n m a b x grown at to word_is sent fresh = tt
  each_word word.Within1 q later n m a b x grown at to word_is sent fresh = parts.within_one q later n m a b x grown at to word_is sent fresh
  each_word word.Within2 q later n m a b x grown at to word_is sent fresh = parts.within_two q later n m a b x grown at to word_is sent fresh
  each_word word.Within4 q later n m a b x grown at to word_is sent fresh = parts.within_four q later n m a b x grown at to word_is sent fresh
  each_word word.Within5 q later n m a b x grown at to word_is sent fresh = parts.within_five q later n m a b x grown at to word_is sent fresh
  each_word word.Within6 q later n m a b x grown at to word_is sent fresh = parts.within_six q later n m a b x grown at to word_is sent fresh
  each_word word.Within9 q later n m a b x grown at to word_is sent fresh = parts.within_nine q later n m a b x grown at to word_is sent fresh
  each_word word.Within7 q later n m a b x grown at to word_is sent fresh = parts.within_seven q later n m a b x grown at to word_is sent fresh
  each_word word.Within8 q later n m a b x grown at to word_is sent fresh = parts.within_eight q later n m a b x grown at to word_is sent fresh
  each_word word.Within10 q later n m a b x grown at to word_is sent fresh = parts.within_ten q later n m a b x grown at to word_is sent fresh
  each_word word.Within11 q later n m a b x grown at to word_is sent fresh = parts.within_eleven q later n m a b x grown at to word_is sent fresh
  each_word word.Within12 q later n m a b x grown at to word_is sent fresh = parts.within_twelve q later n m a b x grown at to word_is sent fresh
  each_word word.Within13 q later n m a b x grown at to word_is sent fresh = parts.within_thirteen q later n m a b x grown at to word_is sent fresh

  pub words_kept : WordsKept lab H
  words_kept = record { each = each_word; off = parts.off_nothing; away = parts.away_nothing; barred = parts.barred_silent }
