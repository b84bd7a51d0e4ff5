-- What a change of the ledger, or of the latest outputs, leaves of every datagram.
use Rattle.td_explain.proofs.Words.{BTreeMap, Bool, CameOnceMore, Changes, Datagram, DrawnOnceMore, HasKey, Ledger, List, None, Option, Seen, Some, Vec, [], ap, append-nil, arith, at_key, came_at, cases_Bool, changed_at, cond, cond-false, cond-true, drawn_at, false, get_by, inl, inr, key_bytes, nat_cmp, once_under, one_if, places_known, places_listed, same_datagram, same_is, same_itself, seen_under, slice_cmp, sym, times_seen, true, unwrap_or, ℕ, ◌++◌, ◌+◌, ◌∙◌, ◌∷◌, ◌≡◌}

-- what an entry of `seen` has, where one without a value is made of what `once` has
pub entry_came : (o : Option Seen) (first now : Seen) → first.came ≡ 0 → now ≡ unwrap_or o first → now.came ≡ times_seen o
entry_came None first now zero is = ap (λ (s : Seen). s.came) is ∙ zero
entry_came (Some seen) first now zero is = ap (λ (s : Seen). s.came) is

pub entry_drawn : (o : Option Seen) (once : Option ℕ) (first now : Seen) → places_listed first.drawn ≡ places_known None once → now ≡ unwrap_or o first
    → places_listed now.drawn ≡ places_known o once
entry_drawn None once first now places is = ap (λ (s : Seen). places_listed s.drawn) is ∙ places
entry_drawn (Some seen) once first now places is = ap (λ (s : Seen). places_listed s.drawn) is

-- `seen` has this at the key of d, and at others both maps have what they had
pub record Notes (old new : Ledger) (d : Datagram) (seen : Seen) : Type 0 where
  pub seen_is : (e : Datagram) → HasKey e → seen_under new (key_bytes e) ≡ cond (same_datagram e d) (Some seen) (seen_under old (key_bytes e))
  pub once_stays : (e : Datagram) → HasKey e → same_datagram e d ≡ false → once_under new (key_bytes e) ≡ once_under old (key_bytes e)

-- a change at the key of d leaves what is at others
pub stays_elsewhere : {V : Type 0} (m n : BTreeMap (Vec ℕ) V) (d e : Datagram) (w : Option V) → HasKey e → HasKey d
    → Changes (λ k. k.items) m n (key_bytes d) w → same_datagram e d ≡ false
    → at_key (λ k. k.items) n (key_bytes e) ≡ at_key (λ k. k.items) m (key_bytes e)
stays_elsewhere m n d e w e_fits d_fits h differ =
    changed_at (λ (k : Vec ℕ). k.items) m n d e w e_fits d_fits h ∙ cond-false _ w (at_key (λ (k : Vec ℕ). k.items) m (key_bytes e)) differ

-- what is known of another datagram stays
others_stay : (old new : Ledger) (e : Datagram) → seen_under new (key_bytes e) ≡ seen_under old (key_bytes e)
    → once_under new (key_bytes e) ≡ once_under old (key_bytes e) → (came_at new e ≡ came_at old e) × (drawn_at new e ≡ drawn_at old e)
others_stay old new e seen once = (
  ap times_seen seen,
  ap (λ (o : Option Seen). places_known o (once_under new (key_bytes e))) seen ∙ ap (places_known (seen_under old (key_bytes e))) once,
)

-- what is known of e is this
abbrev IsSeen : Ledger → Datagram → Seen → Type 0
IsSeen l e seen = (came_at l e ≡ seen.came) × (drawn_at l e ≡ places_listed seen.drawn)

seen_says : (l : Ledger) (e : Datagram) (seen : Seen) → seen_under l (key_bytes e) ≡ Some seen → IsSeen l e seen
seen_says l e seen now = (ap times_seen now, ap (λ (o : Option Seen). places_known o (once_under l (key_bytes e))) now)

comes_here : (old new : Ledger) (d e : Datagram) (seen : Seen) → seen.came ≡ came_at old d + 1 → places_listed seen.drawn ≡ drawn_at old d
    → IsSeen new e seen → same_datagram e d ≡ true
    → (came_at new e ≡ came_at old e + one_if (same_datagram e d)) × (drawn_at new e ≡ drawn_at old e)
comes_here old new d e seen came drawn now same =
    let is : e ≡ d = same_is e d same in (
      now.0 ∙ came ∙ ap (λ (x : Datagram). came_at old x + 1) (sym is) ∙ ap (λ (b : Bool). came_at old e + one_if b) (sym same),
      now.1 ∙ drawn ∙ ap (drawn_at old) (sym is),
    )

comes_elsewhere : (old new : Ledger) (d e : Datagram) → (came_at new e ≡ came_at old e) × (drawn_at new e ≡ drawn_at old e) → same_datagram e d ≡ false
    → (came_at new e ≡ came_at old e + one_if (same_datagram e d)) × (drawn_at new e ≡ drawn_at old e)
comes_elsewhere old new d e stay differ = (stay.0 ∙ omega (arith, ap one_if differ), stay.1)

pub comes : (old new : Ledger) (d : Datagram) (seen : Seen) → seen.came ≡ came_at old d + 1 → places_listed seen.drawn ≡ drawn_at old d → Notes old new d seen
    → CameOnceMore old new d
comes old new d seen came drawn notes e fits =
    elim (cases_Bool (same_datagram e d)) [
      | inl same ↦
          let now : seen_under new (key_bytes e) ≡ Some seen = notes.seen_is e fits ∙ cond-true _ (Some seen) (seen_under old (key_bytes e)) same in
          comes_here old new d e seen came drawn (seen_says new e seen now) same
      | inr differ ↦
          comes_elsewhere old new d e (others_stay old new e
          (notes.seen_is e fits ∙ cond-false _ (Some seen) (seen_under old (key_bytes e)) differ) (notes.once_stays e fits differ)) differ
    ]

-- d is now an output of one more place, and what is known of others stays
draws_at : (old new : Ledger) (d : Datagram) (place : ℕ) → (came_at new d ≡ came_at old d) × (drawn_at new d ≡ drawn_at old d ++ place ∷ [])
    → ((e : Datagram) → HasKey e → same_datagram e d ≡ false → (came_at new e ≡ came_at old e) × (drawn_at new e ≡ drawn_at old e))
    → DrawnOnceMore old new d place
draws_at old new d place now others e fits =
    elim (cases_Bool (same_datagram e d)) [
      | inl same ↦
          let is : e ≡ d = same_is e d same in (
            ap (came_at new) is ∙ now.0 ∙ ap (came_at old) (sym is),
            ap (drawn_at new) is ∙ now.1 ∙ ap (λ (x : Datagram). drawn_at old x ++ place ∷ []) (sym is)
                ∙ ap (λ (b : Bool). drawn_at old e ++ cond b (place ∷ []) []) (sym same),
          )
      | inr differ ↦
          let stay = others e fits differ in
          (stay.0, stay.1 ∙ sym (append-nil (drawn_at old e)) ∙ ap (λ (b : Bool). drawn_at old e ++ cond b (place ∷ []) []) (sym differ))
    ]

-- one that `seen` has afterwards
pub draws : (old new : Ledger) (d : Datagram) (place : ℕ) (seen : Seen) → HasKey d → seen.came ≡ came_at old d
    → places_listed seen.drawn ≡ drawn_at old d ++ place ∷ [] → Notes old new d seen → DrawnOnceMore old new d place
draws old new d place seen d_fits came drawn notes =
    let now = seen_says new d seen (notes.seen_is d d_fits ∙ cond-true _ (Some seen) (seen_under old (key_bytes d)) (same_itself d)) in
    draws_at old new d place (now.0 ∙ came, now.1 ∙ drawn) (λ e fits differ.
    others_stay old new e (notes.seen_is e fits ∙ cond-false _ (Some seen) (seen_under old (key_bytes e)) differ) (notes.once_stays e fits differ))

-- `once` has the place of d, and at others what it had
pub record Begins (old new : Ledger) (d : Datagram) (place : ℕ) : Type 0 where
  pub seen_stays : new.seen ≡ old.seen
  pub nothing_seen : seen_under old (key_bytes d) ≡ None
  pub nothing_once : once_under old (key_bytes d) ≡ None
  pub once_is : (e : Datagram) → HasKey e → once_under new (key_bytes e) ≡ cond (same_datagram e d) (Some place) (once_under old (key_bytes e))

-- one that neither map has
pub draws_first : (old new : Ledger) (d : Datagram) (place : ℕ) → HasKey d → Begins old new d place → DrawnOnceMore old new d place
draws_first old new d place d_fits b =
    let seen_same : (key : List ℕ) → seen_under new key ≡ seen_under old key =
    λ key. ap (λ (m : BTreeMap (Vec ℕ) Seen). get_by (λ k. slice_cmp nat_cmp key k.items) m) b.seen_stays in
    let none : seen_under new (key_bytes d) ≡ None = seen_same (key_bytes d) ∙ b.nothing_seen in
    let once : once_under new (key_bytes d) ≡ Some place =
    b.once_is d d_fits ∙ cond-true _ (Some place) (once_under old (key_bytes d)) (same_itself d) in
    let before : drawn_at old d ≡ [] = ap (λ (o : Option Seen). places_known o (once_under old (key_bytes d))) b.nothing_seen
    ∙ ap (places_known None) b.nothing_once in
    let after : drawn_at new d ≡ place ∷ [] = ap (λ (o : Option Seen). places_known o (once_under new (key_bytes d))) none ∙ ap (places_known None) once in
    draws_at old new d place (ap times_seen (seen_same (key_bytes d)), after ∙ ap (λ (ps : List ℕ). ps ++ place ∷ []) (sym before)) (λ e fits differ.
    others_stay old new e (seen_same (key_bytes e)) (b.once_is e fits ∙ cond-false _ (Some place) (once_under old (key_bytes e)) differ))
