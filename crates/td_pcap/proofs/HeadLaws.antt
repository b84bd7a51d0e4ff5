-- What is read of a head is spelled so, and what is spelled so is read.
use Rattle.td_pcap.proofs.Words.{BeginsWithHead, BeginsWithMagic, Big, Bool, CapFault, Cut, Err, Head, IfErr, IfOk, IsBytes, IsHead, IsHeadFault, Link, List, Magic, None, Ok, Option, Result, Some, Version, and_from, and_parts, ap, append_assoc, arith, big_bytes, chosen, cond, cond-false, cut_4, drop, eq-eqb, eqb, eqb-false, eqb-true, false, file_head, form_shown, guard_err, guard_ok, head_behind, head_by, head_bytes, head_of, inl, inr, le-ltb, length, length-append, ltb, ltb-false, ltb-true, magic_bytes, magic_of, not, not-false, not-true, number_at, ordered_bytes, ordered_number, refl, subst, sym, take, take-append-drop, take_at, true, ℕ, ◌&&◌, ◌++◌, ◌∙◌, ◌≡◌, ◌≤◌}
use Rattle.td_pcap.proofs.OrderLaws.{length-ordered_bytes, ordered_number-lt, number_in_front, number_stands, more_behind, stands_2, stands_4, joined}

abbrev pub Form : Type 0
Form = Bool × Bool

abbrev form : Bool → Bool → Option Form
form little nano = Some (little, nano)

form_is : (a b : Form) → form a.0 a.1 ≡ form b.0 b.1 → a ≡ b
form_is a b e = cc

abbrev no_form : Option Form
no_form = None

abbrev pub head : Head → Result Head CapFault
head h = Ok h

pub head_is : (a b : Head) → head a ≡ head b → a ≡ b
head_is a b e = cc

pub head_len : (h : Head) → length (head_bytes h) ≡ 24
unfolding head_bytes
head_len h =
    let two = λ (number : ℕ). length-ordered_bytes h.little 2 number in
    let four = λ (number : ℕ). length-ordered_bytes h.little 4 number in
    let f : List ℕ = ordered_bytes h.little 4 101 in
    let e : List ℕ = ordered_bytes h.little 4 h.snap ++ f in
    let d : List ℕ = ordered_bytes h.little 4 h.figs ++ e in
    let c : List ℕ = ordered_bytes h.little 4 h.zone ++ d in
    let b : List ℕ = ordered_bytes h.little 2 4 ++ c in
    let a : List ℕ = ordered_bytes h.little 2 2 ++ b in
    omega (
      arith,
      length-append (magic_bytes h.little h.nano) a,
      length-append (ordered_bytes h.little 2 2) b,
      length-append (ordered_bytes h.little 2 4) c,
      length-append (ordered_bytes h.little 4 h.zone) d,
      length-append (ordered_bytes h.little 4 h.figs) e,
      length-append (ordered_bytes h.little 4 h.snap) f,
      four (magic_of h.nano),
      two 2,
      two 4,
      four h.zone,
      four h.figs,
      four h.snap,
      four 101,
    )

-- a magic shows its form
magic_shows : (little nano : Bool) (more : List ℕ) → form_shown (number_at 0 4 (magic_bytes little nano ++ more)) ≡ form little nano
unfolding form_shown
magic_shows true true more = refl
magic_shows true false more = refl
magic_shows false true more = refl
magic_shows false false more = refl

pub shown_by_magic : (little nano : Bool) (x : List ℕ) → BeginsWithMagic little nano x → form_shown (number_at 0 4 x) ≡ form little nano
shown_by_magic little nano x is =
    let whole : x ≡ magic_bytes little nano ++ drop 4 x = sym (take-append-drop 4 x) ∙ ap (λ (t : List ℕ). t ++ drop 4 x) is in
    ap (λ (t : List ℕ). form_shown (number_at 0 4 t)) whole ∙ magic_shows little nano (drop 4 x)

abbrev Spells : ℕ → Form → Type 0
Spells said f = big_bytes 4 said ≡ magic_bytes f.0 f.1

spells : (said magic : ℕ) (f g : Form) → eqb said magic ≡ true → Spells magic f → form f.0 f.1 ≡ form g.0 g.1 → Spells said g
spells said magic f g is there same =
    subst (Spells said) (form_is f g same) (ap (big_bytes 4) (eqb-true _ _ is) ∙ there)

-- what shows a form is its magic
magic_said : (said : ℕ) (f : Form) → form_shown said ≡ form f.0 f.1 → Spells said f
unfolding form_shown
magic_said said f shows =
    let last : Option Form = cond (eqb said 0x4d3cb2a1) (form true true) no_form in
    let third : Option Form = cond (eqb said 0xd4c3b2a1) (form true false) last in
    let second : Option Form = cond (eqb said 0xa1b23c4d) (form false true) third in
    elim (chosen (eqb said 0xa1b2c3d4) (form false false) second (form f.0 f.1) shows) [
      | inl a ↦ spells said 0xa1b2c3d4 (false, false) f a.0 refl a.1
      | inr not_a ↦
          elim (chosen (eqb said 0xa1b23c4d) (form false true) third (form f.0 f.1) not_a.1) [
            | inl b ↦ spells said 0xa1b23c4d (false, true) f b.0 refl b.1
            | inr not_b ↦
                elim (chosen (eqb said 0xd4c3b2a1) (form true false) last (form f.0 f.1) not_b.1) [
                  | inl c ↦ spells said 0xd4c3b2a1 (true, false) f c.0 refl c.1
                  | inr not_c ↦
                      elim (chosen (eqb said 0x4d3cb2a1) (form true true) no_form (form f.0 f.1) not_c.1) [
                        | inl d ↦ spells said 0x4d3cb2a1 (true, true) f d.0 refl d.1
                        | inr none ↦ absurd cc
                      ]
                ]
          ]
    ]

begins_with_magic : (x : List ℕ) (f : Form) → IsBytes x → 4 ≤ length x → form_shown (number_at 0 4 x) ≡ form f.0 f.1 → BeginsWithMagic f.0 f.1 x
begins_with_magic x f fits long shows =
    let n = number_at 0 4 x in
    let whole = cut_4 0 x fits long in
    ap (take 4) whole ∙ take_at (big_bytes 4 n) (drop 4 x) 4 (length-ordered_bytes false 4 n) ∙ magic_said n f shows

made : (little nano : Bool) (zone figs snap : ℕ) → Head
made l n z f s = record { little = l; nano = n; zone = z; figs = f; snap = s }

same_head : (a b : Head) → a.little ≡ b.little → a.nano ≡ b.nano → a.zone ≡ b.zone → a.figs ≡ b.figs → a.snap ≡ b.snap → a ≡ b
unfolding made
same_head a b little nano zone figs snap =
    let e : made a.little a.nano a.zone a.figs a.snap ≡ made b.little b.nano b.zone b.figs b.snap = cc in
    e

-- a head is spelled by what stands at its places
spelled : (little nano : Bool) (x : List ℕ) → IsBytes x → 24 ≤ length x → BeginsWithMagic little nano x → ordered_number little 4 2 x ≡ 2 → ordered_number little 6 2 x ≡ 4 → ordered_number little 20 4 x ≡ 101
    → x ≡ head_bytes (head_of little nano x) ++ drop 24 x
unfolding head_bytes head_of
spelled little nano x fits long magic major minor link =
    let four = λ (place : ℕ). ordered_bytes little 4 (ordered_number little place 4 x) in
    let a : x ≡ magic_bytes little nano ++ drop 4 x = sym (take-append-drop 4 x) ∙ ap (λ (t : List ℕ). t ++ drop 4 x) magic in
    let b = stands_2 little 4 6 x fits (omega arith) refl ∙ ap (λ (n : ℕ). ordered_bytes little 2 n ++ drop 6 x) major in
    let c = stands_2 little 6 8 x fits (omega arith) refl ∙ ap (λ (n : ℕ). ordered_bytes little 2 n ++ drop 8 x) minor in
    let d = stands_4 little 8 12 x fits (omega arith) refl in
    let e = stands_4 little 12 16 x fits (omega arith) refl in
    let f = stands_4 little 16 20 x fits (omega arith) refl in
    let g = stands_4 little 20 24 x fits (omega arith) refl ∙ ap (λ (n : ℕ). ordered_bytes little 4 n ++ drop 24 x) link in
    let rest : List ℕ = drop 24 x in
    let link_bytes : List ℕ = ordered_bytes little 4 101 in
    let from_16 = joined (four 16) link_bytes rest (drop 16 x) (drop 20 x) f g in
    let from_12 = joined (four 12) (four 16 ++ link_bytes) rest (drop 12 x) (drop 16 x) e from_16 in
    let from_8 = joined (four 8) (four 12 ++ (four 16 ++ link_bytes)) rest (drop 8 x) (drop 12 x) d from_12 in
    let from_6 = joined (ordered_bytes little 2 4) (four 8 ++ (four 12 ++ (four 16 ++ link_bytes))) rest (drop 6 x) (drop 8 x) c from_8 in
    let from_4 = joined (ordered_bytes little 2 2) (ordered_bytes little 2 4 ++ (four 8 ++ (four 12 ++ (four 16 ++ link_bytes)))) rest (drop 4 x) (drop 6 x) b from_6 in
    joined (magic_bytes little nano) (ordered_bytes little 2 2 ++ (ordered_bytes little 2 4 ++ (four 8 ++ (four 12 ++ (four 16 ++ link_bytes))))) rest x (drop 4 x) a from_4

-- the two tests behind the magic's
abbrev link_test : Bool → Bool → List ℕ → Result Head CapFault
link_test little nano x = cond (not (eqb (ordered_number little 20 4 x) 101)) (Err (Link (ordered_number little 20 4 x))) (head (head_of little nano x))

abbrev version_is : Bool → List ℕ → Bool
version_is little x = (eqb (ordered_number little 4 2 x) 2) && (eqb (ordered_number little 6 2 x) 4)

found_behind : (little nano : Bool) (x : List ℕ) (h : Head) → IsBytes x → 24 ≤ length x → BeginsWithMagic little nano x → head_behind little nano x ≡ Ok h → BeginsWithHead h x
unfolding head_behind head_of
found_behind little nano x h fits long magic read =
    let a = guard_ok (not (version_is little x)) (Version (ordered_number little 4 2 x) (ordered_number little 6 2 x)) (link_test little nano x) h read in
    let b = guard_ok (not (eqb (ordered_number little 20 4 x) 101)) (Link (ordered_number little 20 4 x)) (head (head_of little nano x)) h a.1 in
    let version = and_parts _ _ (not-false _ a.0) in
    let is = head_is (head_of little nano x) h b.1 in
    subst (λ (g : Head). BeginsWithHead g x) is (record {
      fits = record { zone = ordered_number-lt little 8 4 x fits; figs = ordered_number-lt little 12 4 x fits; snap = ordered_number-lt little 16 4 x fits };
      rest = drop 24 x;
      bytes = spelled little nano x fits long magic (eqb-true _ _ version.0) (eqb-true _ _ version.1) (eqb-true _ _ (not-false _ b.0));
    })

by_form : (x : List ℕ) (f : Option Form) (h : Head) → form_shown (number_at 0 4 x) ≡ f → IsBytes x → 24 ≤ length x → head_by f x ≡ Ok h → BeginsWithHead h x
by_form x None h shows fits long read = absurd cc
by_form x (Some f) h shows fits long read = found_behind f.0 f.1 x h fits long (begins_with_magic x f fits (omega arith) shows) read

pub head_found : (x : List ℕ) (h : Head) → IsBytes x → file_head x ≡ Ok h → BeginsWithHead h x
unfolding file_head
head_found x h fits read =
    let a = guard_ok (ltb (length x) 24) (Cut 0) (head_by (form_shown (number_at 0 4 x)) x) h read in
    by_form x (form_shown (number_at 0 4 x)) h refl fits (ltb-false _ _ a.0) a.1

-- what a head that x begins with shows
pub record ShownHead (h : Head) (x : List ℕ) : Type 0 where
  pub magic : BeginsWithMagic h.little h.nano x
  pub major : ordered_number h.little 4 2 x ≡ 2
  pub minor : ordered_number h.little 6 2 x ≡ 4
  pub link : ordered_number h.little 20 4 x ≡ 101
  pub is : head_of h.little h.nano x ≡ h
  pub long : 24 ≤ length x

shown : (h : Head) (rest : List ℕ) → IsHead h → ShownHead h (head_bytes h ++ rest)
unfolding head_of head_bytes
shown h rest fits =
    let l = h.little in
    let x : List ℕ = head_bytes h ++ rest in
    let g : List ℕ = ordered_bytes l 4 101 in
    let f : List ℕ = ordered_bytes l 4 h.snap ++ g in
    let e : List ℕ = ordered_bytes l 4 h.figs ++ f in
    let d : List ℕ = ordered_bytes l 4 h.zone ++ e in
    let c : List ℕ = ordered_bytes l 2 4 ++ d in
    let b : List ℕ = ordered_bytes l 2 2 ++ c in
    let at_4 : drop 4 x ≡ b ++ rest = more_behind l 0 4 4 (magic_of h.nano) x b rest refl refl in
    let at_6 : drop 6 x ≡ c ++ rest = more_behind l 4 2 6 2 x c rest refl at_4 in
    let at_8 : drop 8 x ≡ d ++ rest = more_behind l 6 2 8 4 x d rest refl at_6 in
    let at_12 : drop 12 x ≡ e ++ rest = more_behind l 8 4 12 h.zone x e rest refl at_8 in
    let at_16 : drop 16 x ≡ f ++ rest = more_behind l 12 4 16 h.figs x f rest refl at_12 in
    let at_20 : drop 20 x ≡ g ++ rest = more_behind l 16 4 20 h.snap x g rest refl at_16 in
    let zone = number_in_front l 8 4 h.zone x e rest fits.zone at_8 in
    let figs = number_in_front l 12 4 h.figs x f rest fits.figs at_12 in
    let snap = number_in_front l 16 4 h.snap x g rest fits.snap at_16 in
    record {
      magic = ap (take 4) (append_assoc (magic_bytes l h.nano) b rest) ∙ take_at (magic_bytes l h.nano) (b ++ rest) 4 (length-ordered_bytes l 4 (magic_of h.nano));
      major = number_in_front l 4 2 2 x c rest (omega arith) at_4;
      minor = number_in_front l 6 2 4 x d rest (omega arith) at_6;
      link = number_stands l 20 4 101 x rest (omega arith) at_20;
      is = same_head (head_of l h.nano x) h refl refl zone figs snap;
      long = omega (arith, length-append (head_bytes h) rest, head_len h);
    }

pub begins_shown : (h : Head) (x : List ℕ) → BeginsWithHead h x → ShownHead h x
begins_shown h x begins = subst (ShownHead h) (sym begins.bytes) (shown h begins.rest begins.fits)

-- what shows a head is read as it
read_shown : (h : Head) (x : List ℕ) → ShownHead h x → file_head x ≡ Ok h
unfolding file_head head_behind
read_shown h x s =
    let l = h.little in
    let long = s.long in
    let enough : ltb (length x) 24 ≡ false = le-ltb _ _ (omega arith) in
    let version : not (version_is l x) ≡ false = ap not (and_from _ _ (eq-eqb _ _ s.major) (eq-eqb _ _ s.minor)) in
    cond-false _ _ _ enough ∙ ap (λ (o : Option Form). head_by o x) (shown_by_magic l h.nano x s.magic)
    ∙ cond-false _ _ _ version ∙ cond-false _ _ _ (ap not (eq-eqb _ _ s.link)) ∙ ap head s.is

-- a spelling is read, whatever follows
pub head_again : (h : Head) (rest : List ℕ) → IsHead h → file_head (head_bytes h ++ rest) ≡ Ok h
head_again h rest fits = read_shown h (head_bytes h ++ rest) (shown h rest fits)

pub head_read : (h : Head) (x : List ℕ) → BeginsWithHead h x → file_head x ≡ Ok h
head_read h x begins = read_shown h x (begins_shown h x begins)

fault_behind : (little nano : Bool) (x : List ℕ) (e : CapFault) → 24 ≤ length x → BeginsWithMagic little nano x → head_behind little nano x ≡ Err e → IsHeadFault e x
unfolding head_behind
fault_behind little nano x e long magic read =
    let major = ordered_number little 4 2 x in
    let minor = ordered_number little 6 2 x in
    elim (guard_err (not (version_is little x)) (Version major minor) (link_test little nano x) e read) [
      | inl version ↦
          let other : version_is little x ≡ false = not-true _ version.0 in
          subst (λ (f : CapFault). IsHeadFault f x) version.1 (
            long,
            record {
              little = little;
              nano = nano;
              magic = magic;
              major_is = refl;
              minor_is = refl;
              other = λ two four. absurd (let both : version_is little x ≡ true = and_from _ _ (eq-eqb _ _ two) (eq-eqb _ _ four) in cc);
            },
          )
      | inr a ↦
          let version = and_parts _ _ (not-false _ a.0) in
          elim (guard_err (not (eqb (ordered_number little 20 4 x) 101)) (Link (ordered_number little 20 4 x)) (head (head_of little nano x)) e a.1) [
            | inl link ↦
                subst (λ (f : CapFault). IsHeadFault f x) link.1 (
                  long,
                  record {
                    little = little;
                    nano = nano;
                    magic = magic;
                    major = eqb-true _ _ version.0;
                    minor = eqb-true _ _ version.1;
                    said_is = refl;
                    other = eqb-false _ _ (not-true _ link.0);
                  },
                )
            | inr done ↦ absurd cc
          ]
    ]

fault_by_form : (x : List ℕ) (f : Option Form) (e : CapFault) → form_shown (number_at 0 4 x) ≡ f → IsBytes x → 24 ≤ length x → head_by f x ≡ Err e → IsHeadFault e x
fault_by_form x None e shows fits long read =
    let none : (little nano : Bool) → BeginsWithMagic little nano x → ⊥ = λ little nano begins. absurd (let some = shown_by_magic little nano x begins in cc) in
    let is : Magic (number_at 0 4 x) ≡ e = cc in
    subst (λ (f : CapFault). IsHeadFault f x) is (long, refl, none)
fault_by_form x (Some f) e shows fits long read = fault_behind f.0 f.1 x e long (begins_with_magic x f fits (omega arith) shows) read

pub head_fault : (x : List ℕ) (e : CapFault) → IsBytes x → file_head x ≡ Err e → IsHeadFault e x
unfolding file_head
head_fault x e fits read =
    elim (guard_err (ltb (length x) 24) (Cut 0) (head_by (form_shown (number_at 0 4 x)) x) e read) [
      | inl cut ↦ subst (λ (f : CapFault). IsHeadFault f x) cut.1 (refl, ltb-true _ _ cut.0)
      | inr a ↦ fault_by_form x (form_shown (number_at 0 4 x)) e refl fits (ltb-false _ _ a.0) a.1
    ]

pub is_head : (x : List ℕ) (r : Result Head CapFault) → IsBytes x → r ≡ file_head x → IfOk r (λ h. BeginsWithHead h x)
is_head x (Ok h) fits given = head_found x h fits (sym given)
is_head x (Err e) fits given = tt

pub is_fault : (x : List ℕ) (r : Result Head CapFault) → IsBytes x → r ≡ file_head x → IfErr r (λ e. IsHeadFault e x)
is_fault x (Ok h) fits given = tt
is_fault x (Err e) fits given = head_fault x e fits (sym given)

-- bytes begin with one magic at most
one_magic : (h : Head) (little nano : Bool) (x : List ℕ) → ShownHead h x → BeginsWithMagic little nano x → h.little ≡ little
one_magic h little nano x s magic =
    ap (λ (f : Form). f.0) (form_is (h.little, h.nano) (little, nano) (sym (shown_by_magic h.little h.nano x s.magic) ∙ shown_by_magic little nano x magic))

-- what begins with a head has no fault of a head
pub no_head_fault : (h : Head) (x : List ℕ) (e : CapFault) → ShownHead h x → IsHeadFault e x → ⊥
no_head_fault h x (Cut at) s fault = let long = s.long in omega (arith, fault.1, long)
no_head_fault h x (Magic said) s fault = fault.2 h.little h.nano s.magic
no_head_fault h x (Version major minor) s fault =
    let o = fault.1 in
    let order = one_magic h o.little o.nano x s o.magic in
    let two = o.major_is ∙ ap (λ (l : Bool). ordered_number l 4 2 x) (sym order) ∙ s.major in
    let four = o.minor_is ∙ ap (λ (l : Bool). ordered_number l 6 2 x) (sym order) ∙ s.minor in
    o.other two four
no_head_fault h x (Link said) s fault =
    let o = fault.1 in
    let order = one_magic h o.little o.nano x s o.magic in
    o.other (o.said_is ∙ ap (λ (l : Bool). ordered_number l 20 4 x) (sym order) ∙ s.link)
no_head_fault h x (Big at said) s fault = fault
