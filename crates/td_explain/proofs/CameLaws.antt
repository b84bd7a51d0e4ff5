-- How often datagrams came after one more record.
use Rattle.td_explain.proofs.Words.{Bool, Datagram, None, ServerSettings, Some, [], ap, arith, cases_Bool, count_more, false, inl, inr, is_audited, is_same, one_if, same_datagram, same_is, same_itself, sym, times, true, ◌++◌, ◌+◌, ◌∙◌, ◌∷◌, ◌≡◌}
use Rattle.td_explain.proofs.OutputLaws.{Held}

pub times_more : (e d : Datagram) (held : Held) → times e (held ++ Some d ∷ []) ≡ times e held + one_if (same_datagram e d)
times_more e d held = count_more (is_same e) held (Some d)

pub came_once : (d : Datagram) (held : Held) → times d (held ++ Some d ∷ []) ≡ times d held + 1
came_once d held = times_more d d held ∙ ap (λ (b : Bool). times d held + one_if b) (same_itself d)

pub came_as_before : (e d : Datagram) (held : Held) → same_datagram e d ≡ false → times e (held ++ Some d ∷ []) ≡ times e held
came_as_before e d held differ = omega (arith, times_more e d held, ap one_if differ)

-- of the server's datagrams none came more often
abbrev pub CameAsOften : ServerSettings → Held → Held → Type 0
CameAsOften s came more = (e : Datagram) → is_audited s e.src ≡ true → times e more ≡ times e came

-- one from elsewhere
pub other_came : (s : ServerSettings) (held : Held) (d : Datagram) → is_audited s d.src ≡ false → CameAsOften s held (held ++ Some d ∷ [])
other_came s held d other e from =
    elim (cases_Bool (same_datagram e d)) [
      | inl same ↦ absurd (let not : is_audited s d.src ≡ true = ap (λ (x : Datagram). is_audited s x.src) (sym (same_is e d same)) ∙ from in cc)
      | inr differ ↦ came_as_before e d held differ
    ]

-- none
pub none_came : (s : ServerSettings) (held : Held) → CameAsOften s held (held ++ None ∷ [])
none_came s held e from = omega (arith, count_more (is_same e) held None)
