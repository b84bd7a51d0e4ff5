-- When all that was said of a record's node is void.
use Rattle.state_writer.proofs.Words.{Bool, Follows, Full, Kind, Lab, List, Quiet, Record, ap, copied, false, faulted, forgot, handed, has_changed, hosted, is_changed, is_restart, kinds, missing, none_left, passed, put, quiet, reached, record_of, restarted, settled, shut, strayed, sym, ticks, uncopied, voids, ◌||◌, ◌∙◌, ◌≡◌}

-- a record in which no node is given anything changes no address
keeps_address : (lab : Lab) (H : List Full) (r : Full) → Quiet lab H r → is_changed r.fate ≡ false
keeps_address lab H r (passed ms asked none is) = ap (λ (x : Full). is_changed x.fate) is
keeps_address lab H r (shut number k x by there way is) = ap (λ (x : Full). is_changed x.fate) is
keeps_address lab H r (strayed number x by there way is) = ap (λ (x : Full). is_changed x.fate) is
keeps_address lab H r (missing number by none is) = ap (λ (x : Full). is_changed x.fate) is
keeps_address lab H r (none_left asked none is) = ap (λ (x : Full). is_changed x.fate) is
keeps_address lab H r (settled asked none is) = ap (λ (x : Full). is_changed x.fate) is
keeps_address lab H r (uncopied number src dst asked none is) = ap (λ (x : Full). is_changed x.fate) is
keeps_address lab H r (hosted v n x hands none is) = ap (λ (x : Full). is_changed x.fate) is
keeps_address lab H r (restarted n asked is) = ap (λ (x : Full). is_changed x.fate) is
keeps_address lab H r (forgot n who asked is) = ap (λ (x : Full). is_changed x.fate) is
keeps_address lab H r (faulted send asked is) = ap (λ (x : Full). is_changed x.fate) is

of_kind : (lab : Lab) (H : List Full) (r : Full) → Kind lab H r → has_changed r.entry ≡ is_changed r.fate
of_kind lab H r (quiet none address made let_out q) = ap has_changed none ∙ sym (keeps_address lab H r q)
of_kind lab H r (put src dst bytes asked is) = ap (λ (x : Full). has_changed x.entry) is ∙ sym (ap (λ (x : Full). is_changed x.fate) is)
of_kind lab H r (copied number src dst x asked there is) = ap (λ (x : Full). has_changed x.entry) is ∙ sym (ap (λ (x : Full). is_changed x.fate) is)
of_kind lab H r (ticks ms x asked due in_time is) = ap (λ (x : Full). has_changed x.entry) is ∙ sym (ap (λ (x : Full). is_changed x.fate) is)
of_kind lab H r (handed v n x a hands there is) = ap (λ (x : Full). has_changed x.entry) is ∙ sym (ap (λ (x : Full). is_changed x.fate) is)
of_kind lab H r (reached number n x a by there way node is) = ap (λ (x : Full). has_changed x.entry) is ∙ sym (ap (λ (x : Full). is_changed x.fate) is)

-- a record's fate says whether its node's address changed
pub changed_by_fate : (lab : Lab) (H : List Full) (r : Full) → Follows lab H r → has_changed r.entry ≡ is_changed r.fate
changed_by_fate lab H r follows = of_kind lab H r (kinds lab H r follows)

-- so the record says whether all that was said of its node is void
pub void_said : (lab : Lab) (H : List Full) (r : Full) (said : Record) → Follows lab H r → said ≡ record_of r
    → (is_restart said.act || is_changed said.fate) ≡ voids r
void_said lab H r said follows is =
    ap (λ (x : Record). is_restart x.act || is_changed x.fate) is
    ∙ ap (λ (b : Bool). is_restart r.act || b) (sym (changed_by_fate lab H r follows))
