-- Which event a delivery is of.
use Rattle.legal.proofs.Words.{EachIsAskedFor, Full, IsAskedFor, Kind, Lab, List, Quiet, ap, delivers, faulted, forgot, handed, inl, inr, is_delivering, missing, none_left, others, passed, put, quiet, reached, restarted, settled, shut, strayed, uncopied}
use Rattle.legal.specs.Kinds.{hosted}
use Rattle.legal.specs.Kinds.{copied, ticks}
use Rattle.legal.proofs.ByKind.{kind_of}

of_quiet : (lab : Lab) (H : List Full) (r : Full) → Quiet lab H r → IsAskedFor H r
of_quiet lab H r (passed ms asked before is) = others (ap (λ (z : Full). is_delivering z.act) is) (ap (λ (z : Full). z.delivered) is)
of_quiet lab H r (shut number k x asks at goes is) = delivers number (ap (λ (z : Full). z.act) is) asks (inl (ap (λ (z : Full). z.delivered) is))
of_quiet lab H r (strayed number x asks at goes is) = delivers number (ap (λ (z : Full). z.act) is) asks (inl (ap (λ (z : Full). z.delivered) is))
of_quiet lab H r (missing number asks at is) = delivers number (ap (λ (z : Full). z.act) is) asks (inr (at, ap (λ (z : Full). z.delivered) is))
of_quiet lab H r (none_left asked none is) = others (ap (λ (z : Full). is_delivering z.act) is) (ap (λ (z : Full). z.delivered) is)
of_quiet lab H r (settled asked none is) = others (ap (λ (z : Full). is_delivering z.act) is) (ap (λ (z : Full). z.delivered) is)
of_quiet lab H r (uncopied number src dst asked at is) = others (ap (λ (z : Full). is_delivering z.act) is) (ap (λ (z : Full). z.delivered) is)
of_quiet lab H r (hosted v n x hands at is) = others (ap (λ (z : Full). is_delivering z.act) is) (ap (λ (z : Full). z.delivered) is)
of_quiet lab H r (restarted n asked is) = others (ap (λ (z : Full). is_delivering z.act) is) (ap (λ (z : Full). z.delivered) is)
of_quiet lab H r (forgot n who asked is) = others (ap (λ (z : Full). is_delivering z.act) is) (ap (λ (z : Full). z.delivered) is)
of_quiet lab H r (faulted send asked is) = others (ap (λ (z : Full). is_delivering z.act) is) (ap (λ (z : Full). z.delivered) is)

of_kind : (lab : Lab) (H : List Full) (r : Full) → Kind lab H r → IsAskedFor H r
of_kind lab H r (quiet entry address made lets why) = of_quiet lab H r why
of_kind lab H r (put src dst bytes asked is) = others (ap (λ (z : Full). is_delivering z.act) is) (ap (λ (z : Full). z.delivered) is)
of_kind lab H r (copied number src dst x asked at is) = others (ap (λ (z : Full). is_delivering z.act) is) (ap (λ (z : Full). z.delivered) is)
of_kind lab H r (ticks ms x asked due within is) = others (ap (λ (z : Full). is_delivering z.act) is) (ap (λ (z : Full). z.delivered) is)
of_kind lab H r (handed v n x a hands at is) = others (ap (λ (z : Full). is_delivering z.act) is) (ap (λ (z : Full). z.delivered) is)
of_kind lab H r (reached number n x a asks at goes to is) = delivers number (ap (λ (z : Full). z.act) is) asks (inl (ap (λ (z : Full). z.delivered) is))

pub each_is_asked_for : EachIsAskedFor
each_is_asked_for lab H r follows = of_kind lab H r (kind_of lab H r follows)
