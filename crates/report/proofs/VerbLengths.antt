-- An event's word is short.
use Rattle.report.proofs.Words.{Verb, arith, length, verb_word, ◌≤◌}
use Rattle.events.specs.declared.verb.Verb.TheVariants as verb

pub verb_short : (v : Verb) → length (verb_word v) ≤ 8
verb_short verb.Advance = omega arith
verb_short verb.Deliver = omega arith
verb_short verb.Next = omega arith
verb_short verb.Host = omega arith
verb_short verb.Echo = omega arith
verb_short verb.Raw = omega arith
verb_short verb.Stranger = omega arith
verb_short verb.Copy = omega arith
verb_short verb.Restart = omega arith
verb_short verb.Forget = omega arith
verb_short verb.Fault = omega arith
verb_short verb.Settle = omega arith
