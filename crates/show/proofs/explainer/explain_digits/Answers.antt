use Rattle.std.proofs.Common.{ℕ, replicate, arith}
use Rattle.std.proofs.lemmas.List.{length-replicate}
use Rattle.show.specs.Words.{bytes_said}
use Rattle.show.proofs.Digits.{decoded, room_fits}
use Rattle.show.proofs.Told.{fault_told, long_text}
use Rattle.show.proofs.explainer.explain_digits.Goals as goal

pub returns-then-len-gt-DATAGRAM_MAX-clause-text : goal.returns-then-len-gt-DATAGRAM_MAX-clause-text
returns-then-len-gt-DATAGRAM_MAX-clause-text c =
    let twice = (decoded _ c.requires.digits).1 in
    (fault_told _ _ _ _ c.requires.empty c.put_fault.ensures (long_text (bytes_said c.args.digits.now) _ (omega (arith, twice)) (omega arith))).0

pub returns-then-len-gt-DATAGRAM_MAX-clause-found : goal.returns-then-len-gt-DATAGRAM_MAX-clause-found
returns-then-len-gt-DATAGRAM_MAX-clause-found c =
    let twice = (decoded _ c.requires.digits).1 in
    (fault_told _ _ _ _ c.requires.empty c.put_fault.ensures (long_text (bytes_said c.args.digits.now) _ (omega (arith, twice)) (omega arith))).1

pub put_bytes-requires-clause-fits : goal.put_bytes-requires-clause-fits
put_bytes-requires-clause-fits c =
    let twice = (decoded _ c.requires.digits).1 in
    room_fits _ (replicate {A = ℕ} 1400 0) _ twice (omega arith) (length-replicate {A = ℕ} 1400 0)
