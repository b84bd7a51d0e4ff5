-- What has room is printed, and how many bytes it takes.
use Rattle.report.proofs.Words.{EP_LEN, Ep, Err, LINE_LEN, List, Ok, Prints, Result, Room, ap, arith, decimal, ep_text, length, length-append, length-decimal-le, slice_index, ℕ, ◌++◌, ◌+◌, ◌<◌, ◌^◌, ◌≡◌, ◌≤◌}

pub printed : (r : Result (Unit {0}) Room) (old new text : List ℕ) → Prints r old new text → length old + length text ≤ LINE_LEN → new ≡ old ++ text
printed (Ok x) old new text p room = p.1
printed (Err e) old new text p room = absurd (omega (arith, p.0, length-append old text))

pub length_after : (old new text : List ℕ) (most : ℕ) → new ≡ old ++ text → length text ≤ most → length new ≤ length old + most
length_after old new text most e le = omega (arith, ap length e, length-append old text)

part_length : (n : ℕ) → n < 256 → length (decimal n) ≤ 3
part_length n small = length-decimal-le 3 n (omega arith) (omega arith) (omega arith)

port_length : (n : ℕ) → n < 2 ^ 16 → length (decimal n) ≤ 5
port_length n small = length-decimal-le 5 n (omega arith) (omega arith) (omega arith)

pub ep_length : (ep : Ep) → slice_index ep.ip.0 0 < 256 → slice_index ep.ip.0 1 < 256 → slice_index ep.ip.0 2 < 256 → slice_index ep.ip.0 3 < 256 → ep.port < 2 ^ 16 → length (ep_text ep) ≤ EP_LEN
ep_length ep a b c d port = simp length-append (omega (arith, part_length _ a, part_length _ b, part_length _ c, part_length _ d, port_length _ port))
