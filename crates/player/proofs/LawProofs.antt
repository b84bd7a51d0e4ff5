-- The laws of this crate, each under the name of its call: crates above cite them from here.
use Rattle.player.proofs.Words.{PiecesAreACapture}
use Rattle.player.proofs.CaptureText as capture_text

pub pieces_are_a_capture : PiecesAreACapture
pieces_are_a_capture = λ lab H. capture_text.pieces_text lab H
