use Rattle.player.proofs.Words.{nothing_wrote}
use Rattle.player.proofs.capture_writer.CaptureWriterListener.end.Goals as goal

pub returns : goal.returns
returns g c = λ d H kept stands. nothing_wrote _
