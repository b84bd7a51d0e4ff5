use Rattle.world.proofs.Words.{[], err_from_is_err_and, outright, six_sent, source_at}
use Rattle.world.proofs.Entered.{puts_then, puts_stop}
use Rattle.world.proofs.sender.put_own.Goals as goal

pub returns-clause-puts : goal.returns-clause-puts
returns-clause-puts c =
    puts_then (outright (source_at c.args.from.primary c.args.from.secondary) c.args.fails 0 c.args.step.now.sends) (six_sent c.args.packet)
    c.args.wire.now c.put_outright.new.wire c.put_six.new.wire [] c.put_outright.new.marks c.put_six.new.marks c.put_six.result
    c.in_ok-put_outright.ensures.puts c.put_six.ensures.puts

pub returns-in_err-put_outright-clause-puts : goal.returns-in_err-put_outright-clause-puts
returns-in_err-put_outright-clause-puts c =
    let p = err_from_is_err_and c.from_residual.result c.from_residual.ensures.1 in
    rw (p.1, p.2) (puts_stop (outright (source_at c.args.from.primary c.args.from.secondary) c.args.fails 0 c.args.step.now.sends)
    (six_sent c.args.packet) c.args.wire.now c.put_outright.new.wire c.put_outright.new.wire [] c.put_outright.new.marks
    c.put_outright.new.marks c.in_err-put_outright.field-0.0
    c.in_err-put_outright.ensures.puts)
