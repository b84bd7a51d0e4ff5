use Rattle.world.proofs.Words.{ap, emitted_by, front_of, sym, ℕ, ◌∙◌}
use Rattle.world.proofs.Entered.{puts_not, cut_back}
use Rattle.world.proofs.sender.emit.Goals as goal

pub returns-in-Err-clause-puts : goal.returns-in-Err-clause-puts
returns-in-Err-clause-puts c = λ lab H is.
    puts_not c.args.wire.now c.put_all.new.wire c.cut.new.self c.put_all.new.marks (emitted_by lab H c.args.sender c.args.packet c.args.step.now.sends).made c.in-Err.stop (c.in-Err.ensures.puts lab H is)

pub returns-in-Err-clause-err : goal.returns-in-Err-clause-err
returns-in-Err-clause-err c = (
  c.cut.ensures ∙ ap (λ (n : ℕ). front_of n c.put_all.new.wire) c.len-len.ensures.count
      ∙ cut_back c.args.wire.now c.put_all.new.wire c.in-Err.ensures.err (sym c.len-len.ensures.each ∙ c.len-len.ensures.count),
  c.clear.ensures ∙ sym c.requires.none,
)
