use Rattle.world.proofs.Words.{HasItsNat, List, Mark, Outlet, Puts, [], on_err_always, six_sent, subst}
use Rattle.world.proofs.Sent.{on_ok_always}
use Rattle.world.proofs.Amid.{amid_whole}
use Rattle.world.proofs.sender.put_all.Goals as goal

pub returns-in-Silent-clause-puts : goal.returns-in-Silent-clause-puts
returns-in-Silent-clause-puts c = rw (c.in-Silent.is) (λ lab H is.
    subst (λ (before : List Mark). Puts c.args.wire.now c.put_six.new.wire before c.put_six.new.marks (six_sent c.args.packet) c.put_six.result) c.requires.none c.put_six.ensures.puts)

pub returns-in-Silent-clause-knows : goal.returns-in-Silent-clause-knows
returns-in-Silent-clause-knows c = rw (c.in-Silent.is) (on_ok_always c.put_six.result (λ lab H is. is))

pub returns-in-Own-clause-puts : goal.returns-in-Own-clause-puts
returns-in-Own-clause-puts c = rw (c.in-Own.is) (λ lab H is. c.put_own.ensures.puts)

pub returns-in-Own-clause-knows : goal.returns-in-Own-clause-knows
returns-in-Own-clause-knows c = rw (c.in-Own.is) (on_ok_always c.put_own.result (λ lab H is. is))

pub put_through-requires-clause-nat : goal.put_through-requires-clause-nat
put_through-requires-clause-nat c = subst (λ (o : Outlet). HasItsNat o c.args.nats.now.topology) c.in-Through.is c.requires.nat

pub returns-in-Through-clause-puts : goal.returns-in-Through-clause-puts
returns-in-Through-clause-puts c = rw (c.in-Through.is) (λ lab H is. c.put_through.ensures.puts lab H is)

pub returns-in-Through-clause-knows : goal.returns-in-Through-clause-knows
returns-in-Through-clause-knows c = rw (c.in-Through.is) c.put_through.ensures.knows

pub returns-in-Silent-clause-amid : goal.returns-in-Silent-clause-amid
returns-in-Silent-clause-amid c = rw (c.in-Silent.is) (on_err_always c.put_six.result (λ lab H is. amid_whole lab H [] c.args.nats.now is))

pub returns-in-Own-clause-amid : goal.returns-in-Own-clause-amid
returns-in-Own-clause-amid c = rw (c.in-Own.is) (on_err_always c.put_own.result (λ lab H is. amid_whole lab H [] c.args.nats.now is))

pub returns-in-Through-clause-amid : goal.returns-in-Through-clause-amid
returns-in-Through-clause-amid c = rw (c.in-Through.is) c.put_through.ensures.amid
