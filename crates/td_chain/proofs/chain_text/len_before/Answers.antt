use Rattle.td_chain.proofs.Words.{arith, sym}
use Rattle.td_chain.proofs.PairLemmas.{len_found, len_none}
use Rattle.td_chain.proofs.chain_text.len_before.Goals as goal

pub returns-in-Some : goal.returns-in-Some
returns-in-Some c =
    let h = len_found _ c.args.text.now c.in-Some.len (sym c.in-Some.ensures) in
    record { value = h.0; within = h.1 }

pub returns-in-None : goal.returns-in-None
returns-in-None c =
    let h = len_none _ c.args.text.now (sym c.in-None.ensures) in
    record { value = h; within = omega arith }
