use Rattle.teredo_addr.proofs.Words.{List, ap, arith, hidden_ep, length, sym, ℕ, ◌%◌, ◌-◌, ◌/◌, ◌∙◌, ◌∷◌}
use Rattle.teredo_addr.proofs.Cells.{four}
use Rattle.teredo_addr.proofs.HiddenLaws.{hidden_len}
use Rattle.teredo_addr.proofs.hidden_endpoint.hide.Goals as goal

pub returns-clause-hidden : goal.returns-clause-hidden
unfolding hidden_ep
returns-clause-hidden c =
    let port = 65535 - c.args.ep.port in
    let ip = c.inverted.result in
    rw c.to_be_bytes.ensures (ap (λ (t : List ℕ). port / 256 % 256 ∷ port % 256 ∷ t) (sym (four ip (ap length c.inverted.ensures ∙ hidden_len c.args.ep.ip.0 ∙ omega arith)) ∙ c.inverted.ensures))
