use Rattle.indications.proofs.Words.{List, ap, auth_bytes, front_is, front_more, front_none, lead_at, option_map, optional, origin_bytes, with_nonce, ℕ, ◌++◌, ◌∙◌}
use Rattle.indications.proofs.LeadLaws.{given_fits, written_again}
use Rattle.indications.proofs.writer.write.Goals as goal

pub returns-clause-blocks : goal.returns-clause-blocks
returns-clause-blocks c = given_fits c.args.nonce c.args.origin c.put_nonce-at.ensures.fits c.put_origin.ensures.fits

pub returns-clause-again : goal.returns-clause-again
returns-clause-again c =
    let nonce = c.args.nonce in
    let ep = c.args.origin in
    let a = front_more c.put_nonce-at.result (optional auth_bytes (option_map with_nonce nonce)) c.put_nonce-at.new.out (front_none c.args.out.now) c.put_nonce-at.ensures.put c.put_nonce-at.ensures.after in
    let b = front_more c.put_origin.result (optional origin_bytes ep) c.put_origin.new.out a c.put_origin.ensures.put c.put_origin.ensures.after in
    λ rest six. ap (λ (t : List ℕ). lead_at (t ++ rest)) (front_is b) ∙ written_again nonce ep rest (returns-clause-blocks c) six
