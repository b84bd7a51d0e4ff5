use Rattle.td_explain.proofs.Words.{Some, [], datagram, false, is_audited, sym, true, ◌++◌, ◌∙◌, ◌∷◌, ◌≡◌}
use Rattle.td_explain.proofs.CameLaws.{other_came}
use Rattle.td_explain.proofs.TellLaws.{room, came_now, past_recount}
use Rattle.td_explain.proofs.past.Past.come.Goals as goal

pub returns-then-not-is_audited : goal.returns-then-not-is_audited
returns-then-not-is_audited c = λ held small keeps.
    let s = c.args.settings.now in
    let d = datagram c.args.src c.args.dst c.args.body.now in
    let other : is_audited s d.src ≡ false = sym c.is_audited.ensures ∙ c.if-not-is_audited.true in
    past_recount s c.args.self.now held (held ++ Some d ∷ []) held (other_came s held d other) keeps

pub returns : goal.returns
returns c = λ held small keeps.
    let s = c.args.settings.now in
    let l = c.args.self.now.ledger in
    let d = datagram c.args.src c.args.dst c.args.body.now in
    let from : is_audited s d.src ≡ true = sym c.is_audited.ensures ∙ c.if-not-is_audited.false in
    let fits = c.come.ensures.fits in
    record {
      ledger = came_now s l c.come.new.self held d keeps.ledger (c.in_ok-come.ensures.known (room s l held d fits from small keeps.ledger));
      latest = keeps.latest;
    }
