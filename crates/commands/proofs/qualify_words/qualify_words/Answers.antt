use Rattle.commands.proofs.Words.{arith, ip4_text, refl, same_ip, same_ip_decides, sym, true, ◌∙◌, ◌≡◌}
use Rattle.commands.proofs.qualify_words.qualify_words.Goals as goal

pub returns-then-eq-clause-only : goal.returns-then-eq-clause-only
returns-then-eq-clause-only c = λ asked asks.
    let text = asks.text in
    let first : c.args.primary.now ≡ ip4_text asked.primary = cc in
    let second : c.args.secondary.now ≡ ip4_text asked.secondary = cc in
    let primary : c.in_ok-primary.primary ≡ asked.primary = let only = c.in_ok-primary.ensures.only asked.primary asks.primary first in cc in
    let secondary : c.in_ok-secondary.secondary ≡ asked.secondary = let only = c.in_ok-secondary.ensures.only asked.secondary asks.secondary second in cc in
    let same = (same_ip_decides c.in_ok-primary.primary c.in_ok-secondary.secondary).0 (sym c.eq.ensures ∙ c.if-eq.true) in
    absurd (asks.differ (sym primary ∙ same ∙ secondary))

pub returns-clause-found : goal.returns-clause-found
returns-clause-found c = record {
  text = rw (c.in_ok-inside.ensures.found.1, c.in_ok-primary.ensures.found.1, c.in_ok-secondary.ensures.found.1, c.in_ok-seed.ensures.found.1, c.in_ok-turns.ensures.found.1) refl;
  inside = c.in_ok-inside.ensures.found.0;
  primary = c.in_ok-primary.ensures.found.0;
  secondary = c.in_ok-secondary.ensures.found.0;
  differ = λ e. let same : same_ip c.in_ok-primary.primary c.in_ok-secondary.secondary ≡ true = (same_ip_decides c.in_ok-primary.primary c.in_ok-secondary.secondary).1 e in let test = c.eq.ensures in let no = c.if-eq.false in absurd cc;
  seed = c.in_ok-seed.ensures.found.0;
  some = grind arith;
  few = c.in_ok-turns.ensures.found.0;
}
