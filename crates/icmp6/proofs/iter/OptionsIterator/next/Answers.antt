use Rattle.icmp6.proofs.Words.{IsOption, List, Opt, ap, arith, drop, length, option_of, options_at, subst, sym, take, ℕ, ◌+◌, ◌-◌, ◌∙◌, ◌∷◌, ◌≡◌}
use Rattle.icmp6.proofs.BlockLaws.{options_end, options_go_on, whole_block}
use Rattle.icmp6.proofs.iter.OptionsIterator.next.Goals as goal

pub returns-in_default-clause-steps : goal.returns-in_default-clause-steps
returns-in_default-clause-steps c =
    let none = options_end c.args.self.now.at c.in_default.field-0 c.args.self.now.bytes.now c.in_default.ensures.exact in
    (none, none)

pub option_of-requires-clause-whole : goal.option_of-requires-clause-whole
option_of-requires-clause-whole c =
    let place : ℕ = c.args.self.now.at in
    let same : place + c.in-Ok.len - place ≡ c.in-Ok.len = omega arith in
    let block = whole_block place c.in-Ok.len c.args.self.now.bytes.now c.in-Ok.ensures.exact in
    (subst (λ (n : ℕ). IsOption (take n (drop place c.args.self.now.bytes.now))) (sym same) block).whole

pub returns-clause-steps : goal.returns-clause-steps
returns-clause-steps c =
    let place : ℕ = c.args.self.now.at in
    let same : place + c.in-Ok.len - place ≡ c.in-Ok.len = omega arith in
    let rest : List Opt = options_at (place + c.in-Ok.len) c.args.self.now.bytes.now in
    let first : c.option_of.result ≡ option_of place (take c.in-Ok.len (drop place c.args.self.now.bytes.now)) = c.option_of.ensures ∙ ap (λ (n : ℕ). option_of place (take n (drop place c.args.self.now.bytes.now))) same in
    options_go_on place c.in-Ok.len c.args.self.now.bytes.now c.in-Ok.ensures.exact ∙ ap (λ (o : Opt). o ∷ rest) (sym first)

pub returns-clause-goes : goal.returns-clause-goes
returns-clause-goes c =
    let place : ℕ = c.args.self.now.at in
    let less : length (options_at place c.args.self.now.bytes.now) ≡ 1 + length (options_at (place + c.in-Ok.len) c.args.self.now.bytes.now) = ap length (returns-clause-steps c) ∙ omega arith in
    record { on = λ _. (tt, tt, omega (arith, less)); keeps = tt; rests = λ _. tt }
