use Rattle.nat_kinds.proofs.Words.{NatStandsFor, NatState, Ok, Out, lets_in, nat_answer, subst, sym, ◌∙◌, ◌∷◌, ◌≡◌, ◌≤◌}
use Rattle.nat_kinds.proofs.QueryLemmas.{lets_in-once}
use Rattle.nat_kinds.proofs.translator.Nat.lets_in_once.Goals as goal

pub returns : goal.returns
returns c =
    let e = c.args.sent in
    let l : c.self.inside.moment.0 ≤ e.moment.0 = subst (λ (v : NatState). v.moment ≤ e.moment.0) (sym c.self.view_is) c.requires.clock in
    record {
      answer = λ h. subst (λ (v : NatState). NatStandsFor v h → nat_answer v.settings h e.moment.0 e.inside e.dst ≡ Ok e.port → c.inside_with.result ≡ lets_in v.settings (Out e ∷ h) c.args.now.0 c.args.src c.args.port) c.self.view_is
          (λ is leaves. (rw c.deref.ensures.value at c.inside_with.ensures.value) ∙ lets_in-once _ h c.args.now.0 e (record { clock = l; past = c.requires.past; stands = is; leaves = leaves }) c.args.src c.args.port);
    }
