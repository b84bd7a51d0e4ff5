use Rattle.td_audit.proofs.Words.{HasKey, List, None, Option, Some, Vec, ap, arith, datagram, key_bytes, left_at, licences_left, rules, subst, sym, unwrap_or, ℕ, ◌-◌, ◌∙◌, ◌≡◌}
use Rattle.td_audit.proofs.MapLaws.{Changes}
use Rattle.td_audit.proofs.LeftLaws.{count_used}
use Rattle.td_audit.proofs.licences.Licences.use_up.Goals as goal

pub returns-then-left-eq1-clause-used : goal.returns-then-left-eq1-clause-used
returns-then-left-eq1-clause-used c =
    let d = datagram c.args.src c.args.dst c.args.body.now in
    let d_fits : HasKey d = record { src_ip = omega arith; src_port = omega arith; dst_ip = omega arith; dst_port = omega arith } in
    let m = c.args.self.now.left in
    let n = c.remove.new.self in
    let had : c.unwrap_or-left.result ≡ licences_left c.args.self.now d =
    c.unwrap_or-left.ensures ∙ ap (λ (o : Option ℕ). unwrap_or o 0) (c.copied.ensures ∙ c.get.ensures.value) ∙ ap (left_at c.args.self.now) (c.as_slice.ensures.value ∙ c.in_ok-put_key.ensures) in
    let changes : Changes (λ (k : Vec ℕ). k.items) m n (key_bytes d) None =
    subst (λ (k : List ℕ). Changes (λ (k : Vec ℕ). k.items) m n k None) (c.as_slice-then-left-eq1.ensures.value ∙ c.in_ok-put_key.ensures) c.remove.ensures.updates in
    λ e e_fits. count_used (λ (k : Vec ℕ). k.items) m n d e None e_fits d_fits changes (sym c.if-left-eq1.true ∙ had)

pub returns-in-Some-clause-used : goal.returns-in-Some-clause-used
returns-in-Some-clause-used c =
    let d = datagram c.args.src c.args.dst c.args.body.now in
    let d_fits : HasKey d = record { src_ip = omega arith; src_port = omega arith; dst_ip = omega arith; dst_port = omega arith } in
    let items : Vec ℕ → List ℕ = λ k. k.items in
    let m = c.args.self.now.left in
    let had : c.unwrap_or-left.result ≡ licences_left c.args.self.now d =
    c.unwrap_or-left.ensures ∙ ap (λ (o : Option ℕ). unwrap_or o 0) (c.copied.ensures ∙ c.get.ensures.value) ∙ ap (left_at c.args.self.now) (c.as_slice.ensures.value ∙ c.in_ok-put_key.ensures) in
    let less = c.unwrap_or-left.result - 1 in
    let n = c.get_mut.follows.lender less in
    let changes : Changes items m n (key_bytes d) (Some less) =
    subst (λ (k : List ℕ). Changes items m n k (Some less)) (c.as_slice-2.ensures.value ∙ c.in_ok-put_key.ensures) ((c.get_mut.follows.holds less).3 (search rules)) in
    λ e e_fits. count_used items m n d e (Some less) e_fits d_fits changes (omega (arith, c.if-left-eq0.false) ∙ had)
