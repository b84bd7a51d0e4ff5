use Rattle.td_audit.proofs.Words.{BTreeMap, HasKey, List, Option, Some, Vec, ap, arith, datagram, entry_value, key_bytes, licences_left, map_with_value, rules, subst, unwrap_or, ℕ, ◌∙◌, ◌≡◌}
use Rattle.td_audit.proofs.MapLaws.{Changes, at_key}
use Rattle.td_audit.proofs.LeftLaws.{count_granted}
use Rattle.td_audit.proofs.licences.Licences.grant.Goals as goal

pub returns-in-Some-clause-more : goal.returns-in-Some-clause-more
returns-in-Some-clause-more c =
    let d = datagram c.args.src c.args.dst c.args.body.now in
    let d_fits : HasKey d = record { src_ip = omega arith; src_port = omega arith; dst_ip = omega arith; dst_port = omega arith } in
    let items : Vec ℕ → List ℕ = λ k. k.items in
    let m = c.args.self.now.left in
    let key_is = c.as_slice.ensures.value ∙ c.in_ok-put_key.ensures in
    let was : Some c.in-Some.left.now ≡ at_key items m (key_bytes d) = c.in-Some.ensures.value ∙ ap (at_key items m) key_is in
    let had : c.in-Some.left.now ≡ licences_left c.args.self.now d = ap (λ (o : Option ℕ). unwrap_or o 0) was in
    let left : ℕ = c.saturating_add.result in
    let n = c.get_mut.follows.lender left in
    let changes : Changes items m n (key_bytes d) (Some left) =
    subst (λ (k : List ℕ). Changes items m n k (Some left)) key_is ((c.get_mut.follows.holds left).3 (search rules)) in
    λ room e e_fits. count_granted items m n d e (Some left) e_fits d_fits changes (c.saturating_add.ensures ∙ omega (arith, room, had))

pub returns-clause-more : goal.returns-clause-more
returns-clause-more c =
    let d = datagram c.args.src c.args.dst c.args.body.now in
    let d_fits : HasKey d = record { src_ip = omega arith; src_port = omega arith; dst_ip = omega arith; dst_port = omega arith } in
    let items : Vec ℕ → List ℕ = λ k. k.items in
    let m = c.if-self.self.left in
    let kept : m ≡ c.args.self.now.left = search rules in
    let at : entry_value c.in_ok-self.field-0 ≡ at_key items m (key_bytes d) = c.in_ok-self.ensures.value ∙ ap (at_key items m) c.in_ok-key.ensures in
    let had : c.or_insert-left.result.now ≡ licences_left c.args.self.now d =
    c.or_insert-left.ensures.value ∙ ap (λ (o : Option ℕ). unwrap_or o 0) (at ∙ ap (λ (x : BTreeMap (Vec ℕ) ℕ). at_key items x (key_bytes d)) kept) in
    let left : ℕ = c.saturating_add-2.result in
    let n = map_with_value c.in_ok-self.field-0 left in
    let same : n ≡ c.self-3-1.given.0 = search rules in
    let changes = subst (λ (k : List ℕ). Changes items m n k (Some left)) c.in_ok-key.ensures (c.in_ok-self.ensures.update.0 left) in
    let new = subst (λ (x : BTreeMap (Vec ℕ) ℕ). Changes items m x (key_bytes d) (Some left)) same changes in
    let over = subst (λ (x : BTreeMap (Vec ℕ) ℕ). Changes items x c.self-3-1.given.0 (key_bytes d) (Some left)) kept new in
    λ room e e_fits. count_granted items c.args.self.now.left c.self-3-1.given.0 d e (Some left) e_fits d_fits over (c.saturating_add-2.ensures ∙ omega (arith, room, had))
