use Rattle.td_explain.proofs.Words.{Changes, Ends, HasKey, List, None, Some, Vec, ap, arith, changed_at, datagram, ends_behind, ends_under, ends_waiting, first_and_last, key_bytes, link_at, refl, subst, sym, ℕ, ◌<◌, ◌∙◌, ◌≡◌}
use Rattle.td_explain.proofs.ChainLaws.{left_more}
use Rattle.td_explain.proofs.waits.Waits.take.Goals as goal

pub returns-then-next-eq0-clause-taken : goal.returns-then-next-eq0-clause-taken
returns-then-next-eq0-clause-taken c =
    let d = datagram c.args.src c.args.dst c.args.body.now in
    let d_fits : HasKey d = record { src_ip = omega arith; src_port = omega arith; dst_ip = omega arith; dst_port = omega arith } in
    let items : Vec ℕ → List ℕ = λ k. k.items in
    let w = c.args.self.now in
    let ends : Ends = c.in-Some.ends in
    let had : ends_waiting w d ≡ Some ends =
    sym (c.copied.ensures ∙ c.get.ensures.value ∙ ap (ends_under w) (c.as_slice.ensures.value ∙ c.in_ok-key.ensures)) ∙ c.in-Some.is in
    let n = c.remove.new.self in
    let changes : Changes items w.ends n (key_bytes d) None =
    subst (λ (k : List ℕ). Changes items w.ends n k None) (c.as_slice-then-next-eq0.ensures.value ∙ c.in_ok-key.ensures) c.remove.ensures.updates in
    let next : link_at w.links ends.first ≡ 0 = sym c.after-next.ensures ∙ c.if-next-eq0.true in
    record {
      had = ends;
      left = None;
      had_is = had;
      first_is = sym c.from-by.ensures;
      left_is = sym (ap (λ (k : ℕ). ends_behind k ends.last) next);
      links_stay = refl;
      ends_are = λ e fits. changed_at items w.ends n d e None fits d_fits changes;
    }

pub returns-clause-taken : goal.returns-clause-taken
returns-clause-taken c =
    let d = datagram c.args.src c.args.dst c.args.body.now in
    let d_fits : HasKey d = record { src_ip = omega arith; src_port = omega arith; dst_ip = omega arith; dst_port = omega arith } in
    let items : Vec ℕ → List ℕ = λ k. k.items in
    let w = c.args.self.now in
    let ends : Ends = c.in-Some.ends in
    let had : ends_waiting w d ≡ Some ends =
    sym (c.copied.ensures ∙ c.get.ensures.value ∙ ap (ends_under w) (c.as_slice.ensures.value ∙ c.in_ok-key.ensures)) ∙ c.in-Some.is in
    let n = c.insert.new.self in
    let left : Ends = first_and_last c.after-next.result ends.last in
    let changes : Changes items w.ends n (key_bytes d) (Some left) =
    subst (λ (k : List ℕ). Changes items w.ends n k (Some left)) c.in_ok-key.ensures c.in_ok-insert.ensures.updates in
    let later : 0 < c.after-next.result = omega (arith, c.if-next-eq0.false) in
    record {
      had = ends;
      left = Some left;
      had_is = had;
      first_is = sym c.from-by.ensures;
      left_is = sym (left_more c.after-next.result ends.last later) ∙ ap (λ (k : ℕ). ends_behind k ends.last) c.after-next.ensures;
      links_stay = refl;
      ends_are = λ e fits. changed_at items w.ends n d e (Some left) fits d_fits changes;
    }
