use Rattle.lab_nodes.proofs.Words.{DueNode, Found, IfSome, IsKept, IsNoSooner, IsReady, Millis, None, Option, Some, ap, arith, due_as, earlier, get_or, length, nodes, option_map, past_of, refl, row_of, slice_get, slice_get-get_or, slice_get_read, subst, sym, tick_moment, tick_of, ℕ, ◌+◌, ◌<◌, ◌∙◌, ◌≡◌}
use Rattle.lab_nodes.proofs.NodeLists.{ready_at}
use Rattle.lab_nodes.proofs.Dues.{IsFirstSo, ticking_until, until_within, none_before, one_further, row_at, at_the_end, still_within}
use Rattle.lab_nodes.proofs.Quiet.{moments_of}
use Rattle.lab_nodes.proofs.due.first_due.Goals as goal
use Rattle.lab_nodes.proofs.due.first_due.Goals.{then-may_come_first, else-may_come_first}

pub ticking-init : goal.ticking-init
ticking-init c =
    let t = c.args.topology.now in
    let list = c.args.nodes.now in
    let until = until_within t list c.requires.rows in
    record {
      within = grind (arith, until);
      upto = grind arith;
      so = record {
        within = tt;
        is = λ lab H of e. subst (λ (k : ℕ). IsFirstSo lab H (nodes lab.topology) k None) (sym c.ticking_from-number.ensures) (none_before lab t list H c.requires.rows of);
      };
    }

pub ticking-preserved : goal.ticking-preserved
ticking-preserved c =
    let n = c.ticking.number in
    let p = c.index-nodes-number.result in
    let list = c.args.nodes.now in
    let so_far = c.ticking.invariant.so in
    let longer : IfSome c.ticking.first (λ (x : Found). x.node < n + 1) = still_within n c.ticking.first so_far.within in
    let here : slice_get list n ≡ Some p = slice_get_read list (length list) n p refl (omega (arith, c.ticking-test.true, c.ticking.invariant.within)) c.index-nodes-number.is in
    let quiet = c.args.quiet.now in
    let q : Millis = get_or quiet n (record { 0 = 0 }) in
    let there : slice_get quiet n ≡ Some q =
    slice_get-get_or quiet n (record { 0 = 0 }) (omega (arith, c.ticking-test.true, c.ticking.invariant.within, c.requires.quiet.same)) in
    record {
      within = c.ticking.invariant.within;
      upto = omega (arith, c.ticking-test.true);
      so = record {
        within = elim c.if-may_come_first.branch [
          | then-may_come_first w ↦ subst (λ (o : Option Found). IfSome o (λ (x : Found). x.node < n + 1)) (sym w.first-is) (w.put_earlier.ensures.within (n + 1) (omega arith) longer)
          | else-may_come_first w ↦ subst (λ (o : Option Found). IfSome o (λ (x : Found). x.node < n + 1)) (sym w.first-is) longer
        ];
        is = λ lab H of e.
            let ready : IsReady c.args.at.0 p = ready_at c.args.at.0 list n p c.requires.ready here in
            let kept : IsKept lab.topology n (past_of lab n H) p = of.each n p here in
            let so = so_far.is lab H of e in
            let tick : Option DueNode = tick_of lab H c.args.at.0 n (row_of p) in
            let bound : IsNoSooner q.0 (option_map tick_moment tick) =
            subst (IsNoSooner q.0) (sym (moments_of lab H c.args.at.0 n (row_of p))) (c.requires.quiet.each n p q here there lab H n c.args.at.0 ready kept) in
            let new : c.if-may_come_first.first ≡ option_map due_as (earlier so.tick tick) = elim c.if-may_come_first.branch [
              | then-may_come_first w ↦ w.first-is ∙ w.put_earlier.ensures.earlier lab H so.tick kept so.found
              | else-may_come_first w ↦ w.first-is ∙ so.found ∙ ap (λ (o : Option DueNode). option_map due_as o) (sym (w.if-may_come_first.ensures refl so.tick tick so.found bound))
            ] in
            let found = new ∙ ap (λ m. option_map due_as (earlier so.tick (tick_of lab H m n (row_of p)))) e in
            subst (λ (o : Option Found). IsFirstSo lab H (nodes lab.topology) (n + 1) o) (sym found)
            (one_further lab H (nodes lab.topology) n (row_of p) c.ticking.first (row_at lab list H n p of here) so);
      };
    }

pub returns-clause-first : goal.returns-clause-first
returns-clause-first c = λ lab H of e.
    let end : c.ticking.number ≡ ticking_until c.args.topology.now = grind (arith, c.ticking.invariant.upto, c.ticking-test.false) in
    at_the_end lab c.args.topology.now c.args.nodes.now H c.ticking.first c.requires.rows of
    (subst (λ (k : ℕ). IsFirstSo lab H (nodes lab.topology) k c.ticking.first) end (c.ticking.invariant.so.is lab H of e))
