use Rattle.peer_list.proofs.Words.{Peer, ap, arith}
use Rattle.peer_list.proofs.SettleLemmas.{but_one, in_turn_still, is_settled, kept_touched}
use Rattle.peer_list.proofs.listings.wait_at.Goals as goal

pub settle-requires : goal.settle-requires
settle-requires c = record {
  but = but_one _ _ _ _ c.requires.kept.whole c.index_mut.ensures.value c.due_at-before.ensures;
  still = in_turn_still _ _ _ _ c.requires.kept.whole c.index_mut.ensures.value c.due_at-before.ensures;
}

pub returns-clause-kept : goal.returns-clause-kept
returns-clause-kept c =
    kept_touched c.requires.kept (omega arith) c.settle.ensures.whole (is_settled c.args.entries.now _ _ _ _ c.index_mut.ensures.value c.settle.ensures.slab c.settle.ensures.index c.settle.ensures.touched)
    (ap (λ (p : Peer). p.touched) c.in_ok-wait.ensures.queued)
