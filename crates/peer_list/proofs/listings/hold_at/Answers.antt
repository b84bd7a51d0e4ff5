use Rattle.peer_list.proofs.Words.{Peer, ap, arith}
use Rattle.peer_list.proofs.SettleLemmas.{but_one, in_turn_still, is_settled, kept_untouched}
use Rattle.peer_list.proofs.listings.hold_at.Goals as goal

pub settle-requires : goal.settle-requires
settle-requires c = record {
  but = but_one _ _ _ _ c.requires.kept.whole c.index_mut.ensures.value c.due_at-before.ensures;
  still = in_turn_still _ _ _ _ c.requires.kept.whole c.index_mut.ensures.value c.due_at-before.ensures;
}

pub returns-clause-kept : goal.returns-clause-kept
returns-clause-kept c =
    kept_untouched c.requires.kept (omega arith) c.settle.ensures.whole (is_settled c.args.entries.now _ _ _ _ c.index_mut.ensures.value c.settle.ensures.slab c.settle.ensures.index c.settle.ensures.touched)
    (ap (λ (p : Peer). p.touched) c.in_ok-hold.ensures.held)
