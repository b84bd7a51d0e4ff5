use Rattle.player.proofs.Words.{left_in}
use Rattle.player.proofs.Played.{Played, IsFree, IsNextOn}
use Rattle.player.proofs.player.play.Given as goal

abbrev pub invariant-loop-index : goal.invariant-loop-index
invariant-loop-index g l =
    Played g.L.Listener.account (record { seed = l.seed; topology = l.fn.chains.topology; events = l.events }) l.fn.chains.chain (g.K.Sink.state l.fn.out) (g.K.Sink.state l.out) (g.L.Listener.keeps l.listener) l.world l.index IsFree

abbrev pub invariant-loop-more : goal.invariant-loop-more
invariant-loop-more g l =
    Played g.L.Listener.account (record { seed = l.seed; topology = l.fn.chains.topology; events = l.events }) l.fn.chains.chain
    (g.K.Sink.state l.fn.out) (g.K.Sink.state l.out) (g.L.Listener.keeps l.listener) l.world l.index (IsNextOn l.event)

abbrev pub decreases-loop-more : goal.decreases-loop-more
decreases-loop-more g l = left_in l.world
