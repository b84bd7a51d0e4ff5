use Rattle.td_base.proofs.ipv6_reader.+after_head.Given as goal

abbrev pub decreases-after_head : goal.decreases-after_head
decreases-after_head l = l.missing
