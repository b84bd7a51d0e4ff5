use Rattle.td_base.proofs.ipv6_reader.+after_tail.Given as goal

-- proposed from what the function passes where it calls itself
abbrev pub decreases-after_tail : goal.decreases-after_tail
decreases-after_tail l = l.most
