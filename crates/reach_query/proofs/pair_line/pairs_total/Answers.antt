use Rattle.reach_query.proofs.Words.{List, PairCounts, alone, ap, before, codes, decimal, ℕ, ◌++◌, ◌∙◌, ◌≡◌}
use Rattle.reach_query.proofs.pair_line.pairs_total.Goals as goal

-- the line of some counts
abbrev line_of : PairCounts → List ℕ
line_of c = codes "total pairs " ++ (decimal c.pairs
    ++ (codes " within " ++ (decimal c.within
    ++ (codes " shut " ++ (decimal c.shut
    ++ (codes " unsaid " ++ (decimal c.unsaid ++ codes "\n")))))))

pub returns : goal.returns
returns c =
    let counts : PairCounts = c.args.counts.now in
    let joined : c.push_text-5.new.self ≡ line_of counts =
    alone _ c.clear.ensures
    (before c.clear.new.self (codes "total pairs ") _ c.push_text.ensures
    (before c.push_text.new.self (decimal counts.pairs) _ c.put_count.ensures.text
    (before c.put_count.new.line (codes " within ") _ c.push_text-2.ensures
    (before c.push_text-2.new.self (decimal counts.within) _ c.put_count-2.ensures.text
    (before c.put_count-2.new.line (codes " shut ") _ c.push_text-3.ensures
    (before c.push_text-3.new.self (decimal counts.shut) _ c.put_count-3.ensures.text
    (before c.put_count-3.new.line (codes " unsaid ") _ c.push_text-4.ensures
    (before c.push_text-4.new.self (decimal counts.unsaid) _ c.put_count-4.ensures.text c.push_text-5.ensures))))))))
    in
    λ ps is. joined ∙ ap line_of is
