use Rattle.td_pcap.proofs.Words.{List, [], ap, append-nil, arith, drop, front_none, front_writes, head_bytes, magic_bytes, ordered_bytes, refl, sym, take, take_at, ℕ, ◌++◌, ◌∙◌, ◌≡◌}
use Rattle.td_pcap.proofs.OrderLaws.{number_more, regrouped_7}
use Rattle.td_pcap.proofs.HeadLaws.{head_len, head_read}
use Rattle.td_pcap.proofs.writer.write_head.Goals as goal

pub returns-then-out-lt-HEAD-clause-written : goal.returns-then-out-lt-HEAD-clause-written
returns-then-out-lt-HEAD-clause-written c = let long = head_len c.args.head.now in (sym long, omega (arith, long), refl)

pub returns-clause-written : goal.returns-clause-written
unfolding head_bytes
returns-clause-written c =
    let h = c.args.head.now in
    let l = h.little in
    let f1 = number_more c.put_ordered32-at.result l 4 c.magic_of.result c.put_ordered32-at.new.out (front_none c.args.out.now) c.put_ordered32-at.ensures.put c.put_ordered32-at.ensures.after in
    let f2 = number_more c.put_ordered16-at.result l 2 2 c.put_ordered16-at.new.out f1 c.put_ordered16-at.ensures.put c.put_ordered16-at.ensures.after in
    let f3 = number_more c.put_ordered16-at-2.result l 2 4 c.put_ordered16-at-2.new.out f2 c.put_ordered16-at-2.ensures.put c.put_ordered16-at-2.ensures.after in
    let f4 = number_more c.put_ordered32-at-2.result l 4 h.zone c.put_ordered32-at-2.new.out f3 c.put_ordered32-at-2.ensures.put c.put_ordered32-at-2.ensures.after in
    let f5 = number_more c.put_ordered32-at-3.result l 4 h.figs c.put_ordered32-at-3.new.out f4 c.put_ordered32-at-3.ensures.put c.put_ordered32-at-3.ensures.after in
    let f6 = number_more c.put_ordered32-at-4.result l 4 h.snap c.put_ordered32-at-4.new.out f5 c.put_ordered32-at-4.ensures.put c.put_ordered32-at-4.ensures.after in
    let f7 = number_more c.put_ordered32.result l 4 101 c.put_ordered32.new.out f6 c.put_ordered32.ensures.put c.put_ordered32.ensures.after in
    let magic : ordered_bytes l 4 c.magic_of.result ≡ magic_bytes l h.nano = ap (ordered_bytes l 4) c.magic_of.ensures in
    let two = ordered_bytes l 2 in
    let four = ordered_bytes l 4 in
    let same = regrouped_7 (four c.magic_of.result) (two 2) (two 4) (four h.zone) (four h.figs) (four h.snap) (four 101)
    ∙ ap (λ (m : List ℕ). m ++ (two 2 ++ (two 4 ++ (four h.zone ++ (four h.figs ++ (four h.snap ++ four 101)))))) magic in
    front_writes (head_bytes h) f7 same (omega arith)

pub returns-clause-spelled : goal.returns-clause-spelled
returns-clause-spelled c =
    let w = returns-clause-written c in
    let h = c.args.head.now in
    let front : take c.put_ordered32.result c.put_ordered32.new.out ≡ head_bytes h = ap (take c.put_ordered32.result) w.2 ∙ take_at (head_bytes h) (drop c.put_ordered32.result c.args.out.now) c.put_ordered32.result (sym w.0) in
    record { fits = record { zone = omega arith; figs = omega arith; snap = omega arith }; rest = []; bytes = front ∙ sym (append-nil (head_bytes h)) }

pub returns-clause-again : goal.returns-clause-again
returns-clause-again c = head_read c.args.head.now (take c.put_ordered32.result c.put_ordered32.new.out) (returns-clause-spelled c)
