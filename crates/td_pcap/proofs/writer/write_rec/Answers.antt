use Rattle.td_pcap.proofs.Words.{List, ap, append-nil, arith, captured, drop, drop_all, front_more, front_none, front_writes, length, ordered_bytes, record_bytes, refl, sym, take, take_at, ℕ, ◌++◌, ◌∙◌, ◌≡◌}
use Rattle.td_pcap.proofs.OrderLaws.{number_more, regrouped_5}
use Rattle.td_pcap.proofs.RecordLaws.{record_len, stands_is_read}
use Rattle.td_pcap.proofs.writer.write_rec.Goals as goal

pub returns-then-out-needed-clause-written : goal.returns-then-out-needed-clause-written
returns-then-out-needed-clause-written c = let long = record_len c.args.head.now.little (captured c.args.rec.now) in (sym long, omega (arith, long), refl)

pub returns-clause-written : goal.returns-clause-written
unfolding record_bytes
returns-clause-written c =
    let l = c.args.head.now.little in
    let r = captured c.args.rec.now in
    let f1 = number_more c.put_ordered32-at.result l 4 r.sec c.put_ordered32-at.new.out (front_none c.args.out.now) c.put_ordered32-at.ensures.put c.put_ordered32-at.ensures.after in
    let f2 = number_more c.put_ordered32-at-2.result l 4 r.frac c.put_ordered32-at-2.new.out f1 c.put_ordered32-at-2.ensures.put c.put_ordered32-at-2.ensures.after in
    let f3 = number_more c.put_ordered32-at-3.result l 4 (length r.bytes) c.put_ordered32-at-3.new.out f2 c.put_ordered32-at-3.ensures.put c.put_ordered32-at-3.ensures.after in
    let f4 = number_more c.put_ordered32-at-4.result l 4 r.orig c.put_ordered32-at-4.new.out f3 c.put_ordered32-at-4.ensures.put c.put_ordered32-at-4.ensures.after in
    let f5 = front_more c.put.result r.bytes c.put.new.out f4 c.put.ensures.put c.put.ensures.after in
    let four = ordered_bytes l 4 in
    front_writes (record_bytes l r) f5 (regrouped_5 (four r.sec) (four r.frac) (four (length r.bytes)) (four r.orig) r.bytes) (omega arith)

pub returns-clause-spelled : goal.returns-clause-spelled
returns-clause-spelled c =
    let l = c.args.head.now.little in
    let r = captured c.args.rec.now in
    let w = returns-clause-written c in
    let n = c.put.result in
    let x : List ℕ = take n c.put.new.out in
    let front : x ≡ record_bytes l r = ap (take n) w.2 ∙ take_at (record_bytes l r) (drop n c.args.out.now) n (sym w.0) in
    let long : length x ≡ n = ap length front ∙ sym w.0 in
    record {
      fits = record { sec = omega arith; frac = omega arith; orig = omega arith; kept = c.requires };
      bytes = front ∙ sym (append-nil (record_bytes l r)) ∙ ap (λ (t : List ℕ). record_bytes l r ++ t) (sym (drop_all n x (omega arith)));
      ends = omega (arith, w.0);
      inside = omega (arith, long);
    }

pub returns-clause-again : goal.returns-clause-again
returns-clause-again c = stands_is_read c.args.head.now.little 0 c.put.result (take c.put.result c.put.new.out) (captured c.args.rec.now) (returns-clause-spelled c)
