use Rattle.report.proofs.Words.{codes, decimal}
use Rattle.report.proofs.Joined.{before, alone}
use Rattle.report.proofs.totals.summary.Goals as goal

pub returns : goal.returns
returns c =
    alone _ c.clear.ensures
    (before c.clear.new.self (codes "total records ") _ c.push_text.ensures
    (before c.push_text.new.self (decimal c.args.s.now.records) _ c.put_number.ensures.text
    (before c.put_number.new.out (codes " entries ") _ c.push_text-2.ensures
    (before c.push_text-2.new.self (decimal c.args.s.now.entries) _ c.put_number-2.ensures.text
    (before c.put_number-2.new.out (codes " delivered ") _ c.push_text-3.ensures
    (before c.push_text-3.new.self (decimal c.args.s.now.delivered) _ c.put_number-3.ensures.text
    (before c.put_number-3.new.out (codes " handed ") _ c.push_text-4.ensures
    (before c.push_text-4.new.self (decimal c.args.s.now.handed) _ c.put_number-4.ensures.text
    (before c.put_number-4.new.out (codes " kept ") _ c.push_text-5.ensures
    (before c.push_text-5.new.self (decimal c.args.s.now.kept) _ c.put_number-5.ensures.text
    (before c.put_number-5.new.out (codes " dropped ") _ c.push_text-6.ensures
    (before c.push_text-6.new.self (decimal c.args.s.now.dropped) _ c.put_number-6.ensures.text c.push_text-7.ensures))))))))))))
