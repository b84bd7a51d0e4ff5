use Rattle.std.specs.Prelude.{codes}
use Rattle.td_base.specs.Texts.{ip4_text, ep_text}
use Rattle.show.specs.declared.payload_lines.TheConstants.{FLAGS}
use Rattle.show.specs.Lines.{number_digits}
use Rattle.show.proofs.Joined.{before}
use Rattle.show.proofs.payload_lines.put_embedded.Goals as goal

pub returns-clause-text : goal.returns-clause-text
returns-clause-text c =
    (before c.args.page.now (codes "teredo server ") _ c.push_text.ensures.text
    (before c.push_text.new.self (ip4_text c.args.addr.server) _ c.put_ip4.ensures.text
    (before c.put_ip4.new.page (codes " flags ") _ c.push_text-2.ensures.text
    (before c.push_text-2.new.self (number_digits FLAGS c.args.addr.flags) _ c.put_flags.ensures.text
    (before c.put_flags.new.page (codes " mapped ") _ c.push_text-3.ensures.text
    (before c.push_text-3.new.self (ep_text c.args.addr.mapped) _ c.put_ep.ensures.text c.push_text-4.ensures.text))))))
