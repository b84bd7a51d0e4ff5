use Rattle.std.specs.Prelude.{codes}
use Rattle.indications.specs.declared.blocks.TheConstants.{NONCE}
use Rattle.show.specs.Lines.{field, hex_text, number_digits}
use Rattle.show.proofs.Joined.{before}
use Rattle.show.proofs.payload_lines.put_keys.Goals as goal

pub returns-clause-text : goal.returns-clause-text
returns-clause-text c =
    let joined =
    (before c.args.page.now (codes "auth id ") _ c.push_text.ensures.text
    (before c.push_text.new.self (hex_text c.bytes_in.result.now) _ c.put_hex.ensures.text
    (before c.put_hex.new.page (codes " value ") _ c.push_text-2.ensures.text
    (before c.push_text-2.new.self (hex_text c.bytes_in-2.result.now) _ c.put_hex-2.ensures.text
    (before c.put_hex-2.new.page (codes " nonce ") _ c.push_text-3.ensures.text
    (before c.push_text-3.new.self (number_digits NONCE c.args.auth.nonce) _ c.put_nonce.ensures.text
    (before c.put_nonce.new.page (field (codes " confirmation ") c.from.result) _ c.put_field.ensures.text c.push_text-4.ensures.text)))))))
    in
    rw (c.bytes_in.ensures.value, c.bytes_in-2.ensures.value, c.from.ensures) at joined
