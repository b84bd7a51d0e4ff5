use Rattle.std.proofs.Common.{[], ◌∷◌}
use Rattle.std.specs.Prelude.{codes}
use Rattle.hex.specs.Hex.{encode_lower}
use Rattle.show.proofs.Joined.{before}
use Rattle.show.proofs.fault_words.put_lead_fault.Goals as goal

pub returns-in-Kind-clause-text : goal.returns-in-Kind-clause-text
returns-in-Kind-clause-text c =
    rw c.in-Kind.is
    (before c.args.page.now (codes " kind ") _ c.push_text.ensures.text
    (before c.push_text.new.self (encode_lower (c.in-Kind.byte ∷ [])) _ c.push_digits.ensures.text c.put_field-in-Kind.ensures.text))
