-- The words `audit IP1 IP2 FILE` and `explain IP1 IP2 FILE`.
use Rattle.std.specs.Prelude.{◌≡◌, ℕ, List, [], ◌∷◌}
use Rattle.td_base.specs.Ip4.{IsIp4}
use Rattle.td_base.specs.Texts.{ip4_text}
use Rattle.commands.specs.declared.audit_words.AuditWords.{AuditWords}

-- The words are this command on a file, for a server on two addresses that differ; each address has one text.
pub record AsksToAudit (command : List ℕ) (words : List (List ℕ)) (asked : AuditWords) (file : List ℕ) : Type 0 where
  pub text : words ≡ command ∷ ip4_text asked.primary ∷ ip4_text asked.secondary ∷ file ∷ []
  pub primary : IsIp4 asked.primary
  pub secondary : IsIp4 asked.secondary
  pub differ : asked.primary ≡ asked.secondary → ⊥
