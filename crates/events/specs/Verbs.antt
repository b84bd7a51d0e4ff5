-- The words that events begin with.
use Rattle.std.specs.Prelude.{ℕ, List, [], ◌∷◌, codes, find, Option}
use Rattle.events.specs.declared.verb.Verb.{Verb}
use Rattle.events.specs.declared.verb.Verb.TheVariants as verb
use Rattle.td_base.specs.Values.{same_text}

-- the word of a verb
abbrev pub verb_word : Verb → List ℕ
verb_word verb.Advance = codes "advance"
verb_word verb.Deliver = codes "deliver"
verb_word verb.Next = codes "next"
verb_word verb.Host = codes "host"
verb_word verb.Echo = codes "echo"
verb_word verb.Raw = codes "raw"
verb_word verb.Stranger = codes "stranger"
verb_word verb.Copy = codes "copy"
verb_word verb.Restart = codes "restart"
verb_word verb.Forget = codes "forget"
verb_word verb.Fault = codes "fault"
verb_word verb.Settle = codes "settle"

-- all verbs
abbrev pub verbs : List Verb
verbs = verb.Advance ∷ verb.Deliver ∷ verb.Next ∷ verb.Host ∷ verb.Echo ∷ verb.Raw ∷ verb.Stranger ∷ verb.Copy
    ∷ verb.Restart ∷ verb.Forget ∷ verb.Fault ∷ verb.Settle ∷ []

-- the event's word that a text is
unfoldable pub verb_of : List ℕ → Option Verb
verb_of text = find (λ v. same_text (verb_word v) text) verbs
