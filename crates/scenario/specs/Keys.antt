-- What a table of a text has at a key, or why the text is refused there.
use Rattle.std.specs.Prelude.{ℕ, ℤ, Bool, not, if◌then◌else◌, List, [], ◌∷◌, Option, Some, None, ok_or, Result, Ok, Err}
use Rattle.std.specs.Ordering.{nat_cmp, is_lt}
use Rattle.std.specs.Cmp.Lexicographic.{slice_cmp}
use Rattle.std.specs.List.{list_any, filter}
use Rattle.toml.specs.Data.{Data, as_str, as_integer, as_array, Items, Members, no_members, member, get_member}
use Rattle.td_base.specs.Results.{◌>>=◌}
use Rattle.td_base.specs.Values.{same_text}
use Rattle.scenario.specs.declared.scenario_fault.ScenarioFault.{ScenarioFault}
use Rattle.scenario.specs.declared.scenario_fault.ScenarioFault.TheVariants as fault
use Rattle.scenario.specs.declared.place.Place.{Place}
use Rattle.scenario.specs.Paths.{key_path}

-- UNKNOWN KEYS

-- the keys of a table
abbrev pub member_keys : Members → List (List ℕ)
member_keys no_members = []
member_keys (member key value more) = key ∷ member_keys more

-- the one of two keys that stands first in byte order
abbrev pub lesser : List ℕ → List ℕ → List ℕ
lesser a b = if is_lt (slice_cmp nat_cmp b a) then b else a

-- the first in byte order of a key and of others
abbrev pub least_of : List ℕ → List (List ℕ) → List ℕ
least_of key [] = key
least_of key (next ∷ more) = least_of (lesser key next) more

-- the first of these keys in byte order
abbrev pub least : List (List ℕ) → Option (List ℕ)
least [] = None
least (key ∷ more) = Some (least_of key more)

-- the key is none of these
abbrev pub is_unknown : List (List ℕ) → List ℕ → Bool
is_unknown known key = not (list_any (same_text key) known)

-- the least unknown key of a table
unfoldable pub unknown_key : List (List ℕ) → Members → Option (List ℕ)
unknown_key known table = least (filter (is_unknown known) (member_keys table))

-- a table that has only these keys
abbrev pub refused_key : Place → Option (List ℕ) → Result (Unit {0}) ScenarioFault
refused_key place None = Ok tt
refused_key place (Some key) = Err (fault.Key (key_path place key))

-- a table has only keys that are known, or the fault is the first one that isn't
abbrev pub only_keys : List (List ℕ) → Place → Members → Result (Unit {0}) ScenarioFault
only_keys known place table = refused_key place (unknown_key known table)

-- ONE KEY

-- what stands at a key that is required
abbrev pub value_at : Place → List ℕ → Members → Result Data ScenarioFault
value_at place key table = ok_or (get_member key table) (fault.Key (key_path place key))

-- a value of the right type
abbrev pub typed : {A : Type 0} → Place → List ℕ → Option A → Result A ScenarioFault
typed place key o = ok_or o (fault.Kind (key_path place key))

-- a text or a number that keeps its rule, and an address that no node has
abbrev pub ruled : {A : Type 0} → Place → List ℕ → Option A → Result A ScenarioFault
ruled place key o = ok_or o (fault.Range (key_path place key))

-- a name that is known, or new
abbrev pub recognized : {A : Type 0} → Place → List ℕ → Option A → Result A ScenarioFault
recognized place key o = ok_or o (fault.Name (key_path place key))

-- the text at a required key
abbrev pub text_at : Place → List ℕ → Members → Result (List ℕ) ScenarioFault
text_at place key table = value_at place key table >>= (λ value. typed place key (as_str value))

-- the whole number at a required key
abbrev pub integer_at : Place → List ℕ → Members → Result ℤ ScenarioFault
integer_at place key table = value_at place key table >>= (λ value. typed place key (as_integer value))

-- the list at a required key
abbrev pub list_at : Place → List ℕ → Members → Result Items ScenarioFault
list_at place key table = value_at place key table >>= (λ value. typed place key (as_array value))

-- what a text says by a rule, at a required key
abbrev pub word_at : {A : Type 0} → Place → List ℕ → (List ℕ → Option A) → Members → Result A ScenarioFault
word_at place key rule table = text_at place key table >>= (λ text. ruled place key (rule text))

-- what a name names by a rule
abbrev pub name_at : {A : Type 0} → Place → List ℕ → (List ℕ → Option A) → Members → Result A ScenarioFault
name_at place key rule table = text_at place key table >>= (λ text. recognized place key (rule text))

-- what a number says by a rule
abbrev pub whole_number_at : {A : Type 0} → Place → List ℕ → (ℤ → Option A) → Members → Result A ScenarioFault
whole_number_at place key rule table = integer_at place key table >>= (λ number. ruled place key (rule number))
