-- What a client's address is made of.
use Rattle.std.proofs.Common.{◌≡◌, ℕ, Bool, true, false, cond, List, [], ◌∷◌, Option, Some, None, refl, sym, ap, subst, ◌∙◌}
use Rattle.std.specs.Prelude.{IfSome, unwrap_or, Contains}
use Rattle.std.specs.List.{AllByRecursion}
use Rattle.std.proofs.lemmas.List.Elements.{All-contains_itself, recursion_from_All}
use Rattle.td_base.specs.declared.ipv6.Ip6.{Ip6}
use Rattle.td_base.specs.declared.endpoint.Ep.{Ep}
use Rattle.teredo_addr.specs.Teredo.{is_teredo, has_cone, flags_of}
use Rattle.teredo_addr.proofs.AddressLaws.{is_teredo-teredo_ip}
use Rattle.teredo_node.specs.Journal.{Entry, Journal}
use Rattle.qualify.specs.declared.settings.Settings.{Settings}
use Rattle.qualify.specs.Turns.{Turn, qualifies, is_changed, turn_of, leaves, begins, origin_given, flags_word}
use Rattle.qualify.specs.Qualification.{Qualification, qualification, address_told, address_after}
use Rattle.qualify.specs.Laws.{fresh, goes_on, tidings}
use Rattle.qualify.proofs.LawProofs.{turns as qualify_turns, turns_at_start}
use Rattle.theory_settled.specs.OwnAddress.{WasTold, IsOwnAddress, EachAddressIsOwn}

-- among the entries of a whole journal
module _ (s : Settings) (all : List Entry) where
  abbrev IsOwn : Option Ip6 → Type 0
  IsOwn o = IfSome o (IsOwnAddress s all)

  -- an origin that was told makes one
  of_origin : (cone : Bool) (w : Option ℕ) (o : Option Ep) → IfSome o (WasTold all) → IsOwn (address_told s cone w o)
  of_origin cone w None told = tt
  of_origin cone w (Some ep) told = record { cone = cone; word = w; origin = ep; told = told; made = refl }

  -- so does each turn
  after : (t : Turn) (w : Option ℕ) (o : Option Ep) (before : Option Ip6) → IfSome o (WasTold all) → IsOwn before → IsOwn (address_after s t w o before)
  after (qualifies cone) w o before told is = of_origin cone w o told
  after is_changed w o None told is = tt
  after is_changed w o (Some p) told is = of_origin (has_cone p) w o told
  after _ w o before told is = is

  -- what an entry tells was told
  tells : (e : Entry) (o : Option Ep) → Contains all e → origin_given e.input ≡ o → IfSome o (WasTold all)
  tells e None at same = tt
  tells e (Some ep) at same = (e, at, same)

  -- the qualification that an entry goes on from
  abbrev left : Bool → Entry → Qualification → Qualification
  left b e q = cond b (fresh (unwrap_or (begins (turn_of e)) q.phase) e.moment) q

  -- one more entry
  turned : (q : Qualification) (e : Entry) → Contains all e → IsOwn q.address → (b : Bool) → IsOwn (goes_on s (tidings s e) (left b e q)).address
  turned q e at is true = after (turn_of e) (flags_word s e.words) (origin_given e.input) None (tells e (origin_given e.input) at refl) tt
  turned q e at is false = after (turn_of e) (flags_word s e.words) (origin_given e.input) q.address (tells e (origin_given e.input) at refl) is

  own : (start : ℕ) (es : List Entry) → AllByRecursion (Contains all) es
      → IsOwn (qualification s (record { start = start; entries = es })).address
  own start [] at = subst (λ (q : Qualification). IsOwn q.address) (sym (turns_at_start s start)) tt
  own start (e ∷ es) at =
      let before : Journal = record { start = start; entries = es } in
      let q : Qualification = qualification s before in
      subst (λ (q : Qualification). IsOwn q.address) (sym (qualify_turns s before e))
      (turned q e at.0 (own start es at.1) (leaves q.phase (turn_of e)))

pub each_address_is_own : EachAddressIsOwn
each_address_is_own s j own_is address =
    subst (λ (o : Option Ip6). IfSome o (IsOwnAddress s j.entries)) address
    (own s j.entries j.start j.entries (recursion_from_All (Contains j.entries) j.entries (All-contains_itself j.entries)))

-- so it is a Teredo address
pub own_is_teredo : (s : Settings) (j : Journal) (own : Ip6) → (qualification s j).address ≡ Some own → is_teredo own ≡ true
own_is_teredo s j own e =
    let is : IsOwnAddress s j.entries own = each_address_is_own s j own e in
    ap is_teredo is.made ∙ is_teredo-teredo_ip s.primary (flags_of is.cone is.word) is.origin
