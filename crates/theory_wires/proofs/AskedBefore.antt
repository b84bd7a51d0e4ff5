-- What a server sends in a laboratory it was asked for before, as often.
use Rattle.theory_wires.proofs.Words.{Bool, Datagram, Full, Grown, IsHeardOnce, IsOwnVoice, Item, Lab, List, None, Option, ServerNode, ServerSettings, Some, [], ap, arith, cond, count_by, datagram, false, false≢true, is_audited, is_same, is_sent_to, items_of, list_any, or_parts, refl, reply_to, six, slice_get, speaks_for, stays, subst, sym, times_delivered, true, udp, wire, ℕ, ◌+◌, ◌∙◌, ◌∷◌, ◌≡◌, ◌≤◌}
use Rattle.theory_wires.proofs.Counting.{one_if, count_cons, count_append, numbered, numbered_at, few_deliver}
use Rattle.theory_wires.proofs.ServerReplies.{Audited, settings_of}
use Rattle.theory_wires.proofs.ServerAnswers.{is_datagram, draws_datagram, Answers, silent, answers, step_answers}

module _ (v : Audited) (d : Datagram) (mine : is_audited (settings_of v) d.src ≡ true) where
  abbrev lab : Lab
  lab = v.lab

  abbrev a : ServerNode
  a = v.row

  abbrev s : ServerSettings
  s = settings_of v

  abbrev f : Item → Bool
  f = is_datagram d

  abbrev o : Item → Bool
  o = draws_datagram s d

  abbrev answered : List Item → List Full → ℕ
  answered W H = count_by (λ (r : Full). numbered o 0 W r.delivered) H

  -- entries of the one are those of the other
  abbrev IsFront : List Item → List Item → Type 0
  IsFront xs W = (k : ℕ) (x : Item) → slice_get xs k ≡ Some x → slice_get W k ≡ Some x

  one_answers : (H : List Full) (r : Full) (W : List Item) → IsFront (wire H) W → Answers f o H r
      → count_by f (items_of r) ≤ one_if (numbered o 0 W r.delivered)
  one_answers H r W front (silent none) = omega (arith, none)
  one_answers H r W front (answers few k y told at hit) =
      let there : numbered o 0 W r.delivered ≡ true =
      ap (λ (q : Option ℕ). numbered o 0 W q) told
      ∙ (let same : 0 + k ≡ k = omega arith in subst (λ (j : ℕ). numbered o 0 W (Some j) ≡ true) same (numbered_at o 0 W k y (front k y at) hit)) in
      let one = ap one_if there in
      omega (arith, few, one)

  all_answer : (H : List Full) (W : List Item) → Grown lab H → IsOwnVoice a H → IsFront (wire H) W → count_by f (wire H) ≤ answered W H
  all_answer [] W g voice front = omega arith
  all_answer (r ∷ H) W g voice front =
      let parts = or_parts (speaks_for a r.asked) (list_any (λ (q : Full). speaks_for a q.asked) H) voice in
      let before : IsFront (wire H) W = λ k x e. front k x (stays (wire H) (items_of r) k x e) in
      let rest = all_answer H W g.1 parts.1 before in
      let here = one_answers H r W before (step_answers v d mine H r g parts.0) in
      let made = count_append f (wire H) (items_of r) in
      let whole = count_cons (λ (q : Full). numbered o 0 W q.delivered) r H in
      omega (arith, rest, here, made, whole)

  -- what is asked of a server is for it
  asked_is : (x : Item) → o x ≡ true → is_sent_to a x ≡ true
  unfolding is_audited
  asked_is (udp src dst bytes) e = by (is_audited s dst) refl e where
    by : (b : Bool) → is_audited s dst ≡ b → is_same d (cond b (reply_to s (datagram src dst bytes)) None) ≡ true → is_audited s dst ≡ true
    by true g h = g
    by false g h = absurd (false≢true h)
  asked_is (six relay bytes) e = absurd (false≢true e)

  -- after a record d was sent no more often than it was asked for before it
  pub sent_few : (H : List Full) (r : Full) → Grown lab (r ∷ H) → IsOwnVoice a (r ∷ H) → IsHeardOnce a (r ∷ H) → count_by f (wire (r ∷ H)) ≤ count_by o (wire H)
  sent_few H r g voice once =
      let parts = or_parts (speaks_for a r.asked) (list_any (λ (q : Full). speaks_for a q.asked) H) voice in
      let rest = all_answer H (wire H) g.1 parts.1 (λ k x e. e) in
      let here = one_answers H r (wire H) (λ k x e. e) (step_answers v d mine H r g parts.0) in
      let made = count_append f (wire H) (items_of r) in
      let whole = count_cons (λ (q : Full). numbered o 0 (wire H) q.delivered) r H in
      let few = few_deliver o (r ∷ H) 0 (wire H) (λ k x e hit. let same : 0 + k ≡ k = omega arith in
      subst (λ (j : ℕ). times_delivered j (r ∷ H) ≤ 1) (sym same) (once k x (stays (wire H) (items_of r) k x e) (asked_is x hit))) in
      omega (arith, rest, here, made, whole, few)
