-- Why a client hears what its NATs give: the answer that comes to it is taken, and what it takes tells of its NATs.
use Rattle.theory_answers.proofs.Open.{each_answer_is_taken}
use Rattle.theory_answers.proofs.Tells.{each_answer_tells}
use Rattle.theory_answers.proofs.Words.{AnswerTells, Bool, ClientNode, Cone, Delivery, EachHeardAnswerTells, Entry, Ep, Fate, Full, HearsAnswer, Ip6, IsAnswerTo, IsReached, Item, Journal, Lab, List, MayBeAnswered, Node, OffLine, Option, Phase, Qualified, Restricted, Secondary, ServerSettings, Settings, Some, Symmetric, TellsOfWay, Words, advert_bytes, answer_in, ap, arrived, client, client_does, client_in, client_settings, deliveries, done_with, false, fate_of_reception, is_answer, is_same_origin, journal, node_in, now, number_in, origin_before, phase_line, qualification, reaches, reception, route, slice_get, source_in, standing, standing_at, standing_of, subst, sym, to_nobody, to_node, true, udp, unwrap_or, wire, words, ℕ, ◌∙◌, ◌≡◌}

-- in the last two phases no answer is taken
by_answer : (lab : Lab) (c : ClientNode) (f : Fate) (ph : Phase) (same : Bool) → f ≡ phase_line ph same → (is_answer f ≡ true → f ≡ answer_in lab c ph)
    → f ≡ answer_in lab c ph
by_answer lab c f Cone same is tells = is
by_answer lab c f Restricted same is tells = is
by_answer lab c f Secondary true is tells = tells (ap (λ (z : Fate). is_answer z) is)
by_answer lab c f Secondary false is tells = tells (ap (λ (z : Fate). is_answer z) is)
by_answer lab c f Qualified true is tells = is
by_answer lab c f Qualified false is tells = tells (ap (λ (z : Fate). is_answer z) is)
by_answer lab c f Symmetric same is tells = is
by_answer lab c f OffLine same is tells = is

-- an answer has the fate of its line
in_entry : {s : Settings} (j : Journal) (m : ℕ) (w : Words) {server : ServerSettings} {from at : Ep} {nonce : ℕ} {to : Ip6}
    → MayBeAnswered server at (Some nonce) to → IsAnswerTo s (qualification s j) server from at nonce
    → (client_in s j m from (advert_bytes server at (Some nonce) to) w).step.fate
    ≡ phase_line (qualification s j).phase (is_same_origin (Some at) (origin_before (qualification s j) (qualification s j).phase))
unfolding client_in reception standing_at
in_entry {s} j m w {server} {from} {at} {nonce} {to} made answer =
    let x = advert_bytes server at (Some nonce) to in
    fate_of_reception s (standing_of s j m (source_in x)) from x w
    ∙ each_answer_is_taken s (standing_of s j m (source_in x)) server from at nonce to made answer

-- ONE DELIVERY

module _ (lab : Lab) (H : List Full) (r : Full) (n : ℕ) (c : ClientNode) (h : HearsAnswer lab H r n c) where
  abbrev bytes : List ℕ
  bytes = advert_bytes h.server h.at (Some h.nonce) h.to

  abbrev x : Item
  x = udp h.from h.at bytes

  abbrev s : Settings
  s = client_settings lab.topology c

  -- the origin is the one that it was told before
  abbrev pub same : Bool
  same = is_same_origin (Some h.at) (origin_before (standing lab H n c) (standing lab H n c).phase)

  line : (done_with lab H r n (client c) x).step.fate ≡ phase_line (standing lab H n c).phase same
  line = ap (λ (e : Entry). e.step.fate) (client_does lab H r.moment n h.at c (arrived h.from bytes))
      ∙ in_entry (journal n H) r.moment (words lab n H) h.made h.answer

  abbrev fate_with : ℕ → Node → Item → Fate
  fate_with k a y = (done_with lab H r k a y).step.fate

  -- it came to the client
  of_client : {k : ℕ} {a : Node} {y : Item} → slice_get (wire H) h.number ≡ Some y → IsReached lab H r k a y
      → (r.node ≡ Some n) × (r.fate ≡ phase_line (standing lab H n c).phase same)
  of_client {k} {a} {y} at i =
      let item : y ≡ x = ap (λ (o : Option Item). unwrap_or o y) (sym at ∙ h.entry) in
      let goes : reaches k a ≡ reaches n (client c) = sym i.leads ∙ ap (route lab H (now H)) item ∙ h.leads in
      let number : k ≡ n = ap (number_in k) goes in
      let node : a ≡ client c = ap (node_in a) goes in (
        i.act.node ∙ ap (λ (m : ℕ). Some m) number,
        i.act.fate ∙ ap (λ (m : ℕ). fate_with m a y) number ∙ ap (λ (b : Node). fate_with n b y) node ∙ ap (fate_with n (client c)) item ∙ line,
      )

  pub of_delivery : Delivery lab H r h.number → (r.node ≡ Some n) × (r.fate ≡ phase_line (standing lab H n c).phase same)
  of_delivery (to_node k a y at i) = of_client at i
  of_delivery (to_nobody y at i) =
      absurd (i.nobody n (client c) (ap (route lab H (now H)) (ap (λ (o : Option Item). unwrap_or o y) (sym at ∙ h.entry)) ∙ h.leads))

pub each_heard_answer_tells : EachHeardAnswerTells
each_heard_answer_tells lab H r n c is chained g honest listed calm h =
    let d = of_delivery lab H r n c h (deliveries lab H r h.number g h.delivered) in
    let t : AnswerTells lab H r n c = each_answer_tells lab H r n c is chained g honest listed calm d.0 in
    let told : r.fate ≡ answer_in lab c (standing lab H n c).phase =
    by_answer lab c r.fate (standing lab H n c).phase (same lab H r n c h) d.1 t.by_way in
    record { fate = told; way = subst (TellsOfWay lab c) told t.of_way }
