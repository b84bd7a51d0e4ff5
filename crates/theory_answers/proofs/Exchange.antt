-- A client's question that is answered at once: who asked, what the server made of it, and what is let in of that.
use Rattle.theory_answers.proofs.Asks.{each_question_is_open}
use Rattle.theory_answers.proofs.Words.{ClientNode, DrawsWords, Entry, Ep, Full, Grown, IsAnsweredAtOnce, IsChained, IsKeptOpenAlong, IsOpenQuestion, IsTopology, IsUndisturbedAlong, Item, Journal, Lab, LetsReplyIn, List, Made, Qualification, Send, Settings, Some, Words, [], ap, are_honest_for, arith, asks_as_cone, client, client_at, client_is_there, client_settings, deliveries, drawn, earlier, false, filter_map, honest_before, inl, inr, is_question, item_in, journal, kept_open_before, kinds, length, node_at, nonce_from, not_started, qualification, question, replies_are_let_in, send, sent, server_asked, slice_get, solicitation, standing, starts, sym, true, undisturbed_before, wire, wire_stays, with_entry, words, ℕ, ◌*◌, ◌++◌, ◌+◌, ◌<◌, ◌^◌, ◌∙◌, ◌∷◌, ◌≡◌, ◌⊎◌}
use Rattle.theory_answers.proofs.Ticked.{is_made, done, sends_of, IsTick, of_kind, tick_leaves, idle_on}
use Rattle.theory_answers.proofs.Closed.{IsDelivering, delivering}
use Rattle.theory_answers.proofs.Served.{IsServedNext, IsServed, is_served}
use Rattle.theory_answers.proofs.Sent.{LeavesAt, last_entry}

-- two words make a nonce of 64 bits
pub nonce_fits : (a b : ℕ) → a < 2 ^ 32 → b < 2 ^ 32 → a * 2 ^ 32 + b < 2 ^ 64
nonce_fits a b x y = omega (arith, x, y)

-- a record of a client that nothing disturbs
abbrev pub Calm : Lab → List Full → ℕ → ClientNode → Type 0
Calm lab H n c = IsUndisturbedAlong lab H n c ⊎ ((c.cone_try ≡ false) × IsKeptOpenAlong lab H n c)

calm_before : (lab : Lab) (n : ℕ) (c : ClientNode) (H : List Full) (r : Full) → starts n r ≡ false → Calm lab (r ∷ H) n c → Calm lab H n c
calm_before lab n c H r off (inl calm) = inl (undisturbed_before lab n c H r off calm)
calm_before lab n c H r off (inr both) = inr (both.0, kept_open_before lab n c H r off both.1)

-- THE QUESTION

-- a client that nothing disturbs asks in a record, and hears in another one
pub record IsExchange (lab : Lab) (H waits : List Full) (asks serves hears : Full) (n : ℕ) (c : ClientNode) : Type 0 where
  pub is : IsTopology lab.topology
  pub chained : IsChained lab
  pub draws : DrawsWords lab
  pub grown : Grown lab (hears ∷ serves ∷ (waits ++ asks ∷ H))
  pub honest : are_honest_for lab.topology c (hears ∷ serves ∷ (waits ++ asks ∷ H)) ≡ true
  pub listed : client_at lab.topology n ≡ Some c
  pub calm : Calm lab (hears ∷ serves ∷ (waits ++ asks ∷ H)) n c
  pub at_once : IsAnsweredAtOnce asks waits serves hears n
  pub asked : is_question asks.fate ≡ true

-- a question of a client, and its answer
pub record ExchangeOf : Type 0 where
  pub lab : Lab
  pub H : List Full
  pub waits : List Full
  pub asks : Full
  pub serves : Full
  pub hears : Full
  pub n : ℕ
  pub c : ClientNode
  pub z : IsExchange lab H waits asks serves hears n c

module _ (exchange_of : ExchangeOf) where
  open exchange_of use {lab, H, waits, asks, serves, hears, n, c, z}

  abbrev pub a : IsAnsweredAtOnce asks waits serves hears n
  a = z.at_once

  abbrev pub s : Settings
  s = client_settings lab.topology c

  abbrev pub K : List Full
  K = waits ++ asks ∷ H

  abbrev pub w : Words
  w = words lab n H

  abbrev pub nonce : ℕ
  nonce = nonce_from w

  abbrev pub e : Entry
  e = done lab H asks n c

  pub node : node_at lab.topology n ≡ Some (client c)
  node = client_is_there.node lab.topology n c z.listed

  pub then_ : Grown lab (asks ∷ H)
  then_ = earlier lab waits (asks ∷ H) z.grown.1.1

  pub tick : IsTick lab H asks n c
  tick = of_kind lab H asks n c node a.node a.tick (ap is_made a.sends) (kinds lab H asks then_.0)

  abbrev pub q : Qualification
  q = qualification s (with_entry (journal n H) e)

  pub opens : IsOpenQuestion s q e nonce
  opens = each_question_is_open s (journal n H) asks.moment w (ap is_question (sym tick.fate) ∙ z.asked)

  abbrev pub to : Ep
  to = server_asked s q.phase

  abbrev pub x : Send
  x = send to (solicitation s (asks_as_cone q q.phase) nonce)

  pub leaves : LeavesAt x a.question
  leaves = tick_leaves lab H asks n c x a.question (ap (sends_of lab H asks n c) (sym opens.sends) ∙ sym tick.made ∙ a.sends)

  abbrev pub left : Ep
  left = leaves.left

  -- nothing of it comes between
  pub same : standing lab K n c ≡ q
  same = ap (λ (j : Journal). qualification s j) (idle_on n (asks ∷ H) waits a.idle ∙ tick.later)

  pub there : slice_get (wire K) asks.first ≡ Some a.question
  there = wire_stays waits (asks ∷ H) asks.first a.question
      (ap (λ (k : ℕ). slice_get (wire H ++ filter_map item_in asks.made) k) tick.first
      ∙ ap (λ (xs : List Made). slice_get (wire H ++ filter_map item_in xs) (length (wire H))) a.sends ∙ last_entry (wire H) a.question)

  abbrev pub question_at : IsServedNext lab K serves n c
  question_at = record {
    number = asks.first;
    left = left;
    nonce = nonce;
    asked = a.asked;
    asks = there ∙ ap (λ (y : Item). Some y) leaves.is ∙ ap (λ (p : Qualification). Some (question s p left nonce)) (sym same);
    fits = nonce_fits (w 0) (w 1) (z.draws n (drawn n H + 0)) (z.draws n (drawn n H + 1));
    answer = a.answer;
    makes = a.makes;
  }

  -- AT THE SERVER

  abbrev pub K' : List Full
  K' = serves ∷ K

  pub served : IsServed (record { lab = lab; H = K; serves = serves; n = n; c = c; is = z.is; g = z.grown.1; listed = z.listed; a = question_at })
  served = is_served (record { lab = lab; H = K; serves = serves; n = n; c = c; is = z.is; g = z.grown.1; listed = z.listed; a = question_at })

  pub delivers : IsDelivering lab K' hears serves.first
  delivers = delivering lab K' hears serves.first (deliveries lab K' hears serves.first z.grown a.heard)

  pub calm : Calm lab K' n c
  calm = calm_before lab n c K' hears (not_started n hears delivers.still) z.calm

  pub honest : are_honest_for lab.topology c K' ≡ true
  honest = honest_before lab n c K' hears z.honest

  pub reply : LetsReplyIn lab K' n c left to
  reply = replies_are_let_in lab H (serves ∷ waits) asks n c left to z.is z.chained z.grown.1 honest z.listed calm (record {
    node = a.node;
    bytes = x.bytes;
    made = a.sends ∙ ap (λ (y : Item). sent y ∷ []) leaves.is;
    idle = (served.idle, a.idle);
  })

  pub still : standing lab K' n c ≡ q
  still = served.same ∙ same
