-- What is brought to the host on the way of a client's test isn't the packet, which is no test, and the answer goes back.
use Rattle.theory_reaching.proofs.Words.{Bool, BringsToNative, Delivery, Entry, Full, Input, Ip6, Item, Lab, List, NativeNode, Option, Some, [], address_at, ap, deliveries, dst_of, entry_input, false, false≢true, fields_in, from_six, input_of, is_some, is_teredo, nonce_from, slice_get, sym, test_bytes, to_node, true, unwrap_or, wire, words, ℕ, ◌∙◌, ◌≡◌}
use Rattle.legal.specs.Deliveries.{to_nobody}
use Rattle.theory_reaching.proofs.to_native.TestsOut.{AskingHost, IsTestItem, asking, tested, answering, returning, test, teredo, native_is}
use Rattle.theory_reaching.proofs.schedules.Throughout.{OneDelivery}

-- it isn't, byte for byte, the test of the native host that client n draws next
abbrev pub IsNoTest : Lab → List Full → ℕ → NativeNode → List ℕ → Type 0
IsNoTest lab H n h x = test_bytes (address_at lab H n) h.six (nonce_from (words lab n H)) ≡ x → ⊥

abbrev is_six : Input → Bool
is_six (from_six z) = true
is_six _ = false

abbrev six_bytes : Input → List ℕ
six_bytes (from_six z) = z
six_bytes _ = []

module _ (the : AskingHost) (no_request : IsNoTest the.lab the.H the.n the.h the.x) where
  open the use {lab, H, q, n, m, c, h, r, x, asks}

  abbrev own : Ip6
  own = address_at lab H n

  abbrev IsIt : Item → Type 0
  IsIt = IsTestItem the

  module _ (this : OneDelivery lab) where
    open this use {G, p, serial, y, g, delivered, at}

    pub same_item : (z : Item) → slice_get (wire G) serial ≡ Some z → z ≡ y
    same_item z to = ap (λ (o : Option Item). unwrap_or o z) (sym to ∙ at)

    -- what is brought to the host is the entry itself
    pub brought : BringsToNative m x p → input_of y ≡ from_six x
    brought b = by (deliveries lab G p serial g delivered) where
      by : Delivery lab G p serial → input_of y ≡ from_six x
      by (to_node j a z to reached) =
          ap input_of (sym (same_item z to)) ∙ sym (entry_input lab G p.moment j (dst_of z) (input_of z) a)
          ∙ ap (λ (o : Option Entry). (unwrap_or o b.entry).input) (sym reached.act.entry ∙ b.did) ∙ b.packet
      by (to_nobody z to miss) = absurd (false≢true (ap (λ (o : Option Entry). is_some o) (sym miss.entry ∙ b.did)))

    -- none of the entries on the way of the test is the packet
    pub silent : IsIt y → BringsToNative m x p → ⊥
    silent (asking is) b = false≢true (ap is_six (sym (ap input_of is) ∙ brought b))
    silent (tested is) b =
        let same : test the ≡ x = ap six_bytes (sym (ap input_of is) ∙ brought b) in
        no_request same
    silent (answering z is to_own) b =
        let same : z ≡ x = ap six_bytes (sym (ap input_of is) ∙ brought b) in
        false≢true (sym (native_is the) ∙ ap is_teredo (sym asks.handed.packet.destination
        ∙ sym (ap (λ (u : List ℕ). (fields_in u).dst) same) ∙ to_own) ∙ teredo the)
    silent (returning z is) b = false≢true (ap is_six (sym (ap input_of is) ∙ brought b))
