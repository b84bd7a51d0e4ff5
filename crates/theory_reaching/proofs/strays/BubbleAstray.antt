-- A client's bubble for another one: where it leaves from elsewhere than its address says, nothing comes of it.
use Rattle.theory_reaching.proofs.Words.{ClientNode, Ep, Fields, Full, Grown, HostHandsIn, Ip6, IsTold, IsTopology, Lab, Leaves, List, None, ReadsPayload, Settings, Some, address_at, ap, arith, asks_at, bubble_bytes, bubble_of, bubble_reads_back, bubble_small, bubbles_stray, client, client_address, client_made, client_settings, embedded, false, false_from_ne_true, false≢true, fields_in, has_cone, inl, is_big, is_fresh, is_link_local, is_on, is_teredo, journal, known_by, leaves_at, node_at, now, own_address_is, packet_reads_back, refl, same_ep, same_ep-self, same_ep-true, subst, sym, true, udp, value_written, wire_is_made, ℕ, ◌∙◌, ◌∷◌, ◌≡◌}
use Rattle.theory_reaching.proofs.strays.Gone.{IsGone, IsGoneItem}
use Rattle.theory_reaching.proofs.strays.MovedOut.{address_when_on}
use Rattle.theory_reaching.proofs.strays.MovedStray.{from_a_nat}

-- in the record q after H the host of client n hands in x for client m, which is neither fresh nor cone, and for which the bubbles stray
pub record IsBubbling (lab : Lab) (H : List Full) (q : Full) (n m : ℕ) (c d : ClientNode) (x : List ℕ) : Type 0 where
  pub rules : IsTopology lab.topology
  pub grown : Grown lab (q ∷ H)
  pub at : node_at lab.topology n ≡ Some (client c)
  pub to : node_at lab.topology m ≡ Some (client d)
  pub on : is_on lab H n c ≡ true
  pub there : is_on lab H m d ≡ true
  pub stale : is_fresh (now H) (known_by H n (address_at lab H m)) ≡ false
  pub plain : has_cone (address_at lab H m) ≡ false
  pub strays : bubbles_stray lab H c (address_at lab H n) (embedded (address_at lab H m)) (asks_at lab d) ≡ true
  pub handed : HostHandsIn q n (address_at lab H n) (address_at lab H m) x

-- so it is in this laboratory, of these two
pub record Bubbling : Type 0 where
  pub lab : Lab
  pub H : List Full
  pub q : Full
  pub n : ℕ
  pub m : ℕ
  pub c : ClientNode
  pub d : ClientNode
  pub x : List ℕ
  pub is : IsBubbling lab H q n m c d x

module _ (the : Bubbling) where
  open the use {lab, H, q, n, m, c, d, x, is}

  abbrev pub own : Ip6
  own = address_at lab H n

  abbrev pub other : Ip6
  other = address_at lab H m

  abbrev pub s : Settings
  s = client_settings lab.topology c

  -- THE ADDRESSES

  pub its : (client_address lab H n c ≡ Some own) × (is_teredo own ≡ true)
  its = address_when_on lab H n c is.rules is.grown.1 is.at is.on

  pub theirs : (client_address lab H m d ≡ Some other) × (is_teredo other ≡ true)
  theirs = address_when_on lab H m d is.rules is.grown.1 is.to is.there

  told : IsTold s own
  told = own_address_is s (journal n H) own (client_made lab.topology n c is.rules is.at)
      ((wire_is_made lab H is.rules is.grown.1).journals n) its.0

  pub told_there : IsTold (client_settings lab.topology d) other
  told_there = own_address_is (client_settings lab.topology d) (journal m H) other (client_made lab.topology m d is.rules is.to)
      ((wire_is_made lab H is.rules is.grown.1).journals m) theirs.0

  -- THE BUBBLE

  abbrev pub z : List ℕ
  z = bubble_bytes own other

  fields : fields_in z ≡ bubble_of own other
  fields = (packet_reads_back (bubble_of own other) (record {
    class = omega arith;
    flow = omega arith;
    next = omega arith;
    hop = omega arith;
    src = told.of.sixteen;
    dst = told_there.of.sixteen;
    body = omega arith;
  })).fields

  reads : ReadsPayload (value_written None None (fields_in z)) z
  reads = subst (λ (p : Fields). ReadsPayload (value_written None None p) z) (sym fields)
      (bubble_reads_back own other told.of.sixteen told_there.of.sixteen).payload

  -- from elsewhere it is one of which nothing comes
  turned : (src : Ep) → same_ep src (embedded own) ≡ false → same_ep (embedded own) src ≡ false
  turned src away = false_from_ne_true (same_ep (embedded own) src)
      (λ h. false≢true (sym away ∙ ap (same_ep src) (same_ep-true (embedded own) src h) ∙ same_ep-self src))

  gone : (src D : Ep) → same_ep src (embedded own) ≡ false → Leaves lab H (now H) c D src → IsGone lab src D z
  gone src D away leaves = record {
    no_server = from_a_nat lab c src is.rules (leaves_at lab H (now H) c D src leaves);
    reads = reads;
    why = inl (record {
      short = ap is_big fields ∙ bubble_small own other;
      teredo = ap (λ (p : Fields). is_teredo p.src) fields ∙ its.1;
      no_link = ap (λ (p : Fields). is_link_local p.src) fields ∙ told.of.not_link;
      elsewhere = ap (λ (p : Fields). same_ep (embedded p.src) src) fields ∙ turned src away;
      reads = reads;
    });
  }

  pub item : (src D : Ep) → same_ep src (embedded own) ≡ false → Leaves lab H (now H) c D src → IsGoneItem lab (udp src D z)
  item src D away leaves = record { src = src; to = D; bytes = z; same = refl; gone = λ made. gone src D away leaves }
