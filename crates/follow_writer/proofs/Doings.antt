-- What a record is: no node did anything, or one did.
use Rattle.follow_writer.proofs.Words.{Bool, ClientNode, Ep, Fate, Full, Input, Kind, Lab, List, Node, None, Option, Quiet, Some, ap, begins_anew, changes_client, changes_peer, client, copied, dst_of, entry_of, false, faulted, forgot, given, gives_up, handed, input_of, is_of_peer, items_of, missing, nat, native, no_ep, node_at, none_left, option_and_then, passed, put, quiet, reached, refl, relay, releases_all, restarted, server, settled, shut, source_delivered, source_of, source_of_item, stays, strayed, sym, ticked, true, uncopied, wire, ℕ, ◌||◌, ◌∙◌, ◌∷◌, ◌≡◌}
use Rattle.teredo_node.specs.declared.fate.Fate.TheVariants as fate
use Rattle.legal.specs.Kinds as kinds
use Rattle.follow_writer.proofs.LatestOne.{source_of_input}

-- By this fate no node did anything.
abbrev pub is_idle : Fate → Bool
is_idle fate.NatClosed = true
is_idle fate.Done = true
is_idle fate.Nowhere = true
is_idle fate.NoEntry = true
is_idle fate.Idle = true
is_idle fate.Put = true
is_idle _ = false

-- it says nothing of peers, and no address changes
pub record SaysNothing (f : Fate) : Type 0 where
  pub of_client : changes_peer f ≡ false
  pub of_relay : changes_client f ≡ false
  pub releases : (releases_all f || gives_up f) ≡ false
  pub stays_there : (c : ClientNode) → begins_anew (Some (client c)) f ≡ false

pub idle_says : (f : Fate) → is_idle f ≡ true → SaysNothing f
idle_says fate.NatClosed is = record { of_client = refl; of_relay = refl; releases = refl; stays_there = λ c. refl }
idle_says fate.Done is = record { of_client = refl; of_relay = refl; releases = refl; stays_there = λ c. refl }
idle_says fate.Nowhere is = record { of_client = refl; of_relay = refl; releases = refl; stays_there = λ c. refl }
idle_says fate.NoEntry is = record { of_client = refl; of_relay = refl; releases = refl; stays_there = λ c. refl }
idle_says fate.Idle is = record { of_client = refl; of_relay = refl; releases = refl; stays_there = λ c. refl }
idle_says fate.Put is = record { of_client = refl; of_relay = refl; releases = refl; stays_there = λ c. refl }
idle_says _ is = absurd (cc is)

pub idle_of_nobody : (a : Option Node) (f : Fate) → SaysNothing f → is_of_peer a f ≡ false
idle_of_nobody None f is = is.releases
idle_of_nobody (Some (server x)) f is = is.releases
idle_of_nobody (Some (nat x)) f is = is.releases
idle_of_nobody (Some (native x)) f is = is.releases
idle_of_nobody (Some (client x)) f is = ap (λ (b : Bool). b || (releases_all f || gives_up f)) is.of_client ∙ is.releases
idle_of_nobody (Some (relay x)) f is = ap (λ (b : Bool). b || (releases_all f || gives_up f)) is.of_relay ∙ is.releases

pub idle_same_address : (a : Option Node) (f : Fate) → SaysNothing f → begins_anew a f ≡ false
idle_same_address None f is = refl
idle_same_address (Some (server x)) f is = refl
idle_same_address (Some (nat x)) f is = refl
idle_same_address (Some (native x)) f is = refl
idle_same_address (Some (client x)) f is = is.stays_there x
idle_same_address (Some (relay x)) f is = refl

-- a node did this
pub record IsDone (lab : Lab) (H : List Full) (r : Full) (n : ℕ) (a : Node) (m : ℕ) (dst : Ep) (input : Input) : Type 0 where
  pub there : node_at lab.topology n ≡ Some a
  pub node : r.node ≡ Some n
  pub moment : r.moment ≡ m
  pub entry : r.entry ≡ Some (entry_of lab H m n dst input a)
  pub fate_is : r.fate ≡ (entry_of lab H m n dst input a).step.fate
  pub source : source_of input ≡ source_delivered (wire (r ∷ H)) r.act

-- what happened: nothing was done, or a node did something
pub data What (lab : Lab) (H : List Full) (r : Full) : Type 0 where
  nobody : r.entry ≡ None → is_idle r.fate ≡ true → What lab H r
  somebody : (n : ℕ) (a : Node) (m : ℕ) (dst : Ep) (input : Input) → IsDone lab H r n a m dst input → What lab H r

module _ (lab : Lab) (H : List Full) (r : Full) where
  quiet_is : Quiet lab H r → is_idle r.fate ≡ true
  quiet_is (passed ms asked before is) = ap (λ (z : Full). is_idle z.fate) is
  quiet_is (shut number k x asks at goes is) = ap (λ (z : Full). is_idle z.fate) is
  quiet_is (strayed number x asks at goes is) = ap (λ (z : Full). is_idle z.fate) is
  quiet_is (missing number asks at is) = ap (λ (z : Full). is_idle z.fate) is
  quiet_is (none_left asked none is) = ap (λ (z : Full). is_idle z.fate) is
  quiet_is (settled asked none is) = ap (λ (z : Full). is_idle z.fate) is
  quiet_is (uncopied number src dst asked at is) = ap (λ (z : Full). is_idle z.fate) is
  quiet_is (kinds.hosted v k x hands none is) = ap (λ (z : Full). is_idle z.fate) is
  quiet_is (restarted k asked is) = ap (λ (z : Full). is_idle z.fate) is
  quiet_is (forgot k who asked is) = ap (λ (z : Full). is_idle z.fate) is
  quiet_is (faulted send asked is) = ap (λ (z : Full). is_idle z.fate) is

  pub what : Kind lab H r → What lab H r
  what (quiet entry address made lets why) = nobody entry (quiet_is why)
  what (put src dst bytes asked is) = nobody (ap (λ (z : Full). z.entry) is) (ap (λ (z : Full). is_idle z.fate) is)
  what (copied number src dst x asked at is) = nobody (ap (λ (z : Full). z.entry) is) (ap (λ (z : Full). is_idle z.fate) is)
  what (kinds.ticks ms x asked due within is) = somebody x.number x.node _ no_ep ticked (record {
    there = due.there;
    node = ap (λ (z : Full). z.node) is;
    moment = ap (λ (z : Full). z.moment) is;
    entry = ap (λ (z : Full). z.entry) is;
    fate_is = ap (λ (z : Full). z.fate) is;
    source = sym (ap (λ (z : Full). source_delivered (wire (r ∷ H)) z.act) is);
  })
  what (handed v n x a hands at is) = somebody n a _ no_ep (given x) (record {
    there = at;
    node = ap (λ (z : Full). z.node) is;
    moment = ap (λ (z : Full). z.moment) is;
    entry = ap (λ (z : Full). z.entry) is;
    fate_is = ap (λ (z : Full). z.fate) is;
    source = sym (ap (λ (z : Full). source_delivered (wire (r ∷ H)) z.act) is);
  })
  what (reached number n x a asks at goes to is) = somebody n a _ (dst_of x) (input_of x) (record {
    there = to;
    node = ap (λ (z : Full). z.node) is;
    moment = ap (λ (z : Full). z.moment) is;
    entry = ap (λ (z : Full). z.entry) is;
    fate_is = ap (λ (z : Full). z.fate) is;
    source = source_of_input x ∙ sym (ap (λ (z : Full). source_delivered (wire (r ∷ H)) z.act) is ∙ ap (option_and_then source_of_item) (stays (wire H) (items_of r) number x at));
  })
