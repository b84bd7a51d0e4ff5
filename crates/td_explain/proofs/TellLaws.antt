-- What is known after one more record.
use Rattle.td_explain.proofs.Words.{CameOnceMore, Clean, Datagram, DrawnOnceMore, DrawsLike, HasKey, IsLatest, IsLike, KeepsKnown, KeepsLatest, KeepsLedger, KeepsPast, Known, Ledger, Like, Likes, List, None, Option, Past, Placed, ServerSettings, Some, Whole, [], ap, arith, came_at, cases_Bool, cond, count_by-le-length, datagram_in, drawn_at, inl, inr, is_audited, is_like, is_same, latest_like, length, like_at, one_if, output, placed_output, refl, same_datagram, subst, sym, true, ℕ, ◌++◌, ◌+◌, ◌<◌, ◌^◌, ◌∙◌, ◌∷◌, ◌≡◌}
use Rattle.td_explain.proofs.OutputLaws.{Held, own_more, own_none, latest_none, latest_same, latest_other, shapes_same}
use Rattle.td_explain.proofs.CameLaws.{times_more, CameAsOften, none_came}
use Rattle.td_explain.proofs.WaitLaws.{waits_recount}
use Rattle.td_explain.proofs.DrawnLaws.{waits_silent}

-- ---- a datagram comes

-- what came can be counted
pub room : (s : ServerSettings) (l : Ledger) (held : Held) (d : Datagram) → HasKey d → is_audited s d.src ≡ true → length held + 1 < 2 ^ 64
    → KeepsLedger s l held held → came_at l d + 1 < 2 ^ 64
room s l held d fits from small keeps =
    let came = keeps.counted d fits from in
    let most = count_by-le-length (is_same d) held in
    omega (arith, came, most, small)

-- from the server
pub came_now : (s : ServerSettings) (old new : Ledger) (held : Held) (d : Datagram) → KeepsLedger s old held held → CameOnceMore old new d
    → KeepsLedger s new (held ++ Some d ∷ []) held
came_now s old new held d keeps comes = record {
  counted = λ e fits from. (comes e fits).0 ∙ ap (λ (n : ℕ). n + one_if (same_datagram e d)) (keeps.counted e fits from) ∙ sym (times_more e d held);
  drawn = λ e fits. (comes e fits).1 ∙ keeps.drawn e fits;
}

pub past_recount : (s : ServerSettings) (p : Past) (came more held : Held) → CameAsOften s came more → KeepsPast s p came held → KeepsPast s p more held
past_recount s p came more held same keeps = record {
  ledger = record { counted = λ e fits from. keeps.ledger.counted e fits from ∙ sym (same e from); drawn = keeps.ledger.drawn };
  latest = keeps.latest;
}

pub recount : (s : ServerSettings) (k : Known) (came more held : Held) → CameAsOften s came more → KeepsKnown s k came held → KeepsKnown s k more held
recount s (Clean w) came more held same keeps = waits_recount s w came more held same keeps
recount s (Whole p) came more held same keeps = past_recount s p came more held same keeps

-- ---- its output is noted

-- the place and the packet of the next record
pub record NextPacket (s : ServerSettings) (held : Held) (h : Option Datagram) : Type 0 where
  pub place : ℕ
  pub packet : List ℕ
  pub place_is : place ≡ length held
  pub holds : datagram_in packet ≡ h

drawn_ledger : (s : ServerSettings) (old new : Ledger) (came held : Held) (h : Option Datagram) (o : Datagram) (place : ℕ) → place ≡ length held
    → KeepsLedger s old came held → output s h ≡ Some o → DrawnOnceMore old new o place → KeepsLedger s new came (held ++ h ∷ [])
drawn_ledger s old new came held h o place place_is keeps is drawn = record {
  counted = λ e fits from. (drawn e fits).0 ∙ keeps.counted e fits from;
  drawn = λ e fits.
      (drawn e fits).1 ∙ ap (λ (k : ℕ). drawn_at old e ++ cond (same_datagram e o) (k ∷ []) []) place_is
      ∙ ap (λ (ps : List ℕ). ps ++ cond (same_datagram e o) (length held ∷ []) []) (keeps.drawn e fits) ∙ sym (own_more s e held h o is);
}

is_now : (s : ServerSettings) (held : Held) (h : Option Datagram) (o : Datagram) (n : NextPacket s held h) (like : Option Like) → output s h ≡ Some o
    → IsLike n.place n.packet like → IsLatest s like (Some (placed_output (length held) o))
is_now s held h o n None is same = absurd same
is_now s held h o n (Some like) is same = (
  o,
  ap (λ (k : ℕ). let p : Option Placed = Some (placed_output k o) in p) (sym (same.0 ∙ n.place_is)),
  ap (λ (x : List ℕ). output s (datagram_in x)) same.1 ∙ ap (output s) n.holds ∙ is,
)

drawn_latest : (s : ServerSettings) (likes more : Likes) (held : Held) (h : Option Datagram) (o : Datagram) (n : NextPacket s held h)
    → KeepsLatest s likes held → output s h ≡ Some o → length o.body < 2 ^ 64 → DrawsLike likes more o n.place n.packet → KeepsLatest s more (held ++ h ∷ [])
drawn_latest s likes more held h o n keeps is o_short like e fits short =
    let shape = shapes_same e o short o_short in
    elim (cases_Bool (is_like e o)) [
      | inl same ↦
          subst (IsLatest s (like_at more e)) (sym (latest_same s e held h o is same))
          (is_now s held h o n (like_at more e) is (like.same e fits (shape ∙ same)))
      | inr differ ↦
          let before = subst (λ (l : Option Like). IsLatest s l (latest_like s e held)) (sym (like.others e fits (shape ∙ differ))) (keeps e fits short) in
          subst (IsLatest s (like_at more e)) (sym (latest_other s e held h o is differ)) before
    ]

-- an output of the next place is noted
pub record NotesDrawn (old new : Past) (d : Datagram) (place : ℕ) (packet : List ℕ) : Type 0 where
  pub short : length d.body < 2 ^ 64
  pub drawn : DrawnOnceMore old.ledger new.ledger d place
  pub like : DrawsLike old.likes new.likes d place packet

pub drawn_past : (s : ServerSettings) (old new : Past) (came held : Held) (d : Datagram) (place : ℕ) (packet : List ℕ) → NotesDrawn old new d place packet
    → place ≡ length held → output s (datagram_in packet) ≡ Some d → KeepsPast s old came held → KeepsPast s new came (held ++ datagram_in packet ∷ [])
drawn_past s old new came held d place packet noted place_is is keeps =
    let h = datagram_in packet in
    record {
      ledger = drawn_ledger s old.ledger new.ledger came held h d place place_is keeps.ledger is noted.drawn;
      latest = drawn_latest s old.likes new.likes held h d (record { place = place; packet = packet; place_is = place_is; holds = refl }) keeps.latest is
          noted.short noted.like;
    }

-- a place without an output
pub past_silent : (s : ServerSettings) (p : Past) (came held : Held) (h : Option Datagram) → output s h ≡ None → KeepsPast s p came held
    → KeepsPast s p came (held ++ h ∷ [])
past_silent s p came held h none keeps = record {
  ledger = record { counted = keeps.ledger.counted; drawn = λ e fits. keeps.ledger.drawn e fits ∙ sym (own_none s e held h none) };
  latest = λ e fits short. subst (IsLatest s (like_at p.likes e)) (sym (latest_none s e held h none)) (keeps.latest e fits short);
}

pub silent : (s : ServerSettings) (k : Known) (came held : Held) (h : Option Datagram) → output s h ≡ None → KeepsKnown s k came held
    → KeepsKnown s k came (held ++ h ∷ [])
silent s (Clean w) came held h none keeps = waits_silent s w came held h none keeps
silent s (Whole p) came held h none keeps = past_silent s p came held h none keeps

-- a record without a datagram
pub skipped : (s : ServerSettings) (k : Known) (held : Held) → KeepsKnown s k held held → KeepsKnown s k (held ++ None ∷ []) (held ++ None ∷ [])
skipped s k held keeps = silent s k (held ++ None ∷ []) held None refl (recount s k held (held ++ None ∷ []) held (none_came s held) keeps)

pub past_skipped : (s : ServerSettings) (p : Past) (held : Held) → KeepsPast s p held held → KeepsPast s p (held ++ None ∷ []) (held ++ None ∷ [])
past_skipped s p held keeps = past_silent s p (held ++ None ∷ []) held None refl (past_recount s p held (held ++ None ∷ []) held (none_came s held) keeps)
