use Rattle.td_explain.proofs.Words.{IsLatest, Like, List, Near, None, Option, Some, ap, datagram, difference, like_at, like_by, near_licensing, option_copied, subst, sym, ℕ, ◌∙◌, ◌≡◌}
use Rattle.td_explain.proofs.likes.Likes.near.Goals as goal

pub returns-in-None-clause-near : goal.returns-in-None-clause-near
returns-in-None-clause-near c = λ p latest.
    let d = datagram c.args.src c.args.dst c.args.body.now in
    let key_is = rw c.to_be_bytes.ensures at (c.as_slice.ensures.value ∙ c.in_ok-key.ensures) in
    let none : like_at c.args.self.now d ≡ None = sym (c.get.ensures.value ∙ ap (like_by c.args.self.now) key_is) ∙ ap option_copied c.in-None.is in
    ap (near_licensing c.args.body.now) (sym (subst (λ (l : Option Like). IsLatest c.args.settings.now l p) none latest))

pub returns-clause-near : goal.returns-clause-near
returns-clause-near c = λ p latest.
    let d = datagram c.args.src c.args.dst c.args.body.now in
    let like : Like = c.in-Some.like.now in
    let key_is = rw c.to_be_bytes.ensures at (c.as_slice.ensures.value ∙ c.in_ok-key.ensures) in
    let some : like_at c.args.self.now d ≡ Some like = sym (c.get.ensures.value ∙ ap (like_by c.args.self.now) key_is) ∙ ap option_copied c.in-Some.is in
    let (e, is, drawn) = subst (λ (l : Option Like). IsLatest c.args.settings.now l p) some latest in
    let bytes = c.put_output-len.ensures.bytes e drawn in
    ap (λ (n : ℕ). Near like.place n) (c.difference.ensures ∙ ap (λ (x : List ℕ). difference x c.args.body.now) bytes)
    ∙ ap (near_licensing c.args.body.now) (sym is)
