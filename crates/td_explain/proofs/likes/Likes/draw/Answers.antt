use Rattle.td_explain.proofs.Words.{Changes, Datagram, HasKey, IsLike, Like, List, Some, Vec, arith, changed_at, cond-false, cond-true, datagram, key_bytes, like_at, refl, shape, subst, sym, ℕ, ◌∙◌}
use Rattle.td_explain.proofs.likes.Likes.draw.Goals as goal

shape_fits : (e : Datagram) → HasKey e → HasKey (shape e)
shape_fits e fits = record { src_ip = fits.src_ip; src_port = fits.src_port; dst_ip = fits.dst_ip; dst_port = fits.dst_port }

pub returns-clause-known : goal.returns-clause-known
returns-clause-known c =
    let d = datagram c.args.src c.args.dst c.args.body.now in
    let d_fits : HasKey (shape d) = record { src_ip = omega arith; src_port = omega arith; dst_ip = omega arith; dst_port = omega arith } in
    let items : Vec ℕ → List ℕ = λ k. k.items in
    let m = c.args.self.now.latest in
    let n = c.insert.new.self in
    let like : Like = record { place = c.args.place; packet = c.args.packet } in
    let key_is = rw c.to_be_bytes.ensures at c.in_ok-key.ensures in
    let changes : Changes items m n (key_bytes (shape d)) (Some like) =
    subst (λ (k : List ℕ). Changes items m n k (Some like)) key_is c.in_ok-insert.ensures.updates in
    record {
      same = λ e fits same.
          let now = changed_at items m n (shape d) (shape e) (Some like) (shape_fits e fits) d_fits changes
          ∙ cond-true _ (Some like) (like_at c.args.self.now e) same in
          subst (IsLike c.args.place c.args.packet.now) (sym now) (refl, refl);
      others = λ e fits differ.
          changed_at items m n (shape d) (shape e) (Some like) (shape_fits e fits) d_fits changes ∙ cond-false _ (Some like) (like_at c.args.self.now e) differ;
    }
