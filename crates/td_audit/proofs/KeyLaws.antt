-- Keys of datagrams, which are the same where the datagrams are.
use Rattle.td_audit.proofs.Words.{Bool, Datagram, Ep, HasKey, List, and_from, and_parts, ap, big_bytes, big_number, big_number-reads_back, bytes_eq, bytes_eq-Decides, datagram, drop, drop_at, false, key_bytes, length, length-bytes_high_first, refl, regrouped_5, same_datagram, same_ep_decides, sym, take, take_at, true, ℕ, ◌++◌, ◌<◌, ◌^◌, ◌∙◌, ◌≡◌}

pub same_is : (a b : Datagram) → same_datagram a b ≡ true → a ≡ b
unfolding same_datagram
same_is a b same =
    let first = and_parts _ _ same in
    let second = and_parts _ _ first.1 in
    let src = (same_ep_decides a.src b.src).0 first.0 in
    let dst = (same_ep_decides a.dst b.dst).0 second.0 in
    let body = (bytes_eq-Decides a.body b.body).0 second.1 in
    let e : datagram a.src a.dst a.body ≡ datagram b.src b.dst b.body = cc in
    e

pub same_itself : (a : Datagram) → same_datagram a a ≡ true
unfolding same_datagram
same_itself a = and_from _ _ ((same_ep_decides a.src a.src).1 refl) (and_from _ _ ((same_ep_decides a.dst a.dst).1 refl) ((bytes_eq-Decides a.body a.body).1 refl))

pub same_of : (a b : Datagram) → a ≡ b → same_datagram a b ≡ true
same_of a b is = ap (same_datagram a) (sym is) ∙ same_itself a

-- what follows a front of n bytes is the same, and so is the front
front_same : (n : ℕ) (a b x y : List ℕ) → length a ≡ n → length b ≡ n → a ++ x ≡ b ++ y → (a ≡ b) × (x ≡ y)
front_same n a b x y a_long b_long same =
    (sym (take_at a x n a_long) ∙ ap (take n) same ∙ take_at b y n b_long, sym (drop_at a x n a_long) ∙ ap (drop n) same ∙ drop_at b y n b_long)

port_same : (p q : ℕ) → p < 2 ^ 16 → q < 2 ^ 16 → big_bytes 2 p ≡ big_bytes 2 q → p ≡ q
port_same p q p_fits q_fits same =
    sym (big_number-reads_back 2 p (big_bytes 2 q) p_fits) ∙ ap (λ (t : List ℕ). big_number 2 (t ++ big_bytes 2 q)) same ∙ big_number-reads_back 2 q (big_bytes 2 q) q_fits

ep : List ℕ → ℕ → Ep
ep ip port = record { ip = record { 0 = ip }; port = port }

same_ep_parts : (a b : Ep) → a.ip.0 ≡ b.ip.0 → a.port ≡ b.port → a ≡ b
unfolding ep
same_ep_parts a b ip port =
    let e : ep a.ip.0 a.port ≡ ep b.ip.0 b.port = cc in
    e

-- one key, one datagram
key_is : (a b : Datagram) → HasKey a → HasKey b → key_bytes a ≡ key_bytes b → a ≡ b
unfolding key_bytes
key_is a b a_fits b_fits same =
    let two = λ (n : ℕ). length-bytes_high_first 2 n in
    let a_port = big_bytes 2 a.src.port in
    let b_port = big_bytes 2 b.src.port in
    let a_to = big_bytes 2 a.dst.port in
    let b_to = big_bytes 2 b.dst.port in
    let whole = sym (regrouped_5 a.src.ip.0 a_port a.dst.ip.0 a_to a.body) ∙ same ∙ regrouped_5 b.src.ip.0 b_port b.dst.ip.0 b_to b.body in
    let first = front_same 4 a.src.ip.0 b.src.ip.0 (a_port ++ (a.dst.ip.0 ++ (a_to ++ a.body))) (b_port ++ (b.dst.ip.0 ++ (b_to ++ b.body))) a_fits.src_ip b_fits.src_ip whole in
    let second = front_same 2 a_port b_port (a.dst.ip.0 ++ (a_to ++ a.body)) (b.dst.ip.0 ++ (b_to ++ b.body)) (two a.src.port) (two b.src.port) first.1 in
    let third = front_same 4 a.dst.ip.0 b.dst.ip.0 (a_to ++ a.body) (b_to ++ b.body) a_fits.dst_ip b_fits.dst_ip second.1 in
    let fourth = front_same 2 a_to b_to a.body b.body (two a.dst.port) (two b.dst.port) third.1 in
    let src = same_ep_parts a.src b.src first.0 (port_same a.src.port b.src.port a_fits.src_port b_fits.src_port second.0) in
    let dst = same_ep_parts a.dst b.dst third.0 (port_same a.dst.port b.dst.port a_fits.dst_port b_fits.dst_port fourth.0) in
    let body = fourth.1 in
    let e : datagram a.src a.dst a.body ≡ datagram b.src b.dst b.body = cc in
    e

both : (a b : Bool) → (a ≡ true → b ≡ true) → (b ≡ true → a ≡ true) → a ≡ b
both true true there back = refl
both true false there back = sym (there refl)
both false true there back = back refl
both false false there back = refl

-- keys are the same exactly where the datagrams are
pub same_keys : (e d : Datagram) → HasKey e → HasKey d → bytes_eq (key_bytes d) (key_bytes e) ≡ same_datagram e d
same_keys e d e_fits d_fits =
    both (bytes_eq (key_bytes d) (key_bytes e)) (same_datagram e d) (λ t. same_of e d (sym (key_is d e d_fits e_fits ((bytes_eq-Decides (key_bytes d) (key_bytes e)).0 t))))
    (λ t. (bytes_eq-Decides (key_bytes d) (key_bytes e)).1 (ap key_bytes (sym (same_is e d t))))
