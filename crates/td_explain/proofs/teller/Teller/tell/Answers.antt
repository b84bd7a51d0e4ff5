use Rattle.td_explain.proofs.Words.{AreBelow, Captured, Counts, KeepsKnown, List, Said, ServerSettings, Tallier, Tallies, [], all_said, ap, arith, datagram_in, length, length-map, licensers, places, said_of, subst, sym, ℕ, ◌++◌, ◌+◌, ◌<◌, ◌^◌, ◌∙◌, ◌∷◌, ◌≡◌}
use Rattle.td_explain.proofs.SaidLaws.{all_said_long, licensers_below, tells_more}
use Rattle.td_explain.proofs.teller.Teller.tell.Goals as goal

pub returns : goal.returns
returns c = λ s rs r bytes_are small before tells.
    let t = c.args.self.now in
    let held = places rs in
    let xs = all_said s rs in
    let said = c.in_ok-said.said in
    let long : length held ≡ length rs = length-map rs (λ (q : Captured). datagram_in q.bytes) in
    let told : length xs ≡ length rs = all_said_long s rs in
    let counted : t.tallier.counts.packets ≡ length held = ap (λ (k : Counts). k.packets) tells.tallies.counts_are ∙ told ∙ sym long in
    let known = subst (λ (u : ServerSettings). KeepsKnown u t.known held held) (sym tells.settings_are) tells.known in
    let room : length held + 1 < 2 ^ 64 = omega (arith, small, long) in
    let found = c.in_ok-said.ensures.found rs before room counted known in
    let is : said ≡ said_of s held c.args.packet.now = found.0 ∙ ap (λ (u : ServerSettings). said_of u held c.args.packet.now) tells.settings_are in
    let at_r : said ≡ said_of s held r.bytes = is ∙ ap (said_of s held) (sym bytes_are) in
    let below = subst (λ (n : ℕ). AreBelow n (licensers (said ∷ []))) (long
    ∙ sym told) (subst (λ (x : Said). AreBelow (length held) (licensers (x ∷ []))) (sym is) (licensers_below s held c.args.packet.now)) in
    let tallied_before : Tallies c.said.new.self.tallier xs = subst (λ (y : Tallier). Tallies y xs) (sym c.said.ensures.tallier) tells.tallies in
    let tallied : Tallies c.count.new.self (xs ++ said ∷ []) = c.in_ok-count.ensures xs (omega (arith, small, told)) below tallied_before in
    let tallies = subst (λ (x : Said). Tallies c.count.new.self (xs ++ x ∷ [])) at_r tallied in
    let now = c.said.new.self.known in
    let kept = subst (λ (u : ServerSettings). KeepsKnown u now (held ++ datagram_in c.args.packet.now ∷ [])
    (held ++ datagram_in c.args.packet.now ∷ [])) tells.settings_are found.1 in
    let keeps = subst (λ (x : List ℕ). KeepsKnown s now (held ++ datagram_in x ∷ []) (held ++ datagram_in x ∷ [])) (sym bytes_are) kept in
    (is, tells_more s (record c.said.new.self { tallier = c.count.new.self }) rs r (c.said.ensures.settings ∙ tells.settings_are) tallies keeps)
