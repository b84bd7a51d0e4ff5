use Rattle.td_audit.proofs.Words.{Bool, Counts, HasKey, IsCovered, Runs, Some, [], ap, arith, datagram, is_audited, subst, sym, with_record, ◌++◌, ◌∙◌, ◌∷◌, ◌≡◌}
use Rattle.td_audit.proofs.JudgeLaws.{IsLicensed, judged_out, judged_on, runs_on}
use Rattle.td_audit.proofs.judge.Judge.judge.Goals as goal

pub returns-then-not-branch : goal.returns-then-not-branch
returns-then-not-branch c = λ s places small st.
    let d = datagram c.args.src c.args.dst c.args.body.now in
    let j = c.args.self.now in
    let fits : HasKey d = record { src_ip = omega arith; src_port = omega arith; dst_ip = omega arith; dst_port = omega arith } in
    let covered = subst (λ (b : Bool). IsCovered j.settings j.licences c.use_if_from.new.licences d b) c.if-not-branch.true c.in_ok-use_if_from.ensures in
    record {
      settings_are = st.settings_are;
      state = judged_out s j c.use_if_from.new.licences places (record { datagram = d; fits = fits; small = small })
          (record { none = c.requires; stands = st }) covered;
    }

pub returns : goal.returns
returns c = λ s places small st.
    let d = datagram c.args.src c.args.dst c.args.body.now in
    let j = c.args.self.now in
    let fits : HasKey d = record { src_ip = omega arith; src_port = omega arith; dst_ip = omega arith; dst_port = omega arith } in
    let covered = subst (λ (b : Bool). IsCovered j.settings j.licences c.use_if_from.new.licences d b) c.if-not-branch.false c.in_ok-use_if_from.ensures in
    let licensed : IsLicensed j d = record {
      used = c.use_if_from.new.licences;
      more = c.license_reply.new.licences;
      covered = covered;
      licenses = c.in_ok-license_reply.ensures;
    } in
    let runs = judged_on s j places (record { datagram = d; fits = fits; small = small }) (record { none = c.requires; stands = st }) licensed in
    let more = places ++ Some d ∷ [] in
    let to = is_audited j.settings d.dst in
    let counts_are : c.with-self.result ≡ with_record j.counts to (is_audited j.settings d.src) =
    c.with-self.ensures ∙ ap (λ (b : Bool). with_record j.counts b c.is_audited-from.result) c.is_audited-to.ensures ∙ ap (with_record j.counts to) c.is_audited-from.ensures in
    let known = subst (λ (k : Counts). Runs s c.license_reply.new.licences k more) (sym counts_are) runs in
    record { settings_are = st.settings_are; state = runs_on s c.license_reply.new.licences c.with-self.result more j.unlicensed c.requires known }
