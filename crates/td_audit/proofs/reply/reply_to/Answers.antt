use Rattle.td_audit.proofs.Words.{Ep, List, ServerSettings, Some, Step, ap, datagram, is_audited, just, refl, server_row, sym, take, ℕ, ◌∙◌}
use Rattle.teredo_node.specs.declared.fate.Fate.TheVariants as fate
use Rattle.td_audit.proofs.ReplyLaws.{no_reply, one_reply, not_for_server, own_endpoint}
use Rattle.td_audit.proofs.reply.reply_to.Goals as goal

pub returns-then-not-is_audited : goal.returns-then-not-is_audited
returns-then-not-is_audited c =
    not_for_server c.args.settings.now (datagram c.args.src c.args.dst c.args.body.now) (sym c.is_audited.ensures ∙ c.if-not-is_audited.true)

pub returns-in-Drop : goal.returns-in-Drop
returns-in-Drop c =
    let d = datagram c.args.src c.args.dst c.args.body.now in
    let row = ap (λ (s : ServerSettings). server_row s c.side_with.result d.src d.body) (sym c.new-server.ensures) ∙ c.in-Drop.ensures.row in
    no_reply c.args.settings.now c.side_with.result d (just c.in-Drop.fate) c.side_with.ensures row refl

pub returns-in-Six : goal.returns-in-Six
returns-in-Six c =
    let d = datagram c.args.src c.args.dst c.args.body.now in
    let step : Step = record (just fate.Six) { six = Some c.in-Six.span } in
    let row = ap (λ (s : ServerSettings). server_row s c.side_with.result d.src d.body) (sym c.new-server.ensures) ∙ c.in-Six.ensures.row in
    no_reply c.args.settings.now c.side_with.result d step c.side_with.ensures row refl

pub returns-in-Send : goal.returns-in-Send
returns-in-Send c =
    let d = datagram c.args.src c.args.dst c.args.body.now in
    let s = c.args.settings.now in
    let row = ap (λ (t : ServerSettings). server_row t c.side_with.result d.src d.body) (sym c.new-server.ensures) ∙ c.in-Send.ensures.row.0 in
    let bytes : List ℕ = take c.in-Send.len c.answer.new.out in
    let sent = one_reply s c.side_with.result d (record { fate = c.in-Send.fate; side = c.in-Send.side; to = c.in-Send.to; bytes = bytes })
    (sym c.is_audited.ensures ∙ c.if-not-is_audited.false) c.side_with.ensures row in
    (sent ∙ ap (λ (x : Ep). Some (datagram x c.in-Send.to bytes)) (sym c.endpoint.ensures), c.in-Send.ensures.row.1, ap (is_audited s) c.endpoint.ensures ∙ own_endpoint s c.in-Send.side)
