use Rattle.td_explain.proofs.Words.{Licensing, None, Option, Some, ap, datagram, drawn_at, latest_like, ledger_licensing, licensing_or, near_licensing, own_places, sym, times, ℕ, ◌∙◌, ◌≡◌}
use Rattle.td_explain.proofs.TellLaws.{room, came_now}
use Rattle.td_explain.proofs.past.Past.licensing.Goals as goal

pub returns-in-Some : goal.returns-in-Some
returns-in-Some c = λ held small keeps from.
    let s = c.args.settings.now in
    let l = c.args.self.now.ledger in
    let d = datagram c.args.src c.args.dst c.args.body.now in
    let own = own_places s d held in
    let fits = c.in_ok-licensing.ensures.fits in
    let is : ledger_licensing (times d held) own ≡ Some c.in-Some.licensing =
    sym (ap (λ (n : ℕ). ledger_licensing n (drawn_at l d)) (keeps.ledger.counted d fits from) ∙ ap (ledger_licensing (times d held)) (keeps.ledger.drawn d fits))
    ∙ sym c.in_ok-licensing.ensures.licensing ∙ c.in-Some.is in (
      sym (ap (λ (o : Option Licensing). licensing_or o (near_licensing d.body (latest_like s d held))) is),
      record {
        ledger = came_now s l c.come.new.self held d keeps.ledger (c.in_ok-licensing.ensures.known (room s l held d fits from small keeps.ledger));
        latest = keeps.latest;
      },
    )

pub returns-in_ok-near-in-None : goal.returns-in_ok-near-in-None
returns-in_ok-near-in-None c = λ held small keeps from.
    let s = c.args.settings.now in
    let l = c.args.self.now.ledger in
    let d = datagram c.args.src c.args.dst c.args.body.now in
    let own = own_places s d held in
    let fits = c.in_ok-licensing.ensures.fits in
    let none : ledger_licensing (times d held) own ≡ None =
    sym (ap (λ (n : ℕ). ledger_licensing n (drawn_at l d)) (keeps.ledger.counted d fits from) ∙ ap (ledger_licensing (times d held)) (keeps.ledger.drawn d fits))
    ∙ sym c.in_ok-licensing.ensures.licensing ∙ c.in-None.is in (
      c.in_ok-near-in-None.ensures.near (latest_like s d held) (keeps.latest d fits c.near.ensures.short)
          ∙ sym (ap (λ (o : Option Licensing). licensing_or o (near_licensing d.body (latest_like s d held))) none),
      record {
        ledger = came_now s l c.come.new.self held d keeps.ledger (c.in_ok-licensing.ensures.known (room s l held d fits from small keeps.ledger));
        latest = keeps.latest;
      },
    )
