-- What the server sends on a datagram, from its row.
use Rattle.td_audit.proofs.Words.{Bool, Datagram, Ep, Fate, List, None, Option, Primary, Secondary, ServerSettings, Side, Some, Step, [], ap, cond, cond-true, datagram, endpoint, false, is_audited, on_wire, output, refl, reply_to, same_ep, same_ep-self, sends_one, server_row, side_with, sym, true, ℕ, ◌||◌, ◌∙◌, ◌≡◌}

row_sends : (s : ServerSettings) (side : Side) (d : Datagram) (step : Step) → side ≡ side_with s d.dst → server_row s side d.src d.body ≡ step → reply_to s d ≡ on_wire s step.sends
unfolding reply_to
row_sends s side d step is row =
    ap (λ (at : Side). on_wire s (server_row s at d.src d.body).sends) (sym is) ∙ ap (λ (st : Step). on_wire s st.sends) row

abbrev nothing : Option Datagram
nothing = None

no_either : (b : Bool) (x : Option Datagram) → x ≡ nothing → cond b x nothing ≡ nothing
no_either true x none = none
no_either false x none = refl

-- a step that sends nothing
pub no_reply : (s : ServerSettings) (side : Side) (d : Datagram) (step : Step) → side ≡ side_with s d.dst → server_row s side d.src d.body ≡ step → step.sends ≡ [] → output s (Some d) ≡ None
no_reply s side d step is row silent =
    no_either (is_audited s d.dst) (reply_to s d) (row_sends s side d step is row ∙ ap (on_wire s) silent)

-- a step that sends one datagram
pub record OneSend : Type 0 where
  pub fate : Fate
  pub side : Side
  pub to : Ep
  pub bytes : List ℕ

pub one_reply : (s : ServerSettings) (side : Side) (d : Datagram) (o : OneSend) → is_audited s d.dst ≡ true → side ≡ side_with s d.dst
    → server_row s side d.src d.body ≡ sends_one o.fate o.side o.to o.bytes
    → output s (Some d) ≡ Some (datagram (endpoint s o.side) o.to o.bytes)
one_reply s side d o for_server is row =
    cond-true (is_audited s d.dst) (reply_to s d) nothing for_server ∙ row_sends s side d (sends_one o.fate o.side o.to o.bytes) is row

-- what is not for the server draws nothing
pub not_for_server : (s : ServerSettings) (d : Datagram) → is_audited s d.dst ≡ false → output s (Some d) ≡ None
not_for_server s d other = ap (λ (b : Bool). cond b (reply_to s d) nothing) other

or_right : (b : Bool) → (b || true) ≡ true
or_right true = refl
or_right false = refl

-- what the server sends is from it
pub own_endpoint : (s : ServerSettings) (side : Side) → is_audited s (endpoint s side) ≡ true
unfolding is_audited
own_endpoint s Primary = ap (λ (b : Bool). b || same_ep (endpoint s Primary) (endpoint s Secondary)) (same_ep-self (endpoint s Primary))
own_endpoint s Secondary = ap (λ (b : Bool). same_ep (endpoint s Secondary) (endpoint s Primary) || b) (same_ep-self (endpoint s Secondary)) ∙ or_right (same_ep (endpoint s Secondary) (endpoint s Primary))
