use Rattle.std.specs.Prelude.{codes}
use Rattle.bubble.specs.Payloads.{payload_view}
use Rattle.show.specs.Lines.{auth_line, origin_line, packet_line, address_lines, payload_lines}
use Rattle.show.proofs.Joined.{before}
use Rattle.show.proofs.payload_lines.put_payload.Goals as goal

pub returns : goal.returns
unfolding payload_lines
returns c =
    let v = payload_view c.args.payload.now in
    (before c.args.page.now (auth_line c.args.bytes.now v.lead.auth) _ c.put_auth.ensures.text
    (before c.put_auth.new.page (origin_line v.lead.origin) _ c.put_origin.ensures.text
    (before c.put_origin.new.page (packet_line v.packet) _ c.put_packet.ensures.text
    (before c.put_packet.new.page (address_lines (codes "source ") v.packet.src) _ c.put_address.ensures.text
    (before c.put_address.new.page (address_lines (codes "destination ") v.packet.dst) _ c.put_address-2.ensures.text c.put_body.ensures)))))
