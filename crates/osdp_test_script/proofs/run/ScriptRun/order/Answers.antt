use Rattle.osdp_test_script.proofs.Common.{ℕ, None, OnOk, ap, string_bytes, subst, ◌∙◌, Packet, Comes, goes_out, packet_of}
use Rattle.osdp_test_script.proofs.run.ScriptRun.order.Goals as goal

pub returns : goal.returns
returns c =
    let s = c.args.self.now in
    subst (λ (p : Packet). OnOk c.go_out.result (Comes (string_bytes c.args.text.now) (string_bytes c.go_out.new.text) c.go_out.new.self (goes_out p None s)))
    (c.packet_of-sent.ensures ∙ ap (λ (n : ℕ). packet_of c.args.address n s.check c.args.command.now) c.next_number.ensures) c.go_out.ensures
