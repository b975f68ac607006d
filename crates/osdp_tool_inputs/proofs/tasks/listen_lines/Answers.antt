use Rattle.osdp_tool_inputs.proofs.Common.{None, refl, sym, subst, ◌∙◌, watched, EndsHeard, Retells, echoes_in, heard_part, printed_by, Clock}
use Rattle.osdp_tool_inputs.proofs.WholeText.{retells_lines, retells_some}
use Rattle.osdp_tool_inputs.proofs.tasks.listen_lines.Goals as goal

pub returns-in-Ok-print_text : goal.returns-in-Ok-print_text
returns-in-Ok-print_text g c =
    let clock : Clock = record { rt = c.args.rt; start = None; last = 0 } in
    let output = watched g.W.Write.contents c.args.output.now c.print_text.new.output in
    subst (λ r. Retells (EndsHeard c.args.mode) (printed_by c.args.mode.json c.args.mode.clock (echoes_in c.args.text.now) (heard_part c.args.text.now)) (heard_part c.args.text.now) output r) (sym c.answer.ensures)
    (retells_lines c.args.mode c.args.text.now c.requires.hex c.in-Some.ears c.in-Some.ensures.heard clock refl c.as_bytes-shown.result.now c.as_slice.result.now c.as_bytes-shown.ensures.value
    (c.as_slice.ensures.value ∙ c.in-Ok.ensures) output c.in-Ok-print_text.ensures)

pub returns : goal.returns
returns g c =
    let clock : Clock = record { rt = c.args.rt; start = None; last = 0 } in
    let output = watched g.W.Write.contents c.args.output.now c.print_text.new.output in
    retells_some c.args.mode c.args.text.now c.requires.hex c.in-Some.ears c.in-Some.ensures.heard clock refl c.as_bytes-shown.result.now c.as_slice.result.now c.as_bytes-shown.ensures.value
    (c.as_slice.ensures.value ∙ c.in-Ok.ensures) output c.in-Err.fault c.in-Err.ensures
