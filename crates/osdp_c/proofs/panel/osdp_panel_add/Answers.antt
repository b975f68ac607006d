use Rattle.osdp_c.proofs.Common.{◌≡◌, ap, sym, ◌∙◌, added_entry, added_status, number}
use Rattle.osdp_c_values.specs.Addresses.{device_address}
use Rattle.osdp_c.proofs.Added.{added_in}
use Rattle.osdp_c.proofs.panel.osdp_panel_add.Goals as goal
use Rattle.osdp_c.proofs.panel.osdp_panel_add.Goals.{in-Ok, in-Err}

pub returns-after-add : goal.returns-after-add
returns-after-add c =
    let told : c.number.result ≡ number (added_status c.add.result) =
    elim c.match-add.branch [
      | in-Ok w ↦ c.number.ensures ∙ (ap number w.status-is ∙ sym (ap (λ r. number (added_status r)) w.in-Ok.is))
      | in-Err w ↦ c.number.ensures ∙ (ap number w.status-is ∙ sym (ap (λ r. number (added_status r)) w.in-Err.is))
    ] in
    let written : c.match-add.entry ≡ added_entry c.add.result c.args.entry.now =
    elim c.match-add.branch [
      | in-Ok w ↦ w.entry-is ∙ sym (ap (λ r. added_entry r c.args.entry.now) w.in-Ok.is)
      | in-Err w ↦ w.entry-is ∙ sym (ap (λ r. added_entry r c.args.entry.now) w.in-Err.is)
    ] in
    added_in (device_address c.args.address) c.args.next_number _ _ c.add.result _ _ _ _ _ (rw c.in-Some.is at c.take.ensures.machine)
    (rw c.deref_mut.ensures.value at c.add.ensures.ends) (rw c.deref_mut.ensures.value at c.add.ensures.machine) told c.put.ensures written
