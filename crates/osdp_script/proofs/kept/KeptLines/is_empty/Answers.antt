use Rattle.std.proofs.Common.{◌≡◌, ◌==◌, [], IsTrue, length, ap, subst, ◌∙◌}
use Rattle.osdp_script.proofs.Keeping.{no_lines}
use Rattle.osdp_script.proofs.kept.KeptLines.is_empty.Goals as goal

pub returns : goal.returns
returns c =
    let none = c.is_empty.result in
    let is : none ≡ (length c.self.inside.steps.items == 0) = c.is_empty.ensures ∙ ap (λ l. length l == 0) c.as_slice.ensures.value in
    subst (λ lines. (IsTrue none → lines ≡ []) × (lines ≡ [] → IsTrue none)) c.self.view_is (no_lines c.self.inside.steps.items c.self.inside.row.items none is)
