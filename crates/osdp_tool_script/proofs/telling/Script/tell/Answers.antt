use Rattle.std.proofs.Common.{◌∙◌, IsUtf8, arith, inl, inr, refl, subst, sym}
use Rattle.osdp_tool_streams.proofs.Answered.{on_ok}
use Rattle.osdp_tool_script.proofs.telling.Script.tell.Goals as goal

pub returns : goal.returns
returns c =
    on_ok c.refuse_unread-in-None.result
    (λ h. (_, inl (omega (arith, c.if-line-gt-LONGEST.false), inr ((λ t. c.in-None.ensures (subst IsUtf8 (sym (c.as_slice.ensures.value ∙ c.in_ok-characters.ensures)) t)), refl)), h))
    c.refuse_unread-in-None.ensures
