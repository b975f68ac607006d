use Rattle.osdp_tool_sim.proofs.Common.{◌∙◌, sym, subst, List, ℕ, string_bytes, TellsReaders}
use Rattle.osdp_tool_sim.proofs.Accounts.{of_each}
use Rattle.osdp_tool_sim.proofs.Running.{if_ok}
use Rattle.osdp_tool_sim.proofs.run.tell.Goals as goal

pub returns-in-Some-clause-told : goal.returns-in-Some-clause-told
returns-in-Some-clause-told c =
    if_ok c.tell_one.result (λ told is.
    subst (λ (l : List (ℕ × ℕ)). TellsReaders l c.args.script.now (string_bytes told.what) told.end)
    (sym c.in-Some.ensures ∙ c.deref.ensures.value) is)
    c.tell_one.ensures.told

pub returns-in-None-clause-told : goal.returns-in-None-clause-told
returns-in-None-clause-told c =
    if_ok c.tell_several.result (λ told is.
    of_each c.args.script.now.readers.items c.args.script.now (string_bytes told.what) told.end
    (λ reader one. c.in-None.ensures reader (c.deref.ensures.value ∙ one)) is)
    c.tell_several.ensures.told
