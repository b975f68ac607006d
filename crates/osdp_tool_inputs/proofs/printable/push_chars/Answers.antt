use Rattle.std.proofs.Common.{◌++◌, ap, flat_map, map-id, sym, ◌∙◌, string_bytes}
use Rattle.std.proofs.lemmas.Iterator.{YieldsList-from_chars}
use Rattle.std.proofs.lemmas.Iterator.Consumers.{YieldsList-end}
use Rattle.std.specs.Str.{encode_utf8_all}
use Rattle.osdp_tool_inputs.specs.Printable.{shown_char}
use Rattle.osdp_tool_inputs.proofs.Printables.{one_more}
use Rattle.osdp_tool_inputs.proofs.printable.push_chars.Goals as goal

pub loop-character-preserved : goal.loop-character-preserved
loop-character-preserved c =
    c.in_ok-push_char.ensures
    ∙ ap (λ l. l ++ encode_utf8_all (shown_char c.in-Some.character)) c.loop-character.invariant
    ∙ one_more (string_bytes c.args.shown.now) c.loop-character.yielded c.in-Some.character

pub returns : goal.returns
returns c =
    c.loop-character.invariant
    ∙ ap (λ l. string_bytes c.args.shown.now ++ encode_utf8_all (flat_map shown_char l))
    (sym (map-id c.loop-character.yielded) ∙ (YieldsList-end (YieldsList-from_chars c.args.text.now c.utf8.text cc) c.loop-character.yielded _ c.loop-character.yielded_by _ _ c.in-None.is c.next.ensures.steps).0)
