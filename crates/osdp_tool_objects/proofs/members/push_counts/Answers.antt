use Rattle.osdp_tool_objects.proofs.Counts.{count_step, counts_end, counts_stop}
use Rattle.osdp_tool_objects.proofs.members.push_counts.Goals as goal

pub returns-in_default-word : goal.returns-in_default-word
returns-in_default-word c = counts_stop _ _ c.in-Some.name.now c.words.words c.word.new.self c.in-Some.ensures c.in_default-word.ensures c.words.invariant

pub words-preserved : goal.words-preserved
words-preserved c =
    count_step _ _ _ c.in-Some.name.now c.in-Some-word.number.now _ _ c.words.words c.word.new.self c.word-in-Some.new.self c.in-Some.ensures c.in-Some-word.ensures
    c.as_bytes.ensures.value c.as_bytes-in-Some.ensures.value c.in_ok-push_member.ensures c.words.invariant

pub returns : goal.returns
returns c = counts_end _ _ c.words.words c.in_default.ensures c.words.invariant
