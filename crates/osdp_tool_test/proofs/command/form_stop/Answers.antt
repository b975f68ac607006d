use Rattle.osdp_words.specs.Word.{texts}
use Rattle.osdp_tool_test.proofs.FormWords.{form_stops}
use Rattle.osdp_tool_test.proofs.command.form_stop.Goals as goal

pub returns : goal.returns
returns c = form_stops (texts c.args.words.now) c.slots_stop.result c.slots_stop.ensures
