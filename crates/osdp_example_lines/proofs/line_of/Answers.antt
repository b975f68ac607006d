use Rattle.osdp_words.specs.Word.{texts}
use Rattle.osdp_example_lines.proofs.Telling.{told_card, told_other, told_turn}
use Rattle.osdp_example_lines.proofs.line_of.Goals as goal

pub returns-in-Some : goal.returns-in-Some
returns-in-Some c = told_turn (texts c.args.words.now) (c.in-Some.now, c.in-Some.bytes) c.in-Some.ensures

pub returns-in-Some-card_bytes : goal.returns-in-Some-card_bytes
returns-in-Some-card_bytes c = told_card (texts c.args.words.now) c.in-Some-card_bytes.bytes c.in-None.ensures c.in-Some-card_bytes.ensures

pub returns-in-None-card_bytes : goal.returns-in-None-card_bytes
returns-in-None-card_bytes c = told_other (texts c.args.words.now) c.in-None.ensures c.in-None-card_bytes.ensures
