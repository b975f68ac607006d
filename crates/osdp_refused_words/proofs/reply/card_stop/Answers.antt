use Rattle.osdp_words.specs.Word.{texts}
use Rattle.osdp_refused_words.proofs.ReplyRows.{card}
use Rattle.osdp_refused_words.proofs.reply.card_stop.Goals as goal

pub returns : goal.returns
returns c = card (texts c.args.words.now) c.card_bytes-count.result c.card_bytes-count.ensures.few c.card_bytes-count.ensures.needed c.slots_stop.result c.slots_stop.ensures
