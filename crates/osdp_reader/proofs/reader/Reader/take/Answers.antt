use Rattle.std.proofs.Common.{rules}
use Rattle.osdp_reader.proofs.reader.Reader.take.Goals as goal

pub returns-in-Err-clause-reader : goal.returns-in-Err-clause-reader
returns-in-Err-clause-reader g c = let h = c.keep.ensures _ c.spell_nak.ensures.spelled in search (rules, h)

pub returns-clause-reader : goal.returns-clause-reader
returns-clause-reader g c = let h = c.keep-2.ensures _ c.spell_event_or_answer.ensures.reply in search (rules, h)
