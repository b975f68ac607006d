use Rattle.osdp_calls.proofs.Takings.{calls_mark_repeats, marks_what_is_told_again}
use Rattle.osdp_calls.proofs.repeats_are_marked.Goals as goal

pub returns : goal.returns
returns g c = record {
  calls = calls_mark_repeats g.H.Handler.answer_of g.H.Handler.after c.reports_are_told_once.ensures;
  again = marks_what_is_told_again;
}
