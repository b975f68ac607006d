use Rattle.osdp_link_laws.proofs.Refusals.{all_plainly, no_refusal, none_without_restart}
use Rattle.osdp_link_laws.proofs.refuses_no_number.Goals as goal

pub returns : goal.returns
returns g c = record {
  packets = all_plainly g.H.Handler.answer_of g.H.Handler.after c.read_each_other.ensures;
  endings = no_refusal g.H.Handler.answer_of g.H.Handler.after c.read_each_other.ensures;
  never = none_without_restart g.H.Handler.answer_of g.H.Handler.after c.read_each_other.ensures;
}
