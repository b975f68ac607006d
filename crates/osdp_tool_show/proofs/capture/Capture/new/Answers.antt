use Rattle.osdp_tool_show.proofs.Common.{refl, Capture}
use Rattle.osdp_tool_show.proofs.Pieces.{begins}
use Rattle.osdp_tool_show.proofs.capture.Capture.new.Goals as goal

pub returns-clause-follows : goal.returns-clause-follows
returns-clause-follows c = λ start.
    let capture : Capture = record {
      form = c.args.form;
      digits = c.new.result;
      line = c.new-2.result;
      bytes = c.new-3.result;
      ended = 0;
      framer = c.new-4.result;
      report = record { detail = c.args.detail; tally = c.new-tally.result; text = c.in-Ok.text };
    } in
    begins c.args.detail capture start c.new-2.ensures.items refl c.new-4.ensures refl c.new-tally.ensures c.in-Ok.ensures.bytes
