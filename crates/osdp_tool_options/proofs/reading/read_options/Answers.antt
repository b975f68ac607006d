use Rattle.std.proofs.Common.{subst}
use Rattle.osdp_words.specs.Word.{texts}
use Rattle.osdp_tool_options.proofs.Left.{Left, left_done, left_first, left_more, no_option}
use Rattle.osdp_tool_options.proofs.reading.read_options.Goals as goal

pub options-init : goal.options-init
options-init g c = rw c.new-fields.ensures (left_first g.O.CommandOption.name g.O.CommandOption.numbers g.O.CommandOption.Fits g.O.CommandOption.with c.args.start (texts c.args.words.now))

pub returns-in_err-option : goal.returns-in_err-option
returns-in_err-option g c =
    rw c.from_residual.ensures (no_option g.O.CommandOption.name g.O.CommandOption.numbers g.O.CommandOption.Fits g.O.CommandOption.with c.args.start
    (texts c.args.words.now) c.in-Some.word.now c.word.new.self c.options.mode
    (subst (λ l. Left g.O.CommandOption.name g.O.CommandOption.numbers g.O.CommandOption.Fits g.O.CommandOption.with c.args.start (texts c.args.words.now) l c.options.mode)
    c.in-Some.ensures c.options.invariant) c.take.new.following c.in_err-option.ensures)

pub options-preserved : goal.options-preserved
options-preserved g c =
    rw c.set.ensures (left_more g.O.CommandOption.name g.O.CommandOption.numbers g.O.CommandOption.Fits g.O.CommandOption.with c.args.start
    (texts c.args.words.now) c.in-Some.word.now c.word.new.self c.options.mode
    (subst (λ l. Left g.O.CommandOption.name g.O.CommandOption.numbers g.O.CommandOption.Fits g.O.CommandOption.with c.args.start (texts c.args.words.now) l c.options.mode)
    c.in-Some.ensures c.options.invariant) c.take.new.following c.in_ok-option.option c.in_ok-option.ensures)

pub returns : goal.returns
returns g c =
    left_done g.O.CommandOption.name g.O.CommandOption.numbers g.O.CommandOption.Fits g.O.CommandOption.with c.args.start
    (texts c.args.words.now) c.options.fields c.options.mode c.in_default.ensures c.options.invariant
