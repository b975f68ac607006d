use Rattle.osdp_tool_inputs.proofs.Common.{sym, ◌∙◌, arith, texts_of}
use Rattle.osdp_tool_inputs.proofs.Fronts.{back_are, front_is, no_files, no_options}
use Rattle.osdp_tool_inputs.proofs.asked.read_words.Goals as goal

pub returns-then-not-are_files : goal.returns-then-not-are_files
returns-then-not-are_files c = record {
  value = tt;
  only = λ options files task are.
      no_files c.args.reads c.args.format (texts_of c.args.words.now) c.fronts.count c.fronts.invariant.0
      (back_are c.args.words.now c.fronts.count _ c.split_at.ensures.back (sym c.are_files.ensures ∙ c.if-not-are_files.true)) options files task are;
}

pub fronts-preserved : goal.fronts-preserved
fronts-preserved c = (
  no_options c.args.reads c.args.format (texts_of c.args.words.now) c.fronts.count c.fronts.invariant.0
      (front_is c.args.reads c.args.format c.args.words.now c.fronts.count _ c.split_at.ensures.front c.in_default.ensures),
  omega arith,
)
