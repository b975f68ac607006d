use Rattle.osdp_line_answers.proofs.Common.{◌≡◌, ◌≤◌, false, length, inner_of, has_failed, ReadAll}
use Rattle.osdp_line_answers.proofs.answering.read_lines.Given as goal

-- the pieces before this one, of a byte or more each
abbrev pub invariant-reads : goal.invariant-reads
invariant-reads g l = record {
  ready : g.M.LineAnswerer.is_ready l.machine;
  input : has_failed l.input ≡ false;
  output : has_failed l.output ≡ false;
  read : (all : ReadAll g.M.LineAnswerer.answers l.initial.machine l.initial.line.items l.machine l.line.items
      (g.R.Read.remaining (inner_of l.initial.input)) (g.R.Read.remaining (inner_of l.input))
      (g.W.Write.contents (inner_of l.initial.output)) (g.W.Write.contents (inner_of l.output))) × (l.counter ≤ length all.read);
}
