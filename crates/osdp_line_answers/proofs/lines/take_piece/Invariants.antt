use Rattle.osdp_line_answers.proofs.Common.{◌≡◌, take, inner_of, has_failed, CarriesOn}
use Rattle.osdp_line_answers.proofs.lines.take_piece.Given as goal

-- the bytes before this one
abbrev pub invariant-bytes : goal.invariant-bytes
invariant-bytes g l = record {
  ready : g.M.LineAnswerer.is_ready l.machine;
  unfailed : has_failed l.output ≡ has_failed l.initial.output;
  goes : CarriesOn g.M.LineAnswerer.answers (take l.byte-index l.piece) l.initial.machine l.initial.line.items (g.W.Write.contents (inner_of l.initial.output))
      l.machine l.line.items (g.W.Write.contents (inner_of l.output));
}
