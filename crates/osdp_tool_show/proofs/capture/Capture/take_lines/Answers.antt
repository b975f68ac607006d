use Rattle.osdp_tool_show.proofs.Common.{sym, subst, ap, ◌∙◌, arith, ℕ, true, false, List, [], ◌∷◌, ◌++◌, Option, ◌≡◌, ◌+◌, ◌-◌, ◌*◌, ◌^◌, ◌<◌, ◌≤◌, length, take, drop, length-take, length-drop, append-nil, take-append-drop, take_rest, inner_of, HasLine, line_feed, IsLine, Capture, written_or_held, load, TookPiece, StopsInPiece}
use Rattle.osdp_tool_show.proofs.Pieces.{took_line, took_rest}
use Rattle.osdp_tool_show.proofs.Stopping.{stops_before, stops_further, feed_cut}
use Rattle.osdp_tool_show.proofs.Beginnings.{on_err}
use Rattle.osdp_tool_show.proofs.capture.Capture.take_lines.Goals as goal

-- part of a slice
part_of_slice : (piece : List ℕ) (at count : ℕ) → take (at + count - at) (drop at piece) ≡ take count (drop at piece)
part_of_slice piece at count = ap (λ n. take n (drop at piece)) (omega arith)

-- where the line stands in the piece
line_at : (piece : List ℕ) (at count : ℕ) → HasLine (take (length piece - at) (drop at piece)) count → HasLine (drop at piece) count
line_at piece at count h = subst (λ l. HasLine l count) (take_rest piece at) h

load_after : (piece : List ℕ) (at count : ℕ) (a b : Capture) (before middle : Option (List ℕ)) → at ≤ length piece → load a + 5 * length piece < 2 ^ 61
    → HasLine (drop at piece) count → TookPiece (take at piece) true a b before middle
    → load b + 5 * length (take (at + count - at) (drop at piece)) < 2 ^ 61
load_after piece at count a b before middle within bound h first =
    let p = first.load_is in
    let below = h.below in
    let l = length-take at piece in
    let m = length-take (at + count - at) (drop at piece) in
    let n = length-drop at piece in
    omega arith

pub end_line-requires-clause-lines : goal.end_line-requires-clause-lines
end_line-requires-clause-lines g c = λ raw. c.requires.lines (sym c.lines.invariant.took.form_is ∙ raw)

pub end_line-requires-clause-line : goal.end_line-requires-clause-line
end_line-requires-clause-line g c =
    subst IsLine (sym (part_of_slice c.args.piece.now c.lines.at c.in-Some.length))
    (line_at c.args.piece.now c.lines.at c.in-Some.length c.in-Some.ensures).line

pub end_line-requires-clause-load : goal.end_line-requires-clause-load
end_line-requires-clause-load g c =
    load_after c.args.piece.now c.lines.at c.in-Some.length c.args.self.now c.lines.self _ _ c.lines.invariant.within c.requires.load
    (line_at c.args.piece.now c.lines.at c.in-Some.length c.in-Some.ensures) c.lines.invariant.took

pub returns-then-not-branch-clause-took : goal.returns-then-not-branch-clause-took
returns-then-not-branch-clause-took g c =
    let piece = c.args.piece.now in
    let at = c.lines.at in
    let count = c.in-Some.length in
    let middle = written_or_held (g.W.Write.contents (inner_of c.lines.output)) c.lines.self.report in
    let after = written_or_held (g.W.Write.contents (inner_of c.end_line.new.output)) c.end_line.new.self.report in (
      at + (count + 1),
      took_line piece at count false c.args.self.now c.lines.self c.end_line.new.self _ middle after (line_at piece at count c.in-Some.ensures) c.lines.invariant.took
          (subst (λ l. TookPiece (l ++ line_feed ∷ []) false c.lines.self c.end_line.new.self middle after) (part_of_slice piece at count)
          (subst (λ good. TookPiece (take (at + count - at) (drop at piece) ++ line_feed ∷ []) good c.lines.self c.end_line.new.self middle after) c.if-not-branch.true
          c.in_ok-end_line.ensures.took)),
    )

pub lines-preserved : goal.lines-preserved
lines-preserved g c =
    let piece = c.args.piece.now in
    let at = c.lines.at in
    let count = c.in-Some.length in
    let middle = written_or_held (g.W.Write.contents (inner_of c.lines.output)) c.lines.self.report in
    let after = written_or_held (g.W.Write.contents (inner_of c.end_line.new.output)) c.end_line.new.self.report in
    let line = line_at piece at count c.in-Some.ensures in
    let below = line.below in
    let n = length-drop at piece in
    let end : at + (count + 1) ≡ at + count + 1 = omega arith in
    let before = written_or_held (g.W.Write.contents (inner_of c.args.output.now)) c.args.self.now.report in
    record {
      within = omega arith;
      took = subst (λ n. TookPiece (take n piece) true c.args.self.now c.end_line.new.self before after) end
          (took_line piece at count true c.args.self.now c.lines.self c.end_line.new.self _ middle after line c.lines.invariant.took
          (subst (λ l. TookPiece (l ++ line_feed ∷ []) true c.lines.self c.end_line.new.self middle after) (part_of_slice piece at count)
          (subst (λ good. TookPiece (take (at + count - at) (drop at piece) ++ line_feed ∷ []) good c.lines.self c.end_line.new.self middle after) c.if-not-branch.false
          c.in_ok-end_line.ensures.took)));
      unfailed = c.in_ok-end_line.ensures.step ∙ c.lines.invariant.unfailed;
    }

pub returns-clause-took : goal.returns-clause-took
returns-clause-took g c =
    let contents = g.W.Write.contents (inner_of c.lines.output) in
    let middle = written_or_held contents c.lines.self.report in
    subst (λ (m : Option (List ℕ)). TookPiece c.args.piece.now true c.args.self.now c.hold.new.self (written_or_held (g.W.Write.contents (inner_of c.args.output.now)) c.args.self.now.report) m)
    (ap (written_or_held contents) (sym c.in_ok-hold.ensures.report))
    (took_rest c.args.piece.now c.lines.at c.args.self.now c.lines.self c.hold.new.self _ middle c.lines.invariant.took
    (subst (λ l. TookPiece l true c.lines.self c.hold.new.self middle middle) (take_rest c.args.piece.now c.lines.at) (c.in_ok-hold.ensures.took middle)))

pub returns-in_err-end_line-clause-stops : goal.returns-in_err-end_line-clause-stops
returns-in_err-end_line-clause-stops g c =
    let middle = written_or_held (g.W.Write.contents (inner_of c.lines.output)) c.lines.self.report in
    let now = g.W.Write.contents (inner_of c.end_line.new.output) in
    let at = c.lines.at in
    let count = c.in-Some.length in
    let piece = c.args.piece.now in
    on_err c.from_residual.result (stops_further piece (take at piece) (take count (drop at piece) ++ line_feed ∷ []) (drop (count + 1) (drop at piece)) c.args.self.now c.lines.self
    (written_or_held (g.W.Write.contents (inner_of c.args.output.now)) c.args.self.now.report) middle now c.lines.invariant.took
    (subst (λ l. StopsInPiece (l ++ line_feed ∷ []) c.lines.self middle now) (part_of_slice piece at count) c.in_err-end_line.ensures.stops)
    (feed_cut piece at count (line_at piece at count c.in-Some.ensures)))

pub returns-in_err-hold-clause-stops : goal.returns-in_err-hold-clause-stops
returns-in_err-hold-clause-stops g c =
    let contents = g.W.Write.contents (inner_of c.lines.output) in
    let rest = drop c.lines.at c.args.piece.now in
    on_err c.from_residual-in_err-hold.result (stops_further c.args.piece.now (take c.lines.at c.args.piece.now) rest [] c.args.self.now c.lines.self _ (written_or_held contents c.lines.self.report) contents
    c.lines.invariant.took (stops_before rest c.lines.self contents)
    (sym (take-append-drop c.lines.at c.args.piece.now) ∙ ap (λ l. take c.lines.at c.args.piece.now ++ l) (sym (append-nil rest))))
