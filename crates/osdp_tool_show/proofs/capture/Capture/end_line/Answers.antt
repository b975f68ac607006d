use Rattle.osdp_tool_show.proofs.Common.{refl, ◌≡◌, ◌+◌, ◌++◌, ◌≤◌, ℕ, List, length, length-append, Bool, MatchOption, arith, true, false, [], ◌∷◌, inner_of, line_feed, kept, said, said_short, Capture, written_or_held}
use Rattle.osdp_tool_show.proofs.Pieces.{fed_bad, fed_joined, fed_apart, holding, length-kept, says_none, says_bytes, took_ended}
use Rattle.osdp_tool_show.proofs.Stopping.{stops_before, stops_ended_line, stops_line, stops_line_end}
use Rattle.osdp_tool_show.proofs.Beginnings.{on_err}
use Rattle.osdp_tool_show.proofs.capture.Capture.end_line.Goals as goal

-- the bytes of the line are no more than its characters
line_short : (capture : Capture) (characters : List ℕ) (good : Bool) (bytes value : List ℕ)
    → MatchOption (said (capture.line.items ++ kept characters)) (good ≡ false) (λ read. (good ≡ true) × (bytes ≡ read)) → good ≡ true → value ≡ bytes
    → length value ≤ length capture.line.items + length characters
line_short capture characters good bytes value read well is =
    let short = said_short (capture.line.items ++ kept characters) value (says_bytes _ good bytes value read well is) in
    omega (arith, length-append capture.line.items (kept characters), length-kept characters)

pub take-requires-clause-counts : goal.take-requires-clause-counts
take-requires-clause-counts g c =
    let short = line_short c.args.self.now c.args.characters.now _ _ c.deref.result.now c.in-Ok.ensures.read c.if-not-good.false c.deref.ensures.value in
    omega (arith, c.requires.load)

pub end_run-requires-clause-counts : goal.end_run-requires-clause-counts
end_run-requires-clause-counts g c =
    let short = line_short c.args.self.now c.args.characters.now _ _ c.deref.result.now c.in-Ok.ensures.read c.if-not-good.false c.deref.ensures.value in
    omega (arith, c.requires.load, c.in_ok-take.ensures.took.counts)

pub returns-then-not-good-clause-took : goal.returns-then-not-good-clause-took
returns-then-not-good-clause-took g c =
    took_ended c.args.characters.now false c.args.self.now _ c.requires.load _ _ c.requires.line c.requires.lines c.requires.settled
    (fed_bad (holding c.args.self.now c.args.characters.now c.requires.load) _ _ c.requires.lines c.requires.settled refl
    (says_none _ _ _ c.in-Ok.ensures.read c.if-not-good.true) c.in-Ok.ensures.line refl refl refl)

pub returns-in-Joined-clause-took : goal.returns-in-Joined-clause-took
returns-in-Joined-clause-took g c =
    took_ended c.args.characters.now true c.args.self.now _ c.requires.load _ _ c.requires.line c.requires.lines c.requires.settled
    (fed_joined c.deref.result.now (holding c.args.self.now c.args.characters.now c.requires.load) _ _ _ c.in-Joined.is refl
    (says_bytes _ _ _ _ c.in-Ok.ensures.read c.if-not-good.false c.deref.ensures.value) c.in-Ok.ensures.line refl c.in_ok-take.ensures.took)

pub returns-in_ok-end_run-in-Apart-clause-took : goal.returns-in_ok-end_run-in-Apart-clause-took
returns-in_ok-end_run-in-Apart-clause-took g c =
    let middle = written_or_held (g.W.Write.contents (inner_of c.take.new.output)) c.take.new.report in
    let mid : Capture = record c.args.self.now { framer = c.take.new.framer; report = c.take.new.report } in
    took_ended c.args.characters.now true c.args.self.now _ c.requires.load _ _ c.requires.line c.requires.lines c.requires.settled
    (fed_apart c.deref.result.now (holding c.args.self.now c.args.characters.now c.requires.load) mid _ _ middle _ c.in-Apart.is refl
    (says_bytes _ _ _ _ c.in-Ok.ensures.read c.if-not-good.false c.deref.ensures.value) c.in-Ok.ensures.line refl c.in_ok-take.ensures.took
    c.in_ok-end_run-in-Apart.ensures.ended)

pub returns-in-Err-clause-stops : goal.returns-in-Err-clause-stops
returns-in-Err-clause-stops g c =
    stops_before (c.args.characters.now ++ line_feed ∷ []) c.args.self.now (g.W.Write.contents (inner_of c.args.output.now))

pub returns-in_err-take-clause-stops : goal.returns-in_err-take-clause-stops
returns-in_err-take-clause-stops g c =
    on_err c.from_residual.result (stops_ended_line c.args.characters.now c.args.self.now c.requires.load _ _ c.requires.line c.requires.lines c.requires.settled
    (stops_line c.deref.result.now (holding c.args.self.now c.args.characters.now c.requires.load) _ _ c.requires.lines
    (says_bytes _ _ _ _ c.in-Ok.ensures.read c.if-not-good.false c.deref.ensures.value) c.in_err-take.ensures.stops))

pub returns-in_err-end_run-in-Apart-clause-stops : goal.returns-in_err-end_run-in-Apart-clause-stops
returns-in_err-end_run-in-Apart-clause-stops g c =
    on_err c.from_residual-in_err-end_run-in-Apart.result
    (stops_ended_line c.args.characters.now c.args.self.now c.requires.load _ _ c.requires.line c.requires.lines c.requires.settled
    (stops_line_end c.deref.result.now (holding c.args.self.now c.args.characters.now c.requires.load) c.take.new.framer c.take.new.report _ _ _ c.in-Apart.is
    (says_bytes _ _ _ _ c.in-Ok.ensures.read c.if-not-good.false c.deref.ensures.value) c.in_ok-take.ensures.took
    c.in_err-end_run-in-Apart.ensures.stops))
