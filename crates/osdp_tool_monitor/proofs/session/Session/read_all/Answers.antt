use Rattle.osdp_tool_monitor.proofs.Common.{◌||◌, ◌∙◌, Bool, false, refl, ap, arith, length-take, inner_of, has_failed, ReadsAll, on_err}
use Rattle.osdp_tool_monitor.proofs.Pieces.{read_broke_by, read_long, read_none, read_on_by, read_stops}
use Rattle.osdp_tool_monitor.proofs.session.Session.read_all.Goals as goal

pub reads-init : goal.reads-init
reads-init g c = record {
  input = c.requires.input;
  output = c.requires.output;
  read = read_none g.M.Moments.tells c.args.self.now.mode c.args.clock.now (g.R.Read.remaining (inner_of c.args.input.now)) (g.W.Write.contents (inner_of c.args.output.now))
      c.args.self.now refl c.requires.new c.requires.ready;
}

pub reads-preserved : goal.reads-preserved
reads-preserved g c =
    let on = read_on_by g.M.Moments.tells c.args.self.now.mode c.args.clock.now (g.R.Read.remaining (inner_of c.args.input.now)) (g.W.Write.contents (inner_of c.args.output.now))
    c.in_ok-tell_piece.field-0 c.reads.clock c.now-now.new.self _ _ _ _ c.reads.self c.tell_piece.new.self _ _ c.if-not-branch.false _ c.reads.invariant.read
    (omega (arith, c.if-count-eq0.false, c.in_ok-count.ensures.bound, length-take c.in_ok-count.count c.read_some.new.buffer))
    c.in_ok-count.ensures.bytes.0 c.now-now.ensures c.in_ok-tell_piece.ensures in
    record {
      input = c.in_ok-count.ensures.failed ∙ ap (λ (b : Bool). b || false) c.reads.invariant.input;
      output = on.1;
      read = on.0;
    }

pub returns-then-not-branch : goal.returns-then-not-branch
returns-then-not-branch g c =
    let broke = read_broke_by g.M.Moments.tells c.args.self.now.mode c.args.clock.now (g.R.Read.remaining (inner_of c.args.input.now)) (g.W.Write.contents (inner_of c.args.output.now))
    c.in_ok-tell_piece.field-0 c.reads.clock c.now-now.new.self _ _ _ _ c.reads.self c.tell_piece.new.self _ _ c.if-not-branch.true c.reads.invariant.read.all
    c.in_ok-count.ensures.bytes.0 c.now-now.ensures c.in_ok-tell_piece.ensures in
    (broke.0, c.in_ok-count.ensures.failed ∙ ap (λ (b : Bool). b || false) c.reads.invariant.input, broke.1)

pub returns-in_err-tell_piece : goal.returns-in_err-tell_piece
returns-in_err-tell_piece g c =
    let i0 = g.R.Read.remaining (inner_of c.args.input.now) in
    let i2 = g.R.Read.remaining (inner_of c.read_some.new.input) in
    let start = g.W.Write.contents (inner_of c.args.output.now) in
    let after = g.W.Write.contents (inner_of c.tell_piece.new.output) in
    on_err (λ r. ReadsAll g.M.Moments.tells c.args.self.now.mode c.args.clock.now c.now-now.new.self i0 i2 (has_failed c.read_some.new.input) start after
    (has_failed c.tell_piece.new.output) c.tell_piece.new.self r) c.from_residual-in_err-tell_piece.result c.in_err-tell_piece.field-0.0 c.from_residual-in_err-tell_piece.ensures.1
    (read_stops g.M.Moments.tells c.args.self.now.mode c.args.clock.now i0 start c.reads.clock c.now-now.new.self _ i2 _ after c.reads.self c.tell_piece.new.self _
    (has_failed c.read_some.new.input) (has_failed c.tell_piece.new.output) c.in_err-tell_piece.field-0.0 c.reads.invariant.read.all c.in_ok-count.ensures.bytes.0 c.now-now.ensures
    c.in_err-tell_piece.ensures (c.in_ok-count.ensures.failed ∙ ap (λ (b : Bool). b || false) c.reads.invariant.input))

pub returns : goal.returns
returns g c = (
  read_long g.M.Moments.tells c.args.self.now.mode c.args.clock.now (g.R.Read.remaining (inner_of c.args.input.now)) (g.W.Write.contents (inner_of c.args.output.now))
      c.reads.clock _ _ c.reads.self c.reads.invariant.read.all (omega (arith, c.reads.invariant.read.many, c.reads-test.false)),
  c.reads.invariant.input,
  c.reads.invariant.output,
)
