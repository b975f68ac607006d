use Rattle.osdp_frame.proofs.Common.{◌/◌, ◌<◌, length, take, ap, sym, ◌∙◌, rules, sum_from, crc_from, Buffered, check_of, Sum, Crc}
use Rattle.osdp_frame.proofs.Buffering.{front_of}
use Rattle.osdp_frame.proofs.Running.{state_since, sum_joins, crc_joins}
use Rattle.osdp_frame.proofs.buffer.Buffer.check.Goals as goal

pub returns-in-Sum : goal.returns-in-Sum
returns-in-Sum c =
    let b = c.self.inside in
    let is = front_of b c.args.self.now c.args.count c.self.view_is c.self.invariant c.bytes.ensures.bytes c.bytes.ensures.run c.requires.run in
    let room : b.ran / 16 < length b.sums = search rules in
    rw c.in-Sum.is (c.spell_since.ensures.rest _ is.size
    (state_since sum_from b.sums b.bytes b.from b.ran c.args.count _ _ sum_joins c.self.invariant.sums room is.bytes is.size c.requires.some is.within c.state_at-front.ensures c.state_at-whole.ensures)
    ∙ ap (check_of Sum) (sym is.piece ∙ ap (λ (v : Buffered). take c.args.count v.bytes) c.self.view_is))

pub returns-in-Crc : goal.returns-in-Crc
returns-in-Crc c =
    let b = c.self.inside in
    let is = front_of b c.args.self.now c.args.count c.self.view_is c.self.invariant c.bytes.ensures.bytes c.bytes.ensures.run c.requires.run in
    let room : b.ran / 16 < length b.crcs = search rules in
    rw c.in-Crc.is (c.spell_since-in-Crc.ensures _ is.size
    (state_since crc_from b.crcs b.bytes b.from b.ran c.args.count _ _ crc_joins c.self.invariant.crcs room is.bytes is.size c.requires.some is.within c.state_at-front-in-Crc.ensures c.state_at-whole-in-Crc.ensures)
    ∙ ap (check_of Crc) (sym is.piece ∙ ap (λ (v : Buffered). take c.args.count v.bytes) c.self.view_is))
