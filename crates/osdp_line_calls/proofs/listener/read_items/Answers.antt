use Rattle.osdp_line_calls.proofs.Common.{sym, ap, string_bytes, ◌∙◌, Received, item_leaves, item_read, none_left, passed_item}
use Rattle.osdp_frame.specs.Shown.{item_of}
use Rattle.osdp_frame_laws.proofs.OneByOne.{fewer_held}
use Rattle.osdp_line_calls.proofs.Listening.{all_written, line_written, written, written-append}
use Rattle.osdp_line_calls.proofs.ReaderTurns.{line_on}
use Rattle.osdp_line_calls.proofs.listener.read_items.Goals as goal

pub items-smaller : goal.items-smaller
items-smaller c = fewer_held c.items.receiver.held c.advance.new.self.held _ (sym c.in-Some.ensures.shown) (ap (λ (l : Received). l.held) c.advance.ensures)

pub items-preserved : goal.items-preserved
items-preserved c =
    let line = passed_item c.args.bus.now.devices.entries c.args.opened.now in
    let l = c.items.receiver in
    let m = c.advance.new.self in
    let part = item_of c.in-Some.item in
    record {
      written =
          item_read (written line) (written-append line) l m part (string_bytes c.items.text) (string_bytes c.push_item.new.text)
          (sym c.in-Some.ensures.shown) c.advance.ensures
          (line_written line part (string_bytes c.items.text) (string_bytes c.push_item.new.text) c.in_ok-push_item.ensures)
          ∙ c.items.invariant.written;
      line = line_on c.args.receiver.now l m _ c.items.invariant.line c.advance.ensures;
      left = item_leaves l m part (sym c.in-Some.ensures.shown) c.advance.ensures ∙ c.items.invariant.left;
    }

pub returns-clause-text : goal.returns-clause-text
returns-clause-text c =
    all_written (passed_item c.args.bus.now.devices.entries c.args.opened.now) _ (string_bytes c.items.text) _
    (none_left c.items.receiver c.in_default.ensures.received (sym c.in_default.ensures.shown)).items c.items.invariant.written

pub returns-clause-left : goal.returns-clause-left
returns-clause-left c = (none_left c.items.receiver c.in_default.ensures.received (sym c.in_default.ensures.shown)).left ∙ c.items.invariant.left

pub returns-clause-read : goal.returns-clause-read
returns-clause-read c = (none_left c.items.receiver c.in_default.ensures.received (sym c.in_default.ensures.shown)).read
