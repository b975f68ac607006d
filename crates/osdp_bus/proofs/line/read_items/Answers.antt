use Rattle.osdp_bus.proofs.Common.{sym, ap, ◌∙◌, Held, after_advance, Received, item_of, item_leaves, item_read, none_left, hears_items, devices_of}
use Rattle.osdp_frame_laws.proofs.OneByOne.{fewer_held}
use Rattle.osdp_bus.proofs.Runs.{hears_items-append}
use Rattle.osdp_bus.proofs.line.read_items.Goals as goal

pub items-smaller : goal.items-smaller
items-smaller c = fewer_held c.items.receiver.held c.advance.new.self.held _ (sym c.in-Some.ensures.shown) (ap (λ (l : Received). l.held) c.advance.ensures)

pub items-preserved : goal.items-preserved
items-preserved c =
    let l = c.items.receiver in
    let m = c.advance.new.self in
    let part = item_of c.in-Some.item in
    record {
      heard =
          item_read (hears_items c.args.now) (hears_items-append c.args.now) l m part (devices_of c.items.devices) (devices_of c.hear_item.new.self)
          (sym c.in-Some.ensures.shown) c.advance.ensures c.hear_item.ensures.devices
          ∙ c.items.invariant.heard;
      line =
          c.advance.ensures ∙ ap (λ (x : Received). record x { held = after_advance l.held }) c.items.invariant.line
          ∙ ap (λ (h : Held). record c.args.receiver.now { held = h }) (sym (ap (λ (x : Received). x.held) c.advance.ensures));
      left = item_leaves l m part (sym c.in-Some.ensures.shown) c.advance.ensures ∙ c.items.invariant.left;
      capacity = c.hear_item.ensures.capacity ∙ c.items.invariant.capacity;
      count = c.hear_item.ensures.count ∙ c.items.invariant.count;
    }

pub returns-clause-devices : goal.returns-clause-devices
returns-clause-devices c =
    let none = none_left c.items.receiver c.in_default.ensures.received (sym c.in_default.ensures.shown) in
    sym (ap (λ parts. hears_items c.args.now parts (devices_of c.items.devices)) none.items) ∙ c.items.invariant.heard

pub returns-clause-left : goal.returns-clause-left
returns-clause-left c = (none_left c.items.receiver c.in_default.ensures.received (sym c.in_default.ensures.shown)).left ∙ c.items.invariant.left

pub returns-clause-read : goal.returns-clause-read
returns-clause-read c = (none_left c.items.receiver c.in_default.ensures.received (sym c.in_default.ensures.shown)).read
