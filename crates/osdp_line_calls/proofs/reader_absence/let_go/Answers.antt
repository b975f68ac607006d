use Rattle.osdp_line_calls.proofs.Common.{◌++◌, false, length, string_bytes, refl, sym, ap, ◌∙◌, arith, append-nil, after_expiry, after_removal, DeviceState, DeviceStatus, LetGo, expired_lines}
use Rattle.osdp_line_calls.proofs.LettingGo.{ages_of, goes, leaves, line_of, none_goes, reader_of, wrote_one}
use Rattle.osdp_line_calls.proofs.reader_absence.let_go.Goals as goal

-- a device whose oldest event has left
abbrev gone : DeviceState DeviceStatus → DeviceState DeviceStatus
gone d = record d { reader = after_expiry d.reader; ages = after_removal false (length d.reader.queue.events) d.ages }

pub events-smaller : goal.events-smaller
events-smaller c =
    let d = c.events.device in
    let q = c.expire_event.new.self in
    let test = leaves c.args.now c.args.limit d.reader d.ages in
    let g = goes c.args.now c.args.limit c.in-Some.expired d.reader q.reader d.ages q.ages c.in-Some.ensures
    (reader_of test (gone d) d q c.expire_event.ensures.device) (ages_of test (gone d) d q c.expire_event.ensures.device) in
    omega (arith, g.fewer)

pub events-preserved : goal.events-preserved
events-preserved c =
    let d = c.events.device in
    let q = c.expire_event.new.self in
    let test = leaves c.args.now c.args.limit d.reader d.ages in
    let g = goes c.args.now c.args.limit c.in-Some.expired d.reader q.reader d.ages q.ages c.in-Some.ensures
    (reader_of test (gone d) d q c.expire_event.ensures.device) (ages_of test (gone d) d q c.expire_event.ensures.device) in
    record {
      text = wrote_one (string_bytes c.events.text) (string_bytes c.push_expired.new.text) _ c.in-Some.expired _ _ c.in_ok-push_expired.ensures g.all
          c.events.invariant.text;
      reader = sym (ap (λ (x : LetGo). x.reader) g.all) ∙ c.events.invariant.reader;
      ages = sym (ap (λ (x : LetGo). x.ages) g.all) ∙ c.events.invariant.ages;
      line = line_of test (gone d) d q refl c.expire_event.ensures.device ∙ c.events.invariant.line;
    }

pub returns-clause-text : goal.returns-clause-text
returns-clause-text c =
    let none = none_goes c.args.now c.args.limit c.events.device.reader c.events.device.ages c.in_default.ensures in
    sym (append-nil (string_bytes c.events.text)) ∙ sym (ap (λ (x : LetGo). string_bytes c.events.text ++ expired_lines x.expired) none)
    ∙ c.events.invariant.text

pub returns-clause-reader : goal.returns-clause-reader
returns-clause-reader c =
    let none = none_goes c.args.now c.args.limit c.events.device.reader c.events.device.ages c.in_default.ensures in
    sym (ap (λ (x : LetGo). x.reader) none) ∙ c.events.invariant.reader

pub returns-clause-ages : goal.returns-clause-ages
returns-clause-ages c =
    let none = none_goes c.args.now c.args.limit c.events.device.reader c.events.device.ages c.in_default.ensures in
    sym (ap (λ (x : LetGo). x.ages) none) ∙ c.events.invariant.ages
