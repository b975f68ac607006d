use Rattle.osdp_device.proofs.Common.{◌≡◌, ◌↔◌, ◌∙◌, Bool, false, Option, Some, sym, subst, ap, Command, hears, kind_of, Zero, Taken, either, is_nak, again_by, said_to, taken_by, Nothing, Once, Again}
use Rattle.osdp_device.proofs.Ordering.{about_it, acted, done_again, done_once, order_at, polled, unread}
use Rattle.osdp_device.proofs.laws.orders_by_number.Goals as goal

pub returns : goal.returns
returns g c r p =
    let answer_of = g.H.Handler.answer_of in
    let after = g.H.Handler.after in
    let k = kind_of r p in
    let said = said_to answer_of after r p in
    let refused = is_nak said.bytes in
    record {
      about = λ command reply o.
          ap (λ (x : Option Command). either (taken_by k x) (again_by k x)) o.read ∙ about_it k command o.is_no_poll (acted answer_of after k r p command o.read);
      once = λ command reply o kept.
          subst (λ (b : Bool). (order_at b k said.command ≡ Once) ↔ (k ≡ Taken)) (sym (c.refusals_are_naks.ensures.code r p reply o.said ∙ kept))
          (subst (λ (x : Option Command). (order_at false k x ≡ Once) ↔ (k ≡ Taken)) (sym o.read)
          (done_once k command o.is_no_poll (acted answer_of after k r p command o.read)));
      again = λ command reply o kept.
          subst (λ (b : Bool). (order_at b k said.command ≡ Again) ↔ (k ≡ Zero)) (sym (c.refusals_are_naks.ensures.code r p reply o.said ∙ kept))
          (subst (λ (x : Option Command). (order_at false k x ≡ Again) ↔ (k ≡ Zero)) (sym o.read)
          (done_again k command o.is_no_poll (acted answer_of after k r p command o.read)));
      poll = λ read. ap (order_at refused k) read ∙ polled refused k;
      none = λ read. ap (order_at refused k) read ∙ unread refused k;
    }
