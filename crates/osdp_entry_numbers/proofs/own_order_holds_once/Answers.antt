use Rattle.osdp_entry_numbers.proofs.Including.{any_keep}
use Rattle.osdp_entry_numbers.proofs.Keeping.{own_apart_all, own_ledger, own_same}
use Rattle.osdp_entry_numbers.proofs.own_order_holds_once.Goals as goal

pub returns : goal.returns
returns g c = record {
  ledger = own_ledger g.H.Handler.answer_of g.H.Handler.after c.each_move_is_its_own.ensures c.nobody_else_hears.ensures.hears c.each_keeps_ledger.ensures c.tells_in_turn.ensures;
  apart = own_apart_all g.H.Handler.answer_of g.H.Handler.after c.nobody_else_hears.ensures.together;
  same = own_same g.H.Handler.answer_of g.H.Handler.after;
  less = any_keep g.H.Handler.answer_of g.H.Handler.after;
}
