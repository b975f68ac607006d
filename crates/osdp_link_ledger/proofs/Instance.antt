-- Sessions in which the device acts on an order, and in which it offers an event, by what is computed of them.
use Rattle.osdp_link_ledger.proofs.Common.{◌≤◌, ◌<◌, ℕ, zero, suc, List, [], ◌∷◌, All, refl, arith, slice_index, Command, Cap, Answer, Begins, MaySubmit, MovesFit, each_all, Each, LinkKeepsLedger}
use Rattle.osdp_msg.specs.CommandTable.{command_at, command_fault, command_of}
use Rattle.osdp_msg.specs.ReplyFields.{CapabilityFits, PdIdFits}
use Rattle.osdp_msg.specs.ReplyTable.{reply_at, reply_fault, reply_of}
use Rattle.osdp_msg.proofs.ReplyRows.{pd_id_fits}
use Rattle.osdp_link_ledger.specs.Instance.{DevicesActAndOffer, acting, begun_with, offering, the_device}

bytes_of : (bs : List ℕ) → Each (λ b. b < 256) bs → (i : ℕ) → slice_index bs i < 256
bytes_of [] all i = omega arith
bytes_of (b ∷ bs) all zero = all.0
bytes_of (b ∷ bs) all (suc i) = bytes_of bs all.1 i

id_fits : PdIdFits the_device.id
id_fits =
    pd_id_fits (1 ∷ 2 ∷ 3 ∷ 4 ∷ 5 ∷ 6 ∷ 0 ∷ 0 ∷ 0 ∷ 7 ∷ 8 ∷ 9 ∷ []) refl
    (bytes_of (1 ∷ 2 ∷ 3 ∷ 4 ∷ 5 ∷ 6 ∷ 0 ∷ 0 ∷ 0 ∷ 7 ∷ 8 ∷ 9 ∷ [])
    (omega arith, (omega arith, (omega arith, (omega arith, (omega arith, (omega arith, (omega arith, (omega arith, (omega arith, (omega arith, (omega arith, (omega arith, tt)))))))))))))

caps_fit : (0 ≤ 477) × All CapabilityFits []
caps_fit = (omega arith, each_all CapabilityFits [] tt)

module _ {H : Type 0} (answer_of : H → Command → Answer) (after : H → Command → H) where
  begins : (handler : H) → Begins (begun_with handler)
  begins handler = record {
    quiet = (400, refl);
    address = omega arith;
    waiting = each_all MaySubmit (Cap 0 ∷ []) (record { no_poll = λ e. let is = e in cc; fits = omega arith }, tt);
    to_reader = refl;
    to_controller = refl;
  }

  acting_fits : (handler : H) → MovesFit answer_of after acting (begun_with handler)
  unfolding reply_of reply_fault reply_at command_of command_fault command_at
  acting_fits handler = (tt, (id_fits, (tt, (tt, (caps_fit, tt)))))

  offering_fits : (handler : H) → MovesFit answer_of after offering (begun_with handler)
  unfolding reply_of reply_fault reply_at command_of command_fault command_at
  offering_fits handler = (tt, (id_fits, (tt, (tt, (caps_fit, (tt, (tt, ((omega arith, omega arith), tt))))))))

  pub act_and_offer : LinkKeepsLedger answer_of after → DevicesActAndOffer answer_of after
  unfolding reply_of reply_fault reply_at command_of command_fault command_at
  act_and_offer keeps handler =
      let l = begun_with handler in
      let first = (keeps l acting (begins handler) (acting_fits handler)).1 in
      let last = (keeps l offering (begins handler) (offering_fits handler)).1 in
      record {
        begins = begins handler;
        fit = offering_fits handler;
        acts = record { going = refl; number = (refl, refl); acted = first.acted refl 1 (refl, refl); offer = first.unpolled refl refl };
        offers = record { going = refl; number = (refl, refl); acted = last.unasked refl refl; offer = last.offer refl 2 (refl, refl) };
      }
