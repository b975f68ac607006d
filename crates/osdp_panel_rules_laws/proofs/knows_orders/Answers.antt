use Rattle.osdp_panel_rules_laws.proofs.Common.{◌≡◌, ◌<◌, ℕ, subst, sym, arith, Packet, code_of, IsOrder}
use Rattle.std.specs.Prelude.{◌≤◌}
use Rattle.osdp_panel_rules_laws.proofs.knows_orders.Goals as goal

is_order : (code : ℕ) → 0x68 ≤ code → (p : Packet) → code_of p ≡ code → IsOrder p
is_order code above p is = subst (λ c. 0x68 ≤ c) (sym is) above

is_question : (code : ℕ) → code < 0x68 → (p : Packet) → code_of p ≡ code → IsOrder p → ⊥
is_question code below p is order = let h : 0x68 ≤ code = subst (λ c. 0x68 ≤ c) is order in omega (arith, h, below)

pub returns-clause-orders : goal.returns-clause-orders
returns-clause-orders c = (
  is_order 0x68 (omega arith),
  (is_order 0x69 (omega arith), (is_order 0x6A (omega arith), (is_order 0x6B (omega arith), (is_order 0x6E (omega arith), (is_order 0x80 (omega arith), tt))))),
)

pub returns-clause-questions : goal.returns-clause-questions
returns-clause-questions c = (
  is_question 0x60 (omega arith),
  (
    is_question 0x61 (omega arith),
    (
      is_question 0x62 (omega arith),
      (
        is_question 0x64 (omega arith),
        (is_question 0x65 (omega arith), (is_question 0x66 (omega arith), (is_question 0x67 (omega arith), tt))),
      ),
    ),
  ),
)
