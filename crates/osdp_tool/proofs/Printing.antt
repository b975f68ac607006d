-- What was printed where a write failed.
use Rattle.osdp_tool.proofs.Common.{◌≡◌, ◌||◌, ℕ, Bool, true, false, is_err, List, ◌++◌, take, drop, take-append-drop, Option, Result, Ok, Err, OnOk, OnErr, inr, sym, subst, ap, ◌∙◌, IsOkUnless, AppendsPart, WriteFailed, PacketOrder, order_line}
use Rattle.std.specs.Io.KnownBytes.{Appends}
use Rattle.osdp_tool_streams.specs.declared.fault.ToolFault.{ToolFault}
use Rattle.osdp_tool.specs.Ending.{Ends, Order, PrintedSome}

pub part_printed : (given : List (List ℕ)) (order : PacketOrder) (before after : Option (List ℕ)) (bytes : List ℕ) → Order given order
    → bytes ≡ order_line order → AppendsPart before after bytes → PrintedSome given before after
part_printed given order before after bytes ordered is part = inr (record {
  order = order;
  ordered = ordered;
  printed = take part.0 bytes;
  rest = drop part.0 bytes;
  line = sym (subst (λ l. take part.0 bytes ++ drop part.0 bytes ≡ l) is (take-append-drop part.0 bytes));
  text = part.2;
})

-- by what the write of the line answered
pub line_written : (given : List (List ℕ)) (order : PacketOrder) (before after : Option (List ℕ)) (bytes : List ℕ) (was failed : Bool) (r : Result (Unit {0}) ToolFault)
    → Order given order → bytes ≡ order_line order → IsOkUnless r WriteFailed → failed ≡ (was || is_err r) → was ≡ false
    → OnOk r (Appends before after bytes) → OnErr r (AppendsPart before after bytes) → Ends given before after failed r
line_written given order before after bytes was failed (Ok done) ordered is fault state well ok err = (
  record { order = order; ordered = ordered; text = subst (Appends before after) is ok },
  state ∙ ap (λ b. b || false) well,
)
line_written given order before after bytes was failed (Err fault_is) ordered is fault state well ok err =
    subst (λ f. Ends given before after failed (Err f)) (sym fault)
    (part_printed given order before after bytes ordered is err, state ∙ ap (λ b. b || true) well)
