-- What becomes of a line that can't be read.
use Rattle.std.proofs.Common.{◌≡◌, ℕ, List, inl, inr, refl, arith, subst, sym}
use Rattle.osdp_test_script.specs.Runs.{Called, refuses_line}
use Rattle.osdp_test_script.specs.declared.run.ScriptRun.{ScriptRun}
use Rattle.osdp_tool_script.specs.Unread.{AlwaysTellsUnread, IsRefusedAs}

refused : (why : List ℕ) (s : ScriptRun) (c : Called) → c ≡ refuses_line why s → IsRefusedAs why s c
refused why s c is = subst (IsRefusedAs why s) (sym is) (record { text = refl; run = refl })

pub always_tells_unread : AlwaysTellsUnread
always_tells_unread line s c (inr (long, is)) = record {
  long = λ h. refused _ s c is;
  no_text = λ short. absurd (omega (arith, long, short));
  read = λ short. absurd (omega (arith, long, short));
}
always_tells_unread line s c (inl (short, inl (text, says))) = record {
  long = λ long. absurd (omega (arith, long, short));
  no_text = λ h none. absurd (none text);
  read = λ h is. says;
}
always_tells_unread line s c (inl (short, inr (none, is))) = record {
  long = λ long. absurd (omega (arith, long, short));
  no_text = λ h not_text. refused _ s c is;
  read = λ h text. absurd (none text);
}
