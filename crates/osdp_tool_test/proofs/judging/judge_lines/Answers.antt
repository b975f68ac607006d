use Rattle.std.proofs.Common.{inl, rules}
use Rattle.osdp_tool_test.proofs.Judged.{not_flushed, part_written, reported}
use Rattle.osdp_tool_test.proofs.judging.judge_lines.Goals as goal

pub returns-in-Err : goal.returns-in-Err
returns-in-Err g c = (
  inl (part_written _ _ _ _ _ _ _ c.in_ok-entries.entries.items c.deref.result.now c.as_bytes.result.now _ c.deref.ensures.value c.in-Ok.ensures c.as_bytes.ensures.value
      c.in_ok-entries.ensures _ c.in-Err.ensures.err),
  search rules,
)

pub returns-in-Ok-flush_out : goal.returns-in-Ok-flush_out
returns-in-Ok-flush_out g c = (
  reported _ _ _ _ _ _ _ c.in_ok-entries.entries.items c.deref.result.now c.as_bytes.result.now _ c.deref.ensures.value c.in-Ok.ensures c.as_bytes.ensures.value
      c.in_ok-entries.ensures _ _ c.status_of.result c.deref-in-Ok-flush_out.result.now c.deref-in-Ok-flush_out.ensures.value c.status_of.ensures
      c.in-Ok-write_out.ensures.ok c.flush_out.ensures.bytes,
  search rules,
)

pub returns : goal.returns
returns g c = (
  inl (not_flushed _ _ _ _ _ _ _ c.in_ok-entries.entries.items c.deref.result.now c.as_bytes.result.now _ c.deref.ensures.value c.in-Ok.ensures c.as_bytes.ensures.value
      c.in_ok-entries.ensures _ _ c.in-Ok-write_out.ensures.ok c.flush_out.ensures.bytes),
  search rules,
)
