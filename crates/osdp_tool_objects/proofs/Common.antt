-- The names that most proofs of this crate cite, passed on from one place. Declares nothing.
pub use Rattle.std.proofs.Common.{[], ap, append-nil, append_assoc, arith, Bool, Bor, drop, Err, false, get_or, inl, inr, length, length-append, length-drop, List, None, not, Ok, OnOk, Option, refl, Result, Some, subst, sym, take, true, ℕ, ◌&&◌, ◌++◌, ◌+◌, ◌-◌, ◌<◌, ◌∙◌, ◌∷◌, ◌≡◌, ◌≤◌}
pub use Rattle.std.proofs.lemmas.List.{drop_all, drop_more, length-take-le, take_all, take_rest}
pub use Rattle.std.specs.Prelude.{if◌then◌else◌, is_ok, is_some}
pub use Rattle.std.proofs.Math.Seq.{drop-append_seam, drop-drop, take-append-add, take-append_seam}
pub use Rattle.std.specs.Io.KnownBytes.{Appends}
pub use Rattle.osdp_words.specs.Word.{texts}
pub use Rattle.osdp_tool_streams.specs.Cut.{ended_after, HasLine, IsLine, line_feed, unended_after}
pub use Rattle.osdp_tool_streams.proofs.CutLemmas.{ended_after-append, ended_after-feed, ended_after-line, unended_after-append, unended_after-feed, unended_after-line}
pub use Rattle.osdp_tool_objects.specs.Streams.{held_after, is_written, noted, objects_of, taken_so, written_after}
pub use Rattle.osdp_tool_objects.specs.Laws.{PiecesGiveTheSame, WritesTheirObjects}
pub use Rattle.osdp_tool_streams.specs.Watched.{has_failed, inner_of}
pub use Rattle.osdp_tool_objects.specs.Outputs.{fault_of, IsNew, lines_taken, output_of, start_of}
pub use Rattle.osdp_tool_objects.specs.Members.{columns, counts}
