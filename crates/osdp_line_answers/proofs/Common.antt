-- The names that most proofs of this crate cite, passed on from one place. Declares nothing.
pub use Rattle.std.proofs.Common.{[], ap, append-nil, append_assoc, arith, Bool, drop, eqb-true, Err, false, IfErr, IsErrAnd, length, length-append, length-take, List, None, Ok, Option, refl, Result, rules, Some, subst, suc, sym, take, take-append-drop, true, zero, ℕ, ◌++◌, ◌+◌, ◌<◌, ◌||◌, ◌∙◌, ◌∷◌, ◌≡◌, ◌≢◌, ◌≤◌}
pub use Rattle.std.proofs.KnownBytes.{Appends-kept, Appends-nil, Appends-trans, Consumes-kept, Consumes-nil, Consumes-trans, Keeps-refl}
pub use Rattle.std.specs.Io.KnownBytes.{Appends, Consumes, IsAtEnd, Keeps}
pub use Rattle.std.proofs.lemmas.List.{take_all, take_more}
pub use Rattle.osdp_tool_streams.specs.declared.fault.ToolFault.{ToolFault}
pub use Rattle.osdp_tool_streams.specs.declared.fault.ToolFault.TheVariants.{BadStep, BadWords, HoldsPacket, NoMemory, NotHex, NotQuiet, ReadFailed, TooLong, WriteFailed}
pub use Rattle.osdp_line_answers.specs.Answers.{Answering, heard, Speaks}
pub use Rattle.osdp_line_answers.specs.Ending.{AllAnswered, Ends, SomeAnswered}
pub use Rattle.osdp_line_answers.specs.Steps.{CarriesOn, EndsLine, FrontAnswered, HasAnswered, most_reads, ReadAll, Reads, ReadSome, Step, StopsIn, WroteAnswer, WrotePart}
pub use Rattle.osdp_tool_streams.proofs.Answered.{on_each_err, on_err, on_ok}
pub use Rattle.osdp_tool_streams.specs.Cut.{ended_lines, line_feed, lines_of}
pub use Rattle.osdp_tool_streams.specs.Watched.{has_failed, inner_of}
