-- The names that most proofs of this crate cite, passed on from one place. Declares nothing.
pub use Rattle.std.proofs.Common.{[], ap, append-nil, append_assoc, arith, Bool, codes, drop, false, get_or, if◌then◌else◌, length, length-append, List, map, nat_lt, refl, set, subst, sym, take, true, true≢false, zero-add, ℕ, ◌++◌, ◌+◌, ◌<◌, ◌∙◌, ◌∷◌, ◌≡◌, ◌≤◌}
pub use Rattle.std.specs.Prelude.{Err, IsErr, Ok, Result}
pub use Rattle.std.specs.Fmt.{decimal}
pub use Rattle.std.specs.List.{flat_map}
pub use Rattle.std.proofs.lemmas.Grind.{flat_map-append}
pub use Rattle.std.proofs.raw_atomic.Walks.{leaves, proved_at}
pub use Rattle.std_alloc.specs.Box.Ownership.{box_owns}
pub use Rattle.std.proofs.lemmas.List.{drop_all, drop_more, length_push, set_at, set_past}
pub use Rattle.std_alloc.proofs.BoxSteps.Steps.{box_in, box_out}
pub use Rattle.osdp_words.specs.Word.{bytes, number, printed, Word}
pub use Rattle.osdp_c_values.specs.Pieces.{following, IsAt, IsPut, two_digits}
pub use seplogic.Ra.Ura.{Ura}
pub use mir.Syntax.{a_type, aggregate, Args, assign, Body, Callee, copy, dcons, Dict, dnil, field, Fn, impl, int, Local, local, place, return, rv_opd, seq, Sym, tnil, ty_ptr, value_local, w64}
pub use mir.Raw.{raw as bare}
pub use mir.Val.{has_ty, of_list, Val, vcons, vnil, vptr, vstruct, WT}
pub use base.Fml.{flft, Fml, fsep, ftrue, Lft}
pub use base.Logic.{emp, ent, fst∗, id⊢, never, SProp}
pub use contract.Monad.{fact, fact_i}
pub use contract.Running.{MachineTables, Running, tables}
pub use denote.Builtin.{RawPtr}
pub use denote.Exit.{hidden, no, under, yes}
pub use denote.RattleType.{owns, RattleType, Valss}
pub use denote.RawPtr.{block_ptr, in_a_block, null_ptr, Ptr, ptr_val}
pub use denote.Signature.{plain, types_at}
pub use denote.Memory.{lone}
pub use denote.Param.{bounded, layout, param}
pub use denote.Param.Laws.{Laws, param_laws}
pub use denote.Steps.{heard, nothing, only}
pub use denote.Struct.Owning.{Owning, row, shape}
pub use denote.Struct.Struct.{exits_of, layout as struct_layout, within}
pub use denote.Triple.Clauses.{Clauses, closing, Ended, lasts, Lasts}
pub use denote.Triple.Spec.{Meets, triple_of}
pub use denote.Triple.Walked.{Goes-dropped, stay_dropped, Stays, walk_of}
pub use prog.Wp.{Closed, WpFn}
pub use types.Logic.{Logic, sem}
pub use types.Run.{and_then, blocks, enter, exec, first, fld, lit, no_more, of_opd, returns, stop}
pub use types.ByLocal.{alloc_all, env, free_all, get, get_in, lands_as, lands_last, look_at, pass_all, sets}
pub use types.Part.{agg, sub, whole}
pub use Rattle.core.proofs.alloc.Calls.{Al, Goes-blank, handle_tells}
pub use Rattle.core.proofs.atomic.Steps.{fm, Ptr-Good}
pub use Rattle.core.proofs.cell.Inside.{Good, one}
pub use Rattle.osdp_msg_laws.proofs.LongestTexts.{longest_command, longest_reply}
pub use mir.MapTy.{inst_fn}
pub use denote.Triple.Call.{calls_at, calls_at_last}
pub use Rattle.osdp_c_values.specs.Making.{led_record, output_record}
