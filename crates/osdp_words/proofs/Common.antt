-- The names that most proofs of this crate cite, passed on from one place. Declares nothing.
pub use Rattle.std.proofs.lemmas.List.{append-nil, append_assoc, drop_all, drop_more, get_or-map, get_or-set_other, get_or-set_same, get_or_read, length-map, length-set, length-take, length_push, map-append, nil_from_length, take_all, take_more, take_more_set}
pub use Rattle.std.proofs.lemmas.List.Elements.{All-append, All-from_get_or, AllZip-get_or, length_all_zip}
pub use Rattle.std.proofs.lemmas.List.Splits.{join_with_byte-slice_split, slice_split_at, slice_split_first, slice_split_none}
pub use Rattle.std.specs.List.{after_first, All, AllByRecursion, AllZip, before_first, flat_map, join_by, join_with_byte, position_or_len, slice_split}
pub use Rattle.std.specs.Prelude.{IfSome, IsTrue, MatchOption, option_map, ◌↔◌}
pub use Rattle.std.specs.Str.Iter.{LacksByte, split_has_more, split_pattern, split_steps, split_text}
pub use Rattle.std.proofs.lemmas.Iterator.Splits.{YieldsList-from_str_split}
pub use Rattle.std.proofs.Common.{[], ap, arith, below_more, Bool, codes, drop, eq-eqb, eqb, Err, false, get_or, inl, inr, length, length-append, List, lit<, map, None, Ok, Option, refl, Result, set, slice_index, Some, subst, suc, sym, take, true, zero, ℕ, ◌%◌, ◌&&◌, ◌*◌, ◌++◌, ◌+◌, ◌-◌, ◌/◌, ◌<◌, ◌==◌, ◌^◌, ◌∙◌, ◌∷◌, ◌≡◌, ◌≢◌, ◌≤◌, ◌⊎◌}
pub use Rattle.std.proofs.lemmas.Str.Parse.{IsNumeralModel, not_in_digits, numerals_by_value, parse_plain, tells_digits}
pub use Rattle.std.proofs.lemmas.Fmt.{decimal-digits_value, decimal_digit, decimal_injective, decimal_is_IsNumeral, decimal_nonempty, digits_decimal, first_decimal, hex_byte, parse-decimal}
pub use Rattle.std.proofs.lemmas.Bool.{and_parts, cases_eq, cases_lt, eqb-true, false≢true, ne_eqb}
pub use Rattle.std.specs.Fmt.{decimal, digit_glyph, digits, format_spec, HasWritten, IsPlainFormatter, padded_integral}
pub use Rattle.std.specs.Result.{is_err, is_ok, IsOk, OnOk, result_ok, result_unwrap_or}
pub use Rattle.std.specs.Str.Parse.{AllDigits, digits_value, ParsesUnsigned}
pub use Rattle.std.proofs.lemmas.Bool.Decides.{nat_tests}
pub use Rattle.std.specs.Char.{to_ascii_uppercase}
pub use Rattle.std.specs.Str.{str_to_ascii_uppercase}
pub use Rattle.std.specs.Bool.{then_some}
pub use Rattle.std.proofs.lemmas.Grind.{common_steps}
pub use Rattle.osdp_words.specs.Word.{AllStandFor, AreWithin, AreWords, bytes, IsSameSort, IsWord, number, numbers, plain, printed, StandsFor, text_of, texts, Word, words_in}
pub use Rattle.osdp_words.specs.Reading.{Reads, ReadsWords, Takes}
pub use Rattle.hex.specs.declared.error.FromHexError.{FromHexError}
pub use Rattle.hex.proofs.Pairs.{cons_byte, decode_pairs-ok_pair, decode_sized-pairs}
pub use Rattle.hex.specs.Hex.{decode_pairs, decode_sized, encode_upper, IsBytes, upper_digits}
pub use Rattle.hex.proofs.HexLemmas.{decode_of-even, decode_of-ok, decode_pairs-encode_with, decode_sized-ok, decode_sized-twice, IsDigits-upper_digits, length-encode_with}
pub use Rattle.arrayvec.specs.ArrayVec.{array_vec_len, ArrayVec}
pub use Rattle.osdp_words.specs.Laws.{AreAllWords, HasOneList, HasOneResult, HasOneWord, IsDecimal, IsDecoded, JoinsBySpaces, PartsAtColons, PartsAtSpaces, StandsForItself}
