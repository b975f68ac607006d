use Rattle.osdp_tool_streams.proofs.Common.{◌≡◌, ◌<◌, ℕ, length, slice_index, hex_digit_value, value_or_none}
use Rattle.osdp_tool_streams.proofs.digits.Digits.new.Given as goal

abbrev pub invariant-characters : goal.invariant-characters
invariant-characters l =
    (length l.values ≡ 256) × ((c : ℕ) → c < l.character → slice_index l.values c ≡ value_or_none (hex_digit_value c))
