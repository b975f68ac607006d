use Rattle.osdp_tool_streams.proofs.Common.{◌≡◌, ◌*◌, take, drop, decode_pairs, prepend}
use Rattle.osdp_tool_streams.proofs.digits.Digits.read.Given as goal

abbrev pub invariant-pairs : goal.invariant-pairs
invariant-pairs l =
    decode_pairs 0 l.characters ≡ prepend (take l.place l.bytes) (decode_pairs (2 * l.place) (drop (2 * l.place) l.characters))
