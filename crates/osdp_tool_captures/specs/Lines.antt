-- What a line of another tool says, as lines of digits.
use Rattle.std.specs.Prelude.{◌≡◌, ℕ, ◌+◌, ◌-◌, ◌==◌, ◌&&◌, nat_le, nat_lt, Bool, List, [], ◌∷◌, ◌++◌, codes, drop, take, length, replicate, Option, Some, None, option_and_then, Result, Ok, Err, if◌then◌else◌}
use Rattle.std.specs.List.{list_all}
use Rattle.std.specs.Option.{option_map_or}
use Rattle.std.specs.Str.{bytes_eq}
use Rattle.std.specs.Str.Lossy.{utf8_lossy}
use Rattle.memchr.specs.Find.{is_byte, places, matches, first_of}
use Rattle.serde_json.specs.Data.{Data}
use Rattle.serde_json.specs.Find.{get, as_str}
use Rattle.serde_json.specs.Read.{read}
use Rattle.osdp_tool_streams.specs.Cut.{line_feed}
use Rattle.osdp_tool_captures.specs.Digits.{digits_in, is_blank}
use Rattle.osdp_tool_captures.specs.declared.fault.LineFault.{LineFault}
use Rattle.osdp_tool_captures.specs.declared.fault.LineFault.TheVariants.{NotJson, NoData, NoOffset, NoWay}
use Rattle.osdp_tool_captures.specs.declared.format.Tool.{Tool}
use Rattle.osdp_tool_captures.specs.declared.format.Tool.TheVariants.{Osdpcap, Xxd, Stamped}

-- a comment, and then the digits, each on a line of its own; digits that are none are a fault
abbrev pub with_digits : List ℕ → List ℕ → Result (List ℕ) LineFault
with_digits comment characters = option_map_or (λ digits. Ok (comment ++ (digits ++ line_feed ∷ []))) (digits_in characters) (Err NoData)

-- ---- .osdpcap

abbrev pub is_decimal : ℕ → Bool
is_decimal b = nat_le 48 b && nat_le b 57

-- digits of a decimal number, and no more than so many
abbrev pub are_decimal : ℕ → List ℕ → Bool
are_decimal most text = (nat_lt 0 (length text) && nat_le (length text) most) && list_all is_decimal text

-- seconds and nanoseconds, as one decimal number
abbrev pub decimal_moment : List ℕ → List ℕ → List ℕ
decimal_moment seconds nanoseconds = seconds ++ (codes "." ++ (replicate (9 - length nanoseconds) 48 ++ nanoseconds))

-- seconds since 1970; a hyphen where the object has none
abbrev pub moment : List ℕ → List ℕ → List ℕ
moment seconds nanoseconds =
    if are_decimal 20 seconds && are_decimal 9 nanoseconds then decimal_moment seconds nanoseconds else codes "-"

-- what came is `in`, what was sent is `out`, and of what was only heard nobody says which it is
abbrev pub way : List ℕ → List ℕ
way io = if bytes_eq io (codes "input") then codes "in" else (if bytes_eq io (codes "output") then codes "out" else codes "trace")

-- the text of a member; none where it is no text
abbrev pub text_of : List ℕ → Data → List ℕ
text_of name entry = option_map_or (λ text. text) (option_and_then as_str (get name entry)) []

abbrev pub stamp : Data → List ℕ
stamp entry = codes "# " ++ (moment (text_of (codes "timeSec") entry) (text_of (codes "timeNano") entry) ++ (codes " " ++ (way (text_of (codes "io") entry) ++ codes "\n")))

-- an object has its bytes in `data`
abbrev pub object_text : Data → Result (List ℕ) LineFault
object_text entry = option_map_or (λ characters. with_digits (stamp entry) characters) (option_and_then as_str (get (codes "data") entry)) (Err NoData)

abbrev pub osdpcap_text : List ℕ → Result (List ℕ) LineFault
osdpcap_text line = option_map_or object_text (read (utf8_lossy line)) (Err NotJson)

-- ---- xxd

-- where a text stands first
abbrev pub first_match : List ℕ → List ℕ → Option ℕ
first_match text characters = first_of (matches characters text 0)

-- what stands before the first two blanks, or all
abbrev pub before_gap : List ℕ → List ℕ
before_gap characters = option_map_or (λ place. take place characters) (first_match (codes "  ") characters) characters

abbrev pub xxd_text : List ℕ → Result (List ℕ) LineFault
xxd_text line =
    option_map_or (λ colon. with_digits [] (before_gap (drop (colon + 1) line))) (first_of (places (is_byte 58) line)) (Err NoOffset)

-- ---- stamped lines

-- without a colon at the head
abbrev pub after_colon : List ℕ → List ℕ
after_colon [] = []
after_colon (first ∷ rest) = if first == 58 then rest else first ∷ rest

-- the stamp stands before the two letters, and the digits after them and a colon
abbrev pub mark : List ℕ → List ℕ → List ℕ
mark way stamped = codes "# " ++ (stamped ++ (codes " " ++ (way ++ codes "\n")))

abbrev pub marked_text : List ℕ → List ℕ → ℕ → Result (List ℕ) LineFault
marked_text way line place = with_digits (mark way (take place line)) (after_colon (drop (place + 2) line))

-- TX was sent, and RX came
abbrev pub stamped_text : List ℕ → Result (List ℕ) LineFault
stamped_text line =
    option_map_or (marked_text (codes "out") line)
    (first_match (codes "TX") line)
    (option_map_or (marked_text (codes "in") line) (first_match (codes "RX") line) (Err NoWay))

-- ---- each

abbrev pub tool_text : Tool → List ℕ → Result (List ℕ) LineFault
tool_text Osdpcap line = osdpcap_text line
tool_text Xxd line = xxd_text line
tool_text Stamped line = stamped_text line

-- a blank line says nothing
abbrev pub line_text : Tool → List ℕ → Result (List ℕ) LineFault
line_text tool line = if is_blank line then Ok [] else tool_text tool line

-- what a line says is added to a text; a bad one leaves it
abbrev pub Adds : Result (List ℕ) LineFault → List ℕ → List ℕ → Option LineFault → Type 0
Adds (Ok more) old new fault = (fault ≡ None) × (new ≡ old ++ more)
Adds (Err cause) old new fault = (fault ≡ Some cause) × (new ≡ old)
