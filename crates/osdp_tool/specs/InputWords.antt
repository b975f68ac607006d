-- The words that say in which form an input is, and those that name files.
use Rattle.std.specs.Prelude.{◌==◌, ◌||◌, not, ℕ, Bool, false, List, [], ◌∷◌, codes, length, Option, Some, None, if◌then◌else◌}
use Rattle.std.specs.List.{list_all}
use Rattle.std.specs.Option.{option_map_or}
use Rattle.std.specs.Str.{bytes_eq}
use Rattle.osdp_tool.specs.Job.{Words}
use Rattle.osdp_tool_captures.specs.declared.format.Format.{Format}
use Rattle.osdp_tool_captures.specs.declared.format.Format.TheVariants.{Digits, Bytes, Of}
use Rattle.osdp_tool_captures.specs.declared.format.Tool.TheVariants.{Osdpcap, Xxd, Stamped}

abbrev pub format_named : List ℕ → Option Format
format_named word =
    if bytes_eq word (codes "--hex") then Some Digits
    else (if bytes_eq word (codes "--raw") then Some Bytes
    else (if bytes_eq word (codes "--osdpcap") then Some (Of Osdpcap)
    else (if bytes_eq word (codes "--xxd") then Some (Of Xxd)
    else (if bytes_eq word (codes "--stamped") then Some (Of Stamped) else None))))

-- the form that is named last, where this one holds before
abbrev pub last_format : Format → Words → Format
last_format format [] = format
last_format format (word ∷ words) = last_format (option_map_or (λ named. named) (format_named word) format) words

-- lines of digits, where no form is named
abbrev pub format_of : Words → Format
format_of words = last_format Digits words

-- a word that begins with no hyphen, or is one alone
abbrev pub is_file : List ℕ → Bool
is_file [] = false
is_file (first ∷ rest) = not (first == 45) || length rest == 0

abbrev pub are_files : Words → Bool
are_files words = list_all is_file words
