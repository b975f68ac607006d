-- What stands in a line before a character, and after it.
use Rattle.std.specs.Prelude.{ℕ, ◌+◌, ◌==◌, Bool, List, [], drop, take, Option, None, Some, is_some}
use Rattle.std.specs.List.{ends_with, starts_with}
use Rattle.memchr.specs.Find.{is_byte, places, first_of}

-- where a character stands first
abbrev pub place_of : ℕ → List ℕ → Option ℕ
place_of character line = first_of (places (is_byte character) line)

-- all of it, where the character isn't there
abbrev pub front_to : Option ℕ → List ℕ → List ℕ
front_to None line = line
front_to (Some place) line = take place line

abbrev pub before : ℕ → List ℕ → List ℕ
before character line = front_to (place_of character line) line

-- nothing, where the character isn't there
abbrev pub rest_from : Option ℕ → List ℕ → List ℕ
rest_from None line = []
rest_from (Some place) line = drop (place + 1) line

abbrev pub after : ℕ → List ℕ → List ℕ
after character line = rest_from (place_of character line) line

abbrev pub has : ℕ → List ℕ → Bool
has character line = is_some (place_of character line)

abbrev pub begins_so : List ℕ → List ℕ → Bool
begins_so line front = starts_with (λ a b. a == b) line front

abbrev pub ends_so : List ℕ → List ℕ → Bool
ends_so line end = ends_with (λ a b. a == b) line end
