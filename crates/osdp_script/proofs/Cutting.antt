-- The first line of bytes, and the lines after it.
use Rattle.osdp_script.proofs.Common.{◌≡◌, ◌≢◌, ℕ, zero, suc, ◌+◌, ◌-◌, ◌<◌, ◌≤◌, List, [], ◌∷◌, ◌++◌, length, get_or, take, drop, inl, sym, ap, ◌∙◌, arith, take-append-drop, drop_more, length-drop, take_all, IsLine, ended_lines, last_line, line_feed, lines_of, unended_line, ended_after-feed, ended_after-line, unended_after-feed, unended_after-line, BeginsWithLine}

-- a beginning without a line feed
is_line : (bytes : List ℕ) (n : ℕ) → n ≤ length bytes → ((k : ℕ) → k < n → get_or bytes k 0 ≢ line_feed) → IsLine (take n bytes)
is_line bytes zero h none = tt
is_line [] (suc n) h none = absurd (omega (arith, h))
is_line (b ∷ bytes) (suc n) h none =
    (none 0 (omega arith), is_line bytes n (omega (arith, h)) (λ k lt. none (suc k) (omega (arith, lt))))

all_line : (bytes : List ℕ) → ((k : ℕ) → k < length bytes → get_or bytes k 0 ≢ line_feed) → IsLine bytes
all_line [] none = tt
all_line (b ∷ bytes) none = (none 0 (omega arith), all_line bytes (λ k lt. none (suc k) (omega (arith, lt))))

-- the bytes before a line feed and after it
around : (bytes : List ℕ) (n : ℕ) → n < length bytes → get_or bytes n 0 ≡ line_feed → bytes ≡ take n bytes ++ line_feed ∷ drop (n + 1) bytes
around bytes n lt feed = sym (take-append-drop n bytes) ∙ ap (λ l. take n bytes ++ l) (drop_more bytes n 0 lt ∙ ap (λ b. b ∷ drop (n + 1) bytes) feed)

-- all that is left after it
left_whole : (bytes : List ℕ) (n : ℕ) → drop (n + 1) bytes ≡ take (length bytes - (n + 1)) (drop (n + 1) bytes)
left_whole bytes n = sym (take_all (length bytes - (n + 1)) (drop (n + 1) bytes) (omega (arith, length-drop (n + 1) bytes)))

-- a line feed ends the first line
pub first_ended : (bytes : List ℕ) (n : ℕ) → n < length bytes → get_or bytes n 0 ≡ line_feed → ((k : ℕ) → k < n → get_or bytes k 0 ≢ line_feed)
    → lines_of bytes ≡ take n bytes ∷ lines_of (drop (n + 1) bytes)
first_ended bytes n lt feed none =
    let line = is_line bytes n (omega (arith, lt)) none in
    let rest = drop (n + 1) bytes in
    let ended = ended_after-feed [] (take n bytes) rest line in
    let unended = unended_after-feed [] (take n bytes) rest in
    ap lines_of (around bytes n lt feed)
    ∙ ap (λ l. l ++ last_line (unended_line (take n bytes ++ line_feed ∷ rest))) ended
    ∙ ap (λ u. (take n bytes ∷ ended_lines rest) ++ last_line u) unended

-- .. as it is cut off
pub first_cut : (bytes : List ℕ) (n : ℕ) → n < length bytes → get_or bytes n 0 ≡ line_feed → ((k : ℕ) → k < n → get_or bytes k 0 ≢ line_feed)
    → lines_of bytes ≡ take n bytes ∷ lines_of (take (length bytes - (n + 1)) (drop (n + 1) bytes))
first_cut bytes n lt feed none =
    first_ended bytes n lt feed none
    ∙ ap (λ rest. take n bytes ∷ lines_of rest) (left_whole bytes n)

pub bytes_cut : (bytes : List ℕ) (n : ℕ) → n < length bytes → get_or bytes n 0 ≡ line_feed
    → BeginsWithLine bytes (take n bytes) (take (length bytes - (n + 1)) (drop (n + 1) bytes))
bytes_cut bytes n lt feed = inl (around bytes n lt feed ∙ ap (λ rest. take n bytes ++ line_feed ∷ rest) (left_whole bytes n))

-- without one, all bytes are one line, which isn't there where they are none
pub last_alone : (bytes : List ℕ) → ((k : ℕ) → k < length bytes → get_or bytes k 0 ≢ line_feed) → lines_of bytes ≡ last_line bytes
last_alone bytes none =
    let line = all_line bytes none in
    ap (λ l. l ++ last_line (unended_line bytes)) (ended_after-line [] bytes line) ∙ ap last_line (unended_after-line [] bytes line)
