-- Texts that stand in a room.
use Rattle.osdp_c_values.proofs.Common.{◌≡◌, ◌≤◌, ◌+◌, ℕ, Bool, true, false, List, [], ◌∷◌, ◌++◌, length, drop, set, nat_lt, if◌then◌else◌, refl, sym, ap, ◌∙◌, arith, zero-add, append_assoc, append-nil, drop_all, drop_more, length_push, set_at, set_past, IsAt}
use Rattle.std.proofs.lemmas.Bool.Decides.{nat_tests}
use Rattle.osdp_c_values.specs.Structs.{filled}
use Rattle.osdp_c_values.specs.declared.status.Status.TheVariants.{Done}
use Rattle.osdp_c_values.specs.Texts.{IsTold, ended_text}

ended_at : (more : Bool) (text room : List ℕ) → nat_lt (length text) (length room) ≡ more → length text ≤ length room
    → set (filled text room) (length text) 0 ≡ filled (if more then text ++ 0 ∷ [] else text) room
ended_at true text room is fits =
    ap (λ l. set (text ++ l) (length text) 0) (drop_more room (length text) 0 (grind (arith, nat_tests, is)))
    ∙ set_at text _ _ 0 (length text) refl
    ∙ sym (append_assoc text (0 ∷ []) (drop (length text + 1) room))
    ∙ ap (λ n. (text ++ 0 ∷ []) ++ drop n room) (sym (length_push text 0))
ended_at false text room is fits =
    let none : drop (length text) room ≡ [] = drop_all (length text) room (grind (arith, nat_tests, is)) in
    let whole : text ++ drop (length text) room ≡ text = ap (λ l. text ++ l) none ∙ append-nil text in
    set_past (filled text room) (length text) 0 (omega (arith, ap length whole))

-- a zero is put after a text that stands there
ended : (text room : List ℕ) → length text ≤ length room → set (filled text room) (length text) 0 ≡ filled (ended_text text room) room
ended text room fits = ended_at (nat_lt (length text) (length room)) text room refl fits

-- the text that was counted stands in the room, and is ended there
text_stands : {end : ℕ} {new : List ℕ} (text room : List ℕ) → length text ≤ length room → IsAt 0 room end new text → set new end 0 ≡ filled (ended_text text room) room
text_stands {end} {new} text room fits a =
    ap (λ l. set l end 0) (a.written (omega (arith, a.place, fits))) ∙ ap (λ n. set (text ++ drop n room) n 0) (a.place ∙ zero-add (length text)) ∙ ended text room fits

-- a text that was counted, put where its length has room, and ended
pub text_told : {length_of end : ℕ} {none new new' : List ℕ} (text room : List ℕ) → IsAt 0 [] length_of none text → length_of ≤ length room → IsAt 0 room end new text
    → new' ≡ set new end 0 → IsTold text Done room new' length_of
text_told {length_of} text room counted fits put ends =
    let count : length_of ≡ length text = counted.place ∙ zero-add (length text) in
    let within : length text ≤ length room = omega (arith, count, fits) in
    (within, ends ∙ text_stands text room within put, count)
