-- Pieces that are put one after another.
use Rattle.osdp_c_values.proofs.Common.{◌≡◌, ◌+◌, ◌<◌, ◌≤◌, ℕ, List, [], ◌∷◌, ◌++◌, codes, length, map, take, drop, get_or, refl, sym, ap, subst, ◌∙◌, arith, append_assoc, append-nil, length-append, Result, Ok, Err, IsErr, decimal, flat_map, flat_map-append, Word, bytes, number, printed, IsAt, IsPut, following, two_digits}
use Rattle.std.proofs.lemmas.List.{drop-drop, flat_map_more, length-take-le, take-append-drop, take_all, take_more}
use Rattle.std.proofs.lemmas.List.Folds.{length-flat_map-take}
use Rattle.std.proofs.Math.Seq.{drop-append-add, take-append_seam}
use Rattle.hex.specs.Hex.{encode_upper, encode_with}
use Rattle.osdp_c_values.specs.declared.pieces.NoRoom.{NoRoom}

-- nothing is put
pub nothing_put : (at : ℕ) (old : List ℕ) → IsAt at old at old []
nothing_put at old = record { place = omega arith; room = refl; written = λ _. sym (take-append-drop at old) }

-- a room with two pieces, one after the other, has both as one
two_pieces : (at : ℕ) (old p q : List ℕ) (mid : List ℕ) → at ≤ length old → mid ≡ take at old ++ (p ++ drop (at + length p) old)
    → take (at + length p) mid ++ (q ++ drop (at + length p + length q) mid) ≡ take at old ++ ((p ++ q) ++ drop (at + length p + length q) old)
two_pieces at old p q mid within mid_is =
    let front : List ℕ = take at old ++ p in
    let rest : List ℕ = drop (at + length p) old in
    let long : length front ≡ at + length p = length-append (take at old) p ∙ ap (λ n. n + length p) (length-take-le at old within) in
    let cut : mid ≡ front ++ rest = mid_is ∙ sym (append_assoc (take at old) p rest) in
    let first : take (at + length p) mid ≡ front = ap (λ n. take n mid) (sym long) ∙ ap (λ l. take (length front) l) cut ∙ take-append_seam front rest in
    let last : drop (at + length p + length q) mid ≡ drop (at + length p + length q) old =
    ap (λ n. drop (n + length q) mid) (sym long) ∙ ap (λ l. drop (length front + length q) l) cut ∙ drop-append-add front rest (length q) ∙ drop-drop (length q) (at + length p) old in
    rw (first, last) (simp append_assoc)

-- a piece after one that was put
pub after_first : {at : ℕ} {old : List ℕ} {between : ℕ} {mid : List ℕ} {end : ℕ} {new first second : List ℕ} (whole : List ℕ)
    → IsAt at old between mid first → first ++ second ≡ whole → IsAt between mid end new second → IsAt at old end new whole
after_first {at} {old} {between} {mid} {end} {new} {first} {second} whole a w b =
    let long : length whole ≡ length first + length second = ap length (sym w) ∙ length-append first second in
    let ends : end ≡ at + length first + length second = b.place ∙ ap (λ n. n + length second) a.place in
    record {
      place = omega (arith, ends, long);
      room = b.room ∙ a.room;
      written = λ fits.
          let mid_is : mid ≡ take at old ++ (first ++ drop (at + length first) old) =
          a.written (omega (arith, fits, b.place)) ∙ ap (λ n. take at old ++ (first ++ drop n old)) a.place in
          b.written (omega (arith, fits, a.room)) ∙ ap (λ n. take n mid ++ (second ++ drop end mid)) a.place
          ∙ ap (λ n. take (at + length first) mid ++ (second ++ drop n mid)) ends
          ∙ two_pieces at old first second mid (omega (arith, fits, ends)) mid_is
          ∙ ap (λ n. take at old ++ ((first ++ second) ++ drop n old)) (sym ends)
          ∙ ap (λ l. take at old ++ (l ++ drop end old)) w;
    }

-- a put that fails
pub failed : (most at : ℕ) (old : List ℕ) (result : Result ℕ NoRoom) (new piece : List ℕ) → IsErr result
    → most < at + length piece → IsPut most at old result new piece
failed most at old (Ok end) new piece e full = absurd cc
failed most at old (Err e) new piece _ full = full

-- a piece is put after one that was put
pub put_then : (most : ℕ) {at : ℕ} {old : List ℕ} {between : ℕ} {mid : List ℕ} (result : Result ℕ NoRoom) (new : List ℕ) {first : List ℕ} (second whole : List ℕ)
    → IsAt at old between mid first → first ++ second ≡ whole → IsPut most between mid result new second → IsPut most at old result new whole
put_then most (Ok end) new second whole a w h = after_first whole a w h
put_then most {at} (Err e) new {first} second whole a w h =
    omega (arith, h, a.place, ap length w, length-append first second)

-- the same after two
pub put_after_two : (most : ℕ) {at : ℕ} {old : List ℕ} {second_at : ℕ} {one : List ℕ} {third_at : ℕ} {two : List ℕ} (result : Result ℕ NoRoom) (new : List ℕ) {first second : List ℕ} (third whole : List ℕ)
    → IsAt at old second_at one first → IsAt second_at one third_at two second → first ++ (second ++ third) ≡ whole → IsPut most third_at two result new third
    → IsPut most at old result new whole
put_after_two most result new {first} {second} third whole a b w h = put_then most result new (second ++ third) whole a w (put_then most result new third _ b refl h)

-- one more piece is put after those before
pub next_piece : {X : Type 0} (f : X → List ℕ) {at : ℕ} {old : List ℕ} {between : ℕ} {mid : List ℕ} {end : ℕ} {new : List ℕ} (done : List X) (x : X)
    → IsAt at old between mid (flat_map f done) → IsAt between mid end new (f x) → IsAt at old end new (flat_map f (done ++ x ∷ []))
next_piece f done x a b = after_first _ a (flat_map_more f [] done x) b

-- a piece that has no room: then all of them have none
pub next_without_room : {X : Type 0} (f : X → List ℕ) (most : ℕ) {at : ℕ} {old : List ℕ} {between : ℕ} {mid : List ℕ} (done : List X) (x : X) (rest all : List X) → done ++ (x ∷ rest) ≡ all
    → IsAt at old between mid (flat_map f done) → most < between + length (f x) → most < at + length (flat_map f all)
next_without_room f most done x rest all is a full =
    omega (arith, a.place, full, ap (λ l. length (flat_map f l)) is, ap length (flat_map-append f done (x ∷ rest)), length-append (flat_map f done) (f x ++ flat_map f rest), length-append (f x) (flat_map f rest))

-- the same of a list of which a place is reached
pub piece_more : {X : Type 0} (f : X → List ℕ) {at : ℕ} {old : List ℕ} {between : ℕ} {mid : List ℕ} {end : ℕ} {new : List ℕ} (xs : List X) (i : ℕ) (d : X) → i < length xs
    → IsAt at old between mid (flat_map f (take i xs)) → IsAt between mid end new (f (get_or xs i d)) → IsAt at old end new (flat_map f (take (i + 1) xs))
piece_more f xs i d below a b = rw (take_more xs i d below) (next_piece f (take i xs) (get_or xs i d) a b)

-- a piece that has no room: then all of them have none
pub piece_without_room : {X : Type 0} (f : X → List ℕ) (most : ℕ) {at : ℕ} {old : List ℕ} {between : ℕ} {mid : List ℕ} (xs : List X) (i : ℕ) (d : X) → i < length xs
    → IsAt at old between mid (flat_map f (take i xs)) → most < between + length (f (get_or xs i d)) → most < at + length (flat_map f xs)
piece_without_room f most xs i d below a full = omega (arith, a.place, full, length-flat_map-take f xs i d below)

-- after the last one all pieces are put
pub pieces_done : {X : Type 0} (f : X → List ℕ) {at : ℕ} {old : List ℕ} {end : ℕ} {new : List ℕ} (xs : List X) (i : ℕ) → length xs ≤ i
    → IsAt at old end new (flat_map f (take i xs)) → IsAt at old end new (flat_map f xs)
pieces_done f {at} {old} {end} {new} xs i past a = subst (λ l. IsAt at old end new (flat_map f l)) (take_all i xs past) a

-- words of records, each after a space
pub words_following : {X : Type 0} (word : X → Word) (xs : List X) → following (map word xs) ≡ flat_map (λ x. codes " " ++ printed (word x)) xs
words_following word [] = refl
words_following word (x ∷ xs) = rw (words_following word xs) refl

pub encoded : (bs : List ℕ) → encode_upper bs ≡ flat_map two_digits bs
unfolding encode_with
encoded [] = refl
encoded (b ∷ bs) = rw (encoded bs) refl

-- the bytes of a list that has some
pub listed : (bs : List ℕ) → (length bs ≡ 0 → ⊥) → codes " " ++ flat_map two_digits bs ≡ following (bytes bs ∷ [])
listed [] some = absurd (some refl)
listed (b ∷ bs) some = rw (sym (encoded (b ∷ bs))) (sym (append-nil (codes " " ++ encode_upper (b ∷ bs))))

-- two words, and a word with numbers after it
pub word_then : (first second : Word) → following (first ∷ []) ++ following (second ∷ []) ≡ following (first ∷ second ∷ [])
word_then first second = ap (λ l. l ++ following (second ∷ [])) (append-nil (codes " " ++ printed first)) ∙ append_assoc (codes " ") (printed first) (following (second ∷ []))

pub numbers_then : (word : Word) (ns : List ℕ) → following (word ∷ []) ++ flat_map (λ n. codes " " ++ decimal n) ns ≡ following (word ∷ map number ns)
numbers_then word ns =
    ap (λ l. l ++ flat_map (λ n. codes " " ++ decimal n) ns) (append-nil (codes " " ++ printed word))
    ∙ append_assoc (codes " ") (printed word) (flat_map (λ n. codes " " ++ decimal n) ns)
    ∙ ap (λ l. codes " " ++ (printed word ++ l)) (sym (words_following number ns))
