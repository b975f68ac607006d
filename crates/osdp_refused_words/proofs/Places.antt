-- The place of the first word that cannot stand where it is, by the words around it.
use Rattle.osdp_refused_words.proofs.Common.{◌≡◌, ℕ, ◌≤◌, List, [], ◌∷◌, ◌++◌, length, refl, sym, ap, subst, ◌∙◌, arith, append-nil, length-append, nil_from_length, GoesOn, Stops}
use Rattle.osdp_refused_words.specs.Laws.{OnePlace, StaysRefused, TellsMissingWords}

first_of : (x y : List ℕ) (xs ys : List (List ℕ)) → x ∷ xs ≡ y ∷ ys → x ≡ y
first_of x y xs ys e = cc e

rest_of : (x y : List ℕ) (xs ys : List (List ℕ)) → x ∷ xs ≡ y ∷ ys → xs ≡ ys
rest_of x y xs ys e = cc e

-- what goes on is no longer than what is stopped
no_longer : (Says : List (List ℕ) → Type 0) (front back other rest : List (List ℕ)) → front ++ back ≡ other ++ rest → Stops Says front back → GoesOn Says other → length other ≤ length front
no_longer Says [] back [] rest e stops goes = omega arith
no_longer Says [] [] (w ∷ other) rest e stops goes = cc e
no_longer Says [] (b ∷ back) (w ∷ other) rest e stops goes =
    absurd (stops (subst (λ (v : List ℕ). GoesOn Says (v ∷ [])) (sym (first_of b w back (other ++ rest) e)) (other ++ goes.0, goes.1)))
no_longer Says (f ∷ front) back [] rest e stops goes = omega arith
no_longer Says (f ∷ front) [] (w ∷ other) rest e stops goes =
    let h = no_longer (λ l. Says (f ∷ l)) front [] other rest (rest_of f w (front ++ []) (other ++ rest) e) tt
    (goes.0, subst (λ (v : List ℕ). Says (v ∷ other ++ goes.0)) (sym (first_of f w (front ++ []) (other ++ rest) e)) goes.1) in omega (arith, h)
no_longer Says (f ∷ front) (b ∷ back) (w ∷ other) rest e stops goes =
    let h = no_longer (λ l. Says (f ∷ l)) front (b ∷ back) other rest (rest_of f w (front ++ b ∷ back) (other ++ rest) e) stops
    (goes.0, subst (λ (v : List ℕ). Says (v ∷ other ++ goes.0)) (sym (first_of f w (front ++ b ∷ back) (other ++ rest) e)) goes.1) in omega (arith, h)

pub one_place : (Says : List (List ℕ) → Type 0) → OnePlace Says
one_place Says given p q h k =
    let up = no_longer Says h.front h.back k.front k.back (sym h.whole ∙ k.whole) h.stops k.goes_on in
    let down = no_longer Says k.front k.back h.front h.back (sym k.whole ∙ h.whole) k.stops h.goes_on in
    omega (arith, up, down, h.place_is, k.place_is)

-- lists that begin with as many words
same_front : (a b c d : List (List ℕ)) → a ++ b ≡ c ++ d → length a ≡ length c → (a ≡ c) × (b ≡ d)
same_front [] b [] d e n = (refl, e)
same_front [] b (w ∷ c) d e n = absurd (omega (arith, n))
same_front (v ∷ a) b [] d e n = absurd (omega (arith, n))
same_front (v ∷ a) b (w ∷ c) d e n =
    let h = same_front a b c d (rest_of v w (a ++ b) (c ++ d) e) (omega (arith, n)) in
    (ap (λ (x : List ℕ). x ∷ a) (first_of v w (a ++ b) (c ++ d) e) ∙ ap (λ (l : List (List ℕ)). w ∷ l) h.0, h.1)

pub stays_refused : (Says : List (List ℕ) → Type 0) → StaysRefused Says
stays_refused Says front rest other word h =
    let same = same_front h.front h.back front (word ∷ rest) (sym h.whole) (sym h.place_is) in
    record {
      front = front;
      back = word ∷ other;
      whole = refl;
      place_is = refl;
      goes_on = subst (GoesOn Says) same.0 h.goes_on;
      stops = subst (λ (l : List (List ℕ)). Stops Says front l) same.1 (subst (λ (l : List (List ℕ)). Stops Says l h.back) same.0 h.stops);
    }

-- nothing is left of words that are as many as those in front
none_left : (given front back : List (List ℕ)) → given ≡ front ++ back → length front ≡ length given → given ≡ front
none_left given front back e n =
    let empty = nil_from_length back (omega (arith, n, ap (λ (l : List (List ℕ)). length l) e, length-append front back)) in
    e ∙ ap (λ (l : List (List ℕ)). front ++ l) empty ∙ append-nil front

more_words : (Says : List (List ℕ) → Type 0) (given : List (List ℕ)) → GoesOn Says given → (Says given → ⊥) → (word : List ℕ) × (rest : List (List ℕ)) × Says (given ++ word ∷ rest)
more_words Says given ([], says) none = absurd (none (subst Says (append-nil given) says))
more_words Says given (word ∷ rest, says) none = (word, rest, says)

pub tells_missing_words : (Says : List (List ℕ) → Type 0) → TellsMissingWords Says
tells_missing_words Says given place h = (
  λ says.
      let long = no_longer Says h.front h.back given [] (sym h.whole ∙ sym (append-nil given)) h.stops ([], subst Says (sym (append-nil given)) says) in
      omega (arith, h.place_is, long, ap (λ (l : List (List ℕ)). length l) h.whole, length-append h.front h.back),
  λ e none. more_words Says given (subst (GoesOn Says) (sym (none_left given h.front h.back h.whole (sym h.place_is ∙ e))) h.goes_on) none,
)
