-- What is told of a list one by one: of two lists, one after the other.
use Rattle.std.proofs.Common.{◌≡◌, ℕ, List, [], ◌∷◌, ◌++◌, append_assoc, ap, sym, ◌∙◌}

-- `after` goes on by each of a list in turn
pub record GoesOneByOne {S X : Type 0} (step : S → X → S) (after : S → List X → S) : Type 0 where
  pub none : (s : S) → after s [] ≡ s
  pub more : (s : S) (x : X) (xs : List X) → after s (x ∷ xs) ≡ after (step s x) xs

-- `text` is the line of each in turn
pub record TellsOneByOne {S X : Type 0} (step : S → X → S) (line : S → X → List ℕ) (text : S → List X → List ℕ) : Type 0 where
  pub none : (s : S) → text s [] ≡ []
  pub more : (s : S) (x : X) (xs : List X) → text s (x ∷ xs) ≡ line s x ++ text (step s x) xs

pub goes-append : {S X : Type 0} (step : S → X → S) (after : S → List X → S) → GoesOneByOne step after
    → (s : S) (xs ys : List X) → after s (xs ++ ys) ≡ after (after s xs) ys
goes-append step after goes s [] ys = ap (λ t. after t ys) (sym (goes.none s))
goes-append step after goes s (x ∷ xs) ys =
    goes.more s x (xs ++ ys) ∙ goes-append step after goes (step s x) xs ys ∙ ap (λ t. after t ys) (sym (goes.more s x xs))

pub tells-append : {S X : Type 0} (step : S → X → S) (after : S → List X → S) (line : S → X → List ℕ) (text : S → List X → List ℕ)
    → GoesOneByOne step after → TellsOneByOne step line text → (s : S) (xs ys : List X) → text s (xs ++ ys) ≡ text s xs ++ text (after s xs) ys
tells-append step after line text goes tells s [] ys =
    ap (λ t. text t ys) (sym (goes.none s)) ∙ ap (λ l. l ++ text (after s []) ys) (sym (tells.none s))
tells-append step after line text goes tells s (x ∷ xs) ys =
    let next = step s x in
    tells.more s x (xs ++ ys) ∙ ap (λ l. line s x ++ l) (tells-append step after line text goes tells next xs ys)
    ∙ sym (append_assoc (line s x) (text next xs) (text (after next xs) ys))
    ∙ ap (λ l. l ++ text (after next xs) ys) (sym (tells.more s x xs))
    ∙ ap (λ t. text s (x ∷ xs) ++ text t ys) (sym (goes.more s x xs))
