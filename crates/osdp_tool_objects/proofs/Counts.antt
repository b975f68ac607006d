-- Members, one after the other.
use Rattle.osdp_tool_objects.proofs.Common.{◌≡◌, ℕ, ◌+◌, ◌<◌, ◌≤◌, List, [], ◌∷◌, ◌++◌, Bor, length, get_or, drop, refl, sym, ap, ◌∙◌, append_assoc, append-nil, drop_all, drop_more, texts}
use Rattle.osdp_tool_objects.specs.Members.{columns, counts, member}

columns_cons : (name number : List ℕ) (names numbers : List (List ℕ)) → columns (name ∷ names) (number ∷ numbers) ≡ member name number ++ columns names numbers
unfolding columns
columns_cons name number names numbers = refl

columns_short : (names : List (List ℕ)) → columns names [] ≡ []
unfolding columns
columns_short [] = refl
columns_short (name ∷ names) = refl

columns_done : (numbers : List (List ℕ)) → columns [] numbers ≡ []
unfolding columns
columns_done numbers = refl

pub column_step : (before after all : List ℕ) (names : List (Bor (List ℕ))) (k : ℕ) (name : Bor (List ℕ)) (number n v : List ℕ) (old new : List (List ℕ)) → k < length names
    → old ≡ number ∷ new → n ≡ (get_or names k name).now → v ≡ number → after ≡ before ++ member n v → before ++ columns (texts (drop k names)) old ≡ all
    → after ++ columns (texts (drop (k + 1) names)) new ≡ all
column_step before after all names k name number n v old new within is name_is number_is wrote so_far =
    let rest = texts (drop (k + 1) names) in
    let one = member (get_or names k name).now number in
    ap (λ t. t ++ columns rest new) (wrote ∙ ap (λ m. before ++ member m v) name_is ∙ ap (λ m. before ++ member (get_or names k name).now m) number_is) ∙ append_assoc before one (columns rest new)
    ∙ ap (λ t. before ++ t) (sym (ap (λ l. columns (texts l) old) (drop_more names k name within) ∙ ap (columns ((get_or names k name).now ∷ rest)) is ∙ columns_cons (get_or names k name).now number rest new))
    ∙ so_far

pub columns_stop : (before all : List ℕ) (names old : List (List ℕ)) → old ≡ [] → before ++ columns names old ≡ all → before ≡ all
columns_stop before all names old none so_far =
    sym (append-nil before) ∙ ap (λ t. before ++ t) (sym (ap (columns names) none ∙ columns_short names)) ∙ so_far

pub columns_end : (before all : List ℕ) (names : List (Bor (List ℕ))) (k : ℕ) (numbers : List (List ℕ)) → length names ≤ k
    → before ++ columns (texts (drop k names)) numbers ≡ all → before ≡ all
columns_end before all names k numbers past so_far =
    sym (append-nil before) ∙ ap (λ t. before ++ t) (sym (ap (λ l. columns (texts l) numbers) (drop_all k names past) ∙ columns_done numbers)) ∙ so_far

counts_cons : (name number : List ℕ) (words : List (List ℕ)) → counts (name ∷ number ∷ words) ≡ member name number ++ counts words
unfolding counts
counts_cons name number words = refl

counts_one : (name : List ℕ) → counts (name ∷ []) ≡ []
unfolding counts
counts_one name = refl

counts_none : counts [] ≡ []
unfolding counts
counts_none = refl

pub count_step : (before after all name number n v : List ℕ) (old mid new : List (List ℕ)) → old ≡ name ∷ mid → mid ≡ number ∷ new
    → n ≡ name → v ≡ number → after ≡ before ++ member n v → before ++ counts old ≡ all → after ++ counts new ≡ all
count_step before after all name number n v old mid new first second name_is number_is wrote so_far =
    ap (λ t. t ++ counts new) (wrote ∙ ap (λ m. before ++ member m v) name_is ∙ ap (λ m. before ++ member name m) number_is) ∙ append_assoc before (member name number) (counts new)
    ∙ ap (λ t. before ++ t) (sym (ap counts (first ∙ ap (λ l. name ∷ l) second) ∙ counts_cons name number new)) ∙ so_far

pub counts_stop : (before all name : List ℕ) (old mid : List (List ℕ)) → old ≡ name ∷ mid → mid ≡ [] → before ++ counts old ≡ all → before ≡ all
counts_stop before all name old mid first none so_far =
    sym (append-nil before) ∙ ap (λ t. before ++ t) (sym (ap counts (first ∙ ap (λ l. name ∷ l) none) ∙ counts_one name)) ∙ so_far

pub counts_end : (before all : List ℕ) (old : List (List ℕ)) → old ≡ [] → before ++ counts old ≡ all → before ≡ all
counts_end before all old none so_far = sym (append-nil before) ∙ ap (λ t. before ++ t) (sym (ap counts none ∙ counts_none)) ∙ so_far
