-- What was written where a call stopped before all of its text was.
use Rattle.osdp_tool_show.proofs.Common.{◌≡◌, ℕ, List, [], ◌++◌, take, drop, take-append-drop, string_bytes, Option, Some, None, Result, Ok, Err, OnErr, refl, sym, ap, ◌∙◌, append_assoc, append-nil, Appends, append_known, Appends-nil, Appends-trans, AppendsPart, Report, written_or_held, IsBeginning, StopsWithin}

-- what follows from how a call stopped
pub on_err_map : {T E : Type 0} {A B : Type 0} (r : Result T E) → (A → B) → OnErr r A → OnErr r B
on_err_map (Ok x) f a = tt
on_err_map (Err e) f a = f a

pub on_err : {T E : Type 0} {B : Type 0} (r : Result T E) → B → OnErr r B
on_err (Ok x) b = tt
on_err (Err e) b = b

-- known bytes with more of them
pub known_appends : (known : Option (List ℕ)) (bytes : List ℕ) → Appends known (append_known known bytes) bytes
known_appends None bytes = tt
known_appends (Some x) bytes = refl

-- what was written is a beginning of what was told
pub begun_told : (contents : Option (List ℕ)) (report : Report) → IsBeginning contents (written_or_held contents report)
begun_told None report = tt
begun_told (Some x) report = (string_bytes report.text, refl)

-- .. and all that was told may be written
pub begun_all : (contents : Option (List ℕ)) → IsBeginning contents contents
begun_all None = tt
begun_all (Some x) = ([], sym (append-nil x))

-- a write that stopped
pub begun_write : (old new : Option (List ℕ)) (bytes : List ℕ) → AppendsPart old new bytes → IsBeginning new (append_known old bytes)
begun_write None new bytes p = tt
begun_write (Some x) None bytes p = absurd p.2
begun_write (Some x) (Some y) bytes p = (
  drop p.0 bytes,
  ap (λ l. x ++ l) (sym (take-append-drop p.0 bytes)) ∙ sym (append_assoc x (take p.0 bytes) (drop p.0 bytes)) ∙ ap (λ l. l ++ drop p.0 bytes) (sym p.2),
)

-- what was told is a beginning of a longer text
pub stops_by : (start whole now : Option (List ℕ)) (text all rest : List ℕ) → Appends start whole text → IsBeginning now whole → all ≡ text ++ rest
    → StopsWithin start now all
stops_by None whole now text all rest h b e = tt
stops_by (Some x) None now text all rest h b e = absurd h
stops_by (Some x) (Some w) None text all rest h b e = absurd b
stops_by (Some x) (Some w) (Some n) text all rest h b e = (
  b.0 ++ rest,
  ap (λ l. x ++ l) e ∙ sym (append_assoc x text rest) ∙ ap (λ l. l ++ rest) (sym h ∙ b.1) ∙ append_assoc n b.0 rest,
)

-- a text that is longer, and one that was told before it
pub stops_longer : (start now : Option (List ℕ)) (text all rest : List ℕ) → StopsWithin start now text → all ≡ text ++ rest → StopsWithin start now all
stops_longer start now text all rest h e = stops_by start (append_known start text) now text all rest (known_appends start text) h e

pub stops_after : (start mid now : Option (List ℕ)) (front text all rest : List ℕ) → Appends start mid front → StopsWithin mid now text
    → all ≡ (front ++ text) ++ rest → StopsWithin start now all
stops_after start mid now front text all rest h b e =
    stops_by start (append_known mid text) now (front ++ text) all rest
    (Appends-trans start mid (append_known mid text) front text h (known_appends mid text)) b e

-- nothing was written since
pub stops_at_once : (contents : Option (List ℕ)) (report : Report) (all : List ℕ) → StopsWithin (written_or_held contents report) contents all
stops_at_once contents report all =
    stops_by (written_or_held contents report) (written_or_held contents report) contents [] all all (Appends-nil (written_or_held contents report)) (begun_told contents report) refl

-- a text that was told, and no more
pub stops_all : (start whole now : Option (List ℕ)) (text : List ℕ) → Appends start whole text → IsBeginning now whole → StopsWithin start now text
stops_all start whole now text h b = stops_by start whole now text text [] h b (sym (append-nil text))
