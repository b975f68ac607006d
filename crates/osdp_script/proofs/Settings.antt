-- The readers that lines name, one after the other.
use Rattle.std.proofs.Common.{◌≢◌, ◌≤◌, ℕ, List, [], ◌∷◌, ◌++◌, length, inl, inr, sym, subst, arith, length-append}
use Rattle.osdp_script.proofs.Common.{All, All-append, All-cons, All-head, All-nil, All-tail, lines_of, ScriptLine, Reader, IsSetting, LineFits, AreRead, IsFree, IsInPlace, IsRead, Plan, no_plan, with_line, AreApart, AreReaders, HasReaders}

-- what holds of the readers so far, of which there may be none
record Named (readers : List (ℕ × ℕ)) : Type 0 where
  pub most : length readers ≤ 16
  pub each : All (λ (r : ℕ × ℕ). IsSetting r.0 r.1) readers
  pub apart : AreApart readers

one : (P : ℕ × ℕ → Type 0) (r : ℕ × ℕ) → P r → All P (r ∷ [])
one P r h = All-cons P r [] h (All-nil P)

-- one reader more, at an address of its own
apart_more : (readers : List (ℕ × ℕ)) (r : ℕ × ℕ) → AreApart readers → IsFree r.0 readers → AreApart (readers ++ r ∷ [])
apart_more [] r apart free = (All-nil (λ (o : ℕ × ℕ). o.0 ≢ r.0), tt)
apart_more (first ∷ others) r apart free =
    let Other : ℕ × ℕ → Type 0 = λ o. o.0 ≢ first.0 in
    let Free : ℕ × ℕ → Type 0 = λ o. o.0 ≢ r.0 in
    let differs : Other r = λ same. All-head Free first others free (sym same) in
    (All-append Other others (r ∷ []) apart.0 (one Other r differs), apart_more others r apart.1 (All-tail Free first others free))

line_named : (p : Plan) (line : ScriptLine) → LineFits (length p.readers) line → IsInPlace p line → Named p.readers
    → Named (with_line line p).readers
line_named p (Reader address room) fits place named = record {
  most =
      let limit = place.limit in
      let more = length-append p.readers ((address, room) ∷ []) in
      omega arith;
  each =
      let Set : ℕ × ℕ → Type 0 = λ r. IsSetting r.0 r.1 in
      All-append Set p.readers ((address, room) ∷ []) named.each (one Set (address, room) fits);
  apart = apart_more p.readers (address, room) named.apart place.free;
}
line_named p _ fits place named = named

read_named : (p : Plan) (line : List ℕ) (q : Plan) → IsRead p line q → Named p.readers → Named q.readers
read_named p line q (inl (over, is)) named = subst (λ (r : Plan). Named r.readers) (sym is) named
read_named p line q (inr (over, told)) named =
    subst (λ (r : Plan). Named r.readers) (sym told.plan) (line_named p told.line told.says.fits told.says.place named)

all_named : (p : Plan) (lines : List (List ℕ)) (q : Plan) → AreRead p lines q → Named p.readers → Named q.readers
all_named p [] q is named = subst (λ (r : Plan). Named r.readers) (sym is) named
all_named p (line ∷ lines) q (mid, first, rest) named = all_named mid lines q rest (read_named p line mid first named)

none_named : Named []
none_named = record { most = omega arith; each = All-nil (λ (r : ℕ × ℕ). IsSetting r.0 r.1); apart = tt }

pub readers_named : HasReaders
readers_named bytes script (p, means, is) =
    let named = all_named no_plan (lines_of bytes) p means.good none_named in
    subst (λ (l : List (ℕ × ℕ)). AreReaders l) (sym is.readers)
    (record { some = means.some; most = named.most; each = named.each; apart = named.apart })
