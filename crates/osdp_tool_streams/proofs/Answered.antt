-- An answer by what it tells.
use Rattle.std.proofs.Common.{◌≡◌, Result, Ok, Err, IfErr, IsErrAnd, OnOk, sym, subst}

pub on_ok : {T E : Type 0} {A B : Type 0} (r : Result T E) → (A → B) → OnOk r A → OnOk r B
on_ok (Ok x) f a = f a
on_ok (Err e) f a = tt

pub on_each_err : {T E : Type 0} (P : E → Type 0) (r : Result T E) → ((e : E) → P e) → IfErr r P
on_each_err P (Ok x) f = tt
on_each_err P (Err e) f = f e

pub on_err : {T E : Type 0} (Q : Result T E → Type 0) (r : Result T E) (e : E) → IsErrAnd r (λ x. x ≡ e) → Q (Err e) → Q r
on_err Q (Ok x) e is q = absurd is
on_err Q (Err x) e is q = subst (λ y. Q (Err y)) (sym is) q
