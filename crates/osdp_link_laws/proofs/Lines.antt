-- Lines: what is on the way, the oldest first.
use Rattle.osdp_link_laws.proofs.Common.{Bool, true, false, cond, zero, suc, All, arith, List, [], ◌∷◌, ◌++◌, inl, inr, ℕ, Packet, lost_at}
use Rattle.osdp_link_laws.proofs.Stages.{Each, Runs}

pub each_append : {A : Type 0} (P : A → Type 0) (xs ys : List A) → Each P xs → Each P ys → Each P (xs ++ ys)
each_append P [] ys left right = right
each_append P (x ∷ xs) ys left right = (left.0, each_append P xs ys left.1 right)

pub each_front : {A : Type 0} (P : A → Type 0) (xs ys : List A) → Each P (xs ++ ys) → Each P xs
each_front P [] ys all = tt
each_front P (x ∷ xs) ys all = (all.0, each_front P xs ys all.1)

pub each_rest : {A : Type 0} (P : A → Type 0) (xs ys : List A) → Each P (xs ++ ys) → Each P ys
each_rest P [] ys all = all
each_rest P (x ∷ xs) ys all = each_rest P xs ys all.1

pub each_map : {A : Type 0} (P Q : A → Type 0) → ((x : A) → P x → Q x) → (xs : List A) → Each P xs → Each Q xs
each_map P Q f [] all = tt
each_map P Q f (x ∷ xs) all = (f x all.0, each_map P Q f xs all.1)

pub each_of : {A : Type 0} (P : A → Type 0) (xs : List A) → All P xs → Each P xs
each_of P [] all = tt
each_of P (x ∷ xs) all = (all 0 x (omega arith), each_of P xs (λ k d lt. all (suc k) d (omega (arith, lt))))

pub each_all : {A : Type 0} (P : A → Type 0) (xs : List A) → Each P xs → All P xs
each_all P [] all k d lt = absurd (omega (arith, lt))
each_all P (x ∷ xs) all zero d lt = all.0
each_all P (x ∷ xs) all (suc k) d lt = each_all P xs all.1 k d (omega (arith, lt))

-- what holds of both kinds holds of the line
pub runs_each : (P Q R : Packet → Type 0) → ((p : Packet) → P p → R p) → ((p : Packet) → Q p → R p) → (ps : List Packet) → Runs P Q ps → Each R ps
runs_each P Q R f g [] runs = tt
runs_each P Q R f g (p ∷ ps) (inl first) = (f p first.0, runs_each P Q R f g ps first.1)
runs_each P Q R f g (p ∷ ps) (inr last) = (g p last.0, each_map Q R g ps last.1)

pub runs_map : (P P′ Q Q′ : Packet → Type 0) → ((p : Packet) → P p → P′ p) → ((p : Packet) → Q p → Q′ p) → (ps : List Packet) → Runs P Q ps → Runs P′ Q′ ps
runs_map P P′ Q Q′ f g [] runs = tt
runs_map P P′ Q Q′ f g (p ∷ ps) (inl first) = inl (f p first.0, runs_map P P′ Q Q′ f g ps first.1)
runs_map P P′ Q Q′ f g (p ∷ ps) (inr last) = inr (g p last.0, each_map Q Q′ g ps last.1)

pub runs_append : (P Q : Packet → Type 0) (ps qs : List Packet) → Runs P Q ps → Each Q qs → Runs P Q (ps ++ qs)
runs_append P Q [] [] runs all = tt
runs_append P Q [] (q ∷ qs) runs all = inr (all.0, all.1)
runs_append P Q (p ∷ ps) qs (inl first) all = inl (first.0, runs_append P Q ps qs first.1 all)
runs_append P Q (p ∷ ps) qs (inr last) all = inr (last.0, each_append Q ps qs last.1 all)

-- some of the first kind alone, and then one of the second
pub runs_first : (P Q : Packet → Type 0) (ps qs : List Packet) → Each P ps → Each Q qs → Runs P Q (ps ++ qs)
runs_first P Q [] [] all then = tt
runs_first P Q [] (q ∷ qs) all then = inr (then.0, then.1)
runs_first P Q (p ∷ ps) qs all then = inl (all.0, runs_first P Q ps qs all.1 then)

-- what holds of both branches holds of the choice
pub both : {A : Type 0} (P : A → Type 0) (b : Bool) (x y : A) → P x → P y → P (cond b x y)
both P true x y first second = first
both P false x y first second = second

-- .. and the choice is what is known of it
pub chosen : {A : Type 0} (Q P : A → Type 0) (b : Bool) (x y : A) → (Q x → P x) → (Q y → P y) → Q (cond b x y) → P (cond b x y)
chosen Q P true x y first second is = first is
chosen Q P false x y first second is = second is

-- without what stands at one place
pub each_lost : {A : Type 0} (P : A → Type 0) (place : ℕ) (xs : List A) → Each P xs → Each P (lost_at place xs)
each_lost P place [] all = tt
each_lost P zero (x ∷ xs) all = all.1
each_lost P (suc place) (x ∷ xs) all = (all.0, each_lost P place xs all.1)

pub runs_lost : (P Q : Packet → Type 0) (place : ℕ) (ps : List Packet) → Runs P Q ps → Runs P Q (lost_at place ps)
runs_lost P Q place [] runs = tt
runs_lost P Q zero (p ∷ ps) (inl first) = first.1
runs_lost P Q zero (p ∷ []) (inr last) = tt
runs_lost P Q zero (p ∷ q ∷ ps) (inr last) = inr last.1
runs_lost P Q (suc place) (p ∷ ps) (inl first) = inl (first.0, runs_lost P Q place ps first.1)
runs_lost P Q (suc place) (p ∷ ps) (inr last) = inr (last.0, each_lost Q place ps last.1)
