-- Choices by a test, and options by what they hold.
use Rattle.osdp_controller.proofs.Common.{◌≡◌, Bool, true, false, ◌&&◌, refl, if◌then◌else◌}

-- what holds of each branch where its test came out so holds of the choice
pub either_way : {A : Type 0} (P : A → Type 0) (b : Bool) (x y : A) → (b ≡ true → P x) → (b ≡ false → P y) → P (if b then x else y)
either_way P true x y p q = p refl
either_way P false x y p q = q refl

pub first_true : (a b : Bool) → (a && b) ≡ true → a ≡ true
first_true true b h = refl
first_true false b h = h
