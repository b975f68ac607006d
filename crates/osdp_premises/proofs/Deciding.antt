-- Tests of lists, of what may be there, and of packets.
use Rattle.osdp_premises.proofs.Common.{◌≡◌, ◌≢◌, ◌≤◌, ◌<◌, ◌&&◌, ◌⊎◌, ℕ, zero, suc, not, leb, Bool, true, false, Decides, All, List, [], ◌∷◌, length, Option, Some, None, refl, sym, subst, ap, arith, inl, inr, ⊎_elim, slice_get, cases_eq, cases_lt, false≢true, le-leb, leb-true, Decides-and, Decides-below_and, Decides-by_and, Decides-eqb, Decides-like, Decides-or, Packet, Sum, Crc, Somewhere, site_at, Burst, AreInOrder, AreNotPast, are_in_order, are_not_past, each_below, each_of, each_other, if_there, is_check, is_packet, is_there_with, some_of, some_same}
use Rattle.std.specs.Cmp.{booleans_Decides}
use Rattle.std.proofs.lemmas.Slice.Eq.{bytes_eq-Decides}
use Rattle.osdp_frame.specs.declared.check_kind.CheckKind.{CheckKind}
use Rattle.osdp_frame.proofs.Spelled.{same_packet}

pub always : {P : Type 0} → P → Decides true P
always p = (λ e. p, λ q. refl)

pub never : {P : Type 0} → (P → ⊥) → Decides false P
never none = (λ e. absurd (false≢true e), λ p. absurd (none p))

pub leb_decides : (a b : ℕ) → Decides (leb a b) (a ≤ b)
leb_decides a b = (leb-true a b, le-leb a b)

-- ---- lists, and what may be there

pub some_decides : {A : Type 0} (p : A → Bool) (P : A → Type 0) → ((x : A) → Decides (p x) (P x)) → (xs : List A) → Decides (some_of p xs) (Somewhere P xs)
some_decides p P each [] = never (λ h. h)
some_decides p P each (x ∷ xs) = Decides-or _ _ (each x) (some_decides p P each xs)

pub each_decides : {A : Type 0} (p : A → Bool) (P : A → Type 0) → ((x : A) → Decides (p x) (P x)) → (xs : List A) → Decides (each_of p xs) (All P xs)
each_decides p P each xs = Decides-by_and p P (each_of p) each refl (λ _ _. refl) xs

pub below_decides : (p : ℕ → Bool) (P : ℕ → Type 0) → ((k : ℕ) → Decides (p k) (P k)) → (n : ℕ) → Decides (each_below p n) ((k : ℕ) → k < n → P k)
below_decides p P each n = Decides-below_and p P (each_below p) each refl (λ _. refl) n

pub there_decides : {A : Type 0} (p : A → Bool) (P : A → Type 0) → ((x : A) → Decides (p x) (P x)) → (o : Option A)
    → Decides (is_there_with p o) ((x : A) × (o ≡ Some x) × P x)
there_decides p P each None = never (λ h. absurd (let none = h.1 in cc))
there_decides p P each (Some x) = Decides-like _ (λ h. (x, refl, h)) (λ h. subst P (sym (some_same x h.0 h.1)) h.2) (each x)

pub if_decides : {A : Type 0} (p : A → Bool) (P : A → Type 0) → ((x : A) → Decides (p x) (P x)) → (o : Option A)
    → Decides (if_there p o) ((x : A) → o ≡ Some x → P x)
if_decides p P each None = always (λ x none. absurd (let e = none in cc))
if_decides p P each (Some x) = Decides-like _ (λ h y e. subst P (some_same x y e) h) (λ all. all x refl) (each x)

-- what stands at a place of a list is at a place of it
pub get_below : {A : Type 0} (k : ℕ) (xs : List A) (x : A) → slice_get xs k ≡ Some x → k < length xs
get_below k [] x none = absurd (let e = none in cc)
get_below zero (y ∷ ys) x is = omega arith
get_below (suc k) (y ∷ ys) x is = let below = get_below k ys x is in omega (arith, below)

-- of each number, where it holds past another
pub every_decides : (n : ℕ) (p : ℕ → Bool) (P : ℕ → Type 0) → ((j : ℕ) → Decides (p j) (P j)) → ((j : ℕ) → n ≤ j → P j)
    → Decides (each_below p n) ((j : ℕ) → P j)
every_decides n p P each past =
    Decides-like _ (λ all j. ⊎_elim (λ below. all j below) (λ above. past j above) (cases_lt j n)) (λ all j below. all j)
    (below_decides p P each n)

-- of each number but one, below a number past which there is nothing
pub other_decides : (k n : ℕ) (p : ℕ → Bool) (P : ℕ → Type 0) → ((j : ℕ) → Decides (p j) (P j)) → ((j : ℕ) → n ≤ j → P j)
    → Decides (each_other k n p) ((j : ℕ) → j ≢ k → P j)
other_decides k n p P each past =
    Decides-like _ to from (below_decides _ _ (λ j. Decides-or _ _ (Decides-eqb j k) (each j)) n)
  where
    by : (j : ℕ) → j ≢ k → (j ≡ k) ⊎ P j → P j
    by j other (inl same) = absurd (other same)
    by j other (inr holds) = holds

    to : ((j : ℕ) → j < n → (j ≡ k) ⊎ P j) → (j : ℕ) → j ≢ k → P j
    to all j other = ⊎_elim (λ below. by j other (all j below)) (λ above. past j above) (cases_lt j n)

    from : ((j : ℕ) → j ≢ k → P j) → (j : ℕ) → j < n → (j ≡ k) ⊎ P j
    from all j below = ⊎_elim (λ same. inl same) (λ other. inr (all j other)) (cases_eq j k)

-- ---- packets

check_decides : (a b : CheckKind) → Decides (is_check a b) (a ≡ b)
check_decides Sum Sum = always refl
check_decides Sum Crc = never (λ e. cc)
check_decides Crc Sum = never (λ e. cc)
check_decides Crc Crc = always refl

packet_decides : (p q : Packet) → Decides (is_packet p q) (p ≡ q)
packet_decides p q = Decides-like _ (λ h. same_packet p q h.0 h.1.0 h.1.1.0 h.1.1.1.0 h.1.1.1.1.0 h.1.1.1.1.1.0 h.1.1.1.1.1.1)
    (λ e. (
      ap (λ (x : Packet). x.reply) e,
      (
        ap (λ (x : Packet). x.address) e,
        (
          ap (λ (x : Packet). x.sequence) e,
          (ap (λ (x : Packet). x.check) e, (ap (λ (x : Packet). x.block) e, (ap (λ (x : Packet). x.reserved) e, ap (λ (x : Packet). x.body) e))),
        ),
      ),
    ))
    (Decides-and _ _ (booleans_Decides p.reply q.reply)
    (Decides-and _ _ (Decides-eqb p.address q.address)
    (Decides-and _ _ (Decides-eqb p.sequence q.sequence)
    (Decides-and _ _ (check_decides p.check q.check)
    (Decides-and _ _ (booleans_Decides p.block q.block)
    (Decides-and _ _ (Decides-eqb p.reserved q.reserved) (bytes_eq-Decides p.body q.body)))))))

-- ---- what is read

-- the next packet was said, at this place
here_decides : (Others : Packet → Type 0) (said : List Burst) (p : Packet) (ps : List Packet) (i : ℕ) (places : List ℕ) (before : ℕ) (rest : Bool)
    → Decides rest (AreInOrder Others said ps places i)
    → Decides (is_there_with (λ (b : Burst). is_packet b.packet p) (site_at i said) && (leb before i && rest))
    ((b : Burst) × (site_at i said ≡ Some b) × (b.packet ≡ p) × (before ≤ i) × AreInOrder Others said ps places i)
here_decides Others said p ps i places before rest decides =
    Decides-like _ (λ h. (h.0.0, h.0.1, h.0.2, h.1.0, h.1.1))
    (λ h. ((h.0, h.1, h.2), (h.3, h.4)))
    (Decides-and _ _ (there_decides _ _ (λ b. packet_decides b.packet p) (site_at i said))
    (Decides-and _ _ (leb_decides before i) decides))

pub said_decides : (others : Packet → Bool) (Others : Packet → Type 0) → ((p : Packet) → Decides (others p) (Others p)) → (said : List Burst)
    (ps : List Packet) (places : List ℕ) (before : ℕ) → Decides (are_in_order others said ps places before) (AreInOrder Others said ps places before)
said_decides others Others each said [] [] before = always tt
said_decides others Others each said [] (i ∷ places) before = never (λ h. h)
said_decides others Others each said (p ∷ ps) [] before =
    Decides-and _ _ (each p) (said_decides others Others each said ps [] before)
said_decides others Others each said (p ∷ ps) (i ∷ places) before =
    let rest = are_in_order others said ps places i in
    Decides-or _ _ (here_decides Others said p ps i places before rest (said_decides others Others each said ps places i))
    (Decides-and _ _ (each p) (said_decides others Others each said ps (i ∷ places) before))

not_decides : (b : Bool) → Decides (not b) (b ≡ false)
not_decides true = never (λ e. false≢true (sym e))
not_decides false = always refl

pub past_decides : (is_past : ℕ → Burst → Bool) (said : List Burst) (places : List ℕ) → Decides (are_not_past is_past said places) (AreNotPast is_past said places)
past_decides is_past said places =
    each_decides _ _ (λ i. if_decides _ _ (λ b. not_decides (is_past i b)) (site_at i said)) places
