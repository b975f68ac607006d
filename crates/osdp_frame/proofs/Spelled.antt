-- A packet has one spelling, a spelling is of one packet, and none begins another.
use Rattle.osdp_frame.proofs.Common.{◌≡◌, ℕ, ◌+◌, ◌*◌, ◌/◌, ◌%◌, ◌<◌, Bool, true, false, cond, List, ◌++◌, length, take, drop, get_or, refl, sym, ap, subst, ◌∙◌, arith, length-append, take_at, CheckKind, Sum, Crc, check_of, check_size, Packet, packet_length, Spells, spelling, front, address_byte, control_byte, crc_bit}

pub length-check_of : (check : CheckKind) (bytes : List ℕ) → length (check_of check bytes) ≡ check_size check
length-check_of Sum bytes = refl
length-check_of Crc bytes = refl

pub length-front : (p : Packet) (count : ℕ) → length (front p count) ≡ 5 + length p.body
length-front p count = omega arith

pub length-checked : (check : CheckKind) (bytes : List ℕ) → length (bytes ++ check_of check bytes) ≡ length bytes + check_size check
length-checked check bytes = omega (arith, length-append bytes (check_of check bytes), length-check_of check bytes)

-- the count of a spelling is the packet's length
pub length-spelled : (p : Packet) (bytes : List ℕ) → Spells p bytes → length bytes ≡ packet_length p
length-spelled p bytes s =
    let n = length bytes in
    ap length s.whole ∙ (let e : length (front p n ++ check_of p.check (front p n)) ≡ packet_length p = omega (arith, length-checked p.check (front p n), length-front p n) in e)

pub spelled_is : (p : Packet) (bytes : List ℕ) → Spells p bytes → bytes ≡ spelling p
spelled_is p bytes s =
    s.whole ∙ ap (λ n. front p n ++ check_of p.check (front p n)) (length-spelled p bytes s)

-- the fields that a byte holds are known by it
pub same_address : (p q : Packet) → p.address < 128 → q.address < 128 → address_byte p ≡ address_byte q → (p.reply ≡ q.reply) × (p.address ≡ q.address)
same_address p q a b e = by_flags p.reply q.reply e
  where
    by_flags : (r s : Bool) → p.address + cond r 128 0 ≡ q.address + cond s 128 0 → (r ≡ s) × (p.address ≡ q.address)
    by_flags true true h = (refl, omega arith)
    by_flags true false h = absurd (omega arith)
    by_flags false true h = absurd (omega arith)
    by_flags false false h = (refl, omega arith)

pub same_control : (p q : Packet) → p.sequence < 4 → q.sequence < 4 → control_byte p ≡ control_byte q → (p.sequence ≡ q.sequence) × (p.check ≡ q.check) × (p.block ≡ q.block) × (p.reserved ≡ q.reserved)
same_control p q a b e = by_flags p.check q.check p.block q.block e
  where
    by_flags : (c d : CheckKind) (f g : Bool) → p.sequence + crc_bit c + cond f 8 0 + 16 * p.reserved ≡ q.sequence + crc_bit d + cond g 8 0 + 16 * q.reserved → (p.sequence ≡ q.sequence) × (c ≡ d) × (f ≡ g) × (p.reserved ≡ q.reserved)
    by_flags Sum Sum true true h = (omega arith, refl, refl, omega arith)
    by_flags Sum Sum true false h = absurd (omega arith)
    by_flags Sum Sum false true h = absurd (omega arith)
    by_flags Sum Sum false false h = (omega arith, refl, refl, omega arith)
    by_flags Sum Crc true true h = absurd (omega arith)
    by_flags Sum Crc true false h = absurd (omega arith)
    by_flags Sum Crc false true h = absurd (omega arith)
    by_flags Sum Crc false false h = absurd (omega arith)
    by_flags Crc Sum true true h = absurd (omega arith)
    by_flags Crc Sum true false h = absurd (omega arith)
    by_flags Crc Sum false true h = absurd (omega arith)
    by_flags Crc Sum false false h = absurd (omega arith)
    by_flags Crc Crc true true h = (omega arith, refl, refl, omega arith)
    by_flags Crc Crc true false h = absurd (omega arith)
    by_flags Crc Crc false true h = absurd (omega arith)
    by_flags Crc Crc false false h = (omega arith, refl, refl, omega arith)

-- two lists that end in equally many items are the same in front
same_front : (a b c d : List ℕ) → length c ≡ length d → a ++ c ≡ b ++ d → a ≡ b
same_front a b c d e h =
    let n : length a ≡ length b = omega (arith, length-append a c, length-append b d, ap length h) in
    sym (take_at a c (length a) refl) ∙ ap (take (length a)) h ∙ take_at b d (length a) (sym n)

pub same_packet : (p q : Packet) → p.reply ≡ q.reply → p.address ≡ q.address → p.sequence ≡ q.sequence → p.check ≡ q.check → p.block ≡ q.block → p.reserved ≡ q.reserved → p.body ≡ q.body → p ≡ q
same_packet p q a b c d e f g =
    (λ i. record { reply = a i; address = b i; sequence = c i; check = d i; block = e i; reserved = f i; body = g i })

same_body : (p q : Packet) (n m : ℕ) → p.check ≡ q.check → front p n ++ check_of p.check (front p n) ≡ front q m ++ check_of q.check (front q m) → p.body ≡ q.body
same_body p q n m kind e =
    let sizes : length (check_of p.check (front p n)) ≡ length (check_of q.check (front q m)) =
    length-check_of p.check (front p n) ∙ ap check_size kind ∙ sym (length-check_of q.check (front q m)) in
    same_front p.body q.body (check_of p.check (front p n)) (check_of q.check (front q m)) sizes (ap (drop 5) e)

-- one spelling, one packet
pub same_spelled : (p q : Packet) (bytes : List ℕ) → Spells p bytes → Spells q bytes → p ≡ q
same_spelled p q bytes s t =
    let n = length bytes in
    let e : front p n ++ check_of p.check (front p n) ≡ front q n ++ check_of q.check (front q n) = sym s.whole ∙ t.whole in
    let address = same_address p q s.fits.address t.fits.address (ap (λ l. get_or l 1 0) e) in
    let control = same_control p q s.fits.sequence t.fits.sequence (ap (λ l. get_or l 4 0) e) in
    same_packet p q address.0 address.1 control.0 control.1 control.2 control.3 (same_body p q n n control.1 e)

-- the bytes that the count of a spelling speaks of
same_count : (n m : ℕ) → n % 256 ≡ m % 256 → n / 256 ≡ m / 256 → n ≡ m
same_count n m low high = omega arith

pub same_length : (p q : Packet) (a b x y : List ℕ) → Spells p a → Spells q b → a ++ x ≡ b ++ y → length a ≡ length b
same_length p q a b x y s t e =
    let spelled : (front p (length a) ++ check_of p.check (front p (length a))) ++ x ≡ (front q (length b) ++ check_of q.check (front q (length b))) ++ y =
    ap (λ l. l ++ x) (sym s.whole) ∙ e ∙ ap (λ l. l ++ y) t.whole in
    same_count (length a) (length b) (ap (λ l. get_or l 2 0) spelled) (ap (λ l. get_or l 3 0) spelled)

-- no spelling begins another
pub same_beginning : (p q : Packet) (a b x y : List ℕ) → Spells p a → Spells q b → a ++ x ≡ b ++ y → (a ≡ b) × (p ≡ q)
same_beginning p q a b x y s t e =
    let same : a ≡ b = sym (take_at a x (length a) refl) ∙ ap (take (length a)) e ∙ take_at b y (length a) (sym (same_length p q a b x y s t e)) in
    (same, same_spelled p q b (subst (λ l. Spells p l) same s) t)
