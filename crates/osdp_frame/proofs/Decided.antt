-- What decides the first item is which item stands first.
use Rattle.osdp_frame.proofs.Common.{◌≡◌, ◌≢◌, ℕ, ◌<◌, ◌≤◌, Bool, true, false, cond, eqb, ltb, List, [], ◌∷◌, ◌++◌, length, drop, get_or, Option, Some, None, replicate, refl, sym, ap, subst, ◌∙◌, append_assoc, arith, inl, inr, ◌⊎◌, cases_lt, ltb-true, ltb-false, false≢true, eqb-true, eqb-false, length-append, append-nil, get_or_append_left, get_or_past, length-replicate, TooShort, TooLong, BadCheck, Ended, AreBytes, check_size, Packet, largest, start_of_message, RunItem, PacketItem, SkippedItem, RefusedItem, Begins, count_at, check_at, smallest, IsChecked, HasFault, IsFirstFault, Stands, IsFirst, IsUndecided}
use Rattle.osdp_frame.specs.declared.fault.FrameFault.{FrameFault}
use Rattle.osdp_frame.specs.Held.{packet_at, is_checked, begun, decided}
use Rattle.osdp_frame.proofs.Spelled.{same_beginning}
use Rattle.osdp_frame.proofs.Head.{Tells-Begins, count_at-append, check_at-append, IsChecked-append, is_checked-Decides, IsHead, Begins-packet_at}

-- ---- one item

abbrev NoneBegins : List ℕ → Type 0
NoneBegins rest = (p : Packet) → Begins p rest → ⊥

one_fault : (rest : List ℕ) (f g : FrameFault) → IsFirstFault f rest → IsFirstFault g rest → f ≡ g
one_fault rest TooShort TooShort a b = refl
one_fault rest TooShort TooLong a b = absurd (b.1 a)
one_fault rest TooShort Ended a b = absurd (b.1 a)
one_fault rest TooShort BadCheck a b = absurd (b.1 a)
one_fault rest TooLong TooShort a b = absurd (a.1 b)
one_fault rest TooLong TooLong a b = refl
one_fault rest TooLong Ended a b = absurd (b.2 a.0)
one_fault rest TooLong BadCheck a b = absurd (b.2 a.0)
one_fault rest Ended TooShort a b = absurd (a.1 b)
one_fault rest Ended TooLong a b = absurd (a.2 b.0)
one_fault rest Ended Ended a b = refl
one_fault rest Ended BadCheck a b = absurd (b.3 a.0)
one_fault rest BadCheck TooShort a b = absurd (a.1 b)
one_fault rest BadCheck TooLong a b = absurd (a.2 b.0)
one_fault rest BadCheck Ended a b = absurd (a.3 b.0)
one_fault rest BadCheck BadCheck a b = refl

not_passed : (rest after : List ℕ) (b : ℕ) → rest ≡ b ∷ after → b ≢ start_of_message → get_or rest 0 0 ≢ start_of_message
not_passed rest after b e other start = other (sym (ap (λ l. get_or l 0 0) e) ∙ start)

started : (rest after : List ℕ) → rest ≡ start_of_message ∷ after → get_or rest 0 0 ≡ start_of_message
started rest after e = ap (λ l. get_or l 0 0) e

-- at most one item stands first
pub one_item : (rest : List ℕ) (a b : RunItem) → Stands rest a → Stands rest b → a ≡ b
one_item rest (PacketItem p) (PacketItem q) s t = ap PacketItem (same_beginning p q s.bytes t.bytes s.after t.after s.spelled t.spelled (sym s.parts ∙ t.parts)).1
one_item rest (PacketItem p) (SkippedItem c) s t = absurd (not_passed rest t.0 c t.1 t.2 (Tells-Begins p rest s).start)
one_item rest (PacketItem p) (RefusedItem f) s t = absurd (t.2 p s)
one_item rest (SkippedItem b) (PacketItem q) s t = absurd (not_passed rest s.0 b s.1 s.2 (Tells-Begins q rest t).start)
one_item rest (SkippedItem b) (SkippedItem c) s t = ap (λ l. SkippedItem (get_or l 0 0)) (sym s.1 ∙ t.1)
one_item rest (SkippedItem b) (RefusedItem f) s t = absurd (not_passed rest s.0 b s.1 s.2 (started rest t.0 t.1))
one_item rest (RefusedItem f) (PacketItem q) s t = absurd (s.2 q t)
one_item rest (RefusedItem f) (SkippedItem c) s t = absurd (not_passed rest t.0 c t.1 t.2 (started rest s.0 s.1))
one_item rest (RefusedItem f) (RefusedItem g) s t = ap RefusedItem (one_fault rest f g s.3 t.3)

-- ---- where a fault holds no packet begins

none_short : (l : List ℕ) → count_at l < smallest (check_at l) → NoneBegins l
none_short l short p b =
    let t = Tells-Begins p l b in
    let size = ap check_size t.check in
    omega (arith, b.spelled.fits.code, t.count)

none_long : (l : List ℕ) → largest < count_at l → NoneBegins l
none_long l long p b =
    let t = Tells-Begins p l b in
    omega (arith, b.spelled.fits.room, t.count)

none_ended : (l : List ℕ) → HasFault Ended l → NoneBegins l
none_ended l ended p b =
    let t = Tells-Begins p l b in
    elim ended [
      | inl few ↦ omega (arith, b.spelled.fits.code, t.long)
      | inr less ↦ omega (arith, t.count, t.long)
    ]

none_unchecked : (l : List ℕ) → (IsChecked l → ⊥) → NoneBegins l
none_unchecked l wrong p b = wrong (Tells-Begins p l b).checked

-- ---- the tests of a byte 0x53, one after the other

some_is : {A : Type 0} (x y : A) → Some x ≡ Some y → x ≡ y
some_is x y e = cc

none_some : {A : Type 0} (x : A) → None ≡ Some x → ⊥
none_some x e = cc

first_byte : (l : List ℕ) → get_or l 0 0 ≡ start_of_message → 0 < length l → l ≡ start_of_message ∷ drop 1 l
first_byte [] s lt = absurd (omega arith)
first_byte (b ∷ l) s lt = ap (λ x. x ∷ l) s

first_byte-append : (l more : List ℕ) → get_or l 0 0 ≡ start_of_message → 0 < length l → l ++ more ≡ start_of_message ∷ (drop 1 l ++ more)
first_byte-append l more s lt = ap (λ x. x ++ more) (first_byte l s lt)

-- an item at a run's end, where the run has ended
at_end : (ended : Bool) (rest : List ℕ) (part : RunItem) → get_or rest 0 0 ≡ start_of_message → 0 < length rest → IsFirstFault Ended rest → cond ended (Some (RefusedItem Ended)) None ≡ Some part → IsFirst ended rest part
at_end true rest part start some fault e = λ more none.
    let nil : more ≡ [] = none refl in
    let whole : rest ++ more ≡ rest = ap (λ l. rest ++ l) nil ∙ append-nil rest in
    subst (λ l. Stands l part) (sym whole) (subst (λ x. Stands rest x) (some_is (RefusedItem Ended) part e) (drop 1 rest, first_byte rest start some, none_ended rest fault.0, fault))
at_end false rest part start some fault e = absurd (none_some part e)

not_ended : (l : List ℕ) → 5 ≤ length l → count_at l ≤ length l → HasFault Ended l → ⊥
not_ended l five there ended = elim ended [
  | inl few ↦ omega arith
  | inr less ↦ omega arith
]

-- the tests, each by its outcome
abbrev Chain : Bool → Bool → Bool → Bool → Bool → Bool → List ℕ → Option RunItem
Chain ended few short long less right rest =
    let ending = cond ended (Some (RefusedItem Ended)) None in
    cond few ending (cond short (Some (RefusedItem TooShort)) (cond long (Some (RefusedItem TooLong)) (cond less ending (cond right (Some (PacketItem (packet_at rest))) (Some (RefusedItem BadCheck))))))

begun_first : (ended few short long less right : Bool) (rest : List ℕ) (part : RunItem) → AreBytes rest → get_or rest 0 0 ≡ start_of_message → 0 < length rest
    → ltb (length rest) 5 ≡ few → ltb (count_at rest) (smallest (check_at rest)) ≡ short → ltb largest (count_at rest) ≡ long → ltb (length rest) (count_at rest) ≡ less → is_checked rest ≡ right
    → Chain ended few short long less right rest ≡ Some part → IsFirst ended rest part
begun_first ended true short long less right rest part bytes start some few-is short-is long-is less-is right-is e =
    let few : length rest < 5 = ltb-true _ _ few-is in
    at_end ended rest part start some (inl few, (λ h. omega (arith, h.0)), (λ h. omega (arith, h.0))) e
begun_first ended false true long less right rest part bytes start some few-is short-is long-is less-is right-is e =
    let five : 5 ≤ length rest = ltb-false _ _ few-is in
    let short : count_at rest < smallest (check_at rest) = ltb-true _ _ short-is in
    subst (λ x. IsFirst ended rest x) (some_is (RefusedItem TooShort) part e) (λ more none.
    let count = count_at-append rest more five in
    let size = ap check_size (check_at-append rest more five) in
    let still : count_at (rest ++ more) < smallest (check_at (rest ++ more)) = omega arith in
    let enough : 5 ≤ length (rest ++ more) = omega (arith, length-append rest more) in
    (drop 1 rest ++ more, first_byte-append rest more start some, none_short (rest ++ more) still, (enough, still)))
begun_first ended false false true less right rest part bytes start some few-is short-is long-is less-is right-is e =
    let five : 5 ≤ length rest = ltb-false _ _ few-is in
    let not_short : smallest (check_at rest) ≤ count_at rest = ltb-false _ _ short-is in
    let long : largest < count_at rest = ltb-true _ _ long-is in
    subst (λ x. IsFirst ended rest x) (some_is (RefusedItem TooLong) part e) (λ more none.
    let count = count_at-append rest more five in
    let size = ap check_size (check_at-append rest more five) in
    let still : largest < count_at (rest ++ more) = omega arith in
    let enough : 5 ≤ length (rest ++ more) = omega (arith, length-append rest more) in
    (drop 1 rest ++ more, first_byte-append rest more start some, none_long (rest ++ more) still, ((enough, still), (λ h. omega (arith, h.1)))))
begun_first ended false false false true right rest part bytes start some few-is short-is long-is less-is right-is e =
    let not_short : smallest (check_at rest) ≤ count_at rest = ltb-false _ _ short-is in
    let not_long : count_at rest ≤ largest = ltb-false _ _ long-is in
    let less : length rest < count_at rest = ltb-true _ _ less-is in
    at_end ended rest part start some (inr less, (λ h. omega (arith, h.1)), (λ h. omega (arith, h.1))) e
begun_first ended false false false false true rest part bytes start some few-is short-is long-is less-is right-is e =
    let head : IsHead rest = record {
      bytes = bytes;
      start = start;
      five = ltb-false _ _ few-is;
      not_short = ltb-false _ _ short-is;
      not_long = ltb-false _ _ long-is;
      there = ltb-false _ _ less-is;
    } in
    let checked : IsChecked rest = (is_checked-Decides rest head.there).0 right-is in
    subst (λ x. IsFirst ended rest x) (some_is (PacketItem (packet_at rest)) part e) (λ more none. Begins-packet_at rest more head checked)
begun_first ended false false false false false rest part bytes start some few-is short-is long-is less-is right-is e =
    let five : 5 ≤ length rest = ltb-false _ _ few-is in
    let not_short : smallest (check_at rest) ≤ count_at rest = ltb-false _ _ short-is in
    let not_long : count_at rest ≤ largest = ltb-false _ _ long-is in
    let there : count_at rest ≤ length rest = ltb-false _ _ less-is in
    let wrong : IsChecked rest → ⊥ = λ h. false≢true (sym right-is ∙ (is_checked-Decides rest there).1 h) in
    subst (λ x. IsFirst ended rest x) (some_is (RefusedItem BadCheck) part e) (λ more none.
    let count = count_at-append rest more five in
    let size = ap check_size (check_at-append rest more five) in
    let enough : 5 ≤ length (rest ++ more) = omega (arith, length-append rest more) in
    let whole : count_at (rest ++ more) ≤ length (rest ++ more) = omega (arith, length-append rest more) in
    let still : IsChecked (rest ++ more) → ⊥ = λ h. wrong (IsChecked-append rest more five there h) in (
      drop 1 rest ++ more,
      first_byte-append rest more start some,
      none_unchecked (rest ++ more) still,
      ((enough, whole, still), (λ h. omega (arith, h.1)), (λ h. omega (arith, h.1)), not_ended (rest ++ more) enough whole),
    ))

-- what is decided stands first
pub first_decided : (ended : Bool) (bytes : List ℕ) (part : RunItem) → AreBytes bytes → decided ended bytes ≡ Some part → IsFirst ended bytes part
unfolding decided
first_decided ended [] part fits e = absurd (none_some part e)
first_decided ended (b ∷ bytes) part fits e = by_test (eqb b start_of_message) refl e
  where
    by_test : (t : Bool) → eqb b start_of_message ≡ t → cond t (begun ended (b ∷ bytes)) (Some (SkippedItem b)) ≡ Some part → IsFirst ended (b ∷ bytes) part
    by_test true is h = begun_first ended _ _ _ _ _ (b ∷ bytes) part fits (eqb-true _ _ is) (omega arith) refl refl refl refl refl h
    by_test false is h = subst (λ x. IsFirst ended (b ∷ bytes) x) (some_is (SkippedItem b) part h) (λ more none. (bytes ++ more, refl, eqb-false _ _ is))

-- ---- where nothing is decided

undecided_begun : (ended few short long less right : Bool) (rest : List ℕ) → get_or rest 0 0 ≡ start_of_message
    → ltb (length rest) 5 ≡ few → ltb (count_at rest) (smallest (check_at rest)) ≡ short → ltb largest (count_at rest) ≡ long → ltb (length rest) (count_at rest) ≡ less
    → Chain ended few short long less right rest ≡ None → IsUndecided ended rest
undecided_begun true true short long less right rest start few-is short-is long-is less-is e = absurd cc
undecided_begun false true short long less right rest start few-is short-is long-is less-is e = inr (refl, start, inl (ltb-true _ _ few-is))
undecided_begun ended false true long less right rest start few-is short-is long-is less-is e = absurd cc
undecided_begun ended false false true less right rest start few-is short-is long-is less-is e = absurd cc
undecided_begun true false false false true right rest start few-is short-is long-is less-is e = absurd cc
undecided_begun false false false false true right rest start few-is short-is long-is less-is e =
    inr (refl, start, inr (ltb-false _ _ short-is, ltb-false _ _ long-is, ltb-true _ _ less-is))
undecided_begun ended false false false false true rest start few-is short-is long-is less-is e = absurd cc
undecided_begun ended false false false false false rest start few-is short-is long-is less-is e = absurd cc

pub undecided_none : (ended : Bool) (bytes : List ℕ) → decided ended bytes ≡ None → IsUndecided ended bytes
unfolding decided
undecided_none ended [] e = inl refl
undecided_none ended (b ∷ bytes) e = by_test (eqb b start_of_message) refl e
  where
    by_test : (t : Bool) → eqb b start_of_message ≡ t → cond t (begun ended (b ∷ bytes)) (Some (SkippedItem b)) ≡ None → IsUndecided ended (b ∷ bytes)
    by_test true is h = undecided_begun ended _ _ _ _ _ (b ∷ bytes) (eqb-true _ _ is) refl refl refl refl h
    by_test false is h = absurd cc

nothing_stands : (part : RunItem) → Stands [] part → ⊥
nothing_stands (PacketItem p) s = omega (arith, (Tells-Begins p [] s).long)
nothing_stands (SkippedItem b) s = let e = s.1 in absurd cc
nothing_stands (RefusedItem f) s = let e = s.1 in absurd cc

abbrev pub WantsMore : List ℕ → Type 0
WantsMore bytes =
    (length bytes < 5) ⊎ ((smallest (check_at bytes) ≤ count_at bytes) × (count_at bytes ≤ largest) × (length bytes < count_at bytes))

-- of bytes that want more, only the end of the run could stand first
only_ended : (bytes : List ℕ) (part : RunItem) → get_or bytes 0 0 ≡ start_of_message → WantsMore bytes → Stands bytes part → part ≡ RefusedItem Ended
only_ended bytes (PacketItem p) start wants s =
    let t = Tells-Begins p bytes s in
    absurd (elim wants [
      | inl few ↦ omega (arith, s.spelled.fits.code, t.long)
      | inr less ↦ omega (arith, t.count, t.long, less.2)
    ])
only_ended bytes (SkippedItem b) start wants s = absurd (not_passed bytes s.0 b s.1 s.2 start)
only_ended bytes (RefusedItem TooShort) start wants s = absurd (elim wants [
  | inl few ↦ omega (arith, s.3.0)
  | inr less ↦ omega (arith, s.3.1, less.0)
])
only_ended bytes (RefusedItem TooLong) start wants s = absurd (elim wants [
  | inl few ↦ omega (arith, s.3.0.0)
  | inr less ↦ omega (arith, s.3.0.1, less.1)
])
only_ended bytes (RefusedItem Ended) start wants s = refl
only_ended bytes (RefusedItem BadCheck) start wants s = absurd (elim wants [
  | inl few ↦ omega (arith, s.3.0.0)
  | inr less ↦ omega (arith, s.3.0.1, less.2)
])

-- five bytes, and as many as the count then says
enough_more : List ℕ → List ℕ
enough_more bytes = (0 ∷ 0 ∷ 0 ∷ 0 ∷ 0 ∷ []) ++ replicate (count_at (bytes ++ (0 ∷ 0 ∷ 0 ∷ 0 ∷ 0 ∷ []))) 0

not_ended_more : (bytes : List ℕ) → HasFault Ended (bytes ++ enough_more bytes) → ⊥
unfolding enough_more
not_ended_more bytes ended =
    let pad : List ℕ = 0 ∷ 0 ∷ 0 ∷ 0 ∷ 0 ∷ [] in
    let n = count_at (bytes ++ pad) in
    let five : 5 ≤ length (bytes ++ pad) = omega (arith, length-append bytes pad) in
    let same : bytes ++ enough_more bytes ≡ (bytes ++ pad) ++ replicate n 0 = sym (append_assoc bytes pad (replicate n 0)) in
    let there : HasFault Ended ((bytes ++ pad) ++ replicate n 0) → ⊥ = λ h.
    let size = length-append (bytes ++ pad) (replicate n 0) in
    let count = count_at-append (bytes ++ pad) (replicate n 0) five in
    not_ended ((bytes ++ pad) ++ replicate n 0) (omega arith) (omega (arith, length-replicate {A = ℕ} n 0)) h in
    there (subst (λ l. HasFault Ended l) same ended)

-- where more is wanted no item is first
pub undecided_first : (ended : Bool) (bytes : List ℕ) (part : RunItem) → IsUndecided ended bytes → IsFirst ended bytes part → ⊥
undecided_first ended bytes part wants first =
    let stands : Stands bytes part = subst (λ l. Stands l part) (append-nil bytes) (first [] (λ _. refl)) in
    elim wants [
      | inl nil ↦ nothing_stands part (subst (λ l. Stands l part) nil stands)
      | inr w ↦
          let is : part ≡ RefusedItem Ended = only_ended bytes part w.1 w.2 stands in
          let later : Stands (bytes ++ enough_more bytes) part = first (enough_more bytes) (λ t. absurd (false≢true (sym w.0 ∙ t))) in
          not_ended_more bytes (subst (λ x. Stands (bytes ++ enough_more bytes) x) is later).3.0
    ]

pub stands_first : (ended : Bool) (bytes : List ℕ) (part : RunItem) → IsFirst ended bytes part → Stands bytes part
stands_first ended bytes part first = subst (λ l. Stands l part) (append-nil bytes) (first [] (λ _. refl))

-- what stands first is decided
pub decided_first : (ended : Bool) (bytes : List ℕ) (part : RunItem) → AreBytes bytes → IsFirst ended bytes part → decided ended bytes ≡ Some part
decided_first ended bytes part fits first = by_answer (decided ended bytes) refl
  where
    by_answer : (o : Option RunItem) → decided ended bytes ≡ o → o ≡ Some part
    by_answer None is = absurd (undecided_first ended bytes part (undecided_none ended bytes is) first)
    by_answer (Some other) is =
        ap Some (one_item bytes other part (stands_first ended bytes other (first_decided ended bytes other fits is)) (stands_first ended bytes part first))

pub none_undecided : (ended : Bool) (bytes : List ℕ) → AreBytes bytes → IsUndecided ended bytes → decided ended bytes ≡ None
none_undecided ended bytes fits wants = by_answer (decided ended bytes) refl
  where
    by_answer : (o : Option RunItem) → decided ended bytes ≡ o → o ≡ None
    by_answer None is = refl
    by_answer (Some other) is = absurd (undecided_first ended bytes other wants (first_decided ended bytes other fits is))

-- ---- in a run that has ended, and with more after

pub undecided_ended : (bytes : List ℕ) → IsUndecided true bytes → bytes ≡ []
undecided_ended bytes u = elim u [
  | inl nil ↦ nil
  | inr w ↦ absurd (false≢true (sym w.0))
]

pub AreBytes-front : (bytes more : List ℕ) → AreBytes (bytes ++ more) → AreBytes bytes
AreBytes-front bytes more fits place =
    elim (cases_lt place (length bytes)) [
      | inl lt ↦ subst (λ (b : ℕ). b < 256) (get_or_append_left bytes more 0 place lt) (fits place)
      | inr le ↦ subst (λ (b : ℕ). b < 256) (sym (get_or_past bytes place 0 le)) (omega arith)
    ]

-- what is first whatever comes is first with more after it
pub first_more : (ended : Bool) (bytes more : List ℕ) (part : RunItem) → IsFirst false bytes part → IsFirst ended (bytes ++ more) part
first_more ended bytes more part first = λ later none.
    subst (λ l. Stands l part) (sym (append_assoc bytes more later)) (first (more ++ later) (λ t. absurd (false≢true t)))

pub decided_more : (ended : Bool) (bytes more : List ℕ) (part : RunItem) → AreBytes (bytes ++ more) → decided false bytes ≡ Some part → decided ended (bytes ++ more) ≡ Some part
decided_more ended bytes more part fits is =
    decided_first ended (bytes ++ more) part fits (first_more ended bytes more part (first_decided false bytes part (AreBytes-front bytes more fits) is))
