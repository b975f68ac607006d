-- Answers that are written in turn.
use Rattle.osdp_line_calls.proofs.Common.{◌≡◌, ℕ, ◌+◌, ◌-◌, ◌<◌, ◌≤◌, Bool, true, false, cond, max, min, List, [], ◌∷◌, ◌++◌, length, length-drop, take, drop, Option, refl, sym, subst, ap, ◌∙◌, arith, append_assoc, append-nil, drop_all, take_all, Held, ReaderState, AgesState, after_saying, Heard, hears_bytes, reads_all, turns_left, Said, status_after, status_answer, TellsInTurn, Told, next_told, DeviceStatus, all_read, fewer_turns, last_turn, seen_in_turn, takes_in_turn, received_take, IsHeard, ages_heard, is_any, all_lines, said_lines}
use Rattle.std.proofs.Math.Seq.{drop-drop}
use Rattle.osdp_frame.proofs.Head.{AreBytes-drop}
use Rattle.osdp_frame.specs.Bytes.{AreBytes}
use Rattle.osdp_frame.specs.Receiving.{IsAllRead, IsReceived, Received, after_take, count_taken, ends_run, ends_silent, is_silent, seen}
use Rattle.osdp_device.proofs.Moments.{moments_are_seen}
use Rattle.osdp_device.proofs.Turning.{tells_in_turn}

abbrev State : Type 0
State = ReaderState DeviceStatus

-- one answer after the other
pub all_lines-append : (xs ys : List Said) → all_lines (xs ++ ys) ≡ all_lines xs ++ all_lines ys
all_lines-append [] ys = refl
all_lines-append (x ∷ xs) ys =
    ap (λ l. said_lines x ++ l) (all_lines-append xs ys) ∙ sym (append_assoc (said_lines x) (all_lines xs) (all_lines ys))

-- what a call of the device tells
pub turned : (r : State) (held : Held) (said : Option Said) (q : State) (next : Held)
    → said ≡ (next_told status_answer status_after r held).said → q ≡ (next_told status_answer status_after r held).reader
    → next ≡ (next_told status_answer status_after r held).held
    → TellsInTurn status_answer status_after r held (record { said = said; reader = q; held = next })
turned r held said q next a b c =
    let same : ◌≡◌ {A = Told DeviceStatus} (record { said = said; reader = q; held = next }) (next_told status_answer status_after r held) =
    (λ i. record { said = a i; reader = b i; held = c i }) in
    subst (λ t. TellsInTurn status_answer status_after r held t) (sym same) (tells_in_turn status_answer status_after r held)

-- the answer was written
pub written : (text next start : List ℕ) (s : Said) (others all : List Said) → next ≡ text ++ said_lines s → all ≡ s ∷ others
    → text ++ all_lines all ≡ start → next ++ all_lines others ≡ start
written text next start s others all writes are so_far =
    ap (λ t. t ++ all_lines others) writes ∙ append_assoc text (said_lines s) (all_lines others)
    ∙ ap (λ l. text ++ all_lines l) (sym are) ∙ so_far

-- nothing of a line changes but what is held
pub line_on : (first l m : Received) (held : Held) → ◌≡◌ {A = Received} l (record first { held = l.held }) → ◌≡◌ {A = Received} m (record l { held = held })
    → ◌≡◌ {A = Received} m (record first { held = m.held })
line_on first l m held so_far next =
    next ∙ ap (λ (x : Received). record x { held = held }) so_far ∙ ap (λ (h : Held). record first { held = h }) (sym (ap (λ (x : Received). x.held) next))

-- ---- when a packet came last

said_again : (more : Bool) (g : ℕ) (a : AgesState) → after_saying more g (after_saying true g a) ≡ after_saying true g a
said_again true g a = refl
said_again false g a = refl

-- something is said, and then more
said_both : (xs ys : List Said) (g : ℕ) (a : AgesState) → after_saying (is_any ys) g (after_saying (is_any xs) g a) ≡ after_saying (is_any (xs ++ ys)) g a
said_both [] ys g a = refl
said_both (x ∷ xs) ys g a = said_again (is_any ys) g a

pub ages_on : (all others : List Said) (s : Said) (g h : ℕ) (a next start : AgesState) → all ≡ s ∷ others → next ≡ after_saying true h a → h ≡ g
    → after_saying (is_any all) g a ≡ start → after_saying (is_any others) g next ≡ start
ages_on all others s g h a next start are says same so_far =
    ap (after_saying (is_any others) g) (says ∙ ap (λ x. after_saying true x a) same)
    ∙ said_again (is_any others) g a ∙ sym (ap (λ l. after_saying (is_any l) g a) are) ∙ so_far

take_greatest : (bytes : List ℕ) (now : ℕ) (l : Received) → (after_take bytes now l).greatest ≡ max l.greatest now
take_greatest [] now l = refl
take_greatest (byte ∷ bytes) now l = by_test (is_silent (seen now l))
  where
    by_test : (t : Bool) → (cond t (ends_run (seen now l)) (seen now l)).greatest ≡ max l.greatest now
    by_test true = refl
    by_test false = refl

-- bytes that are taken bring the line to the same moment as all of them
taken_when : (bytes : List ℕ) (now : ℕ) (r : State) (l : Received)
    → (after_take bytes now l).greatest ≡ (hears_bytes status_answer status_after bytes now r l).line.greatest
taken_when bytes now r l = take_greatest bytes now l ∙ sym ((moments_are_seen status_answer status_after r l).bytes bytes now)

-- ---- turns of taking and writing

-- the device is on the way to where the bytes bring it
pub record IsOnTheWay (start : List ℕ) (all : Heard DeviceStatus) (first : AgesState) (now : ℕ) (written_so_far : List ℕ) (rest : List ℕ) (r : State)
    (l : Received) (ages : AgesState) : Type 0 where
  pub read : IsAllRead l
  pub text : written_so_far ++ all_lines (hears_bytes status_answer status_after rest now r l).said ≡ start ++ all_lines all.said
  pub reader : (hears_bytes status_answer status_after rest now r l).reader ≡ all.reader
  pub line : (hears_bytes status_answer status_after rest now r l).line ≡ all.line
  pub when : ages_heard (hears_bytes status_answer status_after rest now r l) ages ≡ ages_heard all first

-- after a turn it still is
turn_on : (start : List ℕ) (all : Heard DeviceStatus) (first : AgesState) (now : ℕ) (text next : List ℕ) (rest left : List ℕ) (r q : State)
    (l taken m : Received) (a b : AgesState)
    → IsReceived l → AreBytes rest → IsOnTheWay start all first now text rest r l a
    → taken ≡ after_take rest now l → left ≡ drop (count_taken rest now l) rest
    → next ≡ text ++ all_lines (reads_all status_answer status_after r taken).said
    → q ≡ (reads_all status_answer status_after r taken).reader → m ≡ (reads_all status_answer status_after r taken).line
    → b ≡ after_saying (is_any (reads_all status_answer status_after r taken).said) taken.greatest a
    → IsReceived taken
    → IsOnTheWay start all first now next left q m b
turn_on start all first now text next rest left r q l taken m a b is fits on takes lefts writes reader line when received =
    let h : Heard DeviceStatus = reads_all status_answer status_after r (after_take rest now l) in
    let same : reads_all status_answer status_after r taken ≡ h = ap (reads_all status_answer status_after r) takes in
    let q_is : q ≡ h.reader = reader ∙ ap (λ (x : Heard DeviceStatus). x.reader) same in
    let m_is : m ≡ h.line = line ∙ ap (λ (x : Heard DeviceStatus). x.line) same in
    let further : Heard DeviceStatus = hears_bytes status_answer status_after left now q m in
    let there : further ≡ hears_bytes status_answer status_after (drop (count_taken rest now l) rest) now h.reader h.line =
    (λ i. hears_bytes status_answer status_after (lefts i) now (q_is i) (m_is i)) in
    let whole = takes_in_turn status_answer status_after rest now r l is on.read fits in
    let said : h.said ++ further.said ≡ (hears_bytes status_answer status_after rest now r l).said =
    ap (λ (x : Heard DeviceStatus). h.said ++ x.said) there ∙ ap (λ (x : Heard DeviceStatus). x.said) whole in
    let there_when : further.line.greatest ≡ (hears_bytes status_answer status_after rest now r l).line.greatest =
    ap (λ (x : Heard DeviceStatus). x.line.greatest) there ∙ ap (λ (x : Heard DeviceStatus). x.line.greatest) whole in
    let last : ℕ = (hears_bytes status_answer status_after rest now r l).line.greatest in
    let b_is : b ≡ after_saying (is_any h.said) last a =
    when ∙ ap (λ (t : Received). after_saying (is_any (reads_all status_answer status_after r t).said) t.greatest a) takes
    ∙ ap (λ g. after_saying (is_any h.said) g a) (taken_when rest now r l) in
    record {
      read = subst IsAllRead (sym line) (all_read status_answer status_after r taken received);
      text = ap (λ t. t ++ all_lines further.said) (writes ∙ ap (λ (x : Heard DeviceStatus). text ++ all_lines x.said) same)
          ∙ append_assoc text (all_lines h.said) (all_lines further.said)
          ∙ ap (λ l. text ++ l) (sym (all_lines-append h.said further.said) ∙ ap all_lines said) ∙ on.text;
      reader = ap (λ (x : Heard DeviceStatus). x.reader) there ∙ ap (λ (x : Heard DeviceStatus). x.reader) whole ∙ on.reader;
      line = ap (λ (x : Heard DeviceStatus). x.line) there ∙ ap (λ (x : Heard DeviceStatus). x.line) whole ∙ on.line;
      when = ap (λ g. after_saying (is_any further.said) g b) there_when ∙ ap (after_saying (is_any further.said) last) b_is
          ∙ said_both h.said further.said last a ∙ ap (λ l. after_saying (is_any l) last a) said ∙ on.when;
    }

-- and needs fewer turns
turn_fewer : (now : ℕ) (rest left : List ℕ) (r : State) (l taken m : Received) → IsReceived l → IsAllRead l → AreBytes rest → 0 < length rest
    → taken ≡ after_take rest now l → left ≡ drop (count_taken rest now l) rest → m ≡ (reads_all status_answer status_after r taken).line
    → turns_left left now m < turns_left rest now l
turn_fewer now rest left r l taken m is all fits some takes lefts line =
    let m_is : m ≡ (reads_all status_answer status_after r (after_take rest now l)).line =
    line ∙ ap (λ (t : Received). (reads_all status_answer status_after r t).line) takes in
    let same : turns_left left now m ≡ turns_left (drop (count_taken rest now l) rest) now (reads_all status_answer status_after r (after_take rest now l)).line =
    (λ i. turns_left (lefts i) now (m_is i)) in
    omega (arith, same, fewer_turns status_answer status_after rest now r l is all fits some)

-- after the last turn, all was said
there : (start : List ℕ) (all : Heard DeviceStatus) (first : AgesState) (now : ℕ) (text rest : List ℕ) (r : State) (l : Received) (a : AgesState)
    → IsOnTheWay start all first now text rest r l a
    → rest ≡ [] → now ≤ l.greatest → IsHeard start text r l first a all
there start all first now text rest r l a on none seen =
    let h : Heard DeviceStatus = record { said = []; reader = r; line = l } in
    let last : hears_bytes status_answer status_after [] now r l ≡ h = last_turn status_answer status_after now h on.read seen in
    let nothing : hears_bytes status_answer status_after rest now r l ≡ h = ap (λ b. hears_bytes status_answer status_after b now r l) none ∙ last in
    record {
      text = sym (append-nil text) ∙ sym (ap (λ (x : Heard DeviceStatus). text ++ all_lines x.said) nothing) ∙ on.text;
      reader_is = sym (ap (λ (x : Heard DeviceStatus). x.reader) nothing) ∙ on.reader;
      line_is = sym (ap (λ (x : Heard DeviceStatus). x.line) nothing) ∙ on.line;
      ages_is = sym (ap (λ (x : Heard DeviceStatus). ages_heard x a) nothing) ∙ on.when;
      read = on.read;
    }

seen_by : (now : ℕ) (rest : List ℕ) (r : State) (l taken m : Received) → taken ≡ after_take rest now l
    → m ≡ (reads_all status_answer status_after r taken).line → now ≤ m.greatest
seen_by now rest r l taken m takes line =
    let m_is : m ≡ (reads_all status_answer status_after r (after_take rest now l)).line =
    line ∙ ap (λ (t : Received). (reads_all status_answer status_after r t).line) takes in
    omega (arith, ap (λ (x : Received). x.greatest) m_is, seen_in_turn status_answer status_after rest now r l)

-- ---- how many bytes a turn takes

count_within : (bytes : List ℕ) (now : ℕ) (l : Received) → count_taken bytes now l ≤ length bytes
count_within [] now l = omega arith
count_within (b ∷ bytes) now l = by_ended (ends_silent (seen now l)).held.ended
  where
    by_ended : (e : Bool) → cond e 0 (min (length (b ∷ bytes)) (1440 - length (ends_silent (seen now l)).held.bytes)) ≤ length (b ∷ bytes)
    by_ended true = omega arith
    by_ended false = omega arith

-- a turn, as the code takes it
record Turn (now : ℕ) (bytes : List ℕ) (at count : ℕ) (r : State) (l taken : Received) : Type 0 where
  fits : AreBytes (drop at bytes)
  takes : taken ≡ after_take (drop at bytes) now l
  lefts : drop (at + count) bytes ≡ drop (count_taken (drop at bytes) now l) (drop at bytes)
  received : IsReceived taken
  within : at + count ≤ length bytes

turn : (now : ℕ) (bytes : List ℕ) (at count : ℕ) (r : State) (l taken : Received) → AreBytes bytes → at ≤ length bytes → IsReceived l
    → count ≡ count_taken (take (length bytes - at) (drop at bytes)) now l → taken ≡ after_take (take (length bytes - at) (drop at bytes)) now l
    → Turn now bytes at count r l taken
turn now bytes at count r l taken fits within is counts takes =
    let rest = drop at bytes in
    let rest_is : take (length bytes - at) rest ≡ rest = take_all (length bytes - at) rest (omega (arith, length-drop at bytes)) in
    let rest_fits : AreBytes rest = AreBytes-drop at bytes fits in
    let count_is : count ≡ count_taken rest now l = counts ∙ ap (λ b. count_taken b now l) rest_is in
    let taken_is : taken ≡ after_take rest now l = takes ∙ ap (λ b. after_take b now l) rest_is in
    record {
      fits = rest_fits;
      takes = taken_is;
      lefts = ap (λ n. drop (at + n) bytes) count_is ∙ sym (drop-drop (count_taken rest now l) at bytes);
      received = subst IsReceived (sym taken_is) (received_take rest now l is rest_fits);
      within = omega (arith, count_is, count_within rest now l, length-drop at bytes, within);
    }

-- what was written, read by the reader as it was before the turn
wrote : (text next : List ℕ) (r q : State) (taken : Received) → q ≡ r → next ≡ text ++ all_lines (reads_all status_answer status_after q taken).said
    → next ≡ text ++ all_lines (reads_all status_answer status_after r taken).said
wrote text next r q taken same writes = writes ∙ ap (λ x. text ++ all_lines (reads_all status_answer status_after x taken).said) same

-- A turn, and the answers to it: the device stays on the way, and is there, or needs fewer turns.
pub record Turned (start : List ℕ) (all : Heard DeviceStatus) (first : AgesState) (now : ℕ) (bytes : List ℕ) (at count : ℕ) (next : List ℕ) (q : State)
    (l m : Received) (b : AgesState) : Type 0 where
  pub within : at + count ≤ length bytes
  pub way : IsOnTheWay start all first now next (drop (at + count) bytes) q m b
  pub whole : at + count ≡ length bytes → IsHeard start next q m first b all
  pub fewer : (at + count ≡ length bytes → ⊥) → turns_left (drop (at + count) bytes) now m < turns_left (drop at bytes) now l

pub turned_on : (start : List ℕ) (all : Heard DeviceStatus) (first : AgesState) (now : ℕ) (bytes : List ℕ) (at count : ℕ) (text next : List ℕ)
    (r p q : State) (l taken m : Received) (a same_ages b : AgesState)
    → AreBytes bytes → at ≤ length bytes → IsReceived l → IsOnTheWay start all first now text (drop at bytes) r l a
    → count ≡ count_taken (take (length bytes - at) (drop at bytes)) now l → taken ≡ after_take (take (length bytes - at) (drop at bytes)) now l
    → p ≡ r → next ≡ text ++ all_lines (reads_all status_answer status_after p taken).said
    → q ≡ (reads_all status_answer status_after p taken).reader → m ≡ (reads_all status_answer status_after p taken).line
    → same_ages ≡ a → b ≡ after_saying (is_any (reads_all status_answer status_after p taken).said) taken.greatest same_ages
    → Turned start all first now bytes at count next q l m b
turned_on start all first now bytes at count text next r p q l taken m a same_ages b fits within is way counts takes same writes reader line kept when =
    let rest = drop at bytes in
    let left = drop (at + count) bytes in
    let t = turn now bytes at count r l taken fits within is counts takes in
    let line_is = line ∙ ap (λ x. (reads_all status_answer status_after x taken).line) same in
    let when_is : b ≡ after_saying (is_any (reads_all status_answer status_after r taken).said) taken.greatest a =
    when ∙ ap (after_saying (is_any (reads_all status_answer status_after p taken).said) taken.greatest) kept
    ∙ ap (λ x. after_saying (is_any (reads_all status_answer status_after x taken).said) taken.greatest a) same in
    let on = turn_on start all first now text next rest left r q l taken m a b is t.fits way t.takes t.lefts (wrote text next r p taken same writes)
    (reader ∙ ap (λ x. (reads_all status_answer status_after x taken).reader) same) line_is when_is t.received in
    record {
      within = t.within;
      way = on;
      whole = λ done. there start all first now next left q m b on (drop_all (at + count) bytes (omega (arith, done))) (seen_by now rest r l taken m t.takes line_is);
      fewer = λ more. turn_fewer now rest left r l taken m is way.read t.fits (omega (arith, length-drop at bytes, t.within, more)) t.takes t.lefts line_is;
    }
