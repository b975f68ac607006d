-- What an answer to a packet with a new number shows, and what its finding is.
use Rattle.osdp_rules_laws.proofs.Common.{◌≡◌, ◌≢◌, ◌⊎◌, inl, inr, ℕ, Bool, true, false, cond, eqb, not, ◌||◌, nat_lt, List, [], ◌∷◌, Result, Ok, Err, refl, sym, subst, ap, ◌∙◌, cond-true, cond-false, false≢true, eqb-true, eq-eqb, Packet, Command, MsgFault, UnknownCode, Length, Count, Reply, Nothing, Kept, Either, Broken, address_finding, again_finding, code_finding, fit_finding, fit_read, kept_if, length_finding, must_have, number_finding, read_finding, refusal_finding, served_finding, asked, code_of, has_reason, is_busy, is_nak, same_check, same_packet, told, check_same, is_packet, packet_is}
use Rattle.std.proofs.Common.{◌<◌}
use Rattle.std.proofs.lemmas.Bool.{ltb-true, lt-ltb}
use Rattle.std.specs.List.{list_any}
use Rattle.osdp_frame.specs.declared.check_kind.CheckKind.{CheckKind}
use Rattle.osdp_msg.specs.Fitting.{fitting_codes}
use Rattle.osdp_rules.proofs.Comparing.{same_kind}
use Rattle.osdp_rules.specs.Findings.{busy_finding, is_answer, is_fitting}
use Rattle.osdp_rules.specs.declared.finding.Finding.{Finding}
use Rattle.osdp_rules_laws.specs.Rules.{AddressShows, AgainShows, BusyShows, CodeFits, CodeShows, FitShows, KeptIf, KeptOrOpen, LengthShows, NumberShows, ReadShows, RefusalShows, ServedShows}
use Rattle.osdp_rules_laws.specs.Terms.{IsOneOf, answer_codes, code}
use Rattle.osdp_rules_laws.proofs.Deciding.{Says, busy_says, eqb_says, nak_says, no_says, not_says, or_says, reason_says, says_no, served_says}

-- a finding is this one exactly where this holds
pub record Is (x f : Finding) (P : Type 0) : Type 0 where
  pub means : x ≡ f → P
  pub shows : P → x ≡ f

-- ---- kept or broken

kept_means : (b : Bool) (P : Type 0) (f : Finding) → Says b P → f ≢ Nothing → kept_if b ≡ f → KeptIf P f
kept_means true P Kept s some e = s.means refl
kept_means true P Broken s some e = absurd (cc e)
kept_means true P Either s some e = cc e
kept_means true P Nothing s some e = cc e
kept_means false P Kept s some e = absurd (cc e)
kept_means false P Broken s some e = λ h. false≢true (s.shows h)
kept_means false P Either s some e = cc e
kept_means false P Nothing s some e = cc e

kept_shows : (b : Bool) (P : Type 0) (f : Finding) → Says b P → KeptIf P f → kept_if b ≡ f
kept_shows b P Kept s h = ap kept_if (s.shows h)
kept_shows b P Broken s h = ap kept_if (no_says b P s h)
kept_shows b P Either s h = absurd h
kept_shows b P Nothing s h = absurd h

pub kept_is : (b : Bool) (P : Type 0) (f : Finding) → Says b P → f ≢ Nothing → Is (kept_if b) f (KeptIf P f)
kept_is b P f s some = record { means = kept_means b P f s some; shows = kept_shows b P f s }

graded_means : (b c : Bool) (P Q : Type 0) (f : Finding) → Says b P → Says c Q → f ≢ Nothing → cond b Kept (cond c Either Broken) ≡ f → KeptOrOpen P Q f
graded_means true c P Q Kept s t some e = s.means refl
graded_means true c P Q Broken s t some e = absurd (cc e)
graded_means true c P Q Either s t some e = absurd (cc e)
graded_means true c P Q Nothing s t some e = cc e
graded_means false true P Q Kept s t some e = absurd (cc e)
graded_means false true P Q Broken s t some e = absurd (cc e)
graded_means false true P Q Either s t some e = (says_no false P s refl, t.means refl)
graded_means false true P Q Nothing s t some e = cc e
graded_means false false P Q Kept s t some e = absurd (cc e)
graded_means false false P Q Broken s t some e = (says_no false P s refl, says_no false Q t refl)
graded_means false false P Q Either s t some e = absurd (cc e)
graded_means false false P Q Nothing s t some e = cc e

graded_shows : (b c : Bool) (P Q : Type 0) (f : Finding) → Says b P → Says c Q → KeptOrOpen P Q f → cond b Kept (cond c Either Broken) ≡ f
graded_shows b c P Q Kept s t h = cond-true b Kept (cond c Either Broken) (s.shows h)
graded_shows b c P Q Broken s t h = cond-false b Kept (cond c Either Broken) (no_says b P s h.0) ∙ cond-false c Either Broken (no_says c Q t h.1)
graded_shows b c P Q Either s t h = cond-false b Kept (cond c Either Broken) (no_says b P s h.0) ∙ cond-true c Either Broken (t.shows h.1)
graded_shows b c P Q Nothing s t h = absurd h

pub graded_is : (b c : Bool) (P Q : Type 0) (f : Finding) → Says b P → Says c Q → f ≢ Nothing
    → Is (cond b Kept (cond c Either Broken)) f (KeptOrOpen P Q f)
graded_is b c P Q f s t some = record { means = graded_means b c P Q f s t some; shows = graded_shows b c P Q f s t }

-- something is shown only where this holds
pub where_is : (b : Bool) (P Q : Type 0) (x f : Finding) → Says b P → f ≢ Nothing → Is x f Q → Is (cond b x Nothing) f (P × Q)
where_is true P Q x f s some is = record { means = λ e. (s.means refl, is.means e); shows = λ h. is.shows h.1 }
where_is false P Q x f s some is = record { means = λ e. absurd (some (sym e)); shows = λ h. absurd (says_no false P s refl h.0) }

pub unless_is : (b : Bool) (P Q : Type 0) (x f : Finding) → Says b P → f ≢ Nothing → Is x f Q → Is (cond b Nothing x) f ((P → ⊥) × Q)
unless_is true P Q x f s some is = record { means = λ e. absurd (some (sym e)); shows = λ h. absurd (h.0 (s.means refl)) }
unless_is false P Q x f s some is = record { means = λ e. (says_no false P s refl, is.means e); shows = λ h. is.shows h.1 }

-- ---- each rule

pub check_says : (c d : CheckKind) → Says (same_check c d) (c ≡ d)
check_says c d = record { means = same_kind c d; shows = λ e. subst (λ (k : CheckKind). same_check c k ≡ true) e (check_same c) }

pub packet_says : (first a : Packet) → Says (same_packet first a) (a ≡ first)
packet_says first a = record {
  means = λ e. sym (packet_is first a e);
  shows = λ e. subst (λ (q : Packet). same_packet first q ≡ true) (sym e) (is_packet first);
}

address_means : (b c : Bool) (p a : Packet) (f : Finding) → Says b (p.address ≡ 127) → Says c (a.address ≡ p.address) → f ≢ Nothing
    → cond b Either (kept_if c) ≡ f → AddressShows f p a
address_means true c p a Kept s t some e = absurd (cc e)
address_means true c p a Broken s t some e = absurd (cc e)
address_means true c p a Either s t some e = s.means refl
address_means true c p a Nothing s t some e = cc e
address_means false true p a Kept s t some e = (says_no false _ s refl, t.means refl)
address_means false true p a Broken s t some e = absurd (cc e)
address_means false true p a Either s t some e = absurd (cc e)
address_means false true p a Nothing s t some e = cc e
address_means false false p a Kept s t some e = absurd (cc e)
address_means false false p a Broken s t some e = (says_no false _ s refl, says_no false _ t refl)
address_means false false p a Either s t some e = absurd (cc e)
address_means false false p a Nothing s t some e = cc e

address_shows : (b c : Bool) (p a : Packet) (f : Finding) → Says b (p.address ≡ 127) → Says c (a.address ≡ p.address) → AddressShows f p a
    → cond b Either (kept_if c) ≡ f
address_shows b c p a Kept s t h = cond-false b Either (kept_if c) (no_says b _ s h.0) ∙ ap kept_if (t.shows h.1)
address_shows b c p a Broken s t h = cond-false b Either (kept_if c) (no_says b _ s h.0) ∙ ap kept_if (no_says c _ t h.1)
address_shows b c p a Either s t h = cond-true b Either (kept_if c) (s.shows h)
address_shows b c p a Nothing s t h = absurd h

pub address_is : (p a : Packet) (f : Finding) → f ≢ Nothing → Is (address_finding p a) f (AddressShows f p a)
address_is p a f some = record {
  means = address_means (eqb p.address 127) (eqb a.address p.address) p a f (eqb_says p.address 127) (eqb_says a.address p.address) some;
  shows = address_shows (eqb p.address 127) (eqb a.address p.address) p a f (eqb_says p.address 127) (eqb_says a.address p.address);
}

pub number_is : (p a : Packet) (f : Finding) → f ≢ Nothing → Is (number_finding p a) f (NumberShows f p a)
number_is p a f some =
    unless_is (is_busy a) _ _ (kept_if (eqb a.sequence p.sequence)) f (busy_says a) some
    (kept_is (eqb a.sequence p.sequence) _ f (eqb_says a.sequence p.sequence) some)

pub refusal_is : (reason : ℕ) (a : Packet) (f : Finding) → f ≢ Nothing → Is (refusal_finding reason a) f (RefusalShows reason f a)
refusal_is reason a f some =
    graded_is (has_reason reason a) (is_nak a || is_busy a) _ _ f (reason_says reason a)
    (or_says (is_nak a) (is_busy a) _ _ (nak_says a) (busy_says a)) some

no_nak_says : (a : Packet) → Says (not (is_nak a)) (code a ≢ 0x41)
no_nak_says a = record {
  means = λ e. says_no (is_nak a) _ (nak_says a) ((not_says (is_nak a)).means e);
  shows = λ h. (not_says (is_nak a)).shows (no_says (is_nak a) _ (nak_says a) h);
}

pub served_is : (p a : Packet) (f : Finding) → f ≢ Nothing → Is (served_finding (asked p) a) f (ServedShows f p a)
served_is p a f some =
    where_is (must_have (asked p)) _ _ (kept_if (not (is_nak a))) f (served_says p) some
    (kept_is (not (is_nak a)) _ f (no_nak_says a) some)

lt_says : (m n : ℕ) → Says (nat_lt m n) (m < n)
lt_says m n = record { means = ltb-true m n; shows = lt-ltb m n }

-- what is read of a code, of a length
code_by : (r : Result Command MsgFault) (n : ℕ) (a : Packet) (f : Finding) → f ≢ Nothing
    → Is (code_finding r n a) f ((r ≡ Err UnknownCode) × (n < 0x60) × RefusalShows 3 f a)
code_by (Err UnknownCode) n a f some =
    let is = where_is (nat_lt n 0x60) _ _ (refusal_finding 3 a) f (lt_says n 0x60) some (refusal_is 3 a f some) in
    record { means = λ e. let h = is.means e in (refl, h.0, h.1); shows = λ h. is.shows (h.1, h.2) }
code_by r n a f some = record { means = λ e. absurd (some (sym e)); shows = λ h. absurd (cc (h.0)) }

pub code_is : (p a : Packet) (f : Finding) → f ≢ Nothing → Is (code_finding (asked p) (code_of p) a) f (CodeShows f p a)
code_is p a f some = code_by (asked p) (code p) a f some

length_by : (r : Result Command MsgFault) (a : Packet) (f : Finding) → f ≢ Nothing
    → Is (length_finding r a) f (((r ≡ Err Length) ⊎ (r ≡ Err Count)) × RefusalShows 2 f a)
length_by (Err Length) a f some =
    let is = refusal_is 2 a f some in record { means = λ e. (inl refl, is.means e); shows = λ h. is.shows h.1 }
length_by (Err Count) a f some =
    let is = refusal_is 2 a f some in record { means = λ e. (inr refl, is.means e); shows = λ h. is.shows h.1 }
length_by r a f some = record {
  means = λ e. absurd (some (sym e));
  shows = λ h. elim (h.0) [ inl is ↦ absurd (cc is) | inr is ↦ absurd (cc is) ];
}

pub length_is : (p a : Packet) (f : Finding) → f ≢ Nothing → Is (length_finding (asked p) a) f (LengthShows f p a)
length_is p a f some = length_by (asked p) a f some

abbrev ReadBy : Finding → Result Reply MsgFault → Type 0
ReadBy Kept r = (x : Reply) × (r ≡ Ok x)
ReadBy Broken r = (r ≡ Err Length) ⊎ (r ≡ Err Count)
ReadBy Either r = r ≡ Err UnknownCode
ReadBy Nothing r = ⊥

read_means : (r : Result Reply MsgFault) (f : Finding) → read_finding r ≡ f → ReadBy f r
read_means (Ok x) Kept e = (x, refl)
read_means (Err UnknownCode) Either e = refl
read_means (Err Length) Broken e = inl refl
read_means (Err Count) Broken e = inr refl
read_means r f e = absurd (cc e)

read_shows : (r : Result Reply MsgFault) (f : Finding) → ReadBy f r → read_finding r ≡ f
read_shows r Kept h = ap read_finding h.1
read_shows r Broken (inl is) = ap read_finding is
read_shows r Broken (inr is) = ap read_finding is
read_shows r Either h = ap read_finding h
read_shows r Nothing h = absurd h

to_read : (a : Packet) (f : Finding) → ReadBy f (told a) → ReadShows f a
to_read a Kept h = h
to_read a Broken h = h
to_read a Either h = h
to_read a Nothing h = h

of_read : (a : Packet) (f : Finding) → ReadShows f a → ReadBy f (told a)
of_read a Kept h = h
of_read a Broken h = h
of_read a Either h = h
of_read a Nothing h = h

pub read_is : (a : Packet) (f : Finding) → Is (read_finding (told a)) f (ReadShows f a)
read_is a f = record { means = λ e. to_read a f (read_means (told a) f e); shows = λ h. read_shows (told a) f (of_read a f h) }

pub busy_is : (p a : Packet) (f : Finding) → f ≢ Nothing → Is (busy_finding p a) f (BusyShows f p a)
busy_is p a f some =
    where_is (is_busy a) _ _ (cond (eqb a.sequence 0) Kept (cond (eqb a.sequence p.sequence) Either Broken)) f (busy_says a) some
    (graded_is (eqb a.sequence 0) (eqb a.sequence p.sequence) _ _ f (eqb_says a.sequence 0) (eqb_says a.sequence p.sequence) some)

pub again_is : (first a : Packet) (f : Finding) → f ≢ Nothing → Is (again_finding first a) f (AgainShows f first a)
again_is first a f some = graded_is (same_packet first a) (is_busy a) _ _ f (packet_says first a) (busy_says a) some

-- ---- codes that fit

one_of_says : (n : ℕ) (codes : List ℕ) → Says (list_any (λ m. eqb m n) codes) (IsOneOf codes n)
one_of_says n [] = record { means = λ e. absurd (false≢true e); shows = λ h. absurd h }
one_of_says n (m ∷ ms) =
    or_says (eqb m n) (list_any (λ k. eqb k n) ms) _ _
    (record { means = λ e. sym (eqb-true m n e); shows = λ e. eq-eqb m n (sym e) }) (one_of_says n ms)

last_says : (n m : ℕ) → Says (eqb n m) ((n ≡ m) ⊎ ⊥)
last_says n m = record { means = λ e. inl (eqb-true n m e); shows = λ h. elim h [ inl is ↦ eq-eqb n m is | inr never ↦ absurd never ] }

answer_says : (n : ℕ) → Says (is_answer n) (IsOneOf answer_codes n)
answer_says n =
    or_says (eqb n 0x40) _ _ _ (eqb_says n 0x40) (or_says (eqb n 0x45) _ _ _ (eqb_says n 0x45) (or_says (eqb n 0x46) _ _ _ (eqb_says n 0x46)
    (or_says (eqb n 0x48) _ _ _ (eqb_says n 0x48) (or_says (eqb n 0x49) _ _ _ (eqb_says n 0x49) (or_says (eqb n 0x4A) _ _ _ (eqb_says n 0x4A)
    (or_says (eqb n 0x4B) _ _ _ (eqb_says n 0x4B) (or_says (eqb n 0x50) _ _ _ (eqb_says n 0x50) (or_says (eqb n 0x51) _ _ _ (eqb_says n 0x51)
    (or_says (eqb n 0x53) _ _ _ (eqb_says n 0x53) (last_says n 0x54))))))))))

fits_means : (b d : Bool) (c : Command) (n : ℕ) (f : Finding) → Says b (IsOneOf (fitting_codes c) n) → Says d (IsOneOf answer_codes n) → f ≢ Nothing
    → cond b Kept (cond d Broken Either) ≡ f → CodeFits f c n
fits_means true d c n Kept s t some e = s.means refl
fits_means true d c n Broken s t some e = absurd (cc e)
fits_means true d c n Either s t some e = absurd (cc e)
fits_means true d c n Nothing s t some e = cc e
fits_means false true c n Kept s t some e = absurd (cc e)
fits_means false true c n Broken s t some e = (says_no false _ s refl, t.means refl)
fits_means false true c n Either s t some e = absurd (cc e)
fits_means false true c n Nothing s t some e = cc e
fits_means false false c n Kept s t some e = absurd (cc e)
fits_means false false c n Broken s t some e = absurd (cc e)
fits_means false false c n Either s t some e = (says_no false _ s refl, says_no false _ t refl)
fits_means false false c n Nothing s t some e = cc e

fits_shows : (b d : Bool) (c : Command) (n : ℕ) (f : Finding) → Says b (IsOneOf (fitting_codes c) n) → Says d (IsOneOf answer_codes n) → CodeFits f c n
    → cond b Kept (cond d Broken Either) ≡ f
fits_shows b d c n Kept s t h = cond-true b Kept (cond d Broken Either) (s.shows h)
fits_shows b d c n Broken s t h = cond-false b Kept (cond d Broken Either) (no_says b _ s h.0) ∙ cond-true d Broken Either (t.shows h.1)
fits_shows b d c n Either s t h = cond-false b Kept (cond d Broken Either) (no_says b _ s h.0) ∙ cond-false d Broken Either (no_says d _ t h.1)
fits_shows b d c n Nothing s t h = absurd h

fit_by : (r : Result Command MsgFault) (n : ℕ) (f : Finding) → f ≢ Nothing → Is (fit_read r n) f ((c : Command) × (r ≡ Ok c) × CodeFits f c n)
fit_by (Err fault) n f some = record { means = λ e. absurd (some (sym e)); shows = λ h. absurd (cc (h.1)) }
fit_by (Ok c) n f some = record {
  means = λ e. (c, refl, fits_means (is_fitting c n) (is_answer n) c n f (one_of_says n (fitting_codes c)) (answer_says n) some e);
  shows = λ h. subst (λ (d : Command). fit_finding d n ≡ f) (sym (same h.0 h.1))
      (fits_shows (is_fitting h.0 n) (is_answer n) h.0 n f (one_of_says n (fitting_codes h.0)) (answer_says n) h.2);
}
  where
    same : (d : Command) → (let r : Result Command MsgFault = Ok c in r) ≡ Ok d → c ≡ d
    same d e = cc

pub fit_is : (p a : Packet) (f : Finding) → f ≢ Nothing → Is (fit_read (asked p) (code_of a)) f (FitShows f p a)
fit_is p a f some = fit_by (asked p) (code a) f some
