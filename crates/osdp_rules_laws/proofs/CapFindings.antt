-- What an answer shows of what the list says of CAP, and what its finding is.
use Rattle.osdp_rules_laws.proofs.Common.{◌≡◌, ◌≢◌, ◌⊎◌, inl, inr, ℕ, Bool, true, false, cond, eqb, length, List, Option, Some, None, Result, Ok, refl, sym, subst, ap, ◌∙◌, cond-true, cond-false, eq-eqb, ne_eqb, Command, MsgFault, Reply, Nothing, Kept, Either, Broken, kept_if}
use Rattle.osdp_msg.specs.Values.{Held, NakValue}
use Rattle.osdp_msg.specs.declared.command.Command.TheVariants as command
use Rattle.osdp_msg.specs.declared.reply.Reply.TheVariants as reply
use Rattle.osdp_rules.specs.Claiming.{agrees, listed_finding, may_agree}
use Rattle.osdp_rules.specs.Claims.{claims_of, count_of, level_of, no_claims}
use Rattle.osdp_rules.specs.Runs.{Sent}
use Rattle.osdp_rules.specs.declared.claims.Claims.{Claims}
use Rattle.osdp_rules.specs.declared.finding.Finding.{Finding}
use Rattle.osdp_rules_laws.specs.Caps.{AgreesShows, Tells, ListedShows, MayAgreeShows, RefusedStatus}
use Rattle.osdp_rules_laws.proofs.Answering.{Is}
use Rattle.osdp_rules_laws.proofs.CapBytes.{count_entry, entry_count, entry_level, level_entry, triples}
use Rattle.osdp_rules_laws.proofs.CapsAlong.{caps_said, last_said, said}
use Rattle.osdp_rules_laws.proofs.Deciding.{Says, eqb_says, says_no}

-- ---- lists against what CAP tells

some_same : (o : Option ℕ) (m n : ℕ) → o ≡ Some m → o ≡ Some n → m ≡ n
some_same o m n e f = cc

none_some : (o : Option ℕ) (n : ℕ) → o ≡ None → o ≡ Some n → ⊥
none_some o n e f = cc (sym e ∙ f)

module _ (address : ℕ) (past : List Sent) (function : ℕ) where
  -- what is known of a function is what the list says of it
  pub record HasCount (o : Option ℕ) : Type 0 where
    pub means : (n : ℕ) → o ≡ Some n → (l : ℕ) × Tells address past function l n
    pub shows : (l n : ℕ) → Tells address past function l n → o ≡ Some n

  agrees_means : (o p : Option ℕ) (entries : ℕ) (f : Finding) → HasCount o → o ≡ p → f ≢ Nothing → agrees p entries ≡ f → AgreesShows address f past function entries
  agrees_means o None entries Either tells is some e = λ l n claims. none_some o n is (tells.shows l n claims)
  agrees_means o None entries Kept tells is some e = absurd (cc e)
  agrees_means o None entries Broken tells is some e = absurd (cc e)
  agrees_means o None entries Nothing tells is some e = cc e
  agrees_means o (Some n) entries f tells is some e = by (eqb entries n) f (eqb_says entries n) some e
    where
      at : (l : ℕ) × Tells address past function l n
      at = tells.means n is

      by : (b : Bool) (f : Finding) → Says b (entries ≡ n) → f ≢ Nothing → kept_if b ≡ f → AgreesShows address f past function entries
      by true Kept s some e = (at.0, n, at.1, s.means refl)
      by true Broken s some e = absurd (cc e)
      by true Either s some e = absurd (cc e)
      by true Nothing s some e = cc e
      by false Kept s some e = absurd (cc e)
      by false Broken s some e = (at.0, n, at.1, says_no false _ s refl)
      by false Either s some e = absurd (cc e)
      by false Nothing s some e = cc e

  agrees_shows : (o : Option ℕ) (entries : ℕ) (f : Finding) → HasCount o → AgreesShows address f past function entries → agrees o entries ≡ f
  agrees_shows o entries Kept tells h =
      ap (λ p. agrees p entries) (tells.shows h.0 h.1 h.2) ∙ ap kept_if (eq-eqb entries h.1 h.3)
  agrees_shows o entries Broken tells h =
      ap (λ p. agrees p entries) (tells.shows h.0 h.1 h.2) ∙ ap kept_if (ne_eqb entries h.1 h.3)
  agrees_shows o entries Either tells h = by o refl
    where
      by : (p : Option ℕ) → o ≡ p → agrees p entries ≡ Either
      by None is = refl
      by (Some n) is = absurd (let at = tells.means n is in h at.0 n at.1)
  agrees_shows o entries Nothing tells h = absurd h

  pub agrees_is : (o : Option ℕ) (entries : ℕ) (f : Finding) → HasCount o → f ≢ Nothing → Is (agrees o entries) f (AgreesShows address f past function entries)
  agrees_is o entries f tells some = record {
    means = agrees_means o o entries f tells refl some;
    shows = agrees_shows o entries f tells;
  }

  readers_means : (o p : Option ℕ) (entries : ℕ) (f : Finding) → HasCount o → o ≡ p → f ≢ Nothing → may_agree p entries ≡ f
      → MayAgreeShows address f past function entries
  readers_means o None entries Either tells is some e = λ l n claims same. none_some o n is (tells.shows l n claims)
  readers_means o None entries Kept tells is some e = absurd (cc e)
  readers_means o None entries Broken tells is some e = absurd (cc e)
  readers_means o None entries Nothing tells is some e = cc e
  readers_means o (Some n) entries f tells is some e = by (eqb entries n) f (eqb_says entries n) some e
    where
      at : (l : ℕ) × Tells address past function l n
      at = tells.means n is

      by : (b : Bool) (f : Finding) → Says b (entries ≡ n) → f ≢ Nothing → cond b Kept Either ≡ f → MayAgreeShows address f past function entries
      by true Kept s some e = (at.0, n, at.1, s.means refl)
      by true Broken s some e = absurd (cc e)
      by true Either s some e = absurd (cc e)
      by true Nothing s some e = cc e
      by false Kept s some e = absurd (cc e)
      by false Broken s some e = absurd (cc e)
      by false Either s some e = λ l m claims same.
          says_no false _ s refl (same ∙ some_same o m n (tells.shows l m claims) is)
      by false Nothing s some e = cc e

  readers_shows : (o : Option ℕ) (entries : ℕ) (f : Finding) → HasCount o → MayAgreeShows address f past function entries → may_agree o entries ≡ f
  readers_shows o entries Kept tells h =
      ap (λ p. may_agree p entries) (tells.shows h.0 h.1 h.2) ∙ cond-true (eqb entries h.1) Kept Either (eq-eqb entries h.1 h.3)
  readers_shows o entries Either tells h = by o refl
    where
      by : (p : Option ℕ) → o ≡ p → may_agree p entries ≡ Either
      by None is = refl
      by (Some n) is = let at = tells.means n is in cond-false (eqb entries n) Kept Either (ne_eqb entries n (h at.0 n at.1))
  readers_shows o entries Broken tells h = absurd h
  readers_shows o entries Nothing tells h = absurd h

  pub readers_is : (o : Option ℕ) (entries : ℕ) (f : Finding) → HasCount o → f ≢ Nothing → Is (may_agree o entries) f (MayAgreeShows address f past function entries)
  readers_is o entries f tells some = record {
    means = readers_means o o entries f tells refl some;
    shows = readers_shows o entries f tells;
  }

-- ---- what is known is what the list says

abbrev pub HasLevel : ℕ → List Sent → ℕ → Option ℕ → Type 0
HasLevel address past function o =
    ((l : ℕ) → o ≡ Some l → (n : ℕ) × Tells address past function l n) × ((l n : ℕ) → Tells address past function l n → o ≡ Some l)

module _ (address : ℕ) (past : List Sent) where
  pub tells_count : (function : ℕ) (get : Claims → Option ℕ) → get no_claims ≡ None
      → ((bytes : List ℕ) → get (claims_of (triples bytes)) ≡ count_of function (triples bytes)) → HasCount address past function (get (said address past))
  tells_count function get none count = record {
    means = λ n e. elim (caps_said address past) [
      | inl nothing ↦ absurd (none_some (get (said address past)) n (ap get nothing.0 ∙ none) e)
      | inr cap ↦
          let entry = count_entry function n cap.0 (sym (count cap.0) ∙ sym (ap get cap.2) ∙ e) in
          (entry.0, (cap.0, cap.1, entry.1))
    ];
    shows = λ l n claims. ap get (last_said address past claims.0 claims.1) ∙ count claims.0 ∙ entry_count function l n claims.0 claims.2;
  }

  pub tells_level : (function : ℕ) (get : Claims → Option ℕ) → get no_claims ≡ None
      → ((bytes : List ℕ) → get (claims_of (triples bytes)) ≡ level_of function (triples bytes)) → HasLevel address past function (get (said address past))
  tells_level function get none level = (
    λ l e. elim (caps_said address past) [
      | inl nothing ↦ absurd (none_some (get (said address past)) l (ap get nothing.0 ∙ none) e)
      | inr cap ↦
          let entry = level_entry function l cap.0 (sym (level cap.0) ∙ sym (ap get cap.2) ∙ e) in
          (entry.0, (cap.0, cap.1, entry.1))
    ],
    λ l n claims. ap get (last_said address past claims.0 claims.1) ∙ level claims.0 ∙ entry_level function l n claims.0 claims.2,
  )

  -- ---- lists of states

  abbrev pub known : Claims
  known = said address past

  -- to be refused is the last of the cases
  refused_parts : (f : Finding) (r : Result Command MsgFault) (t : Result Reply MsgFault) → RefusedStatus f r t
      → (f ≡ Either) × ((n : NakValue) × (t ≡ Ok (reply.Nak n)))
  refused_parts Either r t h = (refl, h.1)
  refused_parts Kept r t h = absurd h
  refused_parts Broken r t h = absurd h
  refused_parts Nothing r t h = absurd h

  refused_as : (f : Finding) (r : Result Command MsgFault) (n : NakValue)
      → (r ≡ Ok command.InputStatus) ⊎ (r ≡ Ok command.OutputStatus) ⊎ (r ≡ Ok command.ReaderStatus) → Either ≡ f → RefusedStatus f r (Ok (reply.Nak n))
  refused_as Either r n is e = (is, (n, refl))
  refused_as Kept r n is e = absurd (cc e)
  refused_as Broken r n is e = absurd (cc e)
  refused_as Nothing r n is e = absurd (cc e)

  listed_inputs : (t : Result Reply MsgFault) (f : Finding) → f ≢ Nothing
      → Is (listed_finding known (Ok command.InputStatus) t) f (ListedShows address f past (Ok command.InputStatus) t)
  listed_inputs (Ok (reply.Inputs states)) f some =
      let is = agrees_is address past 1 known.inputs (length states.items) f (tells_count 1 (λ c. c.inputs) refl (λ bytes. refl)) some in
      record {
        means = λ e. inl (refl, (states, refl, is.means e));
        shows = λ h. elim h [
          | inl x ↦ is.shows (subst (λ s. AgreesShows address f past 1 (length s.items)) (same states x.1.0 x.1.1) x.1.2)
          | inr (inl x) ↦ absurd (cc (x.0))
          | inr (inr (inl x)) ↦ absurd (cc (x.0))
          | inr (inr (inr x)) ↦ absurd (let parts = refused_parts f _ _ x in cc (parts.1.1))
        ];
      }
    where
      same : (s u : Held) → (let r : Result Reply MsgFault = Ok (reply.Inputs s) in r) ≡ Ok (reply.Inputs u) → u ≡ s
      same s u e = cc
  listed_inputs (Ok (reply.Nak n)) f some = record {
    means = λ e. inr (inr (inr (refused_as f (Ok command.InputStatus) n (inl refl) e)));
    shows = λ h. elim h [
      | inl x ↦ absurd (cc (x.1.1))
      | inr (inl x) ↦ absurd (cc (x.0))
      | inr (inr (inl x)) ↦ absurd (cc (x.0))
      | inr (inr (inr x)) ↦ sym (refused_parts f _ _ x).0
    ];
  }
  listed_inputs t f some = record {
    means = λ e. absurd (some (sym e));
    shows = λ h. elim h [
      | inl x ↦ absurd (cc (x.1.1))
      | inr (inl x) ↦ absurd (cc (x.0))
      | inr (inr (inl x)) ↦ absurd (cc (x.0))
      | inr (inr (inr x)) ↦ absurd (let parts = refused_parts f _ _ x in cc (parts.1.1))
    ];
  }

  listed_outputs : (t : Result Reply MsgFault) (f : Finding) → f ≢ Nothing
      → Is (listed_finding known (Ok command.OutputStatus) t) f (ListedShows address f past (Ok command.OutputStatus) t)
  listed_outputs (Ok (reply.Outputs states)) f some =
      let is = agrees_is address past 2 known.outputs (length states.items) f (tells_count 2 (λ c. c.outputs) refl (λ bytes. refl)) some in
      record {
        means = λ e. inr (inl (refl, (states, refl, is.means e)));
        shows = λ h. elim h [
          | inl x ↦ absurd (cc (x.0))
          | inr (inl x) ↦ is.shows (subst (λ s. AgreesShows address f past 2 (length s.items)) (same states x.1.0 x.1.1) x.1.2)
          | inr (inr (inl x)) ↦ absurd (cc (x.0))
          | inr (inr (inr x)) ↦ absurd (let parts = refused_parts f _ _ x in cc (parts.1.1))
        ];
      }
    where
      same : (s u : Held) → (let r : Result Reply MsgFault = Ok (reply.Outputs s) in r) ≡ Ok (reply.Outputs u) → u ≡ s
      same s u e = cc
  listed_outputs (Ok (reply.Nak n)) f some = record {
    means = λ e. inr (inr (inr (refused_as f (Ok command.OutputStatus) n (inr (inl refl)) e)));
    shows = λ h. elim h [
      | inl x ↦ absurd (cc (x.0))
      | inr (inl x) ↦ absurd (cc (x.1.1))
      | inr (inr (inl x)) ↦ absurd (cc (x.0))
      | inr (inr (inr x)) ↦ sym (refused_parts f _ _ x).0
    ];
  }
  listed_outputs t f some = record {
    means = λ e. absurd (some (sym e));
    shows = λ h. elim h [
      | inl x ↦ absurd (cc (x.0))
      | inr (inl x) ↦ absurd (cc (x.1.1))
      | inr (inr (inl x)) ↦ absurd (cc (x.0))
      | inr (inr (inr x)) ↦ absurd (let parts = refused_parts f _ _ x in cc (parts.1.1))
    ];
  }

  listed_readers : (t : Result Reply MsgFault) (f : Finding) → f ≢ Nothing
      → Is (listed_finding known (Ok command.ReaderStatus) t) f (ListedShows address f past (Ok command.ReaderStatus) t)
  listed_readers (Ok (reply.Readers states)) f some =
      let is = readers_is address past 13 known.readers (length states.items) f (tells_count 13 (λ c. c.readers) refl (λ bytes. refl)) some in
      record {
        means = λ e. inr (inr (inl (refl, (states, refl, is.means e))));
        shows = λ h. elim h [
          | inl x ↦ absurd (cc (x.0))
          | inr (inl x) ↦ absurd (cc (x.0))
          | inr (inr (inl x)) ↦ is.shows (subst (λ s. MayAgreeShows address f past 13 (length s.items)) (same states x.1.0 x.1.1) x.1.2)
          | inr (inr (inr x)) ↦ absurd (let parts = refused_parts f _ _ x in cc (parts.1.1))
        ];
      }
    where
      same : (s u : Held) → (let r : Result Reply MsgFault = Ok (reply.Readers s) in r) ≡ Ok (reply.Readers u) → u ≡ s
      same s u e = cc
  listed_readers (Ok (reply.Nak n)) f some = record {
    means = λ e. inr (inr (inr (refused_as f (Ok command.ReaderStatus) n (inr (inr refl)) e)));
    shows = λ h. elim h [
      | inl x ↦ absurd (cc (x.0))
      | inr (inl x) ↦ absurd (cc (x.0))
      | inr (inr (inl x)) ↦ absurd (cc (x.1.1))
      | inr (inr (inr x)) ↦ sym (refused_parts f _ _ x).0
    ];
  }
  listed_readers t f some = record {
    means = λ e. absurd (some (sym e));
    shows = λ h. elim h [
      | inl x ↦ absurd (cc (x.0))
      | inr (inl x) ↦ absurd (cc (x.0))
      | inr (inr (inl x)) ↦ absurd (cc (x.1.1))
      | inr (inr (inr x)) ↦ absurd (let parts = refused_parts f _ _ x in cc (parts.1.1))
    ];
  }

  -- what else is asked has no list
  refused_asks : (f : Finding) (r : Result Command MsgFault) (t : Result Reply MsgFault) → RefusedStatus f r t
      → (r ≡ Ok command.InputStatus) ⊎ (r ≡ Ok command.OutputStatus) ⊎ (r ≡ Ok command.ReaderStatus)
  refused_asks Either r t h = h.0
  refused_asks Kept r t h = absurd h
  refused_asks Broken r t h = absurd h
  refused_asks Nothing r t h = absurd h

  pub listed_is : (r : Result Command MsgFault) (t : Result Reply MsgFault) (f : Finding) → f ≢ Nothing
      → Is (listed_finding known r t) f (ListedShows address f past r t)
  listed_is (Ok command.InputStatus) t f some = listed_inputs t f some
  listed_is (Ok command.OutputStatus) t f some = listed_outputs t f some
  listed_is (Ok command.ReaderStatus) t f some = listed_readers t f some
  listed_is r t f some = record {
    means = λ e. absurd (some (sym e));
    shows = λ h. elim h [
      | inl x ↦ absurd (cc (x.0))
      | inr (inl x) ↦ absurd (cc (x.0))
      | inr (inr (inl x)) ↦ absurd (cc (x.0))
      | inr (inr (inr x)) ↦ elim (refused_asks f _ _ x) [
        | inl is ↦ absurd (cc is)
        | inr (inl is) ↦ absurd (cc is)
        | inr (inr is) ↦ absurd (cc is)
      ]
    ];
  }
