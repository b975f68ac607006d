-- What an answer to an order shows of what the list says of CAP, and what its finding is.
use Rattle.osdp_rules_laws.proofs.Common.{◌≡◌, ◌≢◌, ◌⊎◌, inl, inr, ℕ, Bool, true, false, cond, eqb, nat_lt, ◌&&◌, ◌||◌, length, List, [], ◌∷◌, Option, Some, None, Result, Ok, refl, sym, subst, ap, ◌∙◌, cond-true, cond-false, false≢true, eqb-true, eq-eqb, ne_eqb, Command, MsgFault, Reply, Nothing, Kept, Either, Broken}
use Rattle.std.proofs.Common.{◌<◌, ◌≤◌, arith}
use Rattle.std.proofs.lemmas.Bool.{ltb-true, lt-ltb}
use Rattle.osdp_msg.specs.Values.{TextValue}
use Rattle.osdp_msg.specs.declared.command.Command.TheVariants as command
use Rattle.osdp_msg.specs.declared.leds.LedRecord.{LedRecord}
use Rattle.osdp_msg.specs.declared.outputs.OutputRecord.{OutputRecord}
use Rattle.osdp_msg.specs.declared.reply.Reply.TheVariants as reply
use Rattle.osdp_rules.specs.Claiming.{are_leds, are_outputs, beyond_finding, leds_finding, longer_finding, outputs_finding, refused_finding, text_finding, text_room}
use Rattle.osdp_rules.specs.Runs.{Sent}
use Rattle.osdp_rules.specs.declared.finding.Finding.{Finding}
use Rattle.osdp_rules_laws.specs.Caps.{BeyondShows, Tells, HasRoom, LedShows, LedsBeyond, LongerShows, OutputShows, OutputsBeyond, RefusedShows, TextShows}
use Rattle.osdp_rules_laws.proofs.Answering.{Is}
use Rattle.osdp_rules_laws.proofs.CapFindings.{HasLevel, known, tells_count, tells_level}
use Rattle.osdp_rules_laws.proofs.Deciding.{eqb_says, says_no}

module _ (address : ℕ) (past : List Sent) where
  -- ---- what the device doesn't have

  refused_means : (t : Result Reply MsgFault) (f : Finding) → f ≢ Nothing → refused_finding t ≡ f → RefusedShows f t
  refused_means (Ok (reply.Nak n)) Kept some e = (n, refl)
  refused_means (Ok (reply.Nak n)) Broken some e = absurd (cc e)
  refused_means (Ok (reply.Nak n)) Either some e = cc e
  refused_means (Ok (reply.Nak n)) Nothing some e = cc e
  refused_means (Ok reply.Ack) Kept some e = absurd (cc e)
  refused_means (Ok reply.Ack) Broken some e = inl refl
  refused_means (Ok reply.Ack) Either some e = cc e
  refused_means (Ok reply.Ack) Nothing some e = cc e
  refused_means (Ok (reply.Outputs states)) Kept some e = absurd (cc e)
  refused_means (Ok (reply.Outputs states)) Broken some e = inr (states, refl)
  refused_means (Ok (reply.Outputs states)) Either some e = cc e
  refused_means (Ok (reply.Outputs states)) Nothing some e = cc e
  refused_means t f some e = absurd (some (sym e))

  refused_shows : (t : Result Reply MsgFault) (f : Finding) → RefusedShows f t → refused_finding t ≡ f
  refused_shows t Kept h = ap refused_finding h.1
  refused_shows t Broken (inl is) = ap refused_finding is
  refused_shows t Broken (inr is) = ap refused_finding is.1
  refused_shows t Either h = absurd h
  refused_shows t Nothing h = absurd h

  refused_is : (t : Result Reply MsgFault) (f : Finding) → f ≢ Nothing → Is (refused_finding t) f (RefusedShows f t)
  refused_is t f some = record { means = refused_means t f some; shows = refused_shows t f }

  longer_means : (t : Result Reply MsgFault) (f : Finding) → f ≢ Nothing → longer_finding t ≡ f → LongerShows f t
  longer_means (Ok (reply.Nak n)) Kept some e = (n, refl)
  longer_means (Ok (reply.Nak n)) Broken some e = cc e
  longer_means (Ok (reply.Nak n)) Either some e = absurd (cc e)
  longer_means (Ok (reply.Nak n)) Nothing some e = cc e
  longer_means (Ok reply.Ack) Kept some e = absurd (cc e)
  longer_means (Ok reply.Ack) Broken some e = cc e
  longer_means (Ok reply.Ack) Either some e = refl
  longer_means (Ok reply.Ack) Nothing some e = cc e
  longer_means t f some e = absurd (some (sym e))

  longer_shows : (t : Result Reply MsgFault) (f : Finding) → LongerShows f t → longer_finding t ≡ f
  longer_shows t Kept h = ap longer_finding h.1
  longer_shows t Either h = ap longer_finding h
  longer_shows t Broken h = absurd h
  longer_shows t Nothing h = absurd h

  longer_is : (t : Result Reply MsgFault) (f : Finding) → f ≢ Nothing → Is (longer_finding t) f (LongerShows f t)
  longer_is t f some = record { means = longer_means t f some; shows = longer_shows t f }

  -- a test of all records fails at one of them
  fails : (b c : Bool) → (b && c) ≡ false → (b ≡ false) ⊎ (c ≡ false)
  fails true c e = inr e
  fails false c e = inl refl

  neither : (b c : Bool) → (b || c) ≡ false → (b ≡ false) × (c ≡ false)
  neither true c e = absurd (false≢true (sym e))
  neither false c e = (refl, e)

  above : (m n : ℕ) → nat_lt m n ≡ false → n ≤ m
  above m n e = grind (arith, e)

  not_below : (m n : ℕ) → n ≤ m → nat_lt m n ≡ false
  not_below m n h = grind (arith, h)

  differs : (m n : ℕ) → eqb m n ≡ false → m ≢ n
  differs m n e = says_no (eqb m n) (m ≡ n) (eqb_says m n) e

  outputs_beyond : (count : ℕ) (rs : List OutputRecord) → are_outputs count rs ≡ false → OutputsBeyond count rs
  outputs_beyond count [] e = absurd (false≢true (sym e))
  outputs_beyond count (r ∷ rs) e = elim (fails (nat_lt r.output count || eqb r.control 0) (are_outputs count rs) e) [
    | inl here ↦ let at = neither (nat_lt r.output count) (eqb r.control 0) here in inl (above r.output count at.0, differs r.control 0 at.1)
    | inr later ↦ inr (outputs_beyond count rs later)
  ]

  and_left_false : (b c : Bool) → b ≡ false → (b && c) ≡ false
  and_left_false b c e = ap (λ d. d && c) e

  and_right_false : (b c : Bool) → c ≡ false → (b && c) ≡ false
  and_right_false true c e = e
  and_right_false false c e = refl

  both_false : (b c : Bool) → b ≡ false → c ≡ false → (b || c) ≡ false
  both_false true c e f = absurd (false≢true (sym e))
  both_false false c e f = f

  beyond_outputs : (count : ℕ) (rs : List OutputRecord) → OutputsBeyond count rs → are_outputs count rs ≡ false
  beyond_outputs count [] h = absurd h
  beyond_outputs count (r ∷ rs) (inl here) =
      and_left_false (nat_lt r.output count || eqb r.control 0) (are_outputs count rs)
      (both_false (nat_lt r.output count) (eqb r.control 0) (not_below r.output count here.0) (ne_eqb r.control 0 here.1))
  beyond_outputs count (r ∷ rs) (inr later) =
      and_right_false (nat_lt r.output count || eqb r.control 0) (are_outputs count rs) (beyond_outputs count rs later)

  leds_beyond : (count : ℕ) (rs : List LedRecord) → are_leds count rs ≡ false → LedsBeyond count rs
  leds_beyond count [] e = absurd (false≢true (sym e))
  leds_beyond count (r ∷ rs) e = elim (fails (nat_lt r.led count || (eqb r.temporary_control 0 && eqb r.permanent_control 0)) (are_leds count rs) e) [
    | inl here ↦
        let at = neither (nat_lt r.led count) (eqb r.temporary_control 0 && eqb r.permanent_control 0) here in
        elim (fails (eqb r.temporary_control 0) (eqb r.permanent_control 0) at.1) [
          | inl temporary ↦ inl (above r.led count at.0, inl (differs r.temporary_control 0 temporary))
          | inr permanent ↦ inl (above r.led count at.0, inr (differs r.permanent_control 0 permanent))
        ]
    | inr later ↦ inr (leds_beyond count rs later)
  ]

  beyond_leds : (count : ℕ) (rs : List LedRecord) → LedsBeyond count rs → are_leds count rs ≡ false
  beyond_leds count [] h = absurd h
  beyond_leds count (r ∷ rs) (inl (led, inl temporary)) =
      and_left_false (nat_lt r.led count || (eqb r.temporary_control 0 && eqb r.permanent_control 0)) (are_leds count rs)
      (both_false (nat_lt r.led count) (eqb r.temporary_control 0 && eqb r.permanent_control 0) (not_below r.led count led)
      (and_left_false (eqb r.temporary_control 0) (eqb r.permanent_control 0) (ne_eqb r.temporary_control 0 temporary)))
  beyond_leds count (r ∷ rs) (inl (led, inr permanent)) =
      and_left_false (nat_lt r.led count || (eqb r.temporary_control 0 && eqb r.permanent_control 0)) (are_leds count rs)
      (both_false (nat_lt r.led count) (eqb r.temporary_control 0 && eqb r.permanent_control 0) (not_below r.led count led)
      (and_right_false (eqb r.temporary_control 0) (eqb r.permanent_control 0) (ne_eqb r.permanent_control 0 permanent)))
  beyond_leds count (r ∷ rs) (inr later) =
      and_right_false (nat_lt r.led count || (eqb r.temporary_control 0 && eqb r.permanent_control 0)) (are_leds count rs) (beyond_leds count rs later)

  -- where a test fails
  unless_means : (b : Bool) (x f : Finding) → f ≢ Nothing → cond b Nothing x ≡ f → (b ≡ false) × (x ≡ f)
  unless_means true x f some e = absurd (some (sym e))
  unless_means false x f some e = (refl, e)

  output_means : (o : Option ℕ) (records : List OutputRecord) (t : Result Reply MsgFault) (f : Finding) → (known address past).outputs ≡ o → f ≢ Nothing
      → outputs_finding o records t ≡ f → OutputShows address f past (Ok (command.Output records)) t
  output_means None records t f is some e = absurd (some (sym e))
  output_means (Some count) records t f is some e =
      let at = unless_means (are_outputs count records) (refused_finding t) f some e in
      let told = (tells_count address past 2 (λ c. c.outputs) refl (λ bytes. refl)).means count is in
      (records, told.0, count, refl, told.1, outputs_beyond count records at.0, (refused_is t f some).means at.1)

  led_means : (o : Option ℕ) (records : List LedRecord) (t : Result Reply MsgFault) (f : Finding) → (known address past).leds ≡ o → f ≢ Nothing
      → leds_finding o records t ≡ f → LedShows address f past (Ok (command.Led records)) t
  led_means None records t f is some e = absurd (some (sym e))
  led_means (Some count) records t f is some e =
      let at = unless_means (are_leds count records) (refused_finding t) f some e in
      let told = (tells_count address past 4 (λ c. c.leds) refl (λ bytes. refl)).means count is in
      (records, told.0, count, refl, told.1, leds_beyond count records at.0, (refused_is t f some).means at.1)

  -- ---- a display

  room_by : (level : ℕ) (a b c : Bool) → level ≢ 0 → eqb level 1 ≡ a → eqb level 2 ≡ b → eqb level 3 ≡ c
      → HasRoom level (cond a 16 (cond b 32 (cond c 64 255)))
  room_by level true b c some one two three = inl (eqb-true level 1 one, refl)
  room_by level false true c some one two three = inr (inl (eqb-true level 2 two, refl))
  room_by level false false true some one two three = inr (inr (inl (eqb-true level 3 three, refl)))
  room_by level false false false some one two three =
      inr (inr (inr (higher level some (differs level 1 one) (differs level 2 two) (differs level 3 three), refl)))
    where
      higher : (n : ℕ) → n ≢ 0 → n ≢ 1 → n ≢ 2 → n ≢ 3 → 3 < n
      higher n a b c d = omega (arith, a, b, c, d)

  has_room : (level : ℕ) → level ≢ 0 → HasRoom level (text_room level)
  has_room level some = room_by level (eqb level 1) (eqb level 2) (eqb level 3) some refl refl refl

  room_is : (level room : ℕ) → HasRoom level room → room ≡ text_room level
  room_is level room (inl h) = h.1 ∙ sym (ap text_room h.0)
  room_is level room (inr (inl h)) = h.1 ∙ sym (ap text_room h.0)
  room_is level room (inr (inr (inl h))) = h.1 ∙ sym (ap text_room h.0)
  room_is level room (inr (inr (inr h))) = h.1 ∙ sym (largest level h.0)
    where
      largest : (n : ℕ) → 3 < n → text_room n ≡ 255
      largest n h = rw (ne_eqb n 1 (λ e. absurd (omega (arith, e, h))), ne_eqb n 2 (λ e. absurd (omega (arith, e, h))), ne_eqb n 3 (λ e. absurd (omega (arith, e, h)))) refl

  has_level : (level room : ℕ) → HasRoom level room → level ≢ 0
  has_level level room (inl h) e = cc (sym e ∙ h.0)
  has_level level room (inr (inl h)) e = cc (sym e ∙ h.0)
  has_level level room (inr (inr (inl h))) e = cc (sym e ∙ h.0)
  has_level level room (inr (inr (inr h))) e = absurd (omega (arith, e, h.0))

  display : HasLevel address past 6 (known address past).text
  display = tells_level address past 6 (λ c. c.text) refl (λ bytes. refl)

  text_means : (o : Option ℕ) (text : TextValue) (t : Result Reply MsgFault) (f : Finding) → (known address past).text ≡ o → f ≢ Nothing
      → text_finding o (length text.characters.items) t ≡ f → TextShows address f past (Ok (command.Text text)) t
  text_means None text t f is some e = absurd (some (sym e))
  text_means (Some level) text t f is some e =
      let told = display.0 level is in
      by (eqb level 0) refl e told.0 told.1
    where
      longer : (b : Bool) → nat_lt (text_room level) (length text.characters.items) ≡ b → eqb level 0 ≡ false → cond b (longer_finding t) Nothing ≡ f
          → (room : ℕ) × HasRoom level room × (room < length text.characters.items) × LongerShows f t
      longer true is above e = (text_room level, has_room level (differs level 0 above), ltb-true (text_room level) (length text.characters.items) is, (longer_is t f some).means e)
      longer false is above e = absurd (some (sym e))

      by : (b : Bool) → eqb level 0 ≡ b → cond b (refused_finding t) (cond (nat_lt (text_room level) (length text.characters.items)) (longer_finding t) Nothing) ≡ f
          → (n : ℕ) → Tells address past 6 level n → TextShows address f past (Ok (command.Text text)) t
      by true zero e n told = (text, level, n, refl, told, inl (eqb-true level 0 zero, (refused_is t f some).means e))
      by false above e n told =
          (text, level, n, refl, told, inr (longer (nat_lt (text_room level) (length text.characters.items)) refl above e))

  output_shows : (records : List OutputRecord) (t : Result Reply MsgFault) (f : Finding) → OutputShows address f past (Ok (command.Output records)) t
      → outputs_finding (known address past).outputs records t ≡ f
  output_shows records t f h =
      let is : outputs_finding (known address past).outputs h.0 t ≡ f =
      ap (λ o. outputs_finding o h.0 t) ((tells_count address past 2 (λ c. c.outputs) refl (λ bytes. refl)).shows h.1 h.2 h.4)
      ∙ cond-false (are_outputs h.2 h.0) Nothing (refused_finding t) (beyond_outputs h.2 h.0 h.5) ∙ refused_shows t f h.6 in
      ap (λ rs. outputs_finding (known address past).outputs rs t) (same records h.0 h.3) ∙ is
    where
      same : (rs ss : List OutputRecord) → (let r : Result Command MsgFault = Ok (command.Output rs) in r) ≡ Ok (command.Output ss) → rs ≡ ss
      same rs ss e = cc

  led_shows : (records : List LedRecord) (t : Result Reply MsgFault) (f : Finding) → LedShows address f past (Ok (command.Led records)) t
      → leds_finding (known address past).leds records t ≡ f
  led_shows records t f h =
      let is : leds_finding (known address past).leds h.0 t ≡ f =
      ap (λ o. leds_finding o h.0 t) ((tells_count address past 4 (λ c. c.leds) refl (λ bytes. refl)).shows h.1 h.2 h.4)
      ∙ cond-false (are_leds h.2 h.0) Nothing (refused_finding t) (beyond_leds h.2 h.0 h.5) ∙ refused_shows t f h.6 in
      ap (λ rs. leds_finding (known address past).leds rs t) (same records h.0 h.3) ∙ is
    where
      same : (rs ss : List LedRecord) → (let r : Result Command MsgFault = Ok (command.Led rs) in r) ≡ Ok (command.Led ss) → rs ≡ ss
      same rs ss e = cc

  text_at : (level characters : ℕ) (t : Result Reply MsgFault) (f : Finding)
      → ((level ≡ 0) × RefusedShows f t) ⊎ ((room : ℕ) × HasRoom level room × (room < characters) × LongerShows f t)
      → text_finding (Some level) characters t ≡ f
  text_at level characters t f (inl h) =
      cond-true (eqb level 0) (refused_finding t) (cond (nat_lt (text_room level) characters) (longer_finding t) Nothing) (eq-eqb level 0 h.0)
      ∙ refused_shows t f h.1
  text_at level characters t f (inr h) =
      cond-false (eqb level 0) (refused_finding t) (cond (nat_lt (text_room level) characters) (longer_finding t) Nothing)
      (ne_eqb level 0 (has_level level h.0 h.1))
      ∙ cond-true (nat_lt (text_room level) characters) (longer_finding t) Nothing
      (lt-ltb (text_room level) characters (subst (λ (r : ℕ). r < characters) (room_is level h.0 h.1) h.2)) ∙ longer_shows t f h.3

  text_shows : (text : TextValue) (t : Result Reply MsgFault) (f : Finding) → TextShows address f past (Ok (command.Text text)) t
      → text_finding (known address past).text (length text.characters.items) t ≡ f
  text_shows text t f h =
      ap (λ (x : TextValue). text_finding (known address past).text (length x.characters.items) t) (same text h.0 h.3)
      ∙ ap (λ o. text_finding o (length h.0.characters.items) t) (display.1 h.1 h.2 h.4)
      ∙ text_at h.1 (length h.0.characters.items) t f h.5
    where
      same : (x y : TextValue) → (let r : Result Command MsgFault = Ok (command.Text x) in r) ≡ Ok (command.Text y) → x ≡ y
      same x y e = cc

  pub beyond_is : (r : Result Command MsgFault) (t : Result Reply MsgFault) (f : Finding) → f ≢ Nothing
      → Is (beyond_finding (known address past) r t) f (BeyondShows address f past r t)
  beyond_is (Ok (command.Output records)) t f some = record {
    means = λ e. inl (output_means (known address past).outputs records t f refl some e);
    shows = λ h. elim h [
      | inl x ↦ output_shows records t f x
      | inr (inl x) ↦ absurd (cc (x.3))
      | inr (inr x) ↦ absurd (cc (x.3))
    ];
  }
  beyond_is (Ok (command.Led records)) t f some = record {
    means = λ e. inr (inl (led_means (known address past).leds records t f refl some e));
    shows = λ h. elim h [
      | inl x ↦ absurd (cc (x.3))
      | inr (inl x) ↦ led_shows records t f x
      | inr (inr x) ↦ absurd (cc (x.3))
    ];
  }
  beyond_is (Ok (command.Text text)) t f some = record {
    means = λ e. inr (inr (text_means (known address past).text text t f refl some e));
    shows = λ h. elim h [
      | inl x ↦ absurd (cc (x.3))
      | inr (inl x) ↦ absurd (cc (x.3))
      | inr (inr x) ↦ text_shows text t f x
    ];
  }
  beyond_is r t f some = record {
    means = λ e. absurd (some (sym e));
    shows = λ h. elim h [
      | inl x ↦ absurd (cc (x.3))
      | inr (inl x) ↦ absurd (cc (x.3))
      | inr (inr x) ↦ absurd (cc (x.3))
    ];
  }
