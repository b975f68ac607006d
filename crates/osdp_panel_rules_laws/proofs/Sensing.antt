-- What was said to a packet is told by all that went over the line since.
use Rattle.osdp_panel_rules_laws.proofs.Common.{◌≡◌, [], ◌∷◌, ◌++◌, Option, Some, None, refl, sym, subst, ap, ◌∙◌, Packet, said_first, says, Said, Silence, Noise, Astray, Busy, Damage, Refusal, Answer, Event, Line, came, device, said, Each, FirstSaid, IsSilent, LastSaid, Says, SaysNothing, WasSaid}
use Rattle.osdp_panel_rules_laws.proofs.Saying.{IsTold, astray_says, is_told, says_astray, says_is}

-- ---- lists

pub each_split : (P : Event → Type 0) (xs ys : Line) → Each P (xs ++ ys) → Each P xs × Each P ys
each_split P [] ys each = (tt, each)
each_split P (x ∷ xs) ys each =
    let rest = each_split P xs ys each.1 in
    ((each.0, rest.0), rest.1)

pub each_map : (P Q : Event → Type 0) → ((e : Event) → P e → Q e) → (xs : Line) → Each P xs → Each Q xs
each_map P Q more [] each = tt
each_map P Q more (x ∷ xs) each = (more x each.0, each_map P Q more xs each.1)

-- ---- what was said, from the first on

abbrev pub sense : Packet → Line → Said
sense p [] = Silence
sense p (device address ∷ earlier) = sense p earlier
sense p (came number moment sent ∷ earlier) = sense p earlier
sense p (said None ∷ earlier) = said_first (sense p earlier) Noise
sense p (said (Some r) ∷ earlier) = said_first (sense p earlier) (says p r)

abbrev IsQuiet : Said → Type 0
IsQuiet Silence = Unit {0}
IsQuiet Noise = Unit {0}
IsQuiet Astray = Unit {0}
IsQuiet _ = ⊥

abbrev IsLoud : Said → Type 0
IsLoud Silence = ⊥
IsLoud Noise = ⊥
IsLoud Astray = ⊥
IsLoud _ = Unit {0}

quiet_first : (first s : Said) → IsQuiet first → said_first first s ≡ s
quiet_first Silence s quiet = refl
quiet_first Noise s quiet = refl
quiet_first Astray s quiet = refl
quiet_first first s quiet = absurd quiet

loud_first : (first s : Said) → IsLoud first → said_first first s ≡ first
loud_first Silence s loud = absurd loud
loud_first Noise s loud = absurd loud
loud_first Astray s loud = absurd loud
loud_first first s loud = refl

silent_past : (p : Packet) (later earlier : Line) → Each IsSilent later → sense p (later ++ earlier) ≡ sense p earlier
silent_past p [] earlier each = refl
silent_past p (device address ∷ later) earlier each = silent_past p later earlier each.1
silent_past p (came number moment sent ∷ later) earlier each = silent_past p later earlier each.1
silent_past p (said reply ∷ later) earlier each = absurd each.0

silent_all : (p : Packet) (since : Line) → Each IsSilent since → sense p since ≡ Silence
silent_all p [] each = refl
silent_all p (device address ∷ since) each = silent_all p since each.1
silent_all p (came number moment sent ∷ since) each = silent_all p since each.1
silent_all p (said reply ∷ since) each = absurd each.0

loud_past : (p : Packet) (later earlier : Line) → IsLoud (sense p earlier) → sense p (later ++ earlier) ≡ sense p earlier
loud_past p [] earlier loud = refl
loud_past p (device address ∷ later) earlier loud = loud_past p later earlier loud
loud_past p (came number moment sent ∷ later) earlier loud = loud_past p later earlier loud
loud_past p (said None ∷ later) earlier loud =
    ap (λ s. said_first s Noise) (loud_past p later earlier loud) ∙ loud_first (sense p earlier) Noise loud
loud_past p (said (Some r) ∷ later) earlier loud =
    ap (λ s. said_first s (says p r)) (loud_past p later earlier loud) ∙ loud_first (sense p earlier) (says p r) loud

quiet_nothing : (p : Packet) (line : Line) → Each (SaysNothing p) line → IsQuiet (sense p line)
quiet_nothing p [] each = tt
quiet_nothing p (device address ∷ line) each = quiet_nothing p line each.1
quiet_nothing p (came number moment sent ∷ line) each = quiet_nothing p line each.1
quiet_nothing p (said None ∷ line) each = subst IsQuiet (sym (quiet_first (sense p line) Noise (quiet_nothing p line each.1))) tt
quiet_nothing p (said (Some r) ∷ line) each =
    subst IsQuiet (sym (quiet_first (sense p line) (says p r) (quiet_nothing p line each.1) ∙ says_astray p r each.0)) tt

-- ---- what was said is known

last_noise : (p : Packet) (since : Line) → Each (SaysNothing p) since → LastSaid None since → sense p since ≡ Noise
last_noise p since each last =
    let parts = each_split (SaysNothing p) last.later (said None ∷ last.earlier) (subst (Each (SaysNothing p)) last.whole each) in
    ap (sense p) last.whole
    ∙ silent_past p last.later (said None ∷ last.earlier) last.silent
    ∙ quiet_first (sense p last.earlier) Noise (quiet_nothing p last.earlier parts.1.1)

last_astray : (p : Packet) (since : Line) (r : Packet) → Each (SaysNothing p) since → LastSaid (Some r) since → sense p since ≡ Astray
last_astray p since r each last =
    let parts = each_split (SaysNothing p) last.later (said (Some r) ∷ last.earlier) (subst (Each (SaysNothing p)) last.whole each) in
    ap (sense p) last.whole
    ∙ silent_past p last.later (said (Some r) ∷ last.earlier) last.silent
    ∙ quiet_first (sense p last.earlier) (says p r) (quiet_nothing p last.earlier parts.1.1)
    ∙ says_astray p r parts.1.0

first_said : (p : Packet) (since : Line) (s : Said) → IsLoud s → FirstSaid p since s → sense p since ≡ s
first_said p since s loud first =
    let here : sense p (said (Some first.reply) ∷ first.earlier) ≡ s =
    quiet_first (sense p first.earlier) (says p first.reply) (quiet_nothing p first.earlier first.nothing) ∙ says_is p first.reply s first.says in
    ap (sense p) first.whole
    ∙ loud_past p first.later (said (Some first.reply) ∷ first.earlier) (subst IsLoud (sym here) loud)
    ∙ here

pub was_said_sense : (p : Packet) (since : Line) (s : Said) → WasSaid p since s → sense p since ≡ s
was_said_sense p since Silence h = silent_all p since h
was_said_sense p since Noise h = last_noise p since h.0 h.1
was_said_sense p since Astray h = last_astray p since h.1 h.0 h.2
was_said_sense p since Busy h = first_said p since Busy tt h
was_said_sense p since Damage h = first_said p since Damage tt h
was_said_sense p since Refusal h = first_said p since Refusal tt h
was_said_sense p since Answer h = first_said p since Answer tt h

-- ---- what is known was said

silent_nothing : (p : Packet) (e : Event) → IsSilent e → SaysNothing p e
silent_nothing p (device address) silent = tt
silent_nothing p (came number moment sent) silent = tt
silent_nothing p (said reply) silent = absurd silent

first_later : (p : Packet) (e : Event) (since : Line) (s : Said) → FirstSaid p since s → FirstSaid p (e ∷ since) s
first_later p e since s h = record {
  later = e ∷ h.later;
  reply = h.reply;
  earlier = h.earlier;
  whole = ap (λ (l : Line). e ∷ l) h.whole;
  says = h.says;
  nothing = h.nothing;
}

last_later : (e : Event) (since : Line) (reply : Option Packet) → IsSilent e → LastSaid reply since → LastSaid reply (e ∷ since)
last_later e since reply silent h = record {
  later = e ∷ h.later;
  earlier = h.earlier;
  whole = ap (λ (l : Line). e ∷ l) h.whole;
  silent = (silent, h.silent);
}

silent_later : (p : Packet) (e : Event) (since : Line) (s : Said) → IsSilent e → WasSaid p since s → WasSaid p (e ∷ since) s
silent_later p e since Silence silent h = (silent, h)
silent_later p e since Noise silent h = ((silent_nothing p e silent, h.0), last_later e since None silent h.1)
silent_later p e since Astray silent h = ((silent_nothing p e silent, h.0), h.1, last_later e since (Some h.1) silent h.2)
silent_later p e since Busy silent h = first_later p e since Busy h
silent_later p e since Damage silent h = first_later p e since Damage h
silent_later p e since Refusal silent h = first_later p e since Refusal h
silent_later p e since Answer silent h = first_later p e since Answer h

-- nothing that speaks to the panel was said
nothing_yet : (p : Packet) (since : Line) (s : Said) → IsQuiet s → WasSaid p since s → Each (SaysNothing p) since
nothing_yet p since Silence quiet h = each_map IsSilent (SaysNothing p) (silent_nothing p) since h
nothing_yet p since Noise quiet h = h.0
nothing_yet p since Astray quiet h = h.0
nothing_yet p since s quiet h = absurd quiet

noise_last : (p : Packet) (since : Line) → Each (SaysNothing p) since → WasSaid p (said None ∷ since) Noise
noise_last p since nothing = ((tt, nothing), record { later = []; earlier = since; whole = refl; silent = tt })

noise_later : (p : Packet) (since : Line) (s : Said) → WasSaid p since s → WasSaid p (said None ∷ since) (said_first s Noise)
noise_later p since Silence h = noise_last p since (nothing_yet p since Silence tt h)
noise_later p since Noise h = noise_last p since h.0
noise_later p since Astray h = noise_last p since h.0
noise_later p since Busy h = first_later p (said None) since Busy h
noise_later p since Damage h = first_later p (said None) since Damage h
noise_later p since Refusal h = first_later p (said None) since Refusal h
noise_later p since Answer h = first_later p (said None) since Answer h

first_speaks : (p r : Packet) (since : Line) (s : Said) → Each (SaysNothing p) since → Says p r s → FirstSaid p (said (Some r) ∷ since) s
first_speaks p r since s nothing says = record { later = []; reply = r; earlier = since; whole = refl; says = says; nothing = nothing }

reply_last : (p r : Packet) (since : Line) (s : Said) → Each (SaysNothing p) since → says p r ≡ s → IsTold p r s → WasSaid p (said (Some r) ∷ since) s
reply_last p r since Silence nothing is told = absurd told
reply_last p r since Noise nothing is told = absurd told
reply_last p r since Astray nothing is told =
    ((astray_says p r is, nothing), r, record { later = []; earlier = since; whole = refl; silent = tt })
reply_last p r since Busy nothing is told = first_speaks p r since Busy nothing told
reply_last p r since Damage nothing is told = first_speaks p r since Damage nothing told
reply_last p r since Refusal nothing is told = first_speaks p r since Refusal nothing told
reply_last p r since Answer nothing is told = first_speaks p r since Answer nothing told

reply_later : (p r : Packet) (since : Line) (s : Said) → WasSaid p since s → WasSaid p (said (Some r) ∷ since) (said_first s (says p r))
reply_later p r since Silence h = reply_last p r since (says p r) (nothing_yet p since Silence tt h) refl (is_told p r)
reply_later p r since Noise h = reply_last p r since (says p r) h.0 refl (is_told p r)
reply_later p r since Astray h = reply_last p r since (says p r) h.0 refl (is_told p r)
reply_later p r since Busy h = first_later p (said (Some r)) since Busy h
reply_later p r since Damage h = first_later p (said (Some r)) since Damage h
reply_later p r since Refusal h = first_later p (said (Some r)) since Refusal h
reply_later p r since Answer h = first_later p (said (Some r)) since Answer h

pub sense_was_said : (p : Packet) (since : Line) → WasSaid p since (sense p since)
sense_was_said p [] = tt
sense_was_said p (device address ∷ since) = silent_later p (device address) since (sense p since) tt (sense_was_said p since)
sense_was_said p (came number moment sent ∷ since) = silent_later p (came number moment sent) since (sense p since) tt (sense_was_said p since)
sense_was_said p (said None ∷ since) = noise_later p since (sense p since) (sense_was_said p since)
sense_was_said p (said (Some r) ∷ since) = reply_later p r since (sense p since) (sense_was_said p since)
