-- The entries of a PDCAP, by its bytes.
use Rattle.osdp_rules_laws.proofs.Common.{◌≡◌, ◌≢◌, inl, inr, ℕ, suc, Bool, true, false, cond, eqb, length, List, [], ◌∷◌, Option, Some, None, Ok, refl, sym, subst, ap, ◌∙◌, cond-true, cond-false, eqb-true, eq-eqb, ne_eqb, Packet, MsgFault, Reply, told}
use Rattle.std.proofs.Common.{◌/◌, arith}
use Rattle.std.specs.Option.{option_map}
use Rattle.osdp_msg.specs.Records.{records_at, records_from}
use Rattle.osdp_msg.specs.ReplyFields.{capability_at}
use Rattle.osdp_msg.specs.ReplyTable.{reply_at, reply_fault, reply_of}
use Rattle.osdp_msg.specs.Refusal.{unless_fault}
use Rattle.osdp_msg.specs.Values.{PdCapValue}
use Rattle.osdp_msg.specs.declared.capability.Capability.{Capability}
use Rattle.osdp_msg.specs.declared.reply.Reply.TheVariants as reply
use Rattle.osdp_rules.specs.Claims.{count_of, entry_of, level_of}
use Rattle.osdp_rules_laws.specs.Caps.{Entry}
use Rattle.osdp_rules_laws.specs.Terms.{code, data_of}

-- ---- three bytes each

pub triples : List ℕ → List Capability
triples (f ∷ l ∷ n ∷ more) = record { function = f; level = l; count = n } ∷ triples more
triples bytes = []

triples_three : (f l n : ℕ) (more : List ℕ) → triples (f ∷ l ∷ n ∷ more) ≡ record { function = f; level = l; count = n } ∷ triples more
unfolding triples
triples_three f l n more = refl

three_more : (f l n : ℕ) (more : List ℕ) → length (f ∷ l ∷ n ∷ more) / 3 ≡ suc (length more / 3)
three_more f l n more = omega arith

one_none : (f : ℕ) → length (f ∷ []) / 3 ≡ 0
one_none f = omega arith

two_none : (f l : ℕ) → length (f ∷ l ∷ []) / 3 ≡ 0
two_none f l = omega arith

pub records_are : (bytes : List ℕ) → records_at capability_at 3 bytes ≡ triples bytes
unfolding triples
records_are [] = refl
records_are (f ∷ []) = ap (λ k. records_from capability_at 3 k (f ∷ [])) (one_none f)
records_are (f ∷ l ∷ []) = ap (λ k. records_from capability_at 3 k (f ∷ l ∷ [])) (two_none f l)
records_are (f ∷ l ∷ n ∷ more) =
    ap (λ k. records_from capability_at 3 k (f ∷ l ∷ n ∷ more)) (three_more f l n more)
    ∙ ap (λ cs. record { function = f; level = l; count = n } ∷ cs) (records_are more)

-- ---- a reply that is a PDCAP

skip : (b : Bool) (x y : Reply) (caps : PdCapValue) → (x ≡ reply.PdCap caps → ⊥) → cond b x y ≡ reply.PdCap caps → y ≡ reply.PdCap caps
skip true x y caps other e = absurd (other e)
skip false x y caps other e = e

reply_caps : (n : ℕ) (bytes : List ℕ) (caps : PdCapValue) → reply_at n bytes ≡ reply.PdCap caps → caps.capabilities.items ≡ records_at capability_at 3 bytes
unfolding reply_at
reply_caps n bytes caps e =
    let past_nak = skip (eqb n 0x41) _ _ caps (λ f. cc f) e in
    let past_id = skip (eqb n 0x45) _ _ caps (λ f. cc f) past_nak in
    here (eqb n 0x46) _ past_id
    (λ later.
    let a = skip (eqb n 0x48) _ _ caps (λ f. cc f) later in
    let b = skip (eqb n 0x49) _ _ caps (λ f. cc f) a in
    let c = skip (eqb n 0x4A) _ _ caps (λ f. cc f) b in
    let d = skip (eqb n 0x4B) _ _ caps (λ f. cc f) c in
    let g = skip (eqb n 0x50) _ _ caps (λ f. cc f) d in
    let h = skip (eqb n 0x51) _ _ caps (λ f. cc f) g in
    let i = skip (eqb n 0x53) _ _ caps (λ f. cc f) h in
    let j = skip (eqb n 0x54) _ _ caps (λ f. cc f) i in
    let k = skip (eqb n 0x79) _ _ caps (λ f. cc f) j in
    let l = skip (eqb n 0x90) _ _ caps (λ f. cc f) k in
    absurd (cc l))
  where
    here : (b : Bool) (y : Reply)
        → cond b (reply.PdCap (record { capabilities = record { items = records_at capability_at 3 bytes } })) y ≡ reply.PdCap caps
        → (y ≡ reply.PdCap caps → caps.capabilities.items ≡ records_at capability_at 3 bytes)
        → caps.capabilities.items ≡ records_at capability_at 3 bytes
    here true y e then = is_caps caps (records_at capability_at 3 bytes) e
      where
        same_caps : (x y : PdCapValue) → reply.PdCap x ≡ reply.PdCap y → x ≡ y
        same_caps x y e = cc

        is_caps : (caps : PdCapValue) (cs : List Capability) → reply.PdCap (record { capabilities = record { items = cs } }) ≡ reply.PdCap caps → caps.capabilities.items ≡ cs
        is_caps caps cs e = sym (ap (λ (v : PdCapValue). v.capabilities.items) (same_caps (record { capabilities = record { items = cs } }) caps e))
    here false y e then = then e

read_is : (o : Option MsgFault) (x y : Reply) → unless_fault o x ≡ Ok y → x ≡ y
read_is None x y e = cc
read_is (Some fault) x y e = absurd (cc e)

caps_read : (n : ℕ) (bytes : List ℕ) (caps : PdCapValue) → reply_of n bytes ≡ Ok (reply.PdCap caps) → caps.capabilities.items ≡ triples bytes
unfolding reply_of
caps_read n bytes caps e =
    reply_caps n bytes caps (read_is (reply_fault n bytes) (reply_at n bytes) (reply.PdCap caps) e) ∙ records_are bytes

pub caps_told : (a : Packet) (caps : PdCapValue) → told a ≡ Ok (reply.PdCap caps) → caps.capabilities.items ≡ triples (data_of a)
caps_told a caps e = caps_read (code a) (data_of a) caps e

-- ---- the first entry of a function

abbrev pub capability : ℕ → ℕ → ℕ → Capability
capability f l n = record { function = f; level = l; count = n }

entry_is : (f l n : ℕ) (bytes : List ℕ) → Entry f l n bytes → entry_of f (triples bytes) ≡ Some (capability f l n)
unfolding triples
entry_is f l n [] e = absurd e
entry_is f l n (g ∷ []) e = absurd e
entry_is f l n (g ∷ m ∷ []) e = absurd e
entry_is f l n (g ∷ m ∷ k ∷ more) (inl is) =
    cond-true (eqb g f) (Some (capability g m k)) (entry_of f (triples more)) (eq-eqb g f is.0)
    ∙ rw (is.0, is.1, is.2) refl
entry_is f l n (g ∷ m ∷ k ∷ more) (inr later) =
    cond-false (eqb g f) (Some (capability g m k)) (entry_of f (triples more)) (ne_eqb g f later.0) ∙ entry_is f l n more later.1

entry_back : (f : ℕ) (c : Capability) (bytes : List ℕ) → entry_of f (triples bytes) ≡ Some c → Entry f c.level c.count bytes
unfolding triples
entry_back f c [] e = cc e
entry_back f c (g ∷ []) e = cc e
entry_back f c (g ∷ m ∷ []) e = cc e
entry_back f c (g ∷ m ∷ k ∷ more) e = by (eqb g f) refl e (entry_back f c more)
  where
    by : (b : Bool) → eqb g f ≡ b → cond b (Some (capability g m k)) (entry_of f (triples more)) ≡ Some c
        → (entry_of f (triples more) ≡ Some c → Entry f c.level c.count more) → Entry f c.level c.count (g ∷ m ∷ k ∷ more)
    by true same is then = inl (eqb-true g f same, level_at, count_at)
      where
        level_at : m ≡ c.level
        level_at = ap (λ d. level_by m d) is
          where
            level_by : ℕ → Option Capability → ℕ
            level_by n None = n
            level_by n (Some d) = d.level

        count_at : k ≡ c.count
        count_at = ap (λ d. count_by k d) is
          where
            count_by : ℕ → Option Capability → ℕ
            count_by n None = n
            count_by n (Some d) = d.count
    by false other is then = inr (not_same, then is)
      where
        not_same : g ≢ f
        not_same e = absurd (cc (sym other ∙ eq-eqb g f e))

-- by its count, and by its level
count_mapped : (o : Option Capability) (n : ℕ) → option_map (λ (c : Capability). c.count) o ≡ Some n → (c : Capability) × (o ≡ Some c) × (c.count ≡ n)
count_mapped None n e = absurd (cc e)
count_mapped (Some c) n e = (c, refl, cc)

level_mapped : (o : Option Capability) (n : ℕ) → option_map (λ (c : Capability). c.level) o ≡ Some n → (c : Capability) × (o ≡ Some c) × (c.level ≡ n)
level_mapped None n e = absurd (cc e)
level_mapped (Some c) n e = (c, refl, cc)

pub count_entry : (f n : ℕ) (bytes : List ℕ) → count_of f (triples bytes) ≡ Some n → (l : ℕ) × Entry f l n bytes
count_entry f n bytes e =
    let c = count_mapped (entry_of f (triples bytes)) n e in
    (c.0.level, subst (λ m. Entry f c.0.level m bytes) c.2 (entry_back f c.0 bytes c.1))

pub entry_count : (f l n : ℕ) (bytes : List ℕ) → Entry f l n bytes → count_of f (triples bytes) ≡ Some n
entry_count f l n bytes e = ap (λ o. option_map (λ (c : Capability). c.count) o) (entry_is f l n bytes e)

pub level_entry : (f l : ℕ) (bytes : List ℕ) → level_of f (triples bytes) ≡ Some l → (n : ℕ) × Entry f l n bytes
level_entry f l bytes e =
    let c = level_mapped (entry_of f (triples bytes)) l e in
    (c.0.count, subst (λ m. Entry f m c.0.count bytes) c.2 (entry_back f c.0 bytes c.1))

pub entry_level : (f l n : ℕ) (bytes : List ℕ) → Entry f l n bytes → level_of f (triples bytes) ≡ Some l
entry_level f l n bytes e = ap (λ o. option_map (λ (c : Capability). c.level) o) (entry_is f l n bytes e)
