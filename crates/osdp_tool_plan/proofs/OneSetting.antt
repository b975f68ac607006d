-- A name and its value say one setting at most.
use Rattle.osdp_tool_plan.proofs.Common.{◌≡◌, ◌∙◌, ◌&&◌, ◌==◌, ◌<◌, ◌^◌, ℕ, Bool, true, false, if◌then◌else◌, List, [], ◌∷◌, codes, refl, sym, ap, subst, arith, Give, SettingFits, setting_words, AllStandFor, PlanSetting, Check, Readers, Rate, Longest, Answer, Hold, Late, Orders, ReplyWait, PollInterval, Sends, BusyWait, BusyLimit, QuietWait, entry}
use Rattle.std.specs.Fmt.{decimal}
use Rattle.std.specs.Str.Parse.{digits_value}
use Rattle.std.proofs.lemmas.Fmt.{decimal_is_IsNumeral}
use Rattle.osdp_frame.specs.declared.check_kind.CheckKind.TheVariants.{Sum, Crc}

abbrev same : List ℕ → List ℕ → Bool
same [] [] = true
same [] (b ∷ ys) = false
same (a ∷ xs) [] = false
same (a ∷ xs) (b ∷ ys) = a == b && same xs ys

-- the setting of this name with this value
abbrev read : List ℕ → List ℕ → PlanSetting
read n v =
    if same n (codes "check") then Check (if same v (codes "sum") then Sum else Crc)
    else if same n (codes "readers") then Readers (digits_value 10 v)
    else if same n (codes "rate") then Rate (digits_value 10 v)
    else if same n (codes "longest") then Longest (digits_value 10 v)
    else if same n (codes "answer") then Answer (digits_value 10 v)
    else if same n (codes "hold") then Hold (digits_value 10 v)
    else if same n (codes "late") then Late (digits_value 10 v)
    else if same n (codes "orders") then Orders (digits_value 10 v)
    else if same n (codes "reply-wait") then ReplyWait (digits_value 10 v)
    else if same n (codes "poll-interval") then PollInterval (digits_value 10 v)
    else if same n (codes "sends") then Sends (digits_value 10 v)
    else if same n (codes "busy-wait") then BusyWait (digits_value 10 v)
    else if same n (codes "busy-limit") then BusyLimit (digits_value 10 v)
    else QuietWait (digits_value 10 v)

-- a number's digits have its value
digits : (n : ℕ) (v : List ℕ) → n < 2 ^ 64 → v ≡ decimal n → digits_value 10 v ≡ n
digits n v small e = ap (digits_value 10) e ∙ (decimal_is_IsNumeral n small).1

is_read : (s : PlanSetting) (n v : List ℕ) → SettingFits entry s → AllStandFor (setting_words entry s) (n ∷ v ∷ []) → read n v ≡ s
is_read (Check Sum) n v fits h = rw (h.0, h.1.0) refl
is_read (Check Crc) n v fits h = rw (h.0, h.1.0) refl
is_read (Readers k) n v fits h = subst (λ (m : List ℕ). read m v ≡ Readers k) (sym h.0) (ap Readers (digits k v (omega (arith, fits)) h.1.0))
is_read (Rate k) n v fits h = subst (λ (m : List ℕ). read m v ≡ Rate k) (sym h.0) (ap Rate (digits k v (omega (arith, fits)) h.1.0))
is_read (Longest k) n v fits h = subst (λ (m : List ℕ). read m v ≡ Longest k) (sym h.0) (ap Longest (digits k v (omega (arith, fits)) h.1.0))
is_read (Answer k) n v fits h = subst (λ (m : List ℕ). read m v ≡ Answer k) (sym h.0) (ap Answer (digits k v (omega (arith, fits)) h.1.0))
is_read (Hold k) n v fits h = subst (λ (m : List ℕ). read m v ≡ Hold k) (sym h.0) (ap Hold (digits k v (omega (arith, fits)) h.1.0))
is_read (Late k) n v fits h = subst (λ (m : List ℕ). read m v ≡ Late k) (sym h.0) (ap Late (digits k v (omega (arith, fits)) h.1.0))
is_read (Orders k) n v fits h = subst (λ (m : List ℕ). read m v ≡ Orders k) (sym h.0) (ap Orders (digits k v (omega (arith, fits)) h.1.0))
is_read (ReplyWait k) n v fits h = subst (λ (m : List ℕ). read m v ≡ ReplyWait k) (sym h.0) (ap ReplyWait (digits k v (omega (arith, fits)) h.1.0))
is_read (PollInterval k) n v fits h = subst (λ (m : List ℕ). read m v ≡ PollInterval k) (sym h.0) (ap PollInterval (digits k v (omega (arith, fits)) h.1.0))
is_read (Sends k) n v fits h = subst (λ (m : List ℕ). read m v ≡ Sends k) (sym h.0) (ap Sends (digits k v (omega (arith, fits)) h.1.0))
is_read (BusyWait k) n v fits h = subst (λ (m : List ℕ). read m v ≡ BusyWait k) (sym h.0) (ap BusyWait (digits k v (omega (arith, fits)) h.1.0))
is_read (BusyLimit k) n v fits h = subst (λ (m : List ℕ). read m v ≡ BusyLimit k) (sym h.0) (ap BusyLimit (digits k v (omega (arith, fits)) h.1.0))
is_read (QuietWait k) n v fits h = subst (λ (m : List ℕ). read m v ≡ QuietWait k) (sym h.0) (ap QuietWait (digits k v (omega (arith, fits)) h.1.0))

-- words are settings in one way at most
pub given_once : (given : List (List ℕ)) (xs ys : List PlanSetting) → Give (setting_words entry) (SettingFits entry) given xs
    → Give (setting_words entry) (SettingFits entry) given ys → xs ≡ ys
given_once [] [] [] g h = refl
given_once [] [] (b ∷ ys) g h = absurd h.stand
given_once [] (a ∷ xs) ys g h = absurd g.stand
given_once (n ∷ []) [] ys g h = absurd g.stand
given_once (n ∷ []) (a ∷ xs) ys g h = absurd g.stand.1
given_once (n ∷ v ∷ given) [] ys g h = absurd g.stand
given_once (n ∷ v ∷ given) (a ∷ xs) [] g h = absurd h.stand
given_once (n ∷ v ∷ given) (a ∷ xs) (b ∷ ys) g h =
    let first : a ≡ b = sym (is_read a n v g.fit.0 (g.stand.0, (g.stand.1.0, tt))) ∙ is_read b n v h.fit.0 (h.stand.0, (h.stand.1.0, tt)) in
    let rest = given_once given xs ys (record { stand = g.stand.1.1; fit = g.fit.1 }) (record { stand = h.stand.1.1; fit = h.fit.1 }) in
    ap (λ (s : PlanSetting). s ∷ xs) first ∙ ap (λ (l : List PlanSetting). b ∷ l) rest
