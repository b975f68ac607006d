-- Words are refused for one thing at most.
use Rattle.osdp_tool_plan.proofs.Common.{◌≡◌, ◌∙◌, ℕ, List, [], ◌∷◌, ◌++◌, Some, None, Result, Ok, Err, inl, inr, refl, sym, ap, subst, IfErr, TooShort, Plan, HasOneJudgement, IsLongEnough, Judges, some_same, Give, SettingFits, setting_words, AllStandFor, PlanSetting, Plans, PlansNone, RefusesPlan, RefusesWords, AreSameRefusal, RefusesOnce, ArePlan, defaults, entry, put}
use Rattle.osdp_plan.specs.declared.judging.TooShort.TheVariants as short
use Rattle.osdp_settings.specs.Wrong.{IsNoSetting, IsTold, LacksRoom, LacksValue, Told, told_by}
use Rattle.osdp_tool_plan.specs.declared.command.WrongPlan.{WrongPlan}
use Rattle.osdp_tool_plan.specs.declared.command.WrongPlan.TheVariants.{Setting, PacketPasses, AnswerComes, LineIsQuiet}
use Rattle.osdp_tool_plan.proofs.OneLine.{none_short, one_plan}
use Rattle.osdp_tool_plan.proofs.Ranges.{are_in_range}

abbrev Gives : List (List ℕ) → List PlanSetting → Type 0
Gives given settings = Give (setting_words entry) (SettingFits entry) given settings

abbrev IsToldOf : List (List ℕ) → Told → Type 0
IsToldOf given told = IsTold (setting_words entry) (SettingFits entry) put defaults given told

-- words whose first name with its value is no setting
abbrev IsStuck : List (List ℕ) → Type 0
IsStuck [] = ⊥
IsStuck (name ∷ []) = Unit {0}
IsStuck (name ∷ value ∷ rest) = (s : PlanSetting) → SettingFits entry s → AllStandFor (setting_words entry s) (name ∷ value ∷ []) → ⊥

-- after settings such words are none
stuck_none : (first left : List (List ℕ)) (xs ys : List PlanSetting) → Gives first xs → IsStuck left → Gives (first ++ left) ys → ⊥
stuck_none [] [] xs ys g stuck h = stuck
stuck_none [] (n ∷ []) xs [] g stuck h = h.stand
stuck_none [] (n ∷ []) xs (y ∷ ys) g stuck h = h.stand.1
stuck_none [] (n ∷ v ∷ left) xs [] g stuck h = h.stand
stuck_none [] (n ∷ v ∷ left) xs (y ∷ ys) g stuck h = stuck y h.fit.0 (h.stand.0, (h.stand.1.0, tt))
stuck_none (n ∷ first) left [] ys g stuck h = g.stand
stuck_none (n ∷ []) left (x ∷ xs) ys g stuck h = g.stand.1
stuck_none (n ∷ v ∷ first) left (x ∷ xs) [] g stuck h = h.stand
stuck_none (n ∷ v ∷ first) left (x ∷ xs) (y ∷ ys) g stuck h =
    stuck_none first left xs ys (record { stand = g.stand.1.1; fit = g.fit.1 }) stuck (record { stand = h.stand.1.1; fit = h.fit.1 })

abbrev after_two : List (List ℕ) → List (List ℕ)
after_two (n ∷ v ∷ rest) = rest
after_two given = []

-- the first such words are the same ones
same_left : (first left other right : List (List ℕ)) (xs ys : List PlanSetting) → Gives first xs → Gives other ys → IsStuck left → IsStuck right
    → first ++ left ≡ other ++ right → left ≡ right
same_left [] left [] right xs ys g h stuck stays e = e
same_left [] left (n ∷ other) right xs [] g h stuck stays e = absurd h.stand
same_left [] left (n ∷ []) right xs (y ∷ ys) g h stuck stays e = absurd h.stand.1
same_left [] left (n ∷ v ∷ other) right xs (y ∷ ys) g h stuck stays e = absurd (subst IsStuck e stuck y h.fit.0 (h.stand.0, (h.stand.1.0, tt)))
same_left (n ∷ first) left other right [] ys g h stuck stays e = absurd g.stand
same_left (n ∷ []) left other right (x ∷ xs) ys g h stuck stays e = absurd g.stand.1
same_left (n ∷ v ∷ first) left [] right (x ∷ xs) ys g h stuck stays e = absurd (subst IsStuck (sym e) stays x g.fit.0 (g.stand.0, (g.stand.1.0, tt)))
same_left (n ∷ v ∷ first) left (m ∷ other) right (x ∷ xs) [] g h stuck stays e = absurd h.stand
same_left (n ∷ v ∷ first) left (m ∷ []) right (x ∷ xs) (y ∷ ys) g h stuck stays e = absurd h.stand.1
same_left (n ∷ v ∷ first) left (m ∷ w ∷ other) right (x ∷ xs) (y ∷ ys) g h stuck stays e =
    same_left first left other right xs ys (record { stand = g.stand.1.1; fit = g.fit.1 }) (record { stand = h.stand.1.1; fit = h.fit.1 }) stuck stays (ap after_two e)

-- what is told of such words
abbrev told_at : List (List ℕ) → Told
told_at [] = LacksValue []
told_at (n ∷ []) = LacksValue n
told_at (n ∷ v ∷ rest) = IsNoSetting n v

record Leaves (given : List (List ℕ)) (told : Told) : Type 0 where
  first : List (List ℕ)
  left : List (List ℕ)
  split : given ≡ first ++ left
  settings : List PlanSetting
  gives : Gives first settings
  stuck : IsStuck left
  leads : told_at left ≡ told

leaves : (given : List (List ℕ)) (told : Told) → IsToldOf given told → Leaves given told
leaves given (LacksValue name) w =
    record { first = w.1.first; left = name ∷ []; split = w.1.split; settings = w.1.settings; gives = w.1.give; stuck = tt; leads = refl }
leaves given (IsNoSetting name value) w =
    record { first = w.2.first; left = name ∷ value ∷ w.1; split = w.2.split; settings = w.2.settings; gives = w.2.give; stuck = w.3; leads = refl }
leaves given (LacksRoom name value) w = absurd (let full = w.3.3 in cc)

one_told : (given : List (List ℕ)) (a b : Told) → IsToldOf given a → IsToldOf given b → a ≡ b
one_told given a b h g =
    let one = leaves given a h in
    let other = leaves given b g in
    sym one.leads
    ∙ ap told_at (same_left one.first one.left other.first other.left one.settings other.settings one.gives other.gives one.stuck other.stuck (sym one.split ∙ other.split))
    ∙ other.leads

-- words that are settings aren't told as none
no_line : (given : List (List ℕ)) (told : Told) (p : Plan) → IsToldOf given told → ArePlan given p → ⊥
no_line given told p w (settings, give, is) =
    let so = leaves given told w in
    stuck_none so.first so.left so.settings settings so.gives so.stuck (subst (λ (l : List (List ℕ)). Gives l settings) so.split give)

-- a setting that is too short is told in one way
told_once : (p : Plan) (s : TooShort) (a b : WrongPlan) → RefusesPlan p s a → RefusesPlan p s b → AreSameRefusal a b
told_once p (short.PacketPasses time) a b h g =
    subst (λ (x : WrongPlan). AreSameRefusal x b) (sym h) (subst (λ (y : WrongPlan). AreSameRefusal (PacketPasses p.reply_wait p.longest time p.rate) y) (sym g) refl)
told_once p (short.AnswerComes time) a b h g =
    subst (λ (x : WrongPlan). AreSameRefusal x b) (sym h) (subst (λ (y : WrongPlan). AreSameRefusal (AnswerComes p.reply_wait time) y) (sym g) refl)
told_once p (short.LineIsQuiet time) a b h g =
    subst (λ (x : WrongPlan). AreSameRefusal x b) (sym h) (subst (λ (y : WrongPlan). AreSameRefusal (LineIsQuiet p.quiet_wait time) y) (sym g) refl)

pub not_refused : (given : List (List ℕ)) (wrong : WrongPlan) (p : Plan) → RefusesWords given wrong → Plans given p → ⊥
not_refused given wrong p (inl h) plans = no_line given (told_by h.first) p h.found plans.are
not_refused given wrong p (inr h) plans =
    let same : p ≡ h.plan = one_plan given p h.plan plans.are h.are in
    let none : Some h.short ≡ None = none_short h.plan (Some h.short) (subst IsLongEnough same plans.long_enough) h.judged in
    cc

-- .. so where a refusal was told there is no line
pub no_plan : (given : List (List ℕ)) (r : Result Plan WrongPlan) (wrong : WrongPlan) → r ≡ Err wrong → IfErr r (λ w. RefusesWords given w) → PlansNone given
no_plan given (Ok p) wrong e refused = absurd cc
no_plan given (Err w) wrong e refused = λ p plans. not_refused given w p refused plans

module _ (one_judgement : HasOneJudgement) where
  one_refusal : (given : List (List ℕ)) (a b : WrongPlan) → RefusesWords given a → RefusesWords given b → AreSameRefusal a b
  one_refusal given a b (inl h) (inl g) =
      subst (λ (x : WrongPlan). AreSameRefusal x b) (sym h.told)
      (subst (λ (y : WrongPlan). AreSameRefusal (Setting h.first) y) (sym g.told) (one_told given (told_by h.first) (told_by g.first) h.found g.found))
  one_refusal given a b (inl h) (inr g) = absurd (no_line given (told_by h.first) g.plan h.found g.are)
  one_refusal given a b (inr h) (inl g) = absurd (no_line given (told_by g.first) h.plan g.found h.are)
  one_refusal given a b (inr h) (inr g) =
      let same : g.plan ≡ h.plan = one_plan given g.plan h.plan g.are h.are in
      let judged : Judges h.plan (Some g.short) = subst (λ (p : Plan). Judges p (Some g.short)) same g.judged in
      let shorts : g.short ≡ h.short = some_same g.short h.short (one_judgement h.plan (Some g.short) (Some h.short) (are_in_range given h.plan h.are) judged h.judged) in
      let told : RefusesPlan h.plan h.short b =
      subst (λ (s : TooShort). RefusesPlan h.plan s b) shorts (subst (λ (p : Plan). RefusesPlan p g.short b) same g.told) in
      told_once h.plan h.short a b h.told told

  pub refuses_once : RefusesOnce
  refuses_once given = record { one = one_refusal given; not_both = not_refused given }
