-- What is printed of a plan.
use Rattle.std.specs.Prelude.{ℕ, ◌+◌, ◌-◌, ◌*◌, ◌/◌, nat_lt, Bool, if◌then◌else◌, List, [], ◌++◌, codes, length, replicate, Option, Some, None}
use Rattle.std.specs.Fmt.{decimal}
use Rattle.osdp_plan.specs.declared.plan.Plan.{Plan}
use Rattle.osdp_plan.specs.declared.bounds.Others.TheVariants.{Answer, OneSilent, Hostile}
use Rattle.osdp_plan.specs.Figures.{answered_time, card_wait, lost_wait, order_wait, poll_round, wire_time}
use Rattle.osdp_plan.specs.Plans.{only_polls}
use Rattle.osdp_tool_plan.specs.declared.setting.PlanSetting.{PlanSetting}
use Rattle.osdp_tool_plan.specs.declared.setting.PlanSetting.TheVariants.{Rate, ReplyWait, PollInterval, Sends, Readers}
use Rattle.osdp_tool_plan.specs.Settings.{with_setting}

-- a number to the right of a column of twelve, after a space at least; a bar where there is none
abbrev pub column : ℕ → List ℕ
column n = codes " " ++ (replicate (11 - length (decimal n)) 32 ++ decimal n)

abbrev pub figure : Option ℕ → List ℕ
figure None = codes "           -"
figure (Some n) = column n

-- of a reader beside another one, where there is one
abbrev pub beside : Plan → ℕ → Option ℕ
beside p n = if nat_lt 1 p.readers then Some n else None

-- ---- a turn

-- how long a turn of this line is, and how much of it is the wire's
unfoldable pub turn_text : Plan → List ℕ
turn_text p = decimal (answered_time p) ++ (codes " ms, " ++ (decimal (wire_time p.rate (p.longest * 2)) ++ codes " of them on the wire\n"))

unfoldable pub polls_turn : Plan → List ℕ
polls_turn p = codes "a POLL and its ACK: " ++ turn_text (only_polls p)

unfoldable pub longest_name : ℕ → List ℕ
longest_name bytes = codes "a packet and its answer of " ++ (decimal bytes ++ codes " bytes each: ")

unfoldable pub longest_turn : Plan → List ℕ
longest_turn p = longest_name p.longest ++ turn_text p

-- ---- how long it takes, in ms at the most

abbrev pub row : List ℕ → Option ℕ → Option ℕ → Option ℕ → List ℕ
row name all one hostile = name ++ (figure all ++ (figure one ++ (figure hostile ++ codes "\n")))

unfoldable pub heading : List ℕ
heading = codes "              all answer  one silent    at worst\n"

unfoldable pub round_row : Plan → List ℕ
round_row p = row (codes "POLL round  ") (Some (poll_round Answer (only_polls p))) (beside p (poll_round OneSilent (only_polls p))) None

unfoldable pub order_row : Plan → List ℕ
order_row p = row (codes "order       ") (Some (order_wait Answer p)) (beside p (order_wait OneSilent p)) (Some (order_wait Hostile p))

unfoldable pub card_row : Plan → List ℕ
card_row p = row (codes "card        ") (Some (card_wait Answer p)) (beside p (card_wait OneSilent p)) None

unfoldable pub lost_row : Plan → List ℕ
lost_row p = row (codes "told lost   ") (Some (lost_wait Answer p)) (beside p (lost_wait OneSilent p)) (Some (lost_wait Hostile p))

unfoldable pub rows_text : Plan → List ℕ
rows_text p = round_row p ++ (order_row p ++ (card_row p ++ lost_row p))

-- ---- what would make it shorter

-- a number to the left of a column of eight
abbrev pub left : ℕ → List ℕ
left n = decimal n ++ replicate (8 - length (decimal n)) 32

unfoldable pub change_name : PlanSetting → List ℕ
change_name (Rate n) = codes "rate          " ++ left n
change_name (ReplyWait n) = codes "reply-wait    " ++ left n
change_name (PollInterval n) = codes "poll-interval " ++ left n
change_name (Sends n) = codes "sends         " ++ left n
change_name (Readers n) = codes "readers       " ++ left n
change_name _ = codes "as planned            "

unfoldable pub all_waits : Plan → List ℕ
all_waits p = figure (Some (order_wait Answer p)) ++ (figure (Some (card_wait Answer p)) ++ figure (Some (lost_wait Answer p)))

unfoldable pub one_waits : Plan → List ℕ
one_waits p = figure (beside p (order_wait OneSilent p)) ++ (figure (beside p (card_wait OneSilent p)) ++ figure (beside p (lost_wait OneSilent p)))

unfoldable pub waits_text : Plan → List ℕ
waits_text p = all_waits p ++ (one_waits p ++ codes "\n")

-- a line of what is changed and what comes of it, where it is worth while
unfoldable pub change_text : Bool → PlanSetting → Plan → List ℕ
change_text worth s p = if worth then change_name s ++ waits_text (with_setting s p) else []

unfoldable pub changes_heading : List ℕ
changes_heading = codes "                        all answer                          one silent\nwith                         order        card   told lost       order        card   told lost\n"

-- the shortest wait for an answer that the line allows
abbrev pub least_wait : Plan → ℕ
least_wait p = answered_time p + 1

-- of the line and of the panel's wait between POLLs
unfoldable pub pace_changes : Plan → List ℕ
pace_changes p = change_text (nat_lt p.rate 115200) (Rate 115200) p ++ change_text (nat_lt 10 p.poll_interval) (PollInterval 10) p

unfoldable pub wait_change : Plan → List ℕ
wait_change p = change_text (nat_lt (least_wait p) p.reply_wait) (ReplyWait (least_wait p)) p

unfoldable pub count_changes : Plan → List ℕ
count_changes p = change_text (nat_lt 2 p.sends) (Sends 2) p ++ change_text (nat_lt 1 p.readers) (Readers ((p.readers + 1) / 2)) p

unfoldable pub as_planned : Plan → List ℕ
as_planned p = codes "as planned            " ++ waits_text p

unfoldable pub changes_text : Plan → List ℕ
changes_text p = as_planned p ++ (pace_changes p ++ (wait_change p ++ count_changes p))

abbrev pub plan_text : Plan → List ℕ
plan_text p = polls_turn p ++ (longest_turn p ++ (codes "\n" ++ (heading ++ (rows_text p ++ (codes "\n" ++ (changes_heading ++ changes_text p))))))
