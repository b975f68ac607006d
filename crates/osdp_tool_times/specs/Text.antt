-- What is printed of the answers of each device.
use Rattle.std.specs.Prelude.{ℕ, ◌+◌, ◌==◌, if◌then◌else◌, List, [], ◌∷◌, ◌++◌, codes, Option, None, Some}
use Rattle.std.specs.Fmt.{decimal}
use Rattle.osdp_tool_times.specs.DayTime.{day_time}
use Rattle.osdp_tool_times.specs.Presence.{is_offline, restart_seconds}
use Rattle.osdp_tool_times.specs.Times.{half_below, most_below}
use Rattle.osdp_tool_times.specs.declared.presence.Presence.{Presence}
use Rattle.osdp_tool_times.specs.declared.table.Times.{Times}

-- half of the answers stayed below so many milliseconds, and 95 of 100
abbrev pub shares_text : ℕ → ℕ → List ℕ
shares_text half nearly_all = codes ", half below " ++ (decimal half ++ (codes ", 95 of 100 below " ++ (decimal nearly_all ++ codes "\n")))

-- how many answers came in time, the fastest and the slowest
abbrev pub counted_text : ℕ → Times → List ℕ
counted_text address t =
    codes "times: " ++ (decimal address ++ (codes " answered " ++ (decimal t.answers ++ (codes " in " ++ (decimal t.least ++ (codes " to "
    ++ (decimal t.most ++ codes " ms")))))))

-- and most of them
abbrev pub answers_line : ℕ → Times → List ℕ
answers_line address t = if t.answers == 0 then [] else counted_text address t ++ shares_text (half_below t) (most_below t)

-- how many came late, the latest, and the shortest wait of the panel
abbrev pub late_line : ℕ → Times → List ℕ
late_line address t =
    if t.late == 0 then []
    else codes "times: " ++ (decimal address ++ (codes " answered " ++ (decimal t.late ++ (codes " late, after " ++ (decimal t.took
    ++ (codes " ms at most: the panel waits " ++ (decimal t.waited ++ codes " ms\n")))))))

-- each moment as the day's time: since when it is online, and when its last answer came
abbrev pub online_line : ℕ → Option ℕ → Option ℕ → List ℕ
online_line address (Some since) (Some last) =
    codes "times: " ++ (decimal address ++ (codes " online since " ++ (day_time since ++ (codes ", last answer at " ++ (day_time last ++ codes "\n")))))
online_line address since last = []

-- .. or since when it is offline: since its last answer, where there is one
abbrev pub offline_words : Option ℕ → List ℕ
offline_words None = codes " offline, "
offline_words (Some last) = codes " offline since " ++ (day_time last ++ codes ", ")

abbrev pub offline_line : ℕ → Presence → List ℕ
offline_line address w =
    codes "times: " ++ (decimal address ++ (offline_words w.last ++ (decimal w.unanswered ++ codes " packets without an answer\n")))

abbrev pub presence_line : ℕ → Presence → List ℕ
presence_line address w = if is_offline w then offline_line address w else online_line address w.since w.last

-- when it restarted, or how often and every how many seconds
abbrev pub restarted_once : ℕ → ℕ → List ℕ
restarted_once address moment = codes "times: " ++ (decimal address ++ (codes " restarted at " ++ (day_time moment ++ codes "\n")))

abbrev pub restarted_often : ℕ → Presence → List ℕ
restarted_often address w =
    codes "times: " ++ (decimal address ++ (codes " restarted " ++ (decimal w.restarts ++ (codes " times, every " ++ (decimal (restart_seconds w) ++ codes " s\n")))))

abbrev pub restarts_line : ℕ → Presence → List ℕ
restarts_line address w =
    if w.restarts == 0 then [] else (if w.restarts == 1 then restarted_once address w.last_restart else restarted_often address w)

-- to 127 all devices listen, and each answers with its own address: whether it is online, and its restarts, aren't told
abbrev pub presence_text : ℕ → Presence → List ℕ
presence_text address w = if address == 127 then [] else presence_line address w ++ restarts_line address w

abbrev pub device_text : ℕ → Times → List ℕ
device_text address t = answers_line address t ++ (late_line address t ++ presence_text address t.presence)

-- what is printed of each address, one after the other
unfoldable pub all_from : (ℕ → Times → List ℕ) → ℕ → List Times → List ℕ
all_from printed address [] = []
all_from printed address (t ∷ times) = printed address t ++ all_from printed (address + 1) times

abbrev pub times_text : List Times → List ℕ
times_text times = all_from device_text 0 times

-- ---- the same as objects of JSON, a line each

-- a number after its name
unfoldable pub named : List ℕ → ℕ → List ℕ
named name number = codes ",\"" ++ (name ++ (codes "\":" ++ decimal number))

abbrev pub shares_members : ℕ → ℕ → List ℕ
shares_members half nearly_all = named (codes "half_below") half ++ (named (codes "most_below") nearly_all ++ codes "}\n")

abbrev pub answers_members : ℕ → Times → List ℕ
answers_members address t =
    codes "{\"kind\":\"times\"" ++ (named (codes "address") address ++ (named (codes "answers") t.answers ++ (named (codes "least") t.least
    ++ named (codes "most") t.most)))

abbrev pub answers_object : ℕ → Times → List ℕ
answers_object address t = if t.answers == 0 then [] else answers_members address t ++ shares_members (half_below t) (most_below t)

-- what an object begins with, an address and how many answers
abbrev pub first_members : List ℕ → ℕ → ℕ → List ℕ
first_members start address answers = start ++ (named (codes "address") address ++ named (codes "answers") answers)

unfoldable pub late_members : ℕ → ℕ → List ℕ
late_members address late = first_members (codes "{\"kind\":\"late\"") address late

abbrev pub took_members : ℕ → ℕ → List ℕ
took_members took waited = named (codes "took") took ++ (named (codes "waited") waited ++ codes "}\n")

abbrev pub late_object : ℕ → Times → List ℕ
late_object address t = if t.late == 0 then [] else late_members address t.late ++ took_members t.took t.waited

-- a moment as the day's time in quotes, after its name; null where there is none
abbrev pub quoted_time : Option ℕ → List ℕ
quoted_time None = codes "null"
quoted_time (Some moment) = codes "\"" ++ (day_time moment ++ codes "\"")

unfoldable pub timed : List ℕ → Option ℕ → List ℕ
timed name moment = codes ",\"" ++ (name ++ (codes "\":" ++ quoted_time moment))

-- what an object begins with, and the moment that it ends with
unfoldable pub started : List ℕ → ℕ → List ℕ
started start address = start ++ named (codes "address") address

unfoldable pub last_member : Option ℕ → List ℕ
last_member last = timed (codes "last") last ++ codes "}\n"

abbrev pub online_object : ℕ → Option ℕ → Option ℕ → List ℕ
online_object address since last = started (codes "{\"kind\":\"online\"") address ++ (timed (codes "since") since ++ last_member last)

unfoldable pub unanswered_members : ℕ → Option ℕ → List ℕ
unanswered_members unanswered last = named (codes "unanswered") unanswered ++ last_member last

unfoldable pub offline_start : ℕ → List ℕ
offline_start address = started (codes "{\"kind\":\"offline\"") address

abbrev pub offline_object : ℕ → Presence → List ℕ
offline_object address w = offline_start address ++ unanswered_members w.unanswered w.last

-- of a device that has not answered yet, and is not offline, there is none
abbrev pub online_object_if : ℕ → Option ℕ → Option ℕ → List ℕ
online_object_if address None last = []
online_object_if address (Some since) last = online_object address (Some since) last

abbrev pub presence_object : ℕ → Presence → List ℕ
presence_object address w = if is_offline w then offline_object address w else online_object_if address w.since w.last

-- every how many seconds; null after one restart
abbrev pub every_member : Presence → List ℕ
every_member w = if w.restarts == 1 then codes ",\"every\":null" else named (codes "every") (restart_seconds w)

unfoldable pub every_members : Presence → List ℕ
every_members w = every_member w ++ last_member (Some w.last_restart)

unfoldable pub often_members : Presence → List ℕ
often_members w = named (codes "restarts") w.restarts ++ every_members w

unfoldable pub restarts_start : ℕ → List ℕ
restarts_start address = started (codes "{\"kind\":\"restarts\"") address

abbrev pub restarts_members : ℕ → Presence → List ℕ
restarts_members address w = restarts_start address ++ often_members w

abbrev pub restarts_object : ℕ → Presence → List ℕ
restarts_object address w = if w.restarts == 0 then [] else restarts_members address w

abbrev pub presence_objects : ℕ → Presence → List ℕ
presence_objects address w = if address == 127 then [] else presence_object address w ++ restarts_object address w

abbrev pub device_objects : ℕ → Times → List ℕ
device_objects address t = answers_object address t ++ (late_object address t ++ presence_objects address t.presence)

abbrev pub times_objects : List Times → List ℕ
times_objects times = all_from device_objects 0 times
