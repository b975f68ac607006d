-- A text is the help of one topic at most: its fifth to seventh characters tell which.
use Rattle.osdp_tool.proofs.Common.{◌≡◌, ◌∙◌, ◌==◌, ℕ, if◌then◌else◌, List, ◌++◌, length, drop, get_or, take-append-drop, refl, sym, ap, Topic}
use Rattle.osdp_tool.specs.declared.choice.Topic.TheVariants.{Program, Show, Monitor, Check, Make, Sim, Panel, Reader, Plan, Test}
use Rattle.osdp_tool.specs.Help.{HasOneTopic, IsHelpOf, heading}

abbrev by_letters : ℕ → ℕ → ℕ → Topic
by_letters fifth sixth seventh =
    if fifth == 58 then Program
    else if sixth == 99 then Check
    else if sixth == 109 then (if seventh == 111 then Monitor else Make)
    else if sixth == 112 then (if seventh == 97 then Panel else Plan)
    else if sixth == 114 then Reader
    else if sixth == 115 then (if seventh == 104 then Show else Sim)
    else Test

abbrev topic_of : List ℕ → Topic
topic_of text = by_letters (get_or text 4 0) (get_or text 5 0) (get_or text 6 0)

topic_at : (topic : Topic) (rest : List ℕ) → topic_of (heading topic ++ rest) ≡ topic
topic_at Program rest = refl
topic_at Show rest = refl
topic_at Monitor rest = refl
topic_at Check rest = refl
topic_at Make rest = refl
topic_at Sim rest = refl
topic_at Panel rest = refl
topic_at Reader rest = refl
topic_at Plan rest = refl
topic_at Test rest = refl

told : (topic : Topic) (text : List ℕ) → IsHelpOf topic text → topic_of text ≡ topic
told topic text is =
    let rest = drop (length (heading topic)) text in
    ap topic_of (sym (take-append-drop (length (heading topic)) text) ∙ ap (λ (front : List ℕ). front ++ rest) is) ∙ topic_at topic rest

pub one_topic : HasOneTopic
one_topic a b text h g = sym (told a text h) ∙ told b text g
