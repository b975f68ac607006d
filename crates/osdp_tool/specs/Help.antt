-- Which help is whose.
use Rattle.std.specs.Prelude.{◌≡◌, ℕ, List, codes, length, take}
use Rattle.osdp_tool.specs.declared.choice.Topic.{Topic}
use Rattle.osdp_tool.specs.declared.choice.Topic.TheVariants.{Program, Show, Monitor, Check, Make, Sim, Panel, Reader, Plan, Test}

-- what a help begins with
abbrev pub heading : Topic → List ℕ
heading Program = codes "osdp: "
heading Show = codes "osdp show: "
heading Monitor = codes "osdp monitor: "
heading Check = codes "osdp check: "
heading Make = codes "osdp make: "
heading Sim = codes "osdp sim: "
heading Panel = codes "osdp panel: "
heading Reader = codes "osdp reader: "
heading Plan = codes "osdp plan: "
heading Test = codes "osdp test: "

-- the text is the help of this topic, as its beginning says
abbrev pub IsHelpOf : Topic → List ℕ → Type 0
IsHelpOf topic text = take (length (heading topic)) text ≡ heading topic

-- a text is the help of one topic at most
abbrev pub HasOneTopic : Type 0
HasOneTopic = (a b : Topic) (text : List ℕ) → IsHelpOf a text → IsHelpOf b text → a ≡ b
