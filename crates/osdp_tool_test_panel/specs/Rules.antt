-- The rules of a panel by their numbers.
use Rattle.std.specs.Prelude.{ℕ, ◌+◌, List, [], ◌∷◌}
use Rattle.osdp_tool_test.specs.Entries.{Told, new_entry}
use Rattle.osdp_tool_test.specs.Rules.{IsWithin}
use Rattle.osdp_tool_test_panel.specs.declared.rules.TheConstants.{COUNT}
use Rattle.osdp_tool_test_panel.specs.declared.rules.PanelRule.{PanelRule}

-- the rules are numbered from 1
abbrev pub IsRule : ℕ → Type 0
IsRule = IsWithin 1 COUNT

-- a rule for which something was said, or 0 for none
abbrev pub IsAsked : ℕ → Type 0
IsAsked = IsWithin 0 COUNT

-- nothing was found of these yet, the first of which has this number
abbrev pub fresh_from : ℕ → List PanelRule → List Told
fresh_from n [] = []
fresh_from n (rule ∷ more) = new_entry n rule.says.now rule.ground ∷ fresh_from (n + 1) more
