-- The command that is on its way, and those that wait where the first of them is taken back.
use Rattle.osdp_link_laws.proofs.Common.{◌≡◌, ◌≢◌, ◌⊎◌, List, [], ◌∷◌, ◌++◌, Option, Some, None, refl, sym, ap, ◌∙◌, inl, inr, option_to_list, Command, State, Closed, Quiet, Idle, Waiting, Pausing, outstanding_command}
use Rattle.std.specs.Prelude.{drop, if◌then◌else◌, is_some, slice_get}
use Rattle.osdp_controller.specs.Held.{on_its_way}
use Rattle.osdp_controller.specs.Machine.{kept_in, withdrawn_in}

pub same_command : (state : State) → on_its_way state ≡ outstanding_command state
same_command Closed = refl
same_command (Quiet until) = refl
same_command (Idle due) = refl
same_command (Waiting until sends o) = refl
same_command (Pausing until o) = refl

abbrev pub kept_beside : Option Command → List Command → List Command
kept_beside o ws = if is_some o then ws else drop 1 ws

abbrev pub withdrawn_beside : Option Command → List Command → Option Command
withdrawn_beside o ws = if is_some o then None else slice_get ws 0

-- they are told by the command on its way alone
pub kept_is : (state : State) (ws : List Command) → kept_in state ws ≡ kept_beside (outstanding_command state) ws
kept_is state ws = ap (λ (o : Option Command). kept_beside o ws) (same_command state)

pub withdrawn_is : (state : State) (ws : List Command) → withdrawn_in state ws ≡ withdrawn_beside (outstanding_command state) ws
withdrawn_is state ws = ap (λ (o : Option Command). withdrawn_beside o ws) (same_command state)

-- the first is taken back where there is none
pub first_back : (state : State) (command : Command) (waiting all : List Command) → outstanding_command state ≡ None → all ≡ command ∷ waiting → kept_in state all ≡ waiting
first_back state command waiting all none is = kept_is state all ∙ ap (λ (o : Option Command). kept_beside o all) none ∙ ap (drop 1) is

none_beside : (o : Option Command) (all : List Command) → (o ≢ None) ⊎ (all ≡ []) → kept_beside o all ≡ all
none_beside (Some c) all why = refl
none_beside None all (inl some) = absurd (some refl)
none_beside None all (inr none) = ap (drop 1) none ∙ sym none

pub none_back : (state : State) (all : List Command) → (outstanding_command state ≢ None) ⊎ (all ≡ []) → kept_in state all ≡ all
none_back state all why = kept_is state all ∙ none_beside (outstanding_command state) all why

first_beside : (o : Option Command) (ws : List Command) → option_to_list (withdrawn_beside o ws) ++ kept_beside o ws ≡ ws
first_beside (Some c) ws = refl
first_beside None [] = refl
first_beside None (w ∷ ws) = refl

-- what is taken back stood first
pub withdrawn_first : (state : State) (ws : List Command) → option_to_list (withdrawn_in state ws) ++ kept_in state ws ≡ ws
withdrawn_first state ws =
    ap (λ (o : Option Command). option_to_list (withdrawn_beside o ws) ++ kept_beside o ws) (same_command state) ∙ first_beside (outstanding_command state) ws
