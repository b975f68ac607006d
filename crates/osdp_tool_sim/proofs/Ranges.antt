-- The settings of a script of several readers are in the ranges of those of a run.
use Rattle.osdp_tool_sim.proofs.Common.{◌≡◌, ◌≢◌, ◌+◌, ◌==◌, ℕ, zero, suc, Bool, true, false, not, List, [], ◌∷◌, length, Err, refl, subst, ap, arith, ◌||◌, Vec, All, list_all, list_any, All-head, All-tail, IsBusConfig, default_config, Script, IsSetting, IsFree, steps_of, handler_after, handler_answer, Cause, Fault, Account, room_for, are_apart, is_at, is_reader_in_range, lists_of_all, readers_from}
use Rattle.std.proofs.lemmas.Bool.{and_from, le-leb, ne_eqb}
use Rattle.osdp_bus.proofs.Defaults.{bus_in_range}
use Rattle.osdp_frame.specs.declared.check_kind.CheckKind.{CheckKind}
use Rattle.osdp_script.specs.Settings.{AreApart, AreReaders}
use Rattle.osdp_sim.specs.declared.account.Account as declared
use Rattle.osdp_sim.specs.declared.fault.Cause.TheVariants as cause
use Rattle.osdp_sim_bus.specs.Runs as several
use Rattle.osdp_tool_sim.proofs.Accounts.{Ends}

bus_set : (check : CheckKind) → IsBusConfig (default_config check (room_for 64))
bus_set check = bus_in_range check (room_for 64) 3 ((omega arith, omega arith), omega arith, omega arith) (omega arith, omega arith)

as_many : (number : ℕ) (readers : List (ℕ × ℕ)) → length (readers_from number readers) ≡ length readers
as_many number [] = refl
as_many number (reader ∷ readers) = ap suc (as_many (number + 1) readers)

each_set : (number : ℕ) (readers : List (ℕ × ℕ)) → All (λ (r : ℕ × ℕ). IsSetting r.0 r.1) readers
    → list_all is_reader_in_range (readers_from number readers) ≡ true
each_set number [] each = refl
each_set number (reader ∷ readers) each =
    let Set : ℕ × ℕ → Type 0 = λ r. IsSetting r.0 r.1 in
    let set = All-head Set reader readers each in
    and_from _ _ (and_from _ _ (le-leb reader.0 126 set.device) (and_from _ _ (le-leb 1 reader.1 set.some) (le-leb reader.1 1024 set.limit)))
    (each_set (number + 1) readers (All-tail Set reader readers each))

none_at : (address number : ℕ) (readers : List (ℕ × ℕ)) → IsFree address readers → list_any (is_at address) (readers_from number readers) ≡ false
none_at address number [] free = refl
none_at address number (reader ∷ readers) free =
    let Other : ℕ × ℕ → Type 0 = λ r. r.0 ≢ address in
    neither (reader.0 == address) _ (ne_eqb reader.0 address (All-head Other reader readers free))
    (none_at address (number + 1) readers (All-tail Other reader readers free))
  where
    neither : (a b : Bool) → a ≡ false → b ≡ false → (a || b) ≡ false
    neither a b e f = cc

all_apart : (number : ℕ) (readers : List (ℕ × ℕ)) → AreApart readers → are_apart (readers_from number readers) ≡ true
all_apart number [] apart = refl
all_apart number (reader ∷ readers) apart =
    and_from _ _ (ap not (none_at reader.0 (number + 1) readers apart.0)) (all_apart (number + 1) readers apart.1)

several_set : (script : Script) → AreReaders script.readers.items
    → several.AreSettings (default_config script.check (room_for 64)) (readers_from 1 script.readers.items)
several_set script readers =
    let most = readers.most in
    let count = as_many 1 script.readers.items in
    record {
      each = and_from _ _ (le-leb _ 16 (omega arith))
          (and_from _ _ (each_set 1 script.readers.items readers.each) (all_apart 1 script.readers.items readers.apart));
      bus = bus_set script.check;
    }

several_stops : (script : Script) (at : ℕ) (told : List Account) → AreReaders script.readers.items
    → several.Stops handler_answer handler_after at cause.OutOfRange told (default_config script.check (room_for 64)) (readers_from 1 script.readers.items) (steps_of script) → ⊥
several_stops script zero told readers stops = stops.0 (several_set script readers)
several_stops script (suc before) told readers stops = stops.1.cause

pub several_in_range : (script : Script) (fault : Fault (Vec declared.Account)) → AreReaders script.readers.items → Ends script (Err fault)
    → fault.cause ≡ cause.OutOfRange → ⊥
several_in_range script fault readers ends is =
    several_stops script fault.step (lists_of_all fault.account.items) readers
    (subst (λ (why : Cause). several.Stops handler_answer handler_after fault.step why (lists_of_all fault.account.items)
    (default_config script.check (room_for 64)) (readers_from 1 script.readers.items) (steps_of script)) is ends)
