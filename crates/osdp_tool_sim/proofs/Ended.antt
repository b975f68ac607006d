-- How a script that is told can have ended.
use Rattle.osdp_tool_sim.proofs.Common.{ℕ, List, [], ◌∷◌, Option, Result, Ok, Err, Script, steps_of, handler_after, handler_answer, after_step, fault_of, Cause, SimStep, accounts, ToolFault, NotHex, TooLong, BadWords, BadStep, HoldsPacket, NotQuiet, ReadFailed, WriteFailed, NoMemory, start_of, line_of, RunTells, IsTextOfEach, IsTextOfOne, Tells, TellsReaders}
use Rattle.osdp_sim_bus.specs.Steps as bus

abbrev Answer : Type 0
Answer = Result (Unit {0}) ToolFault

-- after all steps, or at one that is refused
abbrev pub IsEnd : Answer → Type 0
IsEnd (Ok done) = Unit {0}
IsEnd (Err (HoldsPacket step)) = Unit {0}
IsEnd (Err (NotQuiet step)) = Unit {0}
IsEnd (Err (NotHex line)) = ⊥
IsEnd (Err TooLong) = ⊥
IsEnd (Err BadWords) = ⊥
IsEnd (Err (BadStep line)) = ⊥
IsEnd (Err ReadFailed) = ⊥
IsEnd (Err WriteFailed) = ⊥
IsEnd (Err NoMemory) = ⊥

run_end : {S A : Type 0} (after : SimStep → S → S) (fault : SimStep → S → Option Cause) (account : S → A)
    (end : Answer) (told : A) (steps : List SimStep) (start : S) → RunTells after fault account end told steps start → IsEnd end
run_end a f c (Ok done) told steps start is = tt
run_end a f c (Err (HoldsPacket step)) told steps start is = tt
run_end a f c (Err (NotQuiet step)) told steps start is = tt
run_end a f c (Err (NotHex line)) told steps start is = is
run_end a f c (Err TooLong) told steps start is = is
run_end a f c (Err BadWords) told steps start is = is
run_end a f c (Err (BadStep line)) told steps start is = is
run_end a f c (Err ReadFailed) told steps start is = is
run_end a f c (Err WriteFailed) told steps start is = is
run_end a f c (Err NoMemory) told steps start is = is

one_end : (script : Script) (reader : ℕ × ℕ) (text : List ℕ) (end : Answer) → IsTextOfOne script reader text end → IsEnd end
one_end script reader text end is =
    run_end (after_step handler_answer handler_after) fault_of (λ s. s.account) end is.lists (steps_of script)
    (start_of script.check reader) is.told.run_is

each_end : (script : Script) (text : List ℕ) (end : Answer) → IsTextOfEach script text end → IsEnd end
each_end script text end is =
    run_end (bus.after_step handler_answer handler_after) bus.fault_of accounts end is.accounts (steps_of script) (line_of script) is.told.run_is

readers_end : (readers : List (ℕ × ℕ)) (script : Script) (text : List ℕ) (end : Answer) → TellsReaders readers script text end → IsEnd end
readers_end [] script text end is = each_end script text end is
readers_end (reader ∷ []) script text end is = one_end script reader text end is
readers_end (reader ∷ other ∷ others) script text end is = each_end script text end is

pub end_of : (bytes text : List ℕ) (end : Answer) → Tells bytes text end → IsEnd end
end_of bytes text end tells = readers_end tells.script.readers.items tells.script text end tells.told
