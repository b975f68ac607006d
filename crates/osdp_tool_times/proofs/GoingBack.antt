-- Answers that are said to come before the last packet was sent.
use Rattle.osdp_tool_times.proofs.Common.{◌≡◌, ◌<◌, ◌-◌, ◌&&◌, ℕ, Bool, true, false, cond, leb, Option, None, Some, refl, lt-leb, TellsNothingBefore, in_time, is_copied, is_of_last, is_of_older, late, late_from, Sent, Late, Nothing}
use Rattle.osdp_tool_times.specs.declared.waits.Told.{Told}

either : (c : Bool) (one other : Told) → one ≡ Nothing → other ≡ Nothing → cond c one other ≡ Nothing
either true one other first second = first
either false one other first second = second

never : (b : Bool) (some : Told) → cond (b && false) some Nothing ≡ Nothing
never true some = refl
never false some = refl

not_late : (sent next last answered : ℕ) → answered < last → late sent next last answered ≡ Nothing
not_late sent next last answered before = rw (lt-leb last answered before) (never (leb sent last) (Late (answered - sent) (next - sent)))

not_late_from : (one next : Option Sent) (last : Sent) (answered : ℕ) → answered < last.moment → late_from one next (Some last) answered ≡ Nothing
not_late_from (Some one) (Some next) last answered before = not_late one.moment next.moment last.moment answered before
not_late_from (Some one) None last answered before = refl
not_late_from None next last answered before = refl

not_in_time : (sent answered : ℕ) → answered < sent → in_time sent answered ≡ Nothing
not_in_time sent answered before = rw (lt-leb sent answered before) refl

pub nothing_before : TellsNothingBefore
nothing_before w last number answered is_last is_first before =
    rw (is_last, is_first)
    (either (is_of_older w.earlier (Some last) number) _ _ (not_late_from w.earlier w.before last answered before)
    (either (is_of_older w.before (Some last) number) _ _ (not_late_from w.before (Some last) last answered before)
    (either (is_of_last (Some last) number) _ _ (either (is_copied w.before (Some last)) _ _ refl (not_in_time last.moment answered before)) refl)))
