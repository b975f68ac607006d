-- How options and files are told apart: fronts of the words, from the longest one on.
use Rattle.osdp_tool_inputs.proofs.Common.{◌≡◌, ◌+◌, ◌-◌, ◌≤◌, ◌&&◌, ℕ, Bool, true, false, List, Bor, Option, None, Some, length, take, drop, sym, subst, ap, ◌∙◌, arith, take-append-drop, drop-map, length-append, length-map, take-map, drop-append-add, take-append_seam, option_map, option_and_then, Words, texts_of, Format, MonitorMode, AreAsked, TaskOf, check_task, has_lines, show_task, Task, Listen}
use Rattle.std.proofs.lemmas.List.Folds.{list_all-append}
use Rattle.osdp_tool.specs.CaptureOptions.{ReadsCaptureMode, OptionFits, default_mode, name_of, name_text, numbers_of, with_option}
use Rattle.osdp_tool.specs.InputWords.{are_files, is_file}
use Rattle.osdp_tool.specs.declared.capture_options.CaptureMode.{CaptureMode}
use Rattle.osdp_tool_monitor.specs.Options as monitor
use Rattle.osdp_tool_options.proofs.One.{one_reading}
use Rattle.osdp_tool_inputs.specs.declared.asked.Reads.{Reads}
use Rattle.osdp_tool_inputs.specs.declared.asked.Reads.TheVariants.{Check, Monitor, Show}

one_capture : (words : Words) (m n : Option CaptureMode) → ReadsCaptureMode words m → ReadsCaptureMode words n → m ≡ n
one_capture words m n a b = one_reading (λ option. name_text (name_of option)) numbers_of OptionFits with_option default_mode words m n a b

one_mode : (hex : Bool) (words : Words) (m n : Option MonitorMode) → monitor.ReadsMode hex words m → monitor.ReadsMode hex words n → m ≡ n
one_mode hex words m n a b =
    one_reading (λ option. monitor.name_text (monitor.name_of option)) monitor.numbers_of monitor.OptionFits monitor.with_option
    (record monitor.default_mode { hex = hex }) words m n a b

-- options ask for one thing
pub one_task : (reads : Reads) (format : Format) (options : Words) (t u : Option Task) → TaskOf reads format options t → TaskOf reads format options u → t ≡ u
one_task Show format options t u (m, r, e) (n, s, f) = e ∙ ap (option_map show_task) (one_capture options m n r s) ∙ sym f
one_task Check format options t u (m, r, e) (n, s, f) = e ∙ ap (option_and_then check_task) (one_capture options m n r s) ∙ sym f
one_task Monitor format options t u (m, r, e) (n, s, f) = e ∙ ap (option_map Listen) (one_mode (has_lines format) options m n r s) ∙ sym f

both : (a b : Bool) → (a && b) ≡ true → b ≡ true
both true b e = e
both false b e = absurd cc

-- the last of the files are files
last_files : (files : Words) (k : ℕ) → are_files files ≡ true → are_files (drop k files) ≡ true
last_files files k h =
    both (are_files (take k files)) (are_files (drop k files))
    (sym (list_all-append is_file (take k files) (drop k files)) ∙ ap are_files (take-append-drop k files) ∙ h)

module _ (reads : Reads) (format : Format) (words : Words) where
  -- fewer files than these leave no options in front of them
  abbrev pub Tried : ℕ → Type 0
  Tried count = (options files : Words) (task : Task) → AreAsked reads format words options files task → count ≤ length files

  module _ (count : ℕ) (tried : Tried count) where
    lengths : (options files : Words) (task : Task) → AreAsked reads format words options files task → length words ≡ length options + length files
    lengths options files task are = ap length are.are ∙ length-append options files

    -- the words after the front are no files
    pub no_files : are_files (drop (length words - count) words) ≡ false → (options files : Words) (task : Task) → AreAsked reads format words options files task → ⊥
    no_files none options files task are =
        let enough = tried options files task are in
        let whole = lengths options files task are in
        let place : length words - count ≡ length options + (length files - count) = omega arith in
        let tail : drop (length words - count) words ≡ drop (length files - count) files =
        ap (λ n. drop n words) place ∙ ap (λ l. drop (length options + (length files - count)) l) are.are ∙ drop-append-add options files (length files - count) in
        let good = ap are_files tail ∙ last_files files (length files - count) are.files_are in
        absurd cc

    -- the front is no options
    pub no_options : TaskOf reads format (take (length words - count) words) None → Tried (count + 1)
    no_options none options files task are =
        let enough = tried options files task are in
        let differ = same in
        omega arith
      where
        same : count ≡ length files → ⊥
        same e =
            let whole = lengths options files task are in
            let place : length words - count ≡ length options = omega arith in
            let front : take (length words - count) words ≡ options =
            ap (λ n. take n words) place ∙ ap (λ l. take (length options) l) are.are ∙ take-append_seam options files in
            let clash = one_task reads format options None (Some task) (subst (λ o. TaskOf reads format o None) front none) are.task_is in
            absurd cc

-- ---- the same, of words as they are lent

texts_are : (words : List (Bor (List ℕ))) → length (texts_of words) ≡ length words
texts_are words = length-map words (λ (word : Bor (List ℕ)). word.now)

pub back_are : (words : List (Bor (List ℕ))) (count : ℕ) (back : List (Bor (List ℕ))) → back ≡ drop (length words - count) words
    → are_files (texts_of back) ≡ false → are_files (drop (length (texts_of words) - count) (texts_of words)) ≡ false
back_are words count back e h =
    ap (λ n. are_files (drop (n - count) (texts_of words))) (texts_are words)
    ∙ ap are_files (drop-map (λ (word : Bor (List ℕ)). word.now) (length words - count) words) ∙ ap (λ l. are_files (texts_of l)) (sym e) ∙ h

pub front_is : (reads : Reads) (format : Format) (words : List (Bor (List ℕ))) (count : ℕ) (front : List (Bor (List ℕ))) → front ≡ take (length words - count) words
    → TaskOf reads format (texts_of front) None → TaskOf reads format (take (length (texts_of words) - count) (texts_of words)) None
front_is reads format words count front e h =
    subst (λ o. TaskOf reads format o None)
    (ap texts_of e ∙ sym (take-map (λ (word : Bor (List ℕ)). word.now) (length words - count) words) ∙ ap (λ n. take (n - count) (texts_of words)) (sym (texts_are words))) h
