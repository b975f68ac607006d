-- Words choose a job exactly where they are its words.
use Rattle.osdp_tool.proofs.Common.{List, ℕ, false, true, refl, ◌≡◌, ◌==◌, ◌⊎◌, ◌∙◌, length, Bool, [], ◌∷◌, subst, ap, inl, inr, codes, Ok, Err, bytes_eq, eqb-true, bytes_eq-Decides, BadWords, Words, job_of, wants_help, IsWordsOfJob, ChoosesJobByWords}
use Rattle.std.proofs.lemmas.List.{nil_from_length}
use Rattle.osdp_tool.specs.declared.jobs.Job.{Job}
use Rattle.osdp_tool.specs.declared.jobs.Job.TheVariants.{Make, Sim}

-- words choose a job of theirs, or are bad
abbrev Chooses : Words → Type 0
Chooses words = ((job : Job) × (job_of words ≡ Ok job) × IsWordsOfJob job words) ⊎ (job_of words ≡ Err BadWords)

choose_alone : (command : List ℕ) (rest : Words) → bytes_eq command (codes "make") ≡ false → Chooses (command ∷ rest)
choose_alone command rest no_make = go (bytes_eq command (codes "sim")) (length rest == 0) refl refl
  where
    go : (sim none : Bool) → bytes_eq command (codes "sim") ≡ sim → (length rest == 0) ≡ none → Chooses (command ∷ rest)
    go true true is_sim is_none =
        let same : command ≡ codes "sim" = (bytes_eq-Decides command (codes "sim")).0 is_sim in
        let nothing : rest ≡ [] = nil_from_length rest (eqb-true (length rest) 0 is_none) in
        inl (Sim, rw (no_make, is_sim, is_none), ap (λ word. word ∷ rest) same ∙ ap (λ words. codes "sim" ∷ words) nothing)
    go true false is_sim is_none = inr (rw (no_make, is_sim, is_none))
    go false none is_sim is_none = inr (rw (no_make, is_sim))

choose : (words : Words) → Chooses words
choose [] = inr refl
choose (command ∷ rest) = go (bytes_eq command (codes "make")) (wants_help rest) refl refl
  where
    go : (make asks : Bool) → bytes_eq command (codes "make") ≡ make → wants_help rest ≡ asks → Chooses (command ∷ rest)
    go true false is_make plain =
        inl (Make, rw (is_make, plain), (rest, ap (λ word. word ∷ rest) ((bytes_eq-Decides command (codes "make")).0 is_make), plain))
    go true true is_make asks = inr (rw (is_make, asks))
    go false asks is_make is = choose_alone command rest is_make

-- the words of a job choose it
words_choose : (job : Job) (words : Words) → IsWordsOfJob job words → job_of words ≡ Ok job
words_choose Make words (rest, is, plain) = rw (is, plain)
words_choose Sim words is = rw is

pub ChoosesJobByWords-all : (words : Words) → ChoosesJobByWords words
ChoosesJobByWords-all words = record { chosen = λ job. (chosen_words job, words_choose job words); refused = (bad_words, no_words) }
  where
    chosen_words : (job : Job) → job_of words ≡ Ok job → IsWordsOfJob job words
    chosen_words job is = elim (choose words) [
      | inl good ↦
          let same : good.0 ≡ job = cc in
          subst (λ j. IsWordsOfJob j words) same good.2
      | inr bad ↦ cc
    ]

    bad_words : job_of words ≡ Err BadWords → (job : Job) → ¬ IsWordsOfJob job words
    bad_words bad job are =
        let good = words_choose job words are in
        cc

    no_words : ((job : Job) → ¬ IsWordsOfJob job words) → job_of words ≡ Err BadWords
    no_words none = elim (choose words) [ inl good ↦ absurd (none good.0 good.2) | inr bad ↦ bad ]
