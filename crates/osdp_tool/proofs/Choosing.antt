-- Words choose exactly what they are the words of.
use Rattle.osdp_tool.proofs.Common.{List, ℕ, false, true, refl, ◌≡◌, ◌⊎◌, ◌∙◌, Bool, [], ◌∷◌, subst, sym, inl, inr, codes, Err, bytes_eq, bytes_eq-Decides, Words, job_of, wants_help, BadWords, Topic}
use Rattle.osdp_tool.specs.declared.choice.Choice.{Choice}
use Rattle.osdp_tool.specs.declared.choice.Choice.TheVariants.{Help, Version, Show, Check, Monitor, Panel, Reader, Plan, Test, Job}
use Rattle.osdp_tool.specs.declared.choice.Topic.TheVariants as topic
use Rattle.osdp_tool.specs.Choice.{AskForHelp, AskOf, ChoosesByWords, IsWordsOf, choice_of, topic_named}

-- a word is this one, or it is not
module _ (word other : List ℕ) where
  is_word : bytes_eq word other ≡ true → word ≡ other
  is_word is = (bytes_eq-Decides word other).0 is

-- what the three forms of words choose, the words of a command's help choose
asks_choose : (command : List ℕ) (asked : Topic) → choice_of (codes "help" ∷ command ∷ []) ≡ Help asked → choice_of (command ∷ codes "--help" ∷ []) ≡ Help asked
    → choice_of (command ∷ codes "-h" ∷ []) ≡ Help asked → (words : Words) → AskOf command words → choice_of words ≡ Help asked
asks_choose command asked a b c words (inl is) = rw is a
asks_choose command asked a b c words (inr (inl is)) = rw is b
asks_choose command asked a b c words (inr (inr is)) = rw is c

-- the words of a choice choose it
help_chooses : (asked : Topic) (words : Words) → AskForHelp asked words → choice_of words ≡ Help asked
help_chooses topic.Program words (inl is) = rw is
help_chooses topic.Program words (inr (inl is)) = rw is
help_chooses topic.Program words (inr (inr (inl is))) = rw is
help_chooses topic.Program words (inr (inr (inr is))) = rw is
help_chooses topic.Show words are = asks_choose (codes "show") topic.Show refl refl refl words are
help_chooses topic.Monitor words are = asks_choose (codes "monitor") topic.Monitor refl refl refl words are
help_chooses topic.Check words are = asks_choose (codes "check") topic.Check refl refl refl words are
help_chooses topic.Make words are = asks_choose (codes "make") topic.Make refl refl refl words are
help_chooses topic.Sim words are = asks_choose (codes "sim") topic.Sim refl refl refl words are
help_chooses topic.Panel words are = asks_choose (codes "panel") topic.Panel refl refl refl words are
help_chooses topic.Reader words are = asks_choose (codes "reader") topic.Reader refl refl refl words are
help_chooses topic.Plan words are = asks_choose (codes "plan") topic.Plan refl refl refl words are
help_chooses topic.Test words are = asks_choose (codes "test") topic.Test refl refl refl words are

words_choose : (choice : Choice) (words : Words) → IsWordsOf choice words → choice_of words ≡ choice
words_choose (Help asked) words are = help_chooses asked words are
words_choose Version words is = rw is
words_choose Show words (rest, is, plain) = rw (is, plain)
words_choose Check words (rest, is, plain) = rw (is, plain)
words_choose Monitor words (rest, is, plain) = rw (is, plain)
words_choose Panel words (rest, is, plain) = rw (is, plain)
words_choose Reader words (rest, is, plain) = rw (is, plain)
words_choose Plan words (rest, is, plain) = rw (is, plain)
words_choose Test words (rest, is, plain) = rw (is, plain)
words_choose Job words are = absurd are

-- words choose something and are its words, and `job` takes none of them; or they are left to it
abbrev Chooses : Words → Type 0
Chooses words = ((choice : Choice) × (choice_of words ≡ choice) × IsWordsOf choice words × (job_of words ≡ Err BadWords)) ⊎ (choice_of words ≡ Job)

-- a name is that of the command whose help is asked for, and with a flag that asks for help it is no job's
abbrev IsCommand : Topic → List ℕ → Type 0
IsCommand asked name = (topic_named name ≡ Help asked) × ((words : Words) → AskOf name words → AskForHelp asked words)
    × (job_of (name ∷ codes "--help" ∷ []) ≡ Err BadWords) × (job_of (name ∷ codes "-h" ∷ []) ≡ Err BadWords)

abbrev Names : List ℕ → Type 0
Names name = ((asked : Topic) × IsCommand asked name) ⊎ (topic_named name ≡ Job)

names : (name : List ℕ) → Names name
names name = go (bytes_eq name (codes "show")) (bytes_eq name (codes "monitor")) (bytes_eq name (codes "check")) (bytes_eq name (codes "make")) (bytes_eq name (codes "sim")) (bytes_eq name (codes "panel")) (bytes_eq name (codes "reader")) (bytes_eq name (codes "plan")) (bytes_eq name (codes "test")) refl refl refl refl refl refl refl refl refl
  where
    by : (asked : Topic) (command : List ℕ) → bytes_eq name command ≡ true → IsCommand asked command → Names name
    by asked command is known = inl (asked, subst (IsCommand asked) (sym (is_word name command is)) known)

    go : (show monitor check make sim panel reader plan test : Bool) → bytes_eq name (codes "show") ≡ show → bytes_eq name (codes "monitor") ≡ monitor → bytes_eq name (codes "check") ≡ check → bytes_eq name (codes "make") ≡ make → bytes_eq name (codes "sim") ≡ sim → bytes_eq name (codes "panel") ≡ panel → bytes_eq name (codes "reader") ≡ reader → bytes_eq name (codes "plan") ≡ plan → bytes_eq name (codes "test") ≡ test → Names name
    go true monitor check make sim panel reader plan test a b c d e f g h i = by topic.Show (codes "show") a (refl, (λ words are. are), refl, refl)
    go false true check make sim panel reader plan test a b c d e f g h i = by topic.Monitor (codes "monitor") b (refl, (λ words are. are), refl, refl)
    go false false true make sim panel reader plan test a b c d e f g h i = by topic.Check (codes "check") c (refl, (λ words are. are), refl, refl)
    go false false false true sim panel reader plan test a b c d e f g h i = by topic.Make (codes "make") d (refl, (λ words are. are), refl, refl)
    go false false false false true panel reader plan test a b c d e f g h i = by topic.Sim (codes "sim") e (refl, (λ words are. are), refl, refl)
    go false false false false false true reader plan test a b c d e f g h i = by topic.Panel (codes "panel") f (refl, (λ words are. are), refl, refl)
    go false false false false false false true plan test a b c d e f g h i = by topic.Reader (codes "reader") g (refl, (λ words are. are), refl, refl)
    go false false false false false false false true test a b c d e f g h i = by topic.Plan (codes "plan") h (refl, (λ words are. are), refl, refl)
    go false false false false false false false false true a b c d e f g h i = by topic.Test (codes "test") i (refl, (λ words are. are), refl, refl)
    go false false false false false false false false false a b c d e f g h i = inr (rw (a, b, c, d, e, f, g, h, i))

-- the name of a command, and a flag that asks for help
flagged : (first : List ℕ) → (asked : Topic) × IsCommand asked first → (rest : Words) → wants_help rest ≡ true → Chooses (first ∷ rest)
flagged first known [] asks = cc
flagged first known (word ∷ []) asks = go (bytes_eq word (codes "--help")) (bytes_eq word (codes "-h")) refl refl
  where
    by : (flag : List ℕ) → bytes_eq word flag ≡ true → Chooses (first ∷ flag ∷ []) → Chooses (first ∷ word ∷ [])
    by flag is chooses = subst (λ w. Chooses (first ∷ w ∷ [])) (sym (is_word word flag is)) chooses

    go : (long short : Bool) → bytes_eq word (codes "--help") ≡ long → bytes_eq word (codes "-h") ≡ short → Chooses (first ∷ word ∷ [])
    go true short a b = by (codes "--help") a (inl (Help known.0, known.1.0, known.1.1 (first ∷ codes "--help" ∷ []) (inr (inl refl)), known.1.2))
    go false true a b = by (codes "-h") b (inl (Help known.0, known.1.0, known.1.1 (first ∷ codes "-h" ∷ []) (inr (inr refl)), known.1.3))
    go false false a b =
        let plain : wants_help (word ∷ []) ≡ false = rw (a, b) in
        cc
flagged first known (word ∷ more ∷ rest) asks = cc

-- a flag that asks for help, after any word
by_flag : (first : List ℕ) (rest : Words) → wants_help rest ≡ true → Chooses (first ∷ rest)
by_flag first rest asks = elim (names first) [
  | inl known ↦ flagged first known rest asks
  | inr none ↦ inr (rw (asks, none))
]

-- `help`, and what follows it
after_help : (rest : Words) → wants_help rest ≡ false → Chooses (codes "help" ∷ rest)
after_help [] plain = inl (Help topic.Program, refl, inr (inl refl), refl)
after_help (name ∷ []) plain = elim (names name) [
  | inl known ↦ inl (Help known.0, rw plain known.1.0, known.1.1 (codes "help" ∷ name ∷ []) (inl refl), refl)
  | inr none ↦ inr (rw plain none)
]
after_help (name ∷ more ∷ rest) plain = inr refl

after_long_help : (rest : Words) → wants_help rest ≡ false → Chooses (codes "--help" ∷ rest)
after_long_help [] plain = inl (Help topic.Program, refl, inr (inr (inl refl)), refl)
after_long_help (word ∷ rest) plain = inr (rw plain)

after_short_help : (rest : Words) → wants_help rest ≡ false → Chooses (codes "-h" ∷ rest)
after_short_help [] plain = inl (Help topic.Program, refl, inr (inr (inr refl)), refl)
after_short_help (word ∷ rest) plain = inr (rw plain)

after_version : (rest : Words) → wants_help rest ≡ false → Chooses (codes "--version" ∷ rest)
after_version [] plain = inl (Version, refl, refl, refl)
after_version (word ∷ rest) plain = inr (rw plain)

-- any words after the first but a flag that asks for help alone
by_name : (first : List ℕ) (rest : Words) → wants_help rest ≡ false → Chooses (first ∷ rest)
by_name first rest plain = go (bytes_eq first (codes "help")) (bytes_eq first (codes "show")) (bytes_eq first (codes "check")) (bytes_eq first (codes "monitor")) (bytes_eq first (codes "panel")) (bytes_eq first (codes "reader")) (bytes_eq first (codes "plan")) (bytes_eq first (codes "test")) (bytes_eq first (codes "--help")) (bytes_eq first (codes "-h")) (bytes_eq first (codes "--version")) refl refl refl refl refl refl refl refl refl refl refl
  where
    by : (word : List ℕ) → bytes_eq first word ≡ true → Chooses (word ∷ rest) → Chooses (first ∷ rest)
    by word is chooses = subst (λ w. Chooses (w ∷ rest)) (sym (is_word first word is)) chooses

    go : (help show check monitor panel reader plan test long short version : Bool) → bytes_eq first (codes "help") ≡ help → bytes_eq first (codes "show") ≡ show → bytes_eq first (codes "check") ≡ check → bytes_eq first (codes "monitor") ≡ monitor → bytes_eq first (codes "panel") ≡ panel → bytes_eq first (codes "reader") ≡ reader → bytes_eq first (codes "plan") ≡ plan → bytes_eq first (codes "test") ≡ test → bytes_eq first (codes "--help") ≡ long → bytes_eq first (codes "-h") ≡ short → bytes_eq first (codes "--version") ≡ version → Chooses (first ∷ rest)
    go true show check monitor panel reader plan test long short version a b c d e f g h i j k = by (codes "help") a (after_help rest plain)
    go false true check monitor panel reader plan test long short version a b c d e f g h i j k = by (codes "show") b (inl (Show, rw plain, (rest, refl, plain), refl))
    go false false true monitor panel reader plan test long short version a b c d e f g h i j k = by (codes "check") c (inl (Check, rw plain, (rest, refl, plain), refl))
    go false false false true panel reader plan test long short version a b c d e f g h i j k = by (codes "monitor") d (inl (Monitor, rw plain, (rest, refl, plain), refl))
    go false false false false true reader plan test long short version a b c d e f g h i j k = by (codes "panel") e (inl (Panel, rw plain, (rest, refl, plain), refl))
    go false false false false false true plan test long short version a b c d e f g h i j k = by (codes "reader") f (inl (Reader, rw plain, (rest, refl, plain), refl))
    go false false false false false false true test long short version a b c d e f g h i j k = by (codes "plan") g (inl (Plan, rw plain, (rest, refl, plain), refl))
    go false false false false false false false true long short version a b c d e f g h i j k = by (codes "test") h (inl (Test, rw plain, (rest, refl, plain), refl))
    go false false false false false false false false true short version a b c d e f g h i j k = by (codes "--help") i (after_long_help rest plain)
    go false false false false false false false false false true version a b c d e f g h i j k = by (codes "-h") j (after_short_help rest plain)
    go false false false false false false false false false false true a b c d e f g h i j k = by (codes "--version") k (after_version rest plain)
    go false false false false false false false false false false false a b c d e f g h i j k = inr (rw (plain, a, b, c, d, e, f, g, h, i, j, k))

choose : (words : Words) → Chooses words
choose [] = inl (Help topic.Program, refl, inl refl, refl)
choose (first ∷ rest) = go (wants_help rest) refl
  where
    go : (asks : Bool) → wants_help rest ≡ asks → Chooses (first ∷ rest)
    go true asks = by_flag first rest asks
    go false plain = by_name first rest plain

pub all_choose : (words : Words) → ChoosesByWords words
all_choose words = record {
  chosen = λ choice not_left. (chosen_words choice not_left, words_choose choice words);
  left = (left_words, no_words);
  none_taken = taken;
}
  where
    chosen_words : (choice : Choice) → ¬ (choice ≡ Job) → choice_of words ≡ choice → IsWordsOf choice words
    chosen_words choice not_left is = elim (choose words) [
      | inl good ↦ subst (λ c. IsWordsOf c words) (sym good.1 ∙ is) good.2
      | inr left ↦ absurd (not_left (sym is ∙ left))
    ]

    left_words : choice_of words ≡ Job → (choice : Choice) → ¬ IsWordsOf choice words
    left_words left choice are = is_none choice are (sym (words_choose choice words are) ∙ left)
      where
        is_none : (c : Choice) → IsWordsOf c words → c ≡ Job → ⊥
        is_none (Help asked) of is = cc
        is_none Version of is = cc
        is_none Show of is = cc
        is_none Check of is = cc
        is_none Monitor of is = cc
        is_none Panel of is = cc
        is_none Reader of is = cc
        is_none Plan of is = cc
        is_none Test of is = cc
        is_none Job of is = of

    no_words : ((choice : Choice) → ¬ IsWordsOf choice words) → choice_of words ≡ Job
    no_words none = elim (choose words) [ inl good ↦ absurd (none good.0 good.2) | inr left ↦ left ]

    taken : ¬ (choice_of words ≡ Job) → job_of words ≡ Err BadWords
    taken not_left = elim (choose words) [ inl good ↦ good.3 | inr left ↦ absurd (not_left left) ]
