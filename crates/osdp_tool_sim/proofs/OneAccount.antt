-- The text of accounts is of these accounts alone.
use Rattle.osdp_tool_sim.proofs.Common.{◌≡◌, ◌+◌, ◌<◌, ◌^◌, lit<, ℕ, List, [], ◌∷◌, ◌++◌, codes, drop, length, map, get_or, refl, sym, ap, ◌∙◌, append_assoc, append-nil, arith, All-head, All-tail, CommandFits, EventFits, ArePrintedWords, name_printed, number_printed, same_printed, text_shown, Account, Word, plain, printed, text_of, account_text, command_line, counts_line, ended_line, lines_text, reported_line, settled_line, texts_from, AccountFits, HasOneAccount, HasOneEach, PairFits, TellSame}
use Rattle.osdp_tool_sim.proofs.OneText.{MayFollow, after_line, command_shown, event_shown, first_line, one_command, one_count, one_event, one_pair, pair_shown, same_ends, same_list}
use Rattle.osdp_tool_sim.proofs.Written.{lines_both}

-- ---- the line of counts

counts_held : (n : ℕ) (a : Account) → n < 2 ^ 64 → AccountFits a → ArePrintedWords (counts_line n a)
counts_held n a small fits = (
  name_printed (codes "reader") (lit< tt) refl,
  (
    number_printed n small,
    (
      name_printed (codes "issued") (lit< tt) refl,
      (
        number_printed (length a.issued) fits.issued,
        (
          name_printed (codes "taken") (lit< tt) refl,
          (
            number_printed (length a.taken) fits.taken_length,
            (
              name_printed (codes "settled") (lit< tt) refl,
              (
                number_printed (length a.settled) fits.settled_length,
                (
                  name_printed (codes "unsettled") (lit< tt) refl,
                  (
                    number_printed (length a.unsettled) fits.unsettled_length,
                    (
                      name_printed (codes "queued") (lit< tt) refl,
                      (
                        number_printed (length a.queued) fits.queued,
                        (
                          name_printed (codes "reported") (lit< tt) refl,
                          (number_printed (length a.reported) fits.reported_length, tt),
                        ),
                      ),
                    ),
                  ),
                ),
              ),
            ),
          ),
        ),
      ),
    ),
  ),
)

-- as many of each
record HaveCounts (n m : ℕ) (a b : Account) : Type 0 where
  pub number : n ≡ m
  pub issued : length a.issued ≡ length b.issued
  pub taken : length a.taken ≡ length b.taken
  pub settled : length a.settled ≡ length b.settled
  pub unsettled : length a.unsettled ≡ length b.unsettled
  pub queued : length a.queued ≡ length b.queued
  pub reported : length a.reported ≡ length b.reported

same_counts : (n m : ℕ) (a b : Account) → n < 2 ^ 64 → m < 2 ^ 64 → AccountFits a → AccountFits b
    → text_of (counts_line n a) ≡ text_of (counts_line m b) → HaveCounts n m a b
same_counts n m a b small low h k e =
    let first = counts_held n a small h in
    let second = counts_held m b low k in
    let words : map printed (counts_line n a) ≡ map printed (counts_line m b) =
    same_printed (plain (codes "reader")) (plain (codes "reader")) (drop 1 (counts_line n a)) (drop 1 (counts_line m b)) first second e in
    let at : (i : ℕ) → get_or (map printed (counts_line n a)) i [] ≡ get_or (map printed (counts_line m b)) i [] =
    λ i. ap (λ (l : List (List ℕ)). get_or l i []) words in
    record {
      number = one_count n m small low (at 1);
      issued = one_count (length a.issued) (length b.issued) h.issued k.issued (at 3);
      taken = one_count (length a.taken) (length b.taken) h.taken_length k.taken_length (at 5);
      settled = one_count (length a.settled) (length b.settled) h.settled_length k.settled_length (at 7);
      unsettled = one_count (length a.unsettled) (length b.unsettled) h.unsettled_length k.unsettled_length (at 9);
      queued = one_count (length a.queued) (length b.queued) h.queued k.queued (at 11);
      reported = one_count (length a.reported) (length b.reported) h.reported_length k.reported_length (at 13);
    }

-- ---- one account

five : (va vb vc vd ve : List (List Word)) (more : List ℕ) → lines_text (va ++ (vb ++ (vc ++ (vd ++ ve)))) ++ more
    ≡ lines_text va ++ (lines_text vb ++ (lines_text vc ++ (lines_text vd ++ (lines_text ve ++ more))))
five va vb vc vd ve more = simp (lines_both, append_assoc)

-- what stands after the line of counts
left_of : Account → List ℕ → List ℕ
left_of a more =
    lines_text (map (command_line (codes "taken")) a.taken) ++ (lines_text (map settled_line a.settled)
    ++ (lines_text (map (command_line (codes "unsettled")) a.unsettled) ++ (lines_text (map reported_line a.reported)
    ++ (lines_text (map ended_line a.ends) ++ more))))

in_parts : (n : ℕ) (a : Account) (more : List ℕ) → account_text n a ++ more ≡ text_of (counts_line n a) ++ 10 ∷ left_of a more
unfolding left_of
in_parts n a more =
    let vt = map (command_line (codes "taken")) a.taken in
    let vs = map settled_line a.settled in
    let vu = map (command_line (codes "unsettled")) a.unsettled in
    let vr = map reported_line a.reported in
    let ve = map ended_line a.ends in
    after_line (counts_line n a) (lines_text (vt ++ (vs ++ (vu ++ (vr ++ ve))))) more
    ∙ ap (λ (l : List ℕ). text_of (counts_line n a) ++ 10 ∷ l) (five vt vs vu vr ve more)

same_lists : (n m : ℕ) (a b : Account) (more others : List ℕ) → AccountFits a → AccountFits b → MayFollow more → MayFollow others
    → HaveCounts n m a b → left_of a more ≡ left_of b others → TellSame a b × (more ≡ others)
unfolding left_of
same_lists n m a b more others h k follows goes counts e =
    let taken = same_list (command_line (codes "taken")) CommandFits (command_shown (codes "taken") (name_printed (codes "taken") (lit< tt) refl))
    (one_command (codes "taken")) a.taken b.taken _ _ h.taken k.taken counts.taken e in
    let settled = same_list settled_line PairFits pair_shown one_pair a.settled b.settled _ _ h.settled k.settled counts.settled taken.1 in
    let unsettled = same_list (command_line (codes "unsettled")) CommandFits
    (command_shown (codes "unsettled") (name_printed (codes "unsettled") (lit< tt) refl)) (one_command (codes "unsettled")) a.unsettled b.unsettled _ _
    h.unsettled k.unsettled counts.unsettled settled.1 in
    let reported = same_list reported_line EventFits event_shown one_event a.reported b.reported _ _ h.reported k.reported counts.reported unsettled.1 in
    let ends = same_ends a.ends b.ends more others follows goes reported.1 in (
      record {
        issued = counts.issued;
        taken = taken.0;
        settled = settled.0;
        unsettled = unsettled.0;
        queued = counts.queued;
        reported = reported.0;
        ends = ends.0;
      },
      ends.1,
    )

one_before : (n m : ℕ) (a b : Account) (more others : List ℕ) → n < 2 ^ 64 → m < 2 ^ 64 → AccountFits a → AccountFits b
    → MayFollow more → MayFollow others → account_text n a ++ more ≡ account_text m b ++ others → (n ≡ m) × TellSame a b × (more ≡ others)
one_before n m a b more others small low h k follows goes e =
    let shown = text_shown (counts_line n a) (counts_held n a small h) in
    let seen = text_shown (counts_line m b) (counts_held m b low k) in
    let cut = first_line (text_of (counts_line n a)) (text_of (counts_line m b)) (left_of a more) (left_of b others) shown seen
    (sym (in_parts n a more) ∙ e ∙ in_parts m b others) in
    let counts = same_counts n m a b small low h k cut.0 in
    let lists = same_lists n m a b more others h k follows goes counts cut.1 in
    (counts.number, lists.0, lists.1)

nothing_follows : MayFollow []
nothing_follows = λ same. omega arith

pub one_account : HasOneAccount
one_account n m a b small low h k e =
    let same = one_before n m a b [] [] small low h k nothing_follows nothing_follows
    (append-nil (account_text n a) ∙ e ∙ sym (append-nil (account_text m b))) in
    (same.0, same.1)

-- ---- several accounts

follows_from : (n : ℕ) (told : List Account) → MayFollow (texts_from n told)
follows_from n [] = nothing_follows
follows_from n (a ∷ told) = λ same. omega arith

some_text : (n : ℕ) (a : Account) (more : List ℕ) → account_text n a ++ more ≡ [] → ⊥
some_text n a more e = let none = ap (λ (l : List ℕ). length l) e in absurd (omega arith)

pub one_each : HasOneEach
one_each n [] [] low small h k e = tt
one_each n [] (b ∷ bs) low small h k e = absurd (some_text n b (texts_from (n + 1) bs) (sym e))
one_each n (a ∷ told) [] low small h k e = absurd (some_text n a (texts_from (n + 1) told) e)
one_each n (a ∷ told) (b ∷ bs) low small h k e =
    let same = one_before n n a b (texts_from (n + 1) told) (texts_from (n + 1) bs) (omega arith) (omega arith)
    (All-head AccountFits a told h) (All-head AccountFits b bs k) (follows_from (n + 1) told) (follows_from (n + 1) bs) e in
    (same.1, one_each (n + 1) told bs (omega arith) (omega arith) (All-tail AccountFits a told h) (All-tail AccountFits b bs k) same.2)
