-- A line that is cleared, and rounds after it: the laws of progress, at these numbers.
use Rattle.osdp_bus_progress.proofs.Common.{◌≡◌, ◌∙◌, ap, subst, sym, All, List, [], ◌∷◌, ◌++◌, length, Some, Ok, refl, arith, All-cons, All-nil, slice_get, EachAnswerRecovers, HasItsShare, with_answers, SetsNoAddress, handler_after, handler_answer, new_handler, Account, lists_of, rounds, Drop, Issue, Queue, ToReader, Wait, HasAnAccountEach, lists_of_all, Given, AcceptsByRoom, IsInSession, FourRoundsBringThree, SixRoundsBringThreeOfTwo, both_lost, bus, one_lost, readers, buz, config, first_key, out}
use Rattle.osdp_bus_progress.specs.Progress as buses
use Rattle.osdp_script.specs.Identity.{script_config}
use Rattle.osdp_script.specs.declared.handler.ScriptReader.{ScriptReader}
use Rattle.osdp_sim_bus_laws.specs.Accepted.{EachAccepts, IsNoComset}
use Rattle.osdp_sim_laws.specs.Progress.{AnswerRecovers, clear}
use Rattle.osdp_bus_progress.proofs.RowsOfRounds.{no_moves}

-- a step that begins no session again is one by its kind alone
is_one : Unit {0}
is_one = cc

ends_so : All IsInSession (Wait 400 ∷ ToReader Drop ∷ [])
ends_so = All-cons IsInSession (Wait 400) (ToReader Drop ∷ []) is_one (All-cons IsInSession (ToReader Drop) [] is_one (All-nil IsInSession))

one_session : All IsInSession one_lost
one_session =
    All-cons IsInSession (Issue 1 out) (Issue 1 buz ∷ Queue 1 first_key ∷ Wait 400 ∷ ToReader Drop ∷ []) is_one
    (All-cons IsInSession (Issue 1 buz) (Queue 1 first_key ∷ Wait 400 ∷ ToReader Drop ∷ []) is_one
    (All-cons IsInSession (Queue 1 first_key) (Wait 400 ∷ ToReader Drop ∷ []) is_one ends_so))

both_sessions : All IsInSession both_lost
both_sessions =
    All-cons IsInSession (Issue 1 out) (Issue 2 buz ∷ Queue 2 first_key ∷ Wait 400 ∷ ToReader Drop ∷ []) is_one
    (All-cons IsInSession (Issue 2 buz) (Queue 2 first_key ∷ Wait 400 ∷ ToReader Drop ∷ []) is_one
    (All-cons IsInSession (Queue 2 first_key) (Wait 400 ∷ ToReader Drop ∷ []) is_one ends_so))

pub four_rounds : AcceptsByRoom handler_answer handler_after → AnswerRecovers handler_answer handler_after → FourRoundsBringThree
four_rounds accepts recovers account is lasts =
    let a = lists_of account in
    let room = accepts config new_handler ((one_lost ++ clear one_lost) ++ rounds 4 400) (Ok account) is in
    let issued : a.issued ≡ out ∷ buz ∷ [] = room.issued.every (omega arith) in
    let queued : a.queued ≡ first_key ∷ [] = room.queued.every (omega arith) in
    let moves : All SetsNoAddress a.issued = subst (All SetsNoAddress) (sym issued) no_moves in
    let come = recovers config new_handler one_lost 4 400 account is one_session refl (omega arith) refl moves lasts in
    let all = come.all (omega (arith, ap length issued, ap length queued)) in
    record {
      issued = issued;
      settled = all.settled ∙ ap (with_answers handler_answer handler_after config.reader new_handler) issued;
      queued = queued;
      reported = all.reported ∙ queued;
    }

-- ---- two readers

same_item : {A : Type 0} {x y : A} → Some x ≡ Some y → x ≡ y
same_item is = cc

-- there are no more accounts than readers
each_of_two : (P : Account → Type 0) (told : List Account) → length told ≡ 2 → ((a : Account) → slice_get told 0 ≡ Some a → P a)
    → ((b : Account) → slice_get told 1 ≡ Some b → P b) → All P told
each_of_two P [] many first second = absurd (omega (arith, many))
each_of_two P (a ∷ []) many first second = absurd (omega (arith, many))
each_of_two P (a ∷ b ∷ []) many first second = All-cons P a (b ∷ []) (first a refl) (All-cons P b [] (second b refl) (All-nil P))
each_of_two P (a ∷ b ∷ c ∷ more) many first second = absurd (omega (arith, many))

no_out_moves : All SetsNoAddress (out ∷ [])
no_out_moves = All-cons SetsNoAddress out [] refl (All-nil SetsNoAddress)

no_buz_moves : All SetsNoAddress (buz ∷ [])
no_buz_moves = All-cons SetsNoAddress buz [] refl (All-nil SetsNoAddress)

no_out_comset : All IsNoComset (out ∷ [])
no_out_comset = All-cons IsNoComset out [] refl (All-nil IsNoComset)

no_buz_comset : All IsNoComset (buz ∷ [])
no_buz_comset = All-cons IsNoComset buz [] refl (All-nil IsNoComset)

abbrev first_reader : Given ScriptReader
first_reader = (script_config 1 5, 4, new_handler)

abbrev second_reader : Given ScriptReader
second_reader = (script_config 2 6, 4, new_handler)

pub six_rounds : EachAccepts handler_answer handler_after → EachAnswerRecovers handler_answer handler_after → HasAnAccountEach handler_answer handler_after
    → SixRoundsBringThreeOfTwo
six_rounds accepts recovers counts told is a b first second a_lasts b_lasts =
    let steps = (both_lost ++ buses.clear 2 both_lost) ++ rounds 6 400 in
    let list = lists_of_all told.items in
    let many : length list ≡ 2 = ap length is.ends.2 ∙ counts bus readers steps in
    let one = accepts bus readers steps (Ok told) is tt 0 first_reader refl in
    let two = accepts bus readers steps (Ok told) is tt 1 second_reader refl in
    let a_is : one.0 ≡ a = same_item (sym one.1 ∙ first) in
    let b_is : two.0 ≡ b = same_item (sym two.1 ∙ second) in
    let a_issued : a.issued ≡ out ∷ [] =
    subst (λ (x : Account). x.issued ≡ out ∷ []) a_is ((one.2.issued refl no_out_comset).every (omega arith)) in
    let a_queued : a.queued ≡ [] = subst (λ (x : Account). x.queued ≡ []) a_is (one.2.queued.every (omega arith)) in
    let b_issued : b.issued ≡ buz ∷ [] =
    subst (λ (x : Account). x.issued ≡ buz ∷ []) b_is ((two.2.issued refl no_buz_comset).every (omega arith)) in
    let b_queued : b.queued ≡ first_key ∷ [] = subst (λ (x : Account). x.queued ≡ first_key ∷ []) b_is (two.2.queued.every (omega arith)) in
    let none = each_of_two (λ (x : Account). All SetsNoAddress x.issued) list many
    (λ x at. subst (λ (y : Account). All SetsNoAddress y.issued) (same_item (sym first ∙ at)) (subst (All SetsNoAddress) (sym a_issued) no_out_moves))
    (λ x at. subst (λ (y : Account). All SetsNoAddress y.issued) (same_item (sym second ∙ at)) (subst (All SetsNoAddress) (sym b_issued) no_buz_moves)) in
    let shares = recovers bus readers both_lost 6 400 told is both_sessions (omega arith) refl none in
    let its = shares.each 0 first_reader refl in
    let other = shares.each 1 second_reader refl in
    let a_share = subst (HasItsShare handler_answer handler_after 3 0 first_reader) (same_item (sym its.1 ∙ first)) its.2 a_lasts in
    let b_share = subst (HasItsShare handler_answer handler_after 3 1 second_reader) (same_item (sym other.1 ∙ second)) other.2 b_lasts in
    let a_all = a_share.all (omega (arith, ap length a_issued, ap length a_queued)) in
    let b_all = b_share.all (omega (arith, ap length b_issued, ap length b_queued)) in (
      record {
        issued = a_issued;
        settled = a_all.settled ∙ ap (with_answers handler_answer handler_after (script_config 1 5) new_handler) a_issued;
        queued = a_queued;
        reported = a_all.reported ∙ a_queued;
      },
      record {
        issued = b_issued;
        settled = b_all.settled ∙ ap (with_answers handler_answer handler_after (script_config 2 6) new_handler) b_issued;
        queued = b_queued;
        reported = b_all.reported ∙ b_queued;
      },
    )
