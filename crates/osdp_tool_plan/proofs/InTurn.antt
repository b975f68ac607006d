-- How the command ends, in the words of its reader.
use Rattle.osdp_tool_plan.proofs.Common.{◌≡◌, ◌∙◌, ◌⊎◌, ◌↔◌, ◌||◌, ℕ, Bool, true, false, is_err, List, [], ◌++◌, take, drop, take-append-drop, append-nil, append_assoc, Option, Some, None, OnOk, OnErr, Result, Ok, Err, inl, inr, refl, sym, ap, subst, IsOkUnless, Plan, Ends, Plans, PlansNone, PrintsPart, EndsInTurn, IsBegun, IsToldInTurn, plan_text, AppendsPart}
use Rattle.std.specs.Io.KnownBytes.{Appends, Keeps}
use Rattle.osdp_tool_plan.proofs.OneLine.{one_plan}
use Rattle.osdp_tool_streams.specs.FinalAnswer.{final_answer_of}
use Rattle.osdp_tool_streams.specs.declared.fault.ToolFault.{ToolFault}
use Rattle.osdp_tool_streams.specs.declared.fault.ToolFault.TheVariants.{NotHex, TooLong, BadWords, BadStep, HoldsPacket, NotQuiet, ReadFailed, WriteFailed, NoMemory}

-- by what the write of the figures answered
pub figures_written : (given : List (List ℕ)) (p : Plan) (before after : Option (List ℕ)) (bytes : List ℕ) (was failed : Bool) (r : Result (Unit {0}) ToolFault)
    → Plans given p → bytes ≡ plan_text p → IsOkUnless r WriteFailed → failed ≡ (was || is_err r)
    → OnOk r (Appends before after bytes) → OnErr r (AppendsPart before after bytes) → was ≡ false → Ends given before after failed r
figures_written given p before after bytes was failed (Ok done) plans is fault state ok err well = (
  record { plan = p; planned = plans; text = subst (Appends before after) is ok },
  state ∙ ap (λ (b : Bool). b || false) well,
)
figures_written given p before after bytes was failed (Err fault_is) plans is fault state ok err well =
    subst (λ (f : ToolFault). Ends given before after failed (Err f)) (sym fault) (
      inr (record {
        plan = p;
        planned = plans;
        printed = take err.0 bytes;
        rest = drop err.0 bytes;
        whole = sym (subst (λ (l : List ℕ). take err.0 bytes ++ drop err.0 bytes ≡ l) is (take-append-drop err.0 bytes));
        text = err.2;
      }),
      state ∙ ap (λ (b : Bool). b || true) well,
    )

no_failure : false ≡ true → ⊥
no_failure e = cc

pub unchanged : (known : Option (List ℕ)) → Keeps known known
unchanged None = tt
unchanged (Some xs) = refl

appends_kept : (before mid after : Option (List ℕ)) (bs : List ℕ) → Appends before mid bs → Keeps mid after → Appends before after bs
appends_kept None mid after bs a k = tt
appends_kept (Some xs) None after bs a k = absurd a
appends_kept (Some xs) (Some ys) None bs a k = absurd k
appends_kept (Some xs) (Some ys) (Some zs) bs a k = k ∙ a

keeps_kept : (before mid after : Option (List ℕ)) → Keeps before mid → Keeps mid after → Keeps before after
keeps_kept None mid after a k = tt
keeps_kept (Some xs) None after a k = absurd a
keeps_kept (Some xs) (Some ys) None a k = absurd k
keeps_kept (Some xs) (Some ys) (Some zs) a k = k ∙ a

module _ (given : List (List ℕ)) (before mid after : Option (List ℕ)) (kept : Keeps mid after) where
  -- whatever the work came to, a beginning was printed at most
  part_of : (was : Bool) (r : Result (Unit {0}) ToolFault) → Ends given before mid was r → Keeps before after ⊎ PrintsPart given before after
  part_of was (Ok done) h = inr (record {
    plan = h.0.plan;
    planned = h.0.planned;
    printed = plan_text h.0.plan;
    rest = [];
    whole = sym (append-nil (plan_text h.0.plan));
    text = appends_kept before mid after (plan_text h.0.plan) h.0.text kept;
  })
  part_of was (Err BadWords) h = inl (keeps_kept before mid after h.1 kept)
  part_of was (Err WriteFailed) h = elim h.0 [
    | inl same ↦ inl (keeps_kept before mid after same kept)
    | inr part ↦ inr (record {
      plan = part.plan;
      planned = part.planned;
      printed = part.printed;
      rest = part.rest;
      whole = part.whole;
      text = appends_kept before mid after part.printed part.text kept;
    })
  ]
  part_of was (Err NoMemory) h = inl (keeps_kept before mid after h.0.kept kept)
  part_of was (Err (NotHex line)) h = absurd h
  part_of was (Err TooLong) h = absurd h
  part_of was (Err (BadStep line)) h = absurd h
  part_of was (Err (HoldsPacket step)) h = absurd h
  part_of was (Err (NotQuiet step)) h = absurd h
  part_of was (Err ReadFailed) h = absurd h

  well_ended : (was : Bool) (r : Result (Unit {0}) ToolFault) → Ends given before mid was r → (was ≡ true → false ≡ true) → Ends given before after false r
  well_ended was (Ok done) h state =
      (record { plan = h.0.plan; planned = h.0.planned; text = appends_kept before mid after (plan_text h.0.plan) h.0.text kept }, refl)
  well_ended was (Err BadWords) h state = (h.0, keeps_kept before mid after h.1 kept, refl)
  well_ended was (Err WriteFailed) h state = absurd (no_failure (state h.1))
  well_ended was (Err NoMemory) h state = (record { plan = h.0.plan; planned = h.0.planned; kept = keeps_kept before mid after h.0.kept kept }, refl)
  well_ended was (Err (NotHex line)) h state = absurd h
  well_ended was (Err TooLong) h state = absurd h
  well_ended was (Err (BadStep line)) h state = absurd h
  well_ended was (Err (HoldsPacket step)) h state = absurd h
  well_ended was (Err (NotQuiet step)) h state = absurd h
  well_ended was (Err ReadFailed) h state = absurd h

  -- the output is flushed at last
  pub flushed : (was failed : Bool) (r s : Result (Unit {0}) ToolFault) → Ends given before mid was r → (was ≡ true → failed ≡ true)
      → s ≡ final_answer_of false failed r → Ends given before after failed s
  flushed was false r s h state is = subst (Ends given before after false) (sym is) (well_ended was r h state)
  flushed was true r s h state is = subst (Ends given before after true) (sym is) (part_of was r h, refl)

module _ (given : List (List ℕ)) (start now : List ℕ) where
  begun : (p : Plan) → Plans given p → (printed rest : List ℕ) → plan_text p ≡ printed ++ rest → now ≡ start ++ printed → IsBegun given start now
  begun p plans printed rest whole written = record {
    plan = p;
    planned = plans;
    rest = rest;
    whole = ap (λ (l : List ℕ). start ++ l) whole ∙ sym (append_assoc start printed rest) ∙ ap (λ (l : List ℕ). l ++ rest) (sym written);
  }

  -- the work is done, or there is no memory: the words plan a line, and no write failed
  some_line : (p : Plan) → Plans given p → (failed : Bool) (r : Result (Unit {0}) ToolFault) → failed ≡ false → (r ≡ Err BadWords → ⊥) → (r ≡ Err WriteFailed → ⊥)
      → ((r ≡ Err BadWords) ↔ (PlansNone given × (failed ≡ false))) × ((r ≡ Err WriteFailed) ↔ (failed ≡ true))
  some_line p plans failed r well good no_write =
      (((λ is. absurd (good is)), (λ none. absurd (none.0 p plans))), ((λ is. absurd (no_write is)), (λ did. absurd (no_failure (sym well ∙ did)))))

  in_turn : (failed : Bool) (r : Result (Unit {0}) ToolFault) → Ends given (Some start) (Some now) failed r → IsToldInTurn given start now failed r
  in_turn failed (Ok done) h =
      let so = some_line h.0.plan h.0.planned failed (Ok done) h.1 (λ is. cc) (λ is. cc) in record {
        answer = tt;
        refused = so.0;
        write = so.1;
        done = λ p plans. h.0.text ∙ ap (λ (q : Plan). start ++ plan_text q) (one_plan given h.0.plan p h.0.planned.are plans.are);
        memory = λ is. absurd cc;
        printed = inr (begun h.0.plan h.0.planned (plan_text h.0.plan) [] (sym (append-nil (plan_text h.0.plan))) h.0.text);
      }
  in_turn failed (Err BadWords) h = record {
    answer = tt;
    refused = ((λ is. (h.0, h.2)), (λ none. refl));
    write = ((λ is. absurd cc), (λ did. absurd (no_failure (sym h.2 ∙ did))));
    done = λ p plans. tt;
    memory = λ is. absurd cc;
    printed = inl h.1;
  }
  in_turn failed (Err WriteFailed) h = record {
    answer = tt;
    refused = ((λ is. absurd cc), (λ none. absurd (no_failure (sym none.1 ∙ h.1))));
    write = ((λ is. h.1), (λ did. refl));
    done = λ p plans. tt;
    memory = λ is. absurd cc;
    printed = elim h.0 [
      | inl kept ↦ inl kept
      | inr part ↦ inr (begun part.plan part.planned part.printed part.rest part.whole part.text)
    ];
  }
  in_turn failed (Err NoMemory) h =
      let so = some_line h.0.plan h.0.planned failed (Err NoMemory) h.1 (λ is. cc) (λ is. cc) in record {
        answer = tt;
        refused = so.0;
        write = so.1;
        done = λ p plans. tt;
        memory = λ is. h.0.kept;
        printed = inl h.0.kept;
      }
  in_turn failed (Err (NotHex line)) h = absurd h
  in_turn failed (Err TooLong) h = absurd h
  in_turn failed (Err (BadStep line)) h = absurd h
  in_turn failed (Err (HoldsPacket step)) h = absurd h
  in_turn failed (Err (NotQuiet step)) h = absurd h
  in_turn failed (Err ReadFailed) h = absurd h

pub ends_in_turn : EndsInTurn
ends_in_turn given start now failed r h = in_turn given start now failed r h
