-- What calls come to, where they end well.
use Rattle.osdp_line_calls.proofs.Common.{◌≡◌, List, ◌++◌, ℕ, ◌<◌, ◌^◌, Option, Result, Ok, Err, refl, subst, ap, ◌∙◌, append_assoc, IfSome, OnOk, IsDeadline}
use Rattle.osdp_line_calls.specs.PanelLines.{Ends}
use Rattle.osdp_line_calls.specs.PanelSessions.{Called, Comes, IsDue, Session, after_text, ended, tells_all, then_tells}
use Rattle.osdp_line_calls.specs.PanelTexts.{due_line}

module _ {A E : Type 0} where
  -- what follows from an outcome, where there is this outcome
  pub on_this : (r : Result A E) (P Q : Type 0) → OnOk r (P → Q) → P → OnOk r Q
  on_this (Ok x) P Q follows p = follows p
  on_this (Err e) P Q follows p = tt

  -- a text was written, and then another one
  pub then_written : (r : Result A E) (t0 first t1 second t2 whole : List ℕ) → t1 ≡ t0 ++ first → OnOk r (t2 ≡ t1 ++ second) → first ++ second ≡ whole
      → OnOk r (t2 ≡ t0 ++ whole)
  then_written (Ok x) t0 first t1 second t2 whole is writes joins =
      writes ∙ ap (λ t. t ++ second) is ∙ append_assoc t0 first second ∙ ap (λ l. t0 ++ l) joins
  then_written (Err e) t0 first t1 second t2 whole is writes joins = tt

  -- the line that ends an answer was written
  pub due_written : (r : Result A E) (before t0 t1 : List ℕ) (s : Session) (done : Called) (due : Option ℕ) → OnOk r (t1 ≡ t0 ++ due_line due)
      → IsDeadline s.panel due → IfSome due (λ moment. moment < 2 ^ 64)
      → OnOk r (Comes before t0 s done → (c : Called) × Ends done c × Comes before t1 s c)
  due_written (Ok x) before t0 t1 s done due writes deadline range = λ comes.
      let is : IsDue s due = record { deadline = deadline; range = range } in (
        ended due done,
        (due, subst (λ (x : Session). IsDue x due) comes.session is, refl),
        record {
          text = writes ∙ ap (λ t. t ++ due_line due) comes.text ∙ append_assoc before done.text (due_line due);
          session = comes.session;
        },
      )
  due_written (Err e) before t0 t1 s done due writes deadline range = tt

-- what was passed over was written before
pub heard_first : (t0 t1 t2 : List ℕ) (s : Session) (heard : List ℕ) (c : Called) → t1 ≡ t0 ++ heard → Comes t1 t2 s c → Comes t0 t2 s (after_text heard c)
heard_first t0 t1 t2 s heard c is comes = record {
  text = comes.text ∙ ap (λ t. t ++ c.text) is ∙ append_assoc t0 heard c.text;
  session = comes.session;
}

-- all reports were told after what a call came to
pub all_told : (t0 t1 t2 : List ℕ) (done next : Session) (c : Called) → Comes t0 t1 done c → t2 ≡ t1 ++ (tells_all done).text → next ≡ (tells_all done).session
    → Comes t0 t2 next (then_tells c)
all_told t0 t1 t2 done next c comes writes leaves = record {
  text = writes ∙ ap (λ (s : Session). t1 ++ (tells_all s).text) comes.session ∙ ap (λ t. t ++ (tells_all c.session).text) comes.text
      ∙ append_assoc t0 c.text (tells_all c.session).text;
  session = leaves ∙ ap (λ (s : Session). (tells_all s).session) comes.session;
}
