-- The words of a command that reads captures ask for one thing at most.
use Rattle.osdp_tool_inputs.proofs.Common.{◌≡◌, ◌∙◌, ◌++◌, None, Some, length, take, sym, subst, ap, arith, length-append, take-append_seam, Words, texts_of, TaskOf}
use Rattle.std.proofs.lemmas.List.{append_cancel_left}
use Rattle.osdp_tool_inputs.proofs.Fronts.{one_task}
use Rattle.osdp_tool_inputs.specs.OneTask.{AskOnce}

-- words part in one way into a front and as many behind it
one_front : (words front rest other more : Words) → words ≡ front ++ rest → words ≡ other ++ more → length rest ≡ length more → front ≡ other
one_front words front rest other more is are same =
    let long : length front ≡ length other = omega (arith, ap (λ (l : Words). length l) is, ap (λ (l : Words). length l) are, length-append front rest, length-append other more, same) in
    sym (take-append_seam front rest) ∙ ap (λ (l : Words). take (length front) l) (sym is) ∙ ap (λ n. take n words) long
    ∙ ap (λ (l : Words). take (length other) l) are ∙ take-append_seam other more

one_rest : (words front rest other more : Words) → words ≡ front ++ rest → words ≡ other ++ more → front ≡ other → rest ≡ more
one_rest words front rest other more is are same = append_cancel_left front rest more (sym is ∙ are ∙ ap (λ (l : Words). l ++ more) (sym same))

one_of : {A : Type 0} (a b : A) → Some a ≡ Some b → a ≡ b
one_of a b e = cc

pub ask_once : AskOnce
ask_once reads format words None None f g = tt
ask_once reads format words (Some a) None f g = g.only f.value.0 (texts_of a.files.now) a.task f.value.1
ask_once reads format words None (Some b) f g = f.only g.value.0 (texts_of b.files.now) b.task g.value.1
ask_once reads format words (Some a) (Some b) f g =
    let one = f.value in
    let other = g.value in
    let fewer = g.only one.0 (texts_of a.files.now) a.task one.1 in
    let more = f.only other.0 (texts_of b.files.now) b.task other.1 in
    let front = one_front words one.0 (texts_of a.files.now) other.0 (texts_of b.files.now) one.1.are other.1.are (omega (arith, fewer, more)) in record {
      task = one_of a.task b.task (
          one_task reads format other.0 (Some a.task) (Some b.task) (subst (λ (l : Words). TaskOf reads format l (Some a.task)) front one.1.task_is) other.1.task_is
          );
      form = one.2 ∙ sym other.2;
      files = one_rest words one.0 (texts_of a.files.now) other.0 (texts_of b.files.now) one.1.are other.1.are front;
    }
